use Rattle.embedded_log.proofs.TwoLives.{two_lives_keep_told}
use Rattle.embedded_log.proofs.laws.two_lives_keep_told.Goals as goal

pub returns : goal.returns
returns g c =
    let law = c.sessions_live_on.ensures in
    two_lives_keep_told law.opened law.reopened law.stay

use Rattle.machine_laws.proofs.WatchLaws.{known_is_copied}
use Rattle.machine_laws.proofs.watching.what_a_watcher_knows_is_copied.Goals as goal

pub returns : goal.returns
returns c = λ size end lock views id v held k here.
    known_is_copied size end lock views held k id v here

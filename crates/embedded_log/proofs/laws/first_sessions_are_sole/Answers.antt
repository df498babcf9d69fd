use Rattle.embedded_log.proofs.Soles.{opened_sole, reopened_sole, still_sole}
use Rattle.embedded_log.proofs.laws.first_sessions_are_sole.Goals as goal

pub returns-clause-opened : goal.returns-clause-opened
returns-clause-opened g c =
    opened_sole (λ opening. (c.seats_keep_numbers.ensures.first opening).1)
    c.passes_share_numbers.ensures.none c.passes_share_numbers.ensures.split

pub returns-clause-reopened : goal.returns-clause-reopened
returns-clause-reopened g c =
    reopened_sole (λ opening. (c.seats_keep_numbers.ensures.first opening).1)
    c.passes_share_numbers.ensures.none c.passes_share_numbers.ensures.split

pub returns-clause-kept : goal.returns-clause-kept
returns-clause-kept g c = still_sole c.calls_keep_numbers.ensures

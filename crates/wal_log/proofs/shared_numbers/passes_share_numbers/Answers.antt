use Rattle.std.proofs.Common.{⊎_elim, inl, inr, arith}
use Rattle.std.proofs.lemmas.List.Quantifiers.{Any-push}
use Rattle.machine_laws.specs.SharedOrders.{HasNumber}
use Rattle.machine_state.specs.Views.{View}
use Rattle.machine_state.specs.Moves.{split_off}
use Rattle.wal_log.proofs.Having.{first_or_others, kept_have, more_have, none_has}
use Rattle.wal_log.proofs.shared_numbers.passes_share_numbers.Goals as goal

pub returns-clause-none : goal.returns-clause-none
returns-clause-none c = λ passes v all number low. inl (all number low)

pub returns-clause-all : goal.returns-clause-all
returns-clause-all c = λ passes v share number low.
    ⊎_elim (λ own. own) (λ some. absurd (none_has number some)) (share number low)

pub returns-clause-split : goal.returns-clause-split
returns-clause-split c = λ passes v others share number low. ⊎_elim
    (λ own. ⊎_elim (λ left. inl left)
    (λ right. inr (Any-push (λ (w : View). HasNumber number w.reserving) others
    (split_off v) right))
    (c.seats_keep_numbers.ensures.split number v own))
    (λ some. inr (more_have number others (split_off v) some))
    (share number low)

pub returns-clause-kept : goal.returns-clause-kept
returns-clause-kept c = λ passes v old new same keep share number low.
    ⊎_elim (λ own. inl own) (λ some. inr (kept_have number old new same keep some))
    (share number low)

pub returns-clause-join : goal.returns-clause-join
returns-clause-join c = λ passes v w others none share number low.
    let unite = c.seats_keep_numbers.ensures.join number v w
    (λ i j one other. omega (arith, none, other)) in
    ⊎_elim (λ own. inl (unite (inl own)))
    (λ some. ⊎_elim (λ first. inl (unite (inr first))) (λ rest. inr rest)
    (first_or_others number w others some))
    (share number low)

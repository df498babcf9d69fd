use Rattle.std.proofs.Common.{ℕ, ◌<◌, ◌≤◌, List, Contains, inl, inr, sym, ◌∙◌, subst}
use Rattle.machine_laws.specs.SharedOrders.{HasNumber}
use Rattle.machine_state.specs.Views.{Joined, View}
use Rattle.wal_log.specs.Standing.{KeepsPass}
use Rattle.wal_log.proofs.numbers.calls_keep_numbers.Goals as goal

kept : (old new : View) → KeepsPass old new → (n : ℕ) → HasNumber n old.reserving
    → HasNumber n new.reserving
kept old new keeps n (inl own) = inl (own ∙ sym keeps.number)
kept old new keeps n (inr (inl spare)) = inr (inl (
  subst (λ (low : ℕ). low ≤ n) (sym keeps.spare) spare.0,
  subst (λ (high : ℕ). n < high) (sym keeps.spare_end) spare.1,
))
kept old new keeps n (inr (inr taken)) = inr (inr (
  taken.0,
  subst (λ (js : List Joined). Contains js taken.0) (sym keeps.joined) taken.1,
  taken.2,
))

pub returns : goal.returns
returns c = λ old new keeps. kept old new keeps

-- The numbers that a pass keeps are its view's, behind a join too.
use Rattle.std.specs.Prelude.{if◌then◌else◌}
use Rattle.std.proofs.Common.{◌≡◌, ℕ, ◌<◌, ◌≤◌, Bool, true, false, sym, ap, ◌∙◌, arith}
use Rattle.std.proofs.Common.{ltb-true, ltb-false}
use Rattle.machine_state.specs.Moves.{has_spares, after_join}
use Rattle.wal_rule.specs.declared.pass.Pass.{Pass}
use Rattle.wal_rule.specs.Passes.{HasNumbers, SamePass}
use Rattle.machine_state.specs.Views.{View}

module _ (v w : View) (number spare spare_end other_number other other_end : ℕ)
    (mine : HasNumbers number spare spare_end v)
    (theirs : HasNumbers other_number other other_end w) (left : ℕ × ℕ)
    (own : spare < spare_end → left ≡ (spare, spare_end))
    (taken : spare_end ≤ spare → left ≡ (other, other_end)) where
  either : (b : Bool) → has_spares v.reserving ≡ b
      → HasNumbers number left.0 left.1 (after_join v w)
  either true is =
      let lt = ltb-true (v.reserving).spare (v.reserving).spare_end is in
      let low = mine.low in
      let high = mine.high in
      let kept = own (omega (arith, lt, low, high)) in record {
        own = mine.own;
        low = ap (λ (t : ℕ × ℕ). t.0) kept ∙ mine.low
            ∙ ap (λ (x : Bool). if x then (v.reserving).spare else (w.reserving).spare) (sym is);
        high = ap (λ (t : ℕ × ℕ). t.1) kept ∙ mine.high
            ∙ ap (λ (x : Bool). if x then (v.reserving).spare_end else (w.reserving).spare_end)
            (sym is);
      }
  either false is =
      let le = ltb-false (v.reserving).spare (v.reserving).spare_end is in
      let low = mine.low in
      let high = mine.high in
      let kept = taken (omega (arith, le, low, high)) in record {
        own = mine.own;
        low = ap (λ (t : ℕ × ℕ). t.0) kept ∙ theirs.low
            ∙ ap (λ (x : Bool). if x then (v.reserving).spare else (w.reserving).spare) (sym is);
        high = ap (λ (t : ℕ × ℕ). t.1) kept ∙ theirs.high
            ∙ ap (λ (x : Bool). if x then (v.reserving).spare_end else (w.reserving).spare_end)
            (sym is);
      }

  pub joined_numbers : HasNumbers number left.0 left.1 (after_join v w)
  joined_numbers = either (has_spares v.reserving) (λ i. has_spares v.reserving)

-- numbers stay while a pass is without its seat
pub same_numbers : (old new : Pass) (v : View) → SamePass old new
    → HasNumbers old.number old.spare old.spare_end v
    → HasNumbers new.number new.spare new.spare_end v
same_numbers old new v same is = record {
  own = same.own ∙ is.own;
  low = same.low ∙ is.low;
  high = same.high ∙ is.high;
}

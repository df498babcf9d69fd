use Rattle.std.proofs.Common.{ℕ, List, sym, subst, ap, ◌∙◌, ◌≡◌, ◌<◌, get_or, length}
use Rattle.std.proofs.lemmas.List.{get_or_default}
use Rattle.std.proofs.lemmas.Bool.{leb-true, leb-false}
use Rattle.segment_disk.specs.Crash.{first_behind}
use Rattle.segment_disk.proofs.Listed.{next_kept, next_found, one_kept, one_found}
use Rattle.segment_disk.proofs.memory.segments.SegmentList.next_after.Goals as goal
use Rattle.segment_disk.proofs.memory.segments.SegmentList.next_after.Goals.{then-is_behind, else-is_behind}

pub loop-number-preserved : goal.loop-number-preserved
loop-number-preserved c =
    let numbers = c.args.self.now.numbers.items in
    let i = c.loop-number.number-index in
    let from = first_behind c.args.last in
    let same : c.deref-number-items.result.now ≡ numbers = c.deref-number-items.ensures.value in
    let number = get_or c.deref-number-items.result.now i 0 in
    let within : i < length numbers = subst (λ (l : List ℕ). i < length l) same c.loop-number-test.true in
    let is : number ≡ get_or numbers i number = ap (λ (l : List ℕ). get_or l i 0) same ∙ get_or_default numbers i 0 number within in
    elim c.if-is_behind.branch [
      | then-is_behind w ↦ rw (w.next-is, w.least_of.ensures) (
        next_found numbers i from number within is c.loop-number.next (leb-true from number (sym c.is_behind.ensures ∙ w.if-is_behind.true)) c.loop-number.invariant.0,
        one_found numbers i from number within is c.loop-number.next c.loop-number.invariant.1,
      )
      | else-is_behind w ↦ rw (w.next-is) (
        next_kept numbers i from number within is c.loop-number.next (leb-false from number (sym c.is_behind.ensures ∙ w.if-is_behind.false)) c.loop-number.invariant.0,
        one_kept numbers i from number within is c.loop-number.next c.loop-number.invariant.1,
      )
    ]

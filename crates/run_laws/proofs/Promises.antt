-- What holds of each promise of a pass, and of those that it took in.
use Rattle.std.proofs.Common.{◌≤◌, inl, inr, All, List, ℕ, sym, subst, arith}
use Rattle.std.proofs.lemmas.List.Elements.{All-contains}
use mathlib.Core.Option.{Option}
use Rattle.wal_page.specs.Order.{Entry}
use Rattle.machine_state.specs.Words.{Opening, down_word, end_form, flushed_word, moment_word, order_end}
use Rattle.machine_state.specs.Views.{HasAt, FlushPromise, Joined, Plain, View, receipts_of}
use Rattle.machine_state.specs.Durable.{IsPromised, IsToldRightly}
use Rattle.machine_state.specs.Sound.{IsSound}
use Rattle.machine_state.proofs.Lists.{part_at}
use Rattle.run_laws.specs.Closed.{WasPromised}
use Rattle.segment_disk.specs.Tape.{DiskState}

-- what holds of all promises of a pass, and of those that it took in, holds of each
pub of_promise : (P : List Entry → FlushPromise → Type 0) (v : View)
    → All (P (v.reserving).entries) (v.writing).promises
    → All (λ (j : Joined). All (P j.entries) j.promises) (v.reserving).joined
    → (entries : List Entry) (p : FlushPromise) → WasPromised v entries p → P entries p
of_promise P v own joined entries p (inl mine) =
    subst (λ (es : List Entry). P es p) (sym mine.0)
    (All-contains (P (v.reserving).entries) (v.writing).promises p own mine.1)
of_promise P v own joined entries p (inr its) =
    let j = its.0 in
    let all = All-contains (λ (j : Joined). All (P j.entries) j.promises) (v.reserving).joined j
    joined its.1 in
    subst (λ (es : List Entry). P es p) (sym its.2)
    (All-contains (P j.entries) j.promises p all its.3)

module _ {first : DiskState} (opening : Opening) (words : List ℕ) (home : Option Plain) (views : List View)
    (k : IsSound first opening words home views) (id : ℕ) (v : View) (here : HasAt views id v) where
  -- what the state says of this view
  pub told_rightly : IsToldRightly first opening k.order (flushed_word words) (moment_word words)
      (down_word words) k.writer (receipts_of v)
  told_rightly = (k.durable).views id (receipts_of v) (part_at receipts_of views id v here)

  pub within_words : (entries : List Entry) (p : FlushPromise) → WasPromised v entries p
      → IsPromised (flushed_word words) (moment_word words) p
  within_words = of_promise (λ es p. IsPromised (flushed_word words) (moment_word words) p) v
      told_rightly.own_promised told_rightly.joined_promised

  -- what is durable is written, and what is written was reserved
  pub within_order : (entries : List Entry) (p : FlushPromise) → WasPromised v entries p
      → p.upto ≤ end_form opening.setup (order_end opening k.order)
  within_order entries p was =
      let positions = k.positions in
      omega (
        arith,
        (within_words entries p was).upto_low,
        positions.flushed_low,
        positions.written_low,
        positions.reserved,
      )

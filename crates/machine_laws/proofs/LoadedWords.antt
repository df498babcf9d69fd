-- A word that is loaded for a write: its page is present, it is the one in memory, and 0 or the
-- log's.
use Rattle.std.proofs.Common.{◌≡◌, inl, inr, ℕ, ◌+◌, ◌*◌, ◌/◌, ◌%◌, ◌<◌, ◌≤◌, List, ap, ◌∙◌, ⊎_elim, arith}
use mathlib.Core.Option.{Option}
use mathlib.Core.Logic.{dite}
use native.Mathlib.Decide.{dec_le}
use Rattle.byte_position.specs.Geometry.{IsSegmentSize}
use Rattle.byte_position.proofs.SegmentSizes.{segment_size_in_pages}
use Rattle.wal_page.specs.Order.{Entry}
use Rattle.wal_page.specs.LogPlace.{IsPlace}
use Rattle.machine_state.specs.Words.{Opening, end_form, order_end, GoesOnAtPlace}
use Rattle.machine_state.specs.Views.{HasAt, Flight, Stage, Plain, Lent, Out, Writing}
use Rattle.machine_state.specs.Ringed.{IsAwaited, RingHolds}
use Rattle.machine_state.specs.Paged.{PagesHold}
use Rattle.machine_state.specs.Positioned.{IsCopiedBelow, PositionsHold}
use Rattle.machine_state.specs.Durable.{IsStaged}
use Rattle.machine_state.specs.Steps.{IsToBeWritten, ring_place}
use Rattle.machine_laws.proofs.RingLaws.{awaited-left}
use Rattle.machine_laws.proofs.PageLaws.{not_given_up}
use Rattle.segment_disk.specs.Tape.{DiskState}

module _ (opening : Opening) (order : List Entry) (reach : ℕ) (memory : ℕ → ℕ)
    (flights : List Flight)
    (k : RingHolds opening order reach memory flights)
    (valid : IsSegmentSize opening.setup.seg_size)
    (placed : IsPlace opening.setup.seg_size opening.place)
    (chain : GoesOnAtPlace opening order)
    (known : ℕ) (copied : IsCopiedBelow opening.setup.seg_size flights known) where
  abbrev size : ℕ
  size = opening.setup.seg_size

  -- what is copied is awaited by nobody
  pub not_awaited : (address : ℕ) → address < known → IsAwaited size flights address → ⊥
  not_awaited address low w =
      let left = awaited-left opening order reach memory flights k valid chain placed address w in
      let all = copied w.id w.copy w.in_flight left in
      let from = w.from in
      omega arith

  -- a page that begins in what is copied, and ends behind the log's first segment, was mapped
  pub copied_is_mapped : known ≤ end_form opening.setup (order_end opening order) → (page : ℕ)
      → page * 8192 < known → size < (page + 1) * 8192 → page < reach
  copied_is_mapped reserved page begins behind = dite (dec_le reach page)
      (λ far. let in_pages = (segment_size_in_pages size valid).0 in
      absurd (not_awaited (8 * (page * 1024)) (omega arith)
      (k.ahead (page * 1024) (omega arith) (omega arith) (omega arith))))
      (λ near. omega arith)

  module _ (stage : Stage) (initialised written : ℕ) (ends ring : ℕ → ℕ) (confirmed : List ℕ)
      (pages : PagesHold opening.setup.ring_pages reach stage initialised written ends ring memory
      confirmed)
    where
      -- it is the one in memory
      pub loads_memory : size ≤ written
          → known ≤ end_form opening.setup (order_end opening order) → (n : ℕ)
          → written < (n / 1024 + 1) * 8192 → n / 1024 * 8192 < known
          → ring (ring_place opening.setup n) ≡ memory n
      loads_memory begun reserved n unwritten begins =
          let page : ℕ = n / 1024 in
          let low = not_given_up opening.setup.ring_pages reach stage initialised written ends ring
          memory confirmed pages page unwritten in
          let high = copied_is_mapped reserved page begins (omega arith) in
          let number : page * 1024 + n % 1024 ≡ n = omega arith in
          pages.content page (n % 1024) low high (omega arith) ∙ ap memory number

      pub loads : (n : ℕ) → ring (ring_place opening.setup n) ≡ memory n
          → IsStaged opening order known (n, ring (ring_place opening.setup n))
      loads n here = record {
        lawful = ⊎_elim (λ t. inr (here ∙ t)) (λ t. inl (here ∙ t.0)) (k.words n);
        below = λ less. ⊎_elim (λ t. here ∙ t)
            (λ t. absurd (not_awaited (8 * n) less t.1)) (k.words n);
      }

module _ {first : DiskState} (o : Opening) (order : List Entry) (reach : ℕ) (memory : ℕ → ℕ)
    (flights : List Flight) (stage : Stage) (initialised written flushed down : ℕ)
    (ends ring : ℕ → ℕ) (confirmed : List ℕ) (home : Option Plain) (writer : Plain)
    (parts : List Writing) (id n : ℕ) (x : Writing) (l : Lent)
    (valid : IsSegmentSize (o.setup).seg_size)
    (placed : IsPlace (o.setup).seg_size o.place) (chain : GoesOnAtPlace o order)
    (k : RingHolds o order reach memory flights)
    (pages : PagesHold (o.setup).ring_pages reach stage initialised written ends ring memory
    confirmed)
    (positions : PositionsHold first o order written flushed down home writer flights parts)
    (here : HasAt parts id x) (out : x.hold ≡ Out l) (same : l.writer ≡ writer)
    (to_write : IsToBeWritten n l) where
  of_view : (l.known ≤ end_form o.setup (order_end o order))
      × IsCopiedBelow (o.setup).seg_size flights l.known
  of_view = (positions.views id x here).known l out

  pub memory_loaded : ring (ring_place o.setup n) ≡ memory n
  memory_loaded =
      let own : (l.writer).written ≡ writer.written = ap (λ (p : Plain). p.written) same in
      loads_memory o order reach memory flights k valid placed chain l.known of_view.1 stage
      initialised written ends ring confirmed pages
      (omega (arith, positions.begun, positions.flushed_low)) of_view.0 n
      (omega (arith, to_write.unwritten, positions.written_low, own)) to_write.copied

  pub loads_staged : IsStaged o order l.known (n, ring (ring_place o.setup n))
  loads_staged =
      loads o order reach memory flights k valid placed chain l.known of_view.1 stage initialised
      written ends ring confirmed pages n memory_loaded

-- What is said of ring and pages behind a step of one kind, made by the pass with this view.
use Rattle.std.specs.Prelude.{ℕ, List, map, set, slice_index}
use mathlib.Core.Option.{Option}
use Rattle.wal_page.specs.Order.{Entry}
use Rattle.machine_state.specs.Words.{Opening, initialised_word, written_word, end_word, word_of_ring}
use Rattle.machine_state.specs.Views.{Stage, Plain, View, flight_of, confirmed_of}
use Rattle.machine_state.specs.Ringed.{RingHolds}
use Rattle.machine_state.specs.Paged.{PagesHold}
use Rattle.machine_state.specs.Sound.{IsSound}
use Rattle.machine_state.specs.Steps.{StepKind, store_ring_word, number_of_next, next_value, word_of_step, value_behind, view_behind}
use Rattle.machine_laws.specs.WordsPut.{put}
use Rattle.segment_disk.specs.Tape.{DiskState}

-- the log's memory behind a store of the next word of a pass's copy
abbrev pub memory_stored : View → (ℕ → ℕ) → ℕ → ℕ
memory_stored v memory = put memory (number_of_next (v.opening).setup (v.working).flight)
    (next_value v (v.working).flight)

-- and behind a step of any kind
abbrev pub memory_behind : View → StepKind → (ℕ → ℕ) → ℕ → ℕ
memory_behind v store_ring_word memory = memory_stored v memory
memory_behind v other memory = memory

module _ (v : View) (words : List ℕ) (home : Option Plain) (views : List View) (id : ℕ)
    (e : StepKind)
  where
    -- the number that the step meets, and words and views behind it
    abbrev pub met_by : ℕ
    met_by = slice_index words (word_of_step v e)

    abbrev pub words_behind : List ℕ
    words_behind = set words (word_of_step v e) (value_behind v e met_by)

    abbrev pub views_behind : List View
    views_behind = set views id (view_behind v e met_by home)

    -- the log's words in memory, for this order, these pages mapped and this memory
    abbrev pub HasRing : List Entry → ℕ → (ℕ → ℕ) → Type 0
    HasRing order reach memory =
        RingHolds v.opening order reach memory (map flight_of views_behind)

    -- the pages in the buffers, for these pages mapped, at this stage, with this memory
    abbrev pub HasPages : ℕ → Stage → (ℕ → ℕ) → Type 0
    HasPages reach stage memory = PagesHold ((v.opening).setup).ring_pages reach stage
        (initialised_word words_behind) (written_word words_behind) (end_word words_behind)
        (word_of_ring (v.opening).setup words_behind) memory (map confirmed_of views_behind)

-- the same, where of a state that keeps the invariant the views alone become others
module _ {first : DiskState} (opening : Opening) (words : List ℕ) (home : Option Plain)
    (views : List View)
    (s : IsSound first opening words home views) (changed : List View) where
  abbrev pub HasRingWith : Type 0
  HasRingWith = RingHolds opening s.order s.reach s.memory (map flight_of changed)

  abbrev pub HasPagesWith : Type 0
  HasPagesWith = PagesHold (opening.setup).ring_pages s.reach s.stage (initialised_word words)
      (written_word words) (end_word words) (word_of_ring opening.setup words) s.memory
      (map confirmed_of changed)

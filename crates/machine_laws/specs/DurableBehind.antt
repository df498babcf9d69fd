-- What is said of durability behind a step of one kind, made by the pass with this view.
use Rattle.std.specs.Prelude.{◌≡◌, ℕ, List, map, set, slice_index}
use mathlib.Core.Option.{Option}
use Rattle.segment_disk.specs.Tape.{DiskState}
use Rattle.wal_page.specs.Order.{Entry}
use Rattle.machine_state.specs.Words.{Opening, flushed_word, moment_word, down_word}
use Rattle.machine_state.specs.Views.{Flight, HasAt, Hold, Lent, Out, Plain, Receipts, View, Writing, receipts_of, writer_of}
use Rattle.machine_state.specs.Locked.{IsWriteTurn}
use Rattle.machine_state.specs.Positioned.{PositionsHold}
use Rattle.machine_state.specs.Durable.{DurabilityHolds, IsStaged}
use Rattle.machine_state.specs.Sound.{IsSetup, IsSound}
use Rattle.machine_state.specs.Steps.{StepKind, create, home_behind, load_ring_word, store_position, sync, value_behind, view_behind, word_of_step, write}

-- the step adds no entry and makes no call of the device
abbrev pub IsInside : StepKind → Type 0
IsInside (store_position locks value) = ⊥
IsInside (create segment outcome) = ⊥
IsInside (write segment page upto bytes outcome) = ⊥
IsInside (sync segment outcome) = ⊥
IsInside other = Unit {0}

-- a word that is loaded for a write is 0 or the log's, and the log's below what is known to be
-- copied
abbrev pub LoadsStaged : View → List Entry → StepKind → ℕ → Type 0
LoadsStaged v order (load_ring_word k) met = (l : Lent) → (v.writing).hold ≡ Out l
    → IsStaged v.opening order l.known (k, met)
LoadsStaged v order other met = Unit {0}

module _ (words : List ℕ) (home : Option Plain) (views : List View) (id : ℕ) (v : View)
    (e : StepKind)
  where
    -- the number that the step meets, and the words behind it
    abbrev pub met_then : ℕ
    met_then = slice_index words (word_of_step v e)

    abbrev pub words_then : List ℕ
    words_then = set words (word_of_step v e) (value_behind v e met_then)

-- for this order and this writer, where the disk held this at first
module _ (first : DiskState) (words : List ℕ) (home : Option Plain) (views : List View) (id : ℕ)
    (v : View) (e : StepKind)
  where
    abbrev pub HasDurable : List Entry → Plain → Type 0
    HasDurable order writer =
        let after = words_then words home views id v e in
        DurabilityHolds first v.opening order (flushed_word after) (moment_word after)
        (down_word after) (home_behind v e home) writer
        (map receipts_of (set views id
        (view_behind v e (met_then words home views id v e) home)))

-- what a call of the device rests on: what is durable holds, and so do the positions; and the view
-- that makes it is there, with what is fixed, among those of which one may have the turn to write
pub record CallsFrom : Type 0 where
  pub first : DiskState
  pub opening : Opening
  pub order : List Entry
  pub flushed : ℕ
  pub moment : ℕ
  pub down : ℕ
  pub home : Option Plain
  pub writer : Plain
  pub parts : List Receipts
  pub id : ℕ
  pub view : View
  pub turn : ℕ
  pub writers : List (ℕ × Hold)
  pub written : ℕ
  pub flights : List Flight
  pub writings : List Writing
  pub durable : DurabilityHolds first opening order flushed moment down home writer parts
  pub here : HasAt parts id (receipts_of view)
  pub opening_is : view.opening ≡ opening
  pub setup_is : IsSetup opening.setup
  pub turn_is : IsWriteTurn turn home writer writers
  pub among : HasAt writers id (writer_of view)
  pub positions : PositionsHold first opening order written flushed down home writer flights
      writings

-- what is durable holds behind it, with the writer that the call leaves
abbrev pub IsDurableBehind : CallsFrom → StepKind → ℕ → Plain → Type 0
IsDurableBehind c e met writer = DurabilityHolds c.first c.opening c.order c.flushed c.moment c.down
    c.home
    writer (set c.parts c.id (receipts_of (view_behind c.view e met c.home)))

-- what is durable in a state that keeps the invariant, where its views alone become others
module _ {first : DiskState} (opening : Opening) (words : List ℕ) (home : Option Plain)
    (views : List View)
    (s : IsSound first opening words home views) (changed : List View) where
  abbrev pub HasDurableWith : Type 0
  HasDurableWith = DurabilityHolds first opening s.order (flushed_word words) (moment_word words)
      (down_word words) home s.writer (map receipts_of changed)

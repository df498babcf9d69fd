-- What every sound state shows of the positions up to which the log is reserved, copied, written
-- and durable.
use Rattle.std.specs.Prelude.{◌≡◌, ◌⊎◌, ℕ, ◌<◌, ◌≤◌, All, List}
use Rattle.segment_disk.specs.Tape.{DiskState, state_now}
use mathlib.Core.Option.{Option, none, some}
use Rattle.wal_page.specs.Order.{Entry}
use Rattle.wal_page.specs.EntryWords.{address_of_word, words_owned}
use Rattle.machine_state.specs.Words.{Opening, written_word, flushed_word, moment_word, down_word, end_form, order_end}
use Rattle.machine_state.specs.Suited.{IfSuited}
use Rattle.machine_state.specs.Views.{HasAt, Copy, Copying, Joined, Lent, Out, Plain, View}
use Rattle.machine_state.specs.Positioned.{ReadsBelow}
use Rattle.machine_state.specs.Durable.{IsPromised}
use Rattle.machine_laws.specs.SoundLocks.{SomeView}

-- a view has the writer in hand, as it was last kept
abbrev pub KeepsWriter : Plain → View → Type 0
KeepsWriter writer v = (l : Lent) × ((v.writing).hold ≡ Out l) × (l.writer ≡ writer)

-- the writer, at home or in a view's hand
abbrev pub IsTheWriter : Option Plain → List View → Plain → Type 0
IsTheWriter home views writer = (home ≡ some writer)
    ⊎ ((home ≡ none) × SomeView views (KeepsWriter writer))

-- what a view knows of positions is not above the words: what was promised to it and to the passes
-- that it took in, and what it loaded
pub record KnowsNoMore (words : List ℕ) (v : View) : Type 0 where
  pub promised : All (IsPromised (flushed_word words) (moment_word words)) (v.writing).promises
  pub joined_promised : All (λ (j : Joined).
      All (IsPromised (flushed_word words) (moment_word words)) j.promises) (v.reserving).joined
  pub written_met : (v.writing).written ≤ written_word words
  pub flushed_met : (v.writing).flushed ≤ flushed_word words

-- what is durable is written; what is written, the one writer wrote, and is reserved and copied;
-- and below the written word the disk reads as the log, where it tells what it holds and held at
-- the opening what a log may begin on
pub record PositionsAreOrdered (first : DiskState) (opening : Opening) (order : List Entry)
    (words : List ℕ)
    (home : Option Plain) (views : List View) : Type 0 where
  pub known : (id : ℕ) (v : View) → HasAt views id v → KnowsNoMore words v
  pub flushed_low : flushed_word words ≤ written_word words
  pub somewhere : (w : Plain) × IsTheWriter home views w
  pub one_writer : (w other : Plain) → IsTheWriter home views w → IsTheWriter home views other
      → w ≡ other
  pub written_low : (w : Plain) → IsTheWriter home views w → written_word words ≤ w.written
  pub at_home : (w : Plain) → home ≡ some w → down_word words ≡ 0
      → written_word words ≡ w.written
  pub reserved : written_word words ≤ end_form opening.setup (order_end opening order)
  pub copied : (id : ℕ) (v : View) (c : Copy) (n : ℕ) → HasAt views id v
      → (v.working).flight ≡ Copying c → c.copied ≤ n
      → n < words_owned (opening.setup).seg_size c.entry
      → written_word words ≤ address_of_word (opening.setup).seg_size c.entry n
  pub reads : (w : Plain) → IsTheWriter home views w → IfSuited first opening w
      (λ t. ReadsBelow opening order (written_word words) (state_now t))

-- How a log begins, or goes on behind what was found: its words, its writer, and the view of its
-- first pass. Nobody holds anything: the locks and turns are free, the writer is at home, and the
-- first pass has all numbers, of which it may give all others away. Nothing is reserved yet. A log
-- that holds nothing is the case of a new log's place and no segments.
use Rattle.std.specs.Prelude.{◌≡◌, ℕ, ◌+◌, ◌*◌, ◌/◌, ◌%◌, ◌<◌, ◌≤◌, List, [], length, slice_index, IfSome}
use mathlib.Core.Option.{none}
use Rattle.wal_page.specs.LogPlace.{IsPlace}
use Rattle.machine_state.specs.Words.{Opening, position_word, prev_word, initialised_word, written_word, flushed_word, moment_word, down_word, async_word, end_word, initialised_number, word_of_ring, word_count, log_limit, found_position, found_end}
use Rattle.machine_state.specs.Views.{Plain, View}
use Rattle.machine_state.specs.Moves.{fresh_view}
use Rattle.machine_state.specs.Paged.{HoldsPage}
use Rattle.machine_state.specs.Ringed.{log_word_of}
use Rattle.machine_state.specs.Sound.{IsSetup}

-- a log that may be opened, of a setup that a log can have: its place is one at which a log may go
-- on, and lies within the log and in the segments that are there, of which the log may fill as many
-- at least
pub record IsOpenable (opening : Opening) : Type 0 where
  pub setup_is : IsSetup opening.setup
  pub placed : IsPlace (opening.setup).seg_size opening.place
  pub within : found_position opening ≤ log_limit opening.setup
  pub made_within : opening.made ≤ (opening.setup).cap_segments
  pub reaches : found_end opening
      ≤ opening.made * (opening.setup).seg_size + (opening.setup).seg_size

-- The words: records go on where the log that was found ends, behind its last start, and all of it
-- is written, durable and answered; nothing is held. The ring has the page in which it ends and
-- those behind, in whichever buffers they lie, with its words, and zeros behind it
pub record AreFirstWords (opening : Opening) (words : List ℕ) : Type 0 where
  pub wide : length words ≡ word_count opening.setup
  pub position : position_word words ≡ found_position opening
  pub prev : prev_word words ≡ (opening.place).prev
  pub zeros : (n : ℕ) → 2 ≤ n → n < initialised_number → slice_index words n ≡ 0
  pub initialised : initialised_word words
      ≡ (found_end opening / 8192 + (opening.setup).ring_pages) * 8192
  pub written : written_word words ≡ found_end opening
  pub flushed : flushed_word words ≡ found_end opening
  pub moment : moment_word words ≡ opening.moment
  pub down : down_word words ≡ 0
  pub async : async_word opening.setup words ≡ found_end opening
  pub ends : (b : ℕ) → b < (opening.setup).ring_pages
      → HoldsPage (opening.setup).ring_pages (found_end opening / 8192)
      (found_end opening / 8192 + (opening.setup).ring_pages) b (end_word words b)
  pub ring : (page j : ℕ) → found_end opening / 8192 ≤ page
      → page < found_end opening / 8192 + (opening.setup).ring_pages → j < 1024
      → word_of_ring opening.setup words (page % (opening.setup).ring_pages * 1024 + j)
      ≡ log_word_of opening [] (8 * (page * 1024 + j))

-- a writer that has written what was found and nothing else, on any disk
pub record IsFirstWriter (opening : Opening) (writer : Plain) : Type 0 where
  pub moment_is : writer.moment ≡ opening.moment
  pub counted : IfSome writer.calls (λ calls. writer.moment ≡ length calls)
  pub written : writer.written ≡ found_end opening
  pub made : writer.made ≡ opening.made
  pub waiting : writer.waiting ≡ none
  pub fault : writer.fault ≡ none

-- the first pass: its number is 0, and it may give all others away
abbrev pub first_view : Opening → View
first_view opening = fresh_view opening 0 1 (opening.setup).passes 0

-- The words with which a log is opened, one that holds nothing or one that is gone on with.
use Rattle.std.specs.Prelude.{◌≡◌, ℕ, ◌+◌, ◌*◌, ◌/◌, ◌%◌, ◌<◌, ◌≤◌, List, [], length, slice_index}
use Rattle.byte_position.specs.Position.{first_position}
use Rattle.wal_spelling.specs.Spelling.{word_at}
use Rattle.machine_state.specs.Words.{Opening, position_word, prev_word, initialised_word, written_word, flushed_word, moment_word, down_word, end_word, found_position, found_end, initialised_number, ends_number}
use Rattle.machine_state.specs.Paged.{HoldsPage}
use Rattle.machine_state.specs.Ringed.{log_word_of}
use Rattle.machine_state.specs.declared.first.LogEnd.{LogEnd}

-- how many whole words of its page lie below an address, and where the page's words stand in a ring
-- of so many pages
abbrev pub words_below : ℕ → ℕ
words_below address = address % 8192 / 8

abbrev pub page_place : (pages address : ℕ) → ℕ
page_place pages address = address / 8192 % pages * 1024

-- Records go on behind a log that ends so, and all of it is written, durable and answered; nothing
-- is held. The ring, of so many pages, holds the page in which the log ends and those behind, in
-- whichever buffers they lie: the words of that page below the log's end, and else zeros
pub record GoOnBehind (pages moment : ℕ) (end : LogEnd) (page words : List ℕ) : Type 0 where
  pub wide : length words ≡ ends_number + pages + pages * 1024 + 1
  pub position : position_word words ≡ end.position
  pub last_start : prev_word words ≡ end.last_start
  pub zeros : (n : ℕ) → 2 ≤ n → n < initialised_number → slice_index words n ≡ 0
  pub initialised : initialised_word words ≡ (end.address / 8192 + pages) * 8192
  pub written : written_word words ≡ end.address
  pub flushed : flushed_word words ≡ end.address
  pub moment_is : moment_word words ≡ moment
  pub down : down_word words ≡ 0
  pub ends : (b : ℕ) → b < pages → HoldsPage pages (end.address / 8192)
      (end.address / 8192 + pages) b (end_word words b)
  pub kept : (j : ℕ) → j < words_below end.address
      → slice_index words (ends_number + pages + (page_place pages end.address + j))
      ≡ word_at page j
  pub before : (k : ℕ) → k < page_place pages end.address
      → slice_index words (ends_number + pages + k) ≡ 0
  pub behind : (k : ℕ) → page_place pages end.address + words_below end.address ≤ k
      → k < pages * 1024 → slice_index words (ends_number + pages + k) ≡ 0
  pub async_is : slice_index words (ends_number + pages + pages * 1024) ≡ end.address

-- where a log ends that holds nothing
abbrev pub first_end : ℕ → LogEnd
first_end segment_size = record {
  position = first_position segment_size;
  address = segment_size;
  last_start = 0;
}

-- a log that was found ends so
pub record IsEndOf (opening : Opening) (end : LogEnd) : Type 0 where
  pub position_is : end.position ≡ found_position opening
  pub address_is : end.address ≡ found_end opening
  pub last_start_is : end.last_start ≡ (opening.place).prev

-- of the page in which a log that was found ends, the words below its end are the log's
abbrev pub IsLastPage : Opening → List ℕ → Type 0
IsLastPage opening page = (j : ℕ) → found_end opening / 8192 * 8192 + 8 * j < found_end opening
    → word_at page j
    ≡ log_word_of opening [] (found_end opening / 8192 * 8192 + 8 * j)

-- The numbers of the words that all share.
use Rattle.machine_state.specs.Words.{mapping_turn_number, write_turn_number, initialised_number, written_number, flushed_number, moment_number, down_number, ends_number, lock_number, position_word, prev_word, lock_word, mapping_turn, write_turn, initialised_word, written_word, flushed_word, moment_word, down_word, end_word}
use Rattle.std.specs.Prelude.{◌≡◌, ℕ, ◌+◌, ◌*◌, ◌<◌, List, slice_index}
use Rattle.machine_state.specs.declared.word.Word.{Word}
use Rattle.machine_state.specs.declared.word.Word.TheVariants.{Position, LastStart, Lock, MappingTurn, WriteTurn, InitialisedEnd, Written, Flushed, Moment, Down, BufferEnd, Ring, Async}

-- the words, and how many pages the ring has
pub record WordsState : Type 0 where
  pub pages : ℕ
  pub words : List ℕ

-- a word's number, with so many pages in the ring
abbrev pub number_of_word : ℕ → Word → ℕ
number_of_word pages Position = 0
number_of_word pages LastStart = 1
number_of_word pages (Lock lock) = lock_number lock
number_of_word pages MappingTurn = mapping_turn_number
number_of_word pages WriteTurn = write_turn_number
number_of_word pages InitialisedEnd = initialised_number
number_of_word pages Written = written_number
number_of_word pages Flushed = flushed_number
number_of_word pages Moment = moment_number
number_of_word pages Down = down_number
number_of_word pages (BufferEnd buffer) = ends_number + buffer
number_of_word pages (Ring place) = ends_number + pages + place
number_of_word pages Async = ends_number + pages + pages * 1024

-- the word of a name
abbrev pub word_named : ℕ → List ℕ → Word → ℕ
word_named pages words word = slice_index words (number_of_word pages word)

-- with so many pages in the ring, the words of the names that stand before the ring are those that
-- the machine means by them
pub record AreMachineWords (pages : ℕ) (words : List ℕ) : Type 0 where
  pub position : word_named pages words Position ≡ position_word words
  pub last_start : word_named pages words LastStart ≡ prev_word words
  pub lock : (lock : ℕ) → word_named pages words (Lock lock) ≡ lock_word words lock
  pub mapping : word_named pages words MappingTurn ≡ mapping_turn words
  pub write : word_named pages words WriteTurn ≡ write_turn words
  pub initialised : word_named pages words InitialisedEnd ≡ initialised_word words
  pub written : word_named pages words Written ≡ written_word words
  pub flushed : word_named pages words Flushed ≡ flushed_word words
  pub moment : word_named pages words Moment ≡ moment_word words
  pub down : word_named pages words Down ≡ down_word words
  pub end : (buffer : ℕ) → word_named pages words (BufferEnd buffer) ≡ end_word words buffer

-- there is this word: a lock is one of eight, a buffer one of the ring's, and so is a word of it
abbrev pub IsWord : ℕ → Word → Type 0
IsWord pages Position = Unit {0}
IsWord pages LastStart = Unit {0}
IsWord pages (Lock lock) = lock < 8
IsWord pages MappingTurn = Unit {0}
IsWord pages WriteTurn = Unit {0}
IsWord pages InitialisedEnd = Unit {0}
IsWord pages Written = Unit {0}
IsWord pages Flushed = Unit {0}
IsWord pages Moment = Unit {0}
IsWord pages Down = Unit {0}
IsWord pages (BufferEnd buffer) = buffer < pages
IsWord pages (Ring place) = place < pages * 1024
IsWord pages Async = Unit {0}

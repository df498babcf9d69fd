-- The words of a disk's log, and those below the end at which it was found to end. (A file of their
-- own, since the type of a found log names them.)
use Rattle.std.specs.Prelude.{ℕ, ◌+◌, ◌-◌, ◌*◌, ◌/◌, ◌%◌, List, map, Option, Some, None, nat_le, if◌then◌else◌}
use Rattle.std.specs.List.{range_with_len}
use Rattle.segment_disk.specs.Tape.{Tape}
use Rattle.wal_spelling.specs.Spelling.{word_at}
use Rattle.wal_reader.specs.Cache.{log_of}
use Rattle.wal_reader.specs.Pages.{Pages}

-- a word of a page, by its number there; 0 where the page is not there
abbrev pub word_of_page : Option (List ℕ) → ℕ → ℕ
word_of_page None number = 0
word_of_page (Some bytes) number = word_at bytes number

-- the word at an address
abbrev pub word_in : Pages → ℕ → ℕ
word_in pages address = word_of_page (pages (address / 8192)) (address % 8192 / 8)

-- where the page begins that holds an address
abbrev pub start_of_page : ℕ → ℕ
start_of_page address = address / 8192 * 8192

-- the word at an address as a disk tells it; where it tells nothing, 0
abbrev pub word_told : ℕ → Option Tape → ℕ → ℕ
word_told size None address = 0
word_told size (Some t) address = word_in (log_of t size) address

-- the word at an address below an end: in the page that holds the end as that page was read, and
-- below it as the disk tells it
abbrev pub word_upto : ℕ → Option Tape → ℕ → List ℕ → ℕ → ℕ
word_upto size tape end page address = if nat_le (start_of_page end) address
    then word_at page ((address - start_of_page end) / 8) else word_told size tape address

-- those from segment 1 up to an end, one behind another
abbrev pub words_upto : ℕ → Option Tape → ℕ → List ℕ → List ℕ
words_upto size tape end page = map (λ k. word_upto size tape end page (size + 8 * k))
    (range_with_len 0 ((end - size) / 8))

-- The words that all backends share, by their numbers, and what is fixed when they are made
-- (PostgreSQL's xlog.c, XLogCtlInsert and XLogCtlData). Each changes in one atomic step. Who may
-- change it: the position (0) who finds it unlocked, by locking it, and then its locker alone, who
-- alone stores the last start (1) too; an insertion lock or a turn who finds it 0, and then its
-- holder alone; the initialised end, the buffers' ends and, to make it 0, a word of the ring who
-- has the turn to map; the written and the flushed address, the moment and down who has the writer
-- in hand; the last one anybody, who only raises it; else a word of the ring the copy whose word it
-- is.
use Rattle.std.specs.Prelude.{ℕ, ◌+◌, ◌*◌, List, slice_index}
use Rattle.byte_position.specs.Position.{end_address_of, first_position, usable_bytes_in_segment}
use Rattle.wal_page.specs.Order.{Entry, FollowsFrom, prev_of}
use Rattle.wal_page.specs.LogPlace.{LogPlace, end_from}
use Rattle.machine_state.specs.declared.setup.Setup.{Setup}

-- an insertion lock's number, of eight: 2 up to 9
abbrev pub lock_number : ℕ → ℕ
lock_number lock = 2 + lock

-- the numbers of the words that are one each, in their order; the position's is 0, the last start's
-- 1
abbrev pub mapping_turn_number : ℕ
mapping_turn_number = 10

abbrev pub write_turn_number : ℕ
write_turn_number = 11

abbrev pub initialised_number : ℕ
initialised_number = 12

abbrev pub written_number : ℕ
written_number = 13

abbrev pub flushed_number : ℕ
flushed_number = 14

abbrev pub moment_number : ℕ
moment_number = 15

abbrev pub down_number : ℕ
down_number = 16

-- the number of the first buffer's end; all words before it are those above
abbrev pub ends_number : ℕ
ends_number = 17

-- the byte position up to which records are reserved; it is even, and one more while it is locked
abbrev pub position_word : List ℕ → ℕ
position_word words = slice_index words 0

-- the address at which the last reserved record starts, 0 where there is none
abbrev pub prev_word : List ℕ → ℕ
prev_word words = slice_index words 1

-- an insertion lock: 0 where it is free, 1 where it is held and nothing is told, else one more than
-- an address below which all words of the holder's record are copied, or, where it has none yet,
-- below which none of it will lie
abbrev pub lock_word : List ℕ → ℕ → ℕ
lock_word words lock = slice_index words (lock_number lock)

-- who has the turn to map a page, and who has the turn to write: 0 where nobody has it, else one
-- more than the number of the pass
abbrev pub mapping_turn : List ℕ → ℕ
mapping_turn words = slice_index words mapping_turn_number

abbrev pub write_turn : List ℕ → ℕ
write_turn words = slice_index words write_turn_number

-- the address below which each page has been mapped
abbrev pub initialised_word : List ℕ → ℕ
initialised_word words = slice_index words initialised_number

-- the addresses below which the log is written, and below which it is durable
abbrev pub written_word : List ℕ → ℕ
written_word words = slice_index words written_number

abbrev pub flushed_word : List ℕ → ℕ
flushed_word words = slice_index words flushed_number

-- the disk's moment when the last flush had ended
abbrev pub moment_word : List ℕ → ℕ
moment_word words = slice_index words moment_number

-- the disk's count of faults where it has failed, else 0
abbrev pub down_word : List ℕ → ℕ
down_word words = slice_index words down_number

-- of a buffer: the address behind the page that it holds, 0 where it holds none
abbrev pub end_word : List ℕ → ℕ → ℕ
end_word words buffer = slice_index words (ends_number + buffer)

-- the words of the ring, 1024 for each buffer
abbrev pub word_of_ring : Setup → List ℕ → ℕ → ℕ
word_of_ring setup words k = slice_index words (ends_number + setup.ring_pages + k)

-- the last word: the address up to which commits may have been answered that are not durable yet
abbrev pub async_number : Setup → ℕ
async_number setup = ends_number + setup.ring_pages + setup.ring_pages * 1024

abbrev pub async_word : Setup → List ℕ → ℕ
async_word setup words = slice_index words (async_number setup)

-- how many words there are
abbrev pub word_count : Setup → ℕ
word_count setup = async_number setup + 1

-- the byte position at which the log begins, and the one at which it is full
abbrev pub log_start : Setup → ℕ
log_start setup = first_position setup.seg_size

abbrev pub log_limit : Setup → ℕ
log_limit setup =
    log_start setup + setup.cap_segments * usable_bytes_in_segment setup.seg_size

-- what is fixed of a run: how its log was set up, the place at which its order begins, how many
-- segments its disk had when it was opened, from segment 1 on, and the disk's moment and count of
-- faults. Of what lies below the place, which was found there, the machine knows nothing else
pub record Opening : Type 0 where
  pub setup : Setup
  pub place : LogPlace
  pub made : ℕ
  pub moment : ℕ
  pub faults : ℕ

-- the end form of a byte position: the address behind the last byte before it
abbrev pub end_form : Setup → ℕ → ℕ
end_form setup position = end_address_of setup.seg_size position

-- an order goes on at the place without a gap; the byte position at which it ends, and the address
-- at which its last entry starts
module _ (opening : Opening) (order : List Entry) where
  abbrev pub GoesOnAtPlace : Type 0
  GoesOnAtPlace =
      FollowsFrom (opening.setup).seg_size (opening.place).position order

  abbrev pub order_end : ℕ
  order_end = end_from (opening.setup).seg_size opening.place order

  abbrev pub last_start : ℕ
  last_start = prev_of (opening.setup).seg_size (opening.place).prev order

-- the byte position and the address at which the log that was found ends
abbrev pub found_position : Opening → ℕ
found_position opening = (opening.place).position

abbrev pub found_end : Opening → ℕ
found_end opening = end_form opening.setup (found_position opening)

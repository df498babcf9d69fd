-- The machine's writer on a disk in memory: the calls that it makes, and which of them fail.
use Rattle.std.specs.Prelude.{◌≡◌, ℕ, ◌+◌, ◌-◌, ◌*◌, ◌/◌, ◌%◌, ◌^◌, ◌<◌, ◌≤◌, Bool, true, not, List, [], ◌++◌, length, take, drop, Option, Some, None}
use Rattle.std.specs.Int.{w64, to_le_bytes}
use mathlib.Core.Option.{none, some}
use Rattle.byte_position.specs.Geometry.{pages_of}
use Rattle.segment_disk.specs.Failing.{is_listed}
use Rattle.segment_disk.specs.First.{first_state}
use Rattle.segment_disk.specs.MemDisk.{disk_state_of, faults_of, has_segment, limits_of, moment_of, segment_count}
use Rattle.segment_disk.specs.Tape.{DiskState, create_call, empty_state, sync_call, write_call}
use Rattle.segment_disk.specs.declared.memory.disk.MemDisk.{MemDisk}
use Rattle.flush_core.specs.Calls.{maybe}
use Rattle.machine_turns.specs.declared.writer.MachineWriter.{MachineWriter}
use Rattle.machine_state.specs.Views.{Plain}
use Rattle.machine_state.specs.Moves.{CallOutcome, after_create, after_sync, after_write}
use Rattle.machine_turns.specs.Turned.{call_outcome}

-- a writer: the segments' size, what its disk held at first, what the machine knows of it, the
-- counted calls that fail, the address that the log will not pass, how many calls more its disk has
-- room for, and the page that is loaded for a write
pub record WriterState : Type 0 where
  pub size : ℕ
  pub first : DiskState
  pub plain : Plain
  pub failing : List ℕ
  pub end : ℕ
  pub room : ℕ
  pub page : List ℕ

-- ---- the calls

module _ (w : WriterState) where
  -- how the next call ends
  abbrev pub next_outcome : CallOutcome
  next_outcome = call_outcome w.failing 0 (w.plain).moment

  abbrev pub succeeds : Bool
  succeeds = not (is_listed w.failing ((w.plain).moment + 1))

  -- the page under way, and its segment
  abbrev pub page_at : ℕ
  page_at = (w.plain).written / 8192

  abbrev pub segment_at : ℕ
  segment_at = page_at / pages_of w.size

  -- the writer behind the next create of a segment; behind a write of the page under way up to an
  -- address; behind a sync of a segment
  abbrev pub created : WriterState
  created = record w {
    plain = after_create ((w.plain).made + 1) (create_call w.size ((w.plain).made + 1))
        next_outcome w.plain;
    room = w.room - 1;
  }

  abbrev pub page_written : ℕ → WriterState
  page_written upto = record w {
    plain = after_write segment_at upto
        (write_call w.size segment_at (page_at % pages_of w.size) w.page) next_outcome w.plain;
    room = w.room - 1;
  }

  abbrev pub synced : ℕ → WriterState
  synced segment = record w {
    plain = after_sync (sync_call w.size segment) next_outcome w.plain;
    room = w.room - 1;
  }

  -- a word is loaded into the page
  abbrev pub with_word : (k word : ℕ) → WriterState
  with_word k word = record w {
    page = take (8 * k) w.page ++ to_le_bytes w64 word ++ drop (8 * k + 8) w.page;
  }

  -- ---- when they are due, which the disk has room for

  -- the next segment begins at or before the written address, and the log goes on behind that
  pub record IsCreateDue : Type 0 where
    pub up : (w.plain).fault ≡ none
    pub alone : (w.plain).waiting ≡ none
    pub behind : ((w.plain).made + 1) * w.size ≤ (w.plain).written
    pub within : (w.plain).written < w.end
    pub has_room : 1 ≤ w.room

  -- the written address is to rise by a word at least, in a segment that is made
  pub record IsWriteDue (upto : ℕ) : Type 0 where
    pub up : (w.plain).fault ≡ none
    pub rises : (w.plain).written + 8 ≤ upto
    pub within : upto ≤ w.end
    pub is_made : segment_at ≤ (w.plain).made
    pub has_room : 1 ≤ w.room

  -- writes to the segment wait for a sync
  pub record IsSyncDue (segment : ℕ) : Type 0 where
    pub up : (w.plain).fault ≡ none
    pub waits : (w.plain).waiting ≡ some segment
    pub has_room : 1 ≤ w.room

-- ---- the segments of the disk

-- until a call fails: the disk has just the segments made, and room for them
pub record IsGoing (size end : ℕ) (disk : MemDisk) (w : Plain) : Type 0 where
  pub unfailed : faults_of disk ≡ 0
  pub there : (s : ℕ) → 1 ≤ s → s ≤ w.made → has_segment disk s ≡ true
  pub absent : (s : ℕ) → w.made < s → disk_state_of disk s ≡ None
  pub count : segment_count disk ≡ w.made
  pub few : w.made ≤ (limits_of disk).segments
  pub waits : (s : ℕ) → w.waiting ≡ some s → (1 ≤ s) × (s ≤ w.made)

pub record IsWriterKept (size end : ℕ) (disk : MemDisk) (w : Plain) (page : List ℕ) : Type 0 where
  pub begun : size ≤ w.written
  pub within : w.written ≤ end
  pub segments : end ≤ size * ((limits_of disk).segments + 1)
  pub whole : length page ≡ 8192
  pub going : w.fault ≡ none → IsGoing size end disk w

-- what the machine knows of a writer by its disk and its numbers
abbrev pub plain_of : MemDisk → (written made : ℕ) → (waiting fault : Option ℕ) → Plain
plain_of disk written made waiting fault = record {
  calls = Some disk.calls.made.items;
  moment = moment_of disk;
  written = written;
  made = made;
  waiting = maybe waiting;
  fault = maybe fault;
}

abbrev pub state_of : MachineWriter → WriterState
state_of w = record {
  size = w.geometry;
  first = first_state w.disk.first.items;
  plain = plain_of w.disk w.written w.made w.waiting w.fault;
  failing = (limits_of w.disk).failing;
  end = w.end;
  room = (limits_of w.disk).calls - moment_of w.disk;
  page = w.page;
}

abbrev pub KeepsDisk : MachineWriter → Type 0
KeepsDisk w = (w.end < 2 ^ 60) × IsWriterKept w.geometry w.end w.disk (state_of w).plain w.page

-- how many calls a log can need that has so many segments, is written up to so many addresses, and
-- is flushed so often: a create and a sync for each segment, a write for each address, and a sync
-- for each flush
abbrev pub calls_for : (segments addresses flushes : ℕ) → ℕ
calls_for segments addresses flushes = 2 * segments + addresses + flushes

-- a writer that has written nothing, on a disk that holds nothing. A log is written up to the ends
-- of pages and of its lines' records (`IsMark` of wal_core): there is room for that, and for so
-- many flushes
pub record IsFreshWriter (size end lines flushes : ℕ) (failing : List ℕ) (w : WriterState) : Type 0
  where
    pub size_is : w.size ≡ size
    pub end_is : w.end ≡ end
    pub failing_is : w.failing ≡ failing
    pub room : calls_for (end / size) (end / 8192 - size / 8192 + lines) flushes ≤ w.room
    pub first : w.first ≡ empty_state
    pub calls : (w.plain).calls ≡ Some []
    pub moment : (w.plain).moment ≡ 0
    pub written : (w.plain).written ≡ size
    pub made : (w.plain).made ≡ 0
    pub waiting : (w.plain).waiting ≡ none
    pub fault : (w.plain).fault ≡ none

-- A disk in memory: what it holds, and what it fails at.
use Rattle.std.specs.Prelude.{◌≡◌, ℕ, ◌+◌, Bool, false, IsTrue, List, length, take, Option, Some, is_some, nat_lt, not, ◌&&◌, ◌||◌, if◌then◌else◌}
use Rattle.segment_disk.specs.Failing.{Failing, is_listed}
use Rattle.segment_disk.specs.First.{first_state}
use Rattle.segment_disk.specs.DiskImage.{DiskImage, image_as_read}
use Rattle.segment_disk.specs.Tape.{DiskState, Tape, IsUncalled, after_calls}
use Rattle.segment_disk.specs.declared.memory.disk.MemDisk.{MemDisk}

-- how many segments and counted calls a disk has room for, and the counted calls that fail, by
-- their numbers from 1
pub record Limits : Type 0 where
  pub segments : ℕ
  pub calls : ℕ
  pub failing : List ℕ

-- the limits that a disk was made with
abbrev pub limits_of : MemDisk → Limits
limits_of disk = record {
  segments = disk.segments.limit;
  calls = disk.calls.limit;
  failing = disk.calls.fail.items;
}

-- a disk's tape
abbrev pub tape_of : MemDisk → Option Tape
tape_of disk =
    Some (record { at_first = first_state disk.first.items; calls = disk.calls.made.items })

-- the image that was there at first
abbrev pub first_image : MemDisk → DiskImage
first_image disk = image_as_read (first_state disk.first.items)

-- how many calls were counted
abbrev pub moment_of : MemDisk → ℕ
moment_of disk = length disk.calls.made.items

-- how often a disk has failed
abbrev pub faults_of : MemDisk → ℕ
faults_of disk = disk.calls.faults

-- the reads that fail
abbrev pub failing_reads : MemDisk → Failing
failing_reads disk = disk.reads

-- the segments that were there after so many of the calls
abbrev pub state_behind : MemDisk → ℕ → DiskState
state_behind disk count =
    after_calls (first_state disk.first.items) (take count disk.calls.made.items)

-- the segments that are there now
abbrev pub disk_state_of : MemDisk → DiskState
disk_state_of disk = after_calls (first_state disk.first.items) disk.calls.made.items

-- how many segments are there
abbrev pub segment_count : MemDisk → ℕ
segment_count disk = length disk.segments.numbers.items

-- whether the next call is counted
abbrev pub counts_next : MemDisk → Bool
counts_next disk = nat_lt (moment_of disk) disk.calls.limit

-- whether it is counted and not listed to fail
abbrev pub is_next_sound : MemDisk → Bool
is_next_sound disk = counts_next disk && not (is_listed disk.calls.fail.items (moment_of disk + 1))

-- whether a segment is there
abbrev pub has_segment : MemDisk → ℕ → Bool
has_segment disk segment = is_some (disk_state_of disk segment)

-- whether a segment is there, or there is room for it
abbrev pub can_create : MemDisk → ℕ → Bool
can_create disk segment =
    has_segment disk segment || nat_lt (segment_count disk) disk.segments.limit

-- how many segments are there behind a create
abbrev pub count_behind_create : MemDisk → ℕ → Bool → ℕ
count_behind_create disk segment done =
    if done && not (has_segment disk segment) then segment_count disk + 1 else segment_count disk

-- a call within the disk's room is counted, one beyond it is not made; neither changes what the
-- disk was told to fail at
pub record IsCounted (old new : MemDisk) : Type 0 where
  pub within : IsTrue (counts_next old) → moment_of new ≡ moment_of old + 1
  pub beyond : counts_next old ≡ false → IsUncalled tape_of moment_of old new
  pub limits : limits_of new ≡ limits_of old
  pub reads : failing_reads new ≡ failing_reads old

-- How the image of a crash is made: the calls since a segment's last sync, and the numbers that a
-- list has left.
use Rattle.std.specs.Prelude.{◌≡◌, ℕ, ◌+◌, ◌%◌, ◌≤◌, ◌<◌, Bool, true, false, List, [], ◌∷◌, ◌++◌, length, take, drop, Option, Some, None, ◌==◌, slice_index, if◌then◌else◌}
use Rattle.segment_disk.specs.declared.disk.Call.{Call}
use Rattle.segment_disk.specs.declared.disk.CallKind.{CallKind}
use Rattle.segment_disk.specs.declared.disk.CallKind.TheVariants.{Create, Write, Sync}
use Rattle.segment_disk.specs.declared.memory.pick.Pick.{Pick}
use Rattle.segment_disk.specs.declared.memory.pick.Pick.TheVariants.{Old, New, Odd, List as Listed}
use Rattle.segment_disk.specs.Tape.{Segment, DiskState, after_calls}
use Rattle.segment_disk.specs.DiskImage.{word_of}
use Rattle.segment_disk.specs.Picks.{numbered_page}

-- the numbers that a pick lists
abbrev pub numbers_of : Pick → List ℕ
numbers_of (Listed numbers) = numbers.items
numbers_of Old = []
numbers_of New = []
numbers_of Odd = []

-- whether a word takes the last of so many writes, where a list has these numbers for its page
abbrev pub takes_write : Pick → List ℕ → ℕ → ℕ → Bool
takes_write Old rest number word = false
takes_write New rest number word = true
takes_write Odd rest number word = word % 2 == 1
takes_write (Listed numbers) rest number word = slice_index rest word == number

-- which write it takes of so many
abbrev pub number_taken : Pick → List ℕ → ℕ → ℕ → ℕ
number_taken Old rest count word = 0
number_taken New rest count word = count
number_taken Odd rest count word = if word % 2 == 1 then count else 0
number_taken (Listed numbers) rest count word = slice_index rest word

-- each word of a page is that of a written one or as it was
abbrev pub AreTaken : (ℕ → Bool) → List ℕ → List ℕ → List ℕ → Type 0
AreTaken takes old written new = (k : ℕ) → k < 1024
    → word_of new k ≡ (if takes k then word_of written k else word_of old k)

-- each word of a page is that of the write that it takes
abbrev pub HoldTaken : Pick → List ℕ → List (List ℕ) → List ℕ → List ℕ → Type 0
HoldTaken pick rest writes durable bytes = (k : ℕ) → k < 1024 → word_of bytes k
    ≡ word_of (numbered_page writes durable (number_taken pick rest (length writes) k)) k

-- the number behind a last one
abbrev pub first_behind : Option ℕ → ℕ
first_behind None = 0
first_behind (Some last) = last + 1

-- a call's write, if it is one
abbrev pub write_of : CallKind → List (ℕ × List ℕ)
write_of (Create made) = []
write_of (Write page bytes) = (page, bytes.bytes) ∷ []
write_of Sync = []

-- the writes of a list of calls to a segment
abbrev pub writes_of : List Call → ℕ → List (ℕ × List ℕ)
writes_of [] segment = []
writes_of (call ∷ calls) segment =
    (if segment == call.segment then write_of call.kind else []) ++ writes_of calls segment

-- a segment to which nothing was written since its last sync, and the same with these writes
abbrev pub IsWrittenSince : Option Segment → List (ℕ × List ℕ) → Option Segment → Type 0
IsWrittenSince None writes None = Unit {0}
IsWrittenSince (Some synced) writes (Some now) =
    (synced.writes ≡ []) × (now ≡ record synced { writes = writes })
IsWrittenSince None writes (Some now) = ⊥
IsWrittenSince (Some synced) writes None = ⊥

-- the segment is there, with this many pages
abbrev pub HasPages : Option Segment → ℕ → Type 0
HasPages None pages = ⊥
HasPages (Some s) pages = pages ≡ s.pages

-- this many of the calls lead to the segment's last sync
pub record IsSyncedUpto (at_first : DiskState) (calls : List Call) (segment since : ℕ) : Type 0
  where
    pub within : since ≤ length calls
    pub written : IsWrittenSince (after_calls at_first (take since calls) segment)
        (writes_of (drop since calls) segment) (after_calls at_first calls segment)

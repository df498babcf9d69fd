-- The disks on which a log may begin, or go on; of what any other one holds nothing is said. Steps
-- and words are the same on each disk: only what the invariant says of the disk's words stands
-- under this premise.
use Rattle.std.specs.Prelude.{◌≡◌, ℕ, ◌+◌, ◌*◌, ◌≤◌, List, [], Option, IfSome, None, Some}
use Rattle.segment_disk.specs.declared.disk.Call.{Call}
use Rattle.segment_disk.specs.Assured.{StateAssures}
use Rattle.segment_disk.specs.Tape.{DiskState, Tape, state_at}
use Rattle.wal_page.specs.Order.{Entry}
use Rattle.machine_state.specs.Words.{Opening}
use Rattle.machine_state.specs.Ringed.{log_bytes_of}
use Rattle.machine_state.specs.Views.{Plain}

-- a word of the disk, by its page's number in the log and its own in the page, is the log's: 0
-- where no entry is
abbrev pub IsLogAt : Opening → List Entry → ℕ → ℕ → List ℕ → Type 0
IsLogAt opening order page word bytes =
    bytes ≡ log_bytes_of opening order (page * 8192 + 8 * word)

-- what a log may begin on: the segments that it was opened with are there, and whatever a crash
-- leaves has in each segment the words below the place, and zeros behind. (Where nothing was found
-- and no segment is there, this asks nothing more.)
abbrev pub IsSuited : Opening → DiskState → Type 0
IsSuited opening state = StateAssures (opening.setup).seg_size
    (λ segment. (1 ≤ segment) × (segment ≤ opening.made))
    (IsLogAt opening []) state

-- a disk held that when the log was opened
abbrev pub BeganSuited : Opening → Tape → Type 0
BeganSuited opening t = IsSuited opening (state_at t opening.moment)

-- a disk's tape: what it held at first, and its counted calls, where they are told
abbrev pub tape_from : DiskState → Option (List Call) → Option Tape
tape_from first None = None
tape_from first (Some calls) = Some (record { at_first = first; calls = calls })

-- this holds of the writer's tape, where its disk tells its calls, and held at the opening what a
-- log may begin on
abbrev pub IfSuited : DiskState → Opening → Plain → (Tape → Type 0) → Type 0
IfSuited first opening writer P =
    IfSome (tape_from first writer.calls) (λ t. BeganSuited opening t → P t)

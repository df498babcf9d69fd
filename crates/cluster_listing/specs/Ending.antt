-- How a listing ended, the line that tells it and the exit status.
use Rattle.std.specs.Prelude.{ℕ, Bool, true, false, List, [], ◌∷◌, codes, Option, Some, None, Result, Ok, Err, if◌then◌else◌}
use Rattle.std.specs.Fmt.{decimal}
use Rattle.wal_types.specs.LsnText.{lsn_text}
use Rattle.wal_types.specs.declared.lsn.Lsn.{Lsn}
use Rattle.wal_reader.specs.Names.{damage_name}
use Rattle.wal_reader.specs.declared.found.DamageKind.{DamageKind}
use Rattle.wal_reader.specs.declared.found.DamageKind.TheVariants as kinds
use Rattle.wal_reader.specs.declared.found.Stopped.{Stopped as LogStop}
use Rattle.wal_reader.specs.declared.found.Stopped.TheVariants as stops
use Rattle.wal_reader.specs.declared.standing.ReadErr.{ReadErr}
use Rattle.wal_reader.specs.declared.standing.ReadErr.TheVariants as reading
use Rattle.cluster_listing.specs.declared.ending.Ending.{Ending}
use Rattle.cluster_listing.specs.declared.ending.Ending.TheVariants.{Clean, Enough, NoSegment, Torn, Damaged, Compressed, OutOfMemory, DiskFault, SinkFault}
use Rattle.cluster_listing.specs.declared.taking.TakeErr.{TakeErr}
use Rattle.cluster_listing.specs.declared.taking.TakeErr.TheVariants as taking
use Rattle.cluster_listing.specs.declared.walking.ListErr.{ListErr}
use Rattle.cluster_listing.specs.declared.walking.ListErr.TheVariants.{Read, Take}
use Rattle.cluster_listing.specs.declared.walking.Walked.{Walked}

-- whether damage is such that a record's bytes are not there, or not as they were written
abbrev pub is_torn : DamageKind → Bool
is_torn kinds.Missing = true
is_torn kinds.NoContinuation = true
is_torn (kinds.RemLen found) = true
is_torn kinds.Crc = true
is_torn (kinds.Page fault) = false
is_torn kinds.Claims = false
is_torn kinds.Length = false
is_torn kinds.Rmgr = false
is_torn (kinds.Prev found) = false
is_torn kinds.Malformed = false

abbrev pub ending_of_stop : LogStop → Ending
ending_of_stop (stops.Damaged at kind) = if is_torn kind then Torn at kind else Damaged at kind
ending_of_stop (stops.Compressed at) = Compressed at
ending_of_stop (stops.Overwritten at) = Torn at kinds.NoContinuation

abbrev pub ending_of_read : ReadErr → Ending
ending_of_read reading.Memory = OutOfMemory
ending_of_read (reading.Disk faults) = DiskFault
ending_of_read (reading.Stopped stop) = ending_of_stop stop

abbrev pub ending_of_take : TakeErr → Ending
ending_of_take taking.Memory = OutOfMemory
ending_of_take (taking.Sink fault) = SinkFault

-- how a listing ended that came to an end of the log, or to its limit
abbrev pub ending_at : Option Lsn → ℕ → Ending
ending_at (Some at) count = Clean at
ending_at None count = Enough count

-- how a listing ended, by what it answered
abbrev pub ending_of : Result Walked ListErr → Ending
ending_of (Ok walked) = ending_at walked.end walked.count
ending_of (Err (Read error)) = ending_of_read error
ending_of (Err (Take error)) = ending_of_take error

abbrev pub ending_status : Ending → ℕ
ending_status (Clean at) = 0
ending_status (Enough count) = 0
ending_status OutOfMemory = 1
ending_status DiskFault = 4
ending_status (Torn at kind) = 5
ending_status (Damaged at kind) = 6
ending_status (Compressed at) = 6
ending_status (NoSegment at) = 7
ending_status SinkFault = 8

abbrev pub place_line : List ℕ → Lsn → List ℕ → List (List ℕ)
place_line what at behind =
    codes "cluster_dump: " ∷ what ∷ lsn_text at.0 ∷ behind ∷ codes "\n" ∷ []

abbrev pub kind_line : List ℕ → Lsn → List ℕ → List (List ℕ)
kind_line what at kind =
    codes "cluster_dump: " ∷ what ∷ lsn_text at.0 ∷ codes ": " ∷ kind ∷ codes "\n" ∷ []

abbrev pub enough_line : ℕ → List (List ℕ)
enough_line count =
    codes "cluster_dump: listed as many as asked for: " ∷ decimal count ∷ codes "\n" ∷ []

-- the line that tells it
abbrev pub ending_text : Ending → List (List ℕ)
ending_text (Clean at) = place_line (codes "clean end at ") at []
ending_text (Enough count) = enough_line count
ending_text (NoSegment at) = place_line (codes "segment missing at ") at []
ending_text (Torn at kind) = kind_line (codes "torn record at ") at (damage_name kind)
ending_text (Damaged at kind) = kind_line (codes "damaged at ") at (damage_name kind)
ending_text (Compressed at) = place_line (codes "damaged at ") at (codes ": compressed")
ending_text OutOfMemory = codes "cluster_dump: out of memory\n" ∷ []
ending_text DiskFault = codes "cluster_dump: disk fault\n" ∷ []
ending_text SinkFault = codes "cluster_dump: sink fault\n" ∷ []

-- No log on a disk that this program left is refused as another program's.
use Rattle.std.specs.Prelude.{◌≡◌, ℕ, false, List, None}
use Rattle.segment_disk.specs.Tape.{Tape}
use Rattle.wal_reader.specs.Cache.{log_of}
use Rattle.wal_reader.specs.Decodes.{Decodes}
use Rattle.wal_reader.specs.declared.found.Answer.{Answer}
use Rattle.wal_reader.specs.declared.found.FoundRecord.{FoundRecord}
use Rattle.wal_reader.specs.declared.found.Stopped.{Stopped}
use Rattle.found_log.specs.Foreign.{is_foreign}
use Rattle.found_log.specs.Found.{RefusesLog}
use Rattle.found_log.specs.declared.fault.FindFault.TheVariants.{Foreign}
use Rattle.reopened_log_laws.specs.WasLeft.{WasLeft}

-- what stands behind the records of such a disk this program may have left
abbrev pub LeftLogsAreOwn : Type 0
LeftLogsAreOwn =
    (size sysid : ℕ) (t : Tape) (found others : List FoundRecord) (answer : Answer)
    → WasLeft size sysid t found → Decodes size (log_of t size) size None others answer
    → is_foreign answer ≡ false

-- so its log is never refused as another program's
abbrev pub LeftLogsAreNotForeign : Type 0
LeftLogsAreNotForeign =
    (size sysid cap : ℕ) (t : Tape) (found : List FoundRecord) (stop : Stopped)
    → WasLeft size sysid t found → RefusesLog size cap (Foreign stop) t → ⊥

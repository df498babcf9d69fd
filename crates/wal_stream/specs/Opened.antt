-- A standby that is opened on what its disk has.
use Rattle.std.specs.Prelude.{◌≡◌, ℕ, false, Option, None, Err}
use Rattle.segment_disk.specs.Tape.{Tape}
use Rattle.flush_core.specs.Settled.{HasSettled}
use Rattle.flush_core.specs.Pages.{PutPages}
use Rattle.flush_core.specs.Writer.{HoldsLogPages, is_unsynced, last_made}
use Rattle.wal_reader.specs.Pages.{IsPage}
use Rattle.found_log.specs.Found.{FindsLog, HasFindCause}
use Rattle.found_log.specs.declared.fault.FindFault.{FindFault}
use Rattle.found_log.specs.declared.finding.FoundLog.{FoundLog}
use Rattle.wal_stream.specs.Standby.{HasResumed, own_page, standby_disk, standby_end, standby_fault}
use Rattle.wal_stream.specs.declared.standby.Standby.{Standby}

-- it stands at the end of a log that was found on a disk and settled there; its own page is the one
-- that holds the end, as it was read
pub record StandsAtFound {D : Type 0} (tape : D → Option Tape) (moment faults : D → ℕ)
    (size cap : ℕ) (disk : D) (s : Standby D) : Type 0 where
  pub log : FoundLog
  pub found : FindsLog size cap (tape disk) log
  pub settled : HasSettled size log.end.0 log.made
      (tape disk) (tape (standby_disk s)) (moment disk) (moment (standby_disk s))
  pub end_is : standby_end s ≡ log.end.0
  pub page_is : own_page s ≡ log.page.value
  pub whole : IsPage (own_page s)
  pub made_is : last_made s.writer ≡ log.made
  pub quiet : faults (standby_disk s) ≡ faults disk
  pub synced : is_unsynced s.writer ≡ false
  pub up : standby_fault s ≡ None
  pub size_is : s.geometry ≡ size
  pub cap_is : s.cap ≡ cap
  pub resumes : (pages : PutPages)
      → HoldsLogPages size log.end.0 log.made (tape (standby_disk s)) pages
      → HasResumed tape moment (standby_disk s) log.end.0 pages s

-- what a refusal says of the disk's count of faults
abbrev pub HasOpenCause : ℕ → ℕ → FindFault → Type 0
HasOpenCause old new fault = HasFindCause {T = FoundLog} old new (Err fault)

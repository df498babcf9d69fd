-- What is told where a log is opened that is on the program's disk, or begun where there is none.
use Rattle.std.specs.Prelude.{◌≡◌, ◌≢◌, ℕ, ◌*◌, ◌-◌, ◌^◌, min, List, [], Option, IsSomeAnd}
use Rattle.handed_pages.specs.declared.page.HandedPage.{HandedPage}
use Rattle.hosted_disk.specs.HostSegments.{HostSegment}
use Rattle.hosted_disk.specs.declared.calls.HostCalls.{HostCalls}
use Rattle.machine_state.specs.declared.setup.Setup.{Setup}
use Rattle.wal_log.specs.declared.opening.OpenFaultKind.{OpenFaultKind}
use Rattle.wal_log.specs.declared.opening.OpenFaultKind.TheVariants as kinds
use Rattle.wal_log.specs.declared.reopening.Found.{Found}
use Rattle.embedded_log.specs.Reopened.{ReopensWithHost, SaysReopenStop}
use Rattle.embedded_log.specs.declared.reopening.ReopenStop.{ReopenStop}
use Rattle.embedded_log.specs.declared.reopening.ReopenStop.TheVariants.{Memory, Passes, Refused, Room, Wants}
use Rattle.pgwal_c.specs.declared.answers.TheConstants.{BEYOND, DAMAGED, DONE, DOWN, MEMORY, MISUSE, QUEUE, SETUP, WANTED}
use Rattle.pgwal_c.specs.declared.disk_handle.DiskCall.{DiskCall}
use Rattle.pgwal_c.specs.declared.opening.LogSetup.{LogSetup}
use Rattle.pgwal_c.specs.declared.said.ProgramSaid.{ProgramSaid}
use Rattle.pgwal_c.specs.ReaderTold.{stop_address}
use Rattle.pgwal_c.specs.Told.{ProgramSession}

abbrev pub ProgramCalls : Type 0
ProgramCalls = HostCalls ProgramSaid

-- what the program's disk held at first: which it is no clause can say, and what is told holds of
-- each
unfoldable pub program_segments : List HostSegment
program_segments = []

-- a setup as it is asked for; a session has two passes
abbrev pub setup_of_asked : LogSetup → Setup
setup_of_asked asked = record {
  seg_size = asked.seg_size;
  ring_pages = asked.ring_pages;
  cap_segments = asked.cap_segments;
  sysid = asked.sysid;
  passes = min (asked.sessions * 2) (2 ^ 32 - 1);
}

-- the log was opened that is on the disk, by the pages handed in, and this is its queue
pub record OpensTold (pages : List HandedPage) (asked told : DiskCall) (calls : ProgramCalls)
    : Type 0 where
  pub session : ProgramSession
  pub found : Found
  pub reopens : ReopensWithHost (setup_of_asked asked.setup) program_segments pages session calls
      found
  pub count : told.count ≡ found.count
  pub end : told.end ≡ (found.end).0

-- a fault of the log, as it is answered and told
abbrev pub AnswersFault : OpenFaultKind → DiskCall → ℕ → Type 0
AnswersFault kinds.BadSetup told answer = answer ≡ SETUP
AnswersFault kinds.Memory told answer = answer ≡ MEMORY
AnswersFault (kinds.Disk faults) told answer = answer ≡ DOWN
AnswersFault kinds.NotEmpty told answer = answer ≡ MISUSE
AnswersFault (kinds.Beyond segment) told answer = (answer ≡ BEYOND) × (told.segment ≡ segment)
AnswersFault (kinds.Foreign stop) told answer =
    (answer ≡ DAMAGED) × (told.end ≡ stop_address stop)

-- why the log was not opened, as it is answered and told
abbrev pub AnswersStop : ReopenStop → DiskCall → ℕ → Type 0
AnswersStop Passes told answer = answer ≡ SETUP
AnswersStop Memory told answer = answer ≡ MEMORY
AnswersStop (Wants number) told answer =
    (answer ≡ WANTED) × (told.segment ≡ number.segment) × (told.page ≡ number.page)
AnswersStop Room told answer = answer ≡ QUEUE
AnswersStop (Refused kind) told answer = AnswersFault kind told answer

-- the log was not opened, for a cause that it tells
pub record StopsTold (pages : List HandedPage) (asked told : DiskCall) (answer : ℕ) : Type 0 where
  pub why : ReopenStop
  pub says : SaysReopenStop (setup_of_asked asked.setup) program_segments pages why
  pub tells : AnswersStop why told answer

-- a log was opened, if it is answered DONE, else there is a cause
pub record TellsOpen (pages : List HandedPage) (asked told : DiskCall) (answer : ℕ)
    (calls : Option ProgramCalls) : Type 0 where
  pub done : answer ≡ DONE → IsSomeAnd calls (λ c. OpensTold pages asked told c)
  pub stopped : answer ≢ DONE → StopsTold pages asked told answer

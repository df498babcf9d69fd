-- How a log is gone on with that the host has in its files.
use Rattle.std.specs.Prelude.{◌≡◌, ◌<◌, true, List, Some}
use Rattle.handed_pages.specs.Handed.{has_pages, read_tape}
use Rattle.handed_pages.specs.declared.page.HandedPage.{HandedPage}
use Rattle.hosted_disk.specs.HostSegments.{HostSegment, host_state}
use Rattle.hosted_disk.specs.Hosted.{HasBothEnds, HasNoCalls, hosted_faults, hosted_moment, hosted_tape}
use Rattle.hosted_disk.specs.declared.calls.HostCalls.{HostCalls}
use Rattle.hosted_disk.specs.declared.disk.HostedDisk.{HostedDisk}
use Rattle.found_log.specs.Found.{RefusesLog}
use Rattle.found_log.specs.declared.fault.FindFault.{FindFault}
use Rattle.found_log.specs.declared.fault.FindFault.TheVariants as finding
use Rattle.machine_state.specs.Sound.{IsSetup}
use Rattle.machine_state.specs.declared.setup.Setup.{Setup}
use Rattle.wal_rule.specs.declared.pass.Pass.{Pass}
use Rattle.wal_log.specs.Reopening.{IsReopened}
use Rattle.wal_log.specs.declared.opening.OpenFaultKind.{OpenFaultKind}
use Rattle.wal_log.specs.declared.opening.OpenFaultKind.TheVariants as kinds
use Rattle.wal_log.specs.declared.reopening.Found.{Found}
use Rattle.embedded_log.specs.declared.reopening.ReopenStop.{ReopenStop}
use Rattle.embedded_log.specs.declared.reopening.ReopenStop.TheVariants.{Memory, Passes, Refused, Room, Wants}
use Rattle.embedded_log.specs.declared.session.LogSession.{LogSession}
use Rattle.embedded_log.specs.Opened.{IsFirstOn}
use Rattle.embedded_log.specs.Sessions.{wal_of_session}

-- a disk has these pages as they were handed in
abbrev pub HasHanded : List HostSegment → List HandedPage → Type 0
HasHanded segments pages = has_pages (host_state segments) pages ≡ true

-- a disk that has them is refused by the log that is there
abbrev pub RefusesHanded : Setup → List HostSegment → List HandedPage → FindFault → Type 0
RefusesHanded setup segments pages fault = HasHanded segments pages
    → RefusesLog setup.seg_size setup.cap_segments fault (read_tape (host_state segments))

abbrev pub SaysRefused : Setup → List HostSegment → List HandedPage → OpenFaultKind → Type 0
SaysRefused setup segments pages kinds.BadSetup = IsSetup setup → ⊥
SaysRefused setup segments pages kinds.Memory = Unit {0}
SaysRefused setup segments pages (kinds.Disk faults) = Unit {0}
SaysRefused setup segments pages kinds.NotEmpty = ⊥
SaysRefused setup segments pages (kinds.Beyond segment) =
    RefusesHanded setup segments pages (finding.Beyond segment)
SaysRefused setup segments pages (kinds.Foreign stop) =
    RefusesHanded setup segments pages (finding.Foreign stop)

-- why a log was not gone on with
abbrev pub SaysReopenStop : Setup → List HostSegment → List HandedPage → ReopenStop → Type 0
SaysReopenStop setup segments pages Passes = setup.passes < 2
SaysReopenStop setup segments pages Memory = Unit {0}
SaysReopenStop setup segments pages (Wants number) = Unit {0}
SaysReopenStop setup segments pages Room = Unit {0}
SaysReopenStop setup segments pages (Refused kind) = SaysRefused setup segments pages kind

-- what a fault of the log comes to: what is told as the log's refusal is it
abbrev pub IsStopOf : OpenFaultKind → ReopenStop → Type 0
IsStopOf fault Passes = ⊥
IsStopOf fault Memory = Unit {0}
IsStopOf fault (Wants number) = Unit {0}
IsStopOf fault Room = Unit {0}
IsStopOf fault (Refused kind) = kind ≡ fault

module _ {H : Type 0} where
  -- a session of a log that was found on a hosted disk, of which nobody had called anything, and is
  -- gone on with
  pub record ReopensSession (setup : Setup) (session : LogSession H) (found : Found) : Type 0 where
    pub disk : HostedDisk
    pub untouched : HasNoCalls disk
    pub first : Pass
    pub reopened : IsReopened hosted_tape hosted_moment hosted_faults setup disk
        (wal_of_session session) first found
    pub begins : IsFirstOn (wal_of_session session) first session

  -- .. which tells what the host's disk holds, if that has the pages as they were handed in; and
  -- what the host has of it: the other end of its queue
  pub record ReopensWithHost (setup : Setup) (segments : List HostSegment)
      (pages : List HandedPage) (session : LogSession H) (calls : HostCalls H) (found : Found)
      : Type 0 where
    pub reopens : ReopensSession setup session found
    pub tells : HasHanded segments pages
        → hosted_tape reopens.disk ≡ Some (read_tape (host_state segments))
    pub ends : HasBothEnds reopens.disk calls

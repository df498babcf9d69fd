-- How a log begins and ends, by its first session and its last one.
use Rattle.std.specs.Prelude.{◌≡◌, ◌<◌, Some}
use Rattle.segment_disk.specs.Tape.{empty_state}
use Rattle.handed_pages.specs.Handed.{read_tape}
use Rattle.hosted_disk.specs.Hosted.{HasBothEnds, HasNoCalls, hosted_faults, hosted_moment, hosted_tape}
use Rattle.hosted_disk.specs.declared.calls.HostCalls.{HostCalls}
use Rattle.hosted_disk.specs.declared.disk.HostedDisk.{HostedDisk}
use Rattle.machine_state.specs.Moves.{after_join, after_split, split_off}
use Rattle.machine_state.specs.Sound.{IsSetup}
use Rattle.machine_state.specs.declared.setup.Setup.{Setup}
use Rattle.wal_rule.specs.Passes.{view_of_pass}
use Rattle.wal_rule.specs.declared.pass.Pass.{Pass}
use Rattle.wal_log.specs.Closing.{ClosesLog}
use Rattle.wal_log.specs.Opening.{IsOpened}
use Rattle.wal_log.specs.declared.closing.Closed.{Closed}
use Rattle.wal_log.specs.declared.opening.OpenFaultKind.{OpenFaultKind}
use Rattle.wal_log.specs.declared.opening.OpenFaultKind.TheVariants as kinds
use Rattle.wal_log.specs.declared.wal.Wal.{Wal}
use Rattle.embedded_log.specs.declared.opening.OpenRefusal.{OpenRefusal}
use Rattle.embedded_log.specs.declared.opening.OpenRefusal.TheVariants.{Memory, Passes, Refused}
use Rattle.embedded_log.specs.declared.session.LogSession.{LogSession}
use Rattle.embedded_log.specs.Sessions.{IsOpenSession, view_of_helper, view_of_session, wal_of_session}

-- why a log was not opened: fewer than two passes are told by their name. Of a read of the disk
-- that fails no clause says more, and no segment is found on a disk that holds none
abbrev pub SaysNotOpened : Setup → OpenFaultKind → Type 0
SaysNotOpened setup kinds.BadSetup = IsSetup setup → ⊥
SaysNotOpened setup kinds.Memory = IsSetup setup
SaysNotOpened setup (kinds.Disk faults) = IsSetup setup
SaysNotOpened setup kinds.NotEmpty = ⊥
SaysNotOpened setup (kinds.Beyond segment) = ⊥
SaysNotOpened setup (kinds.Foreign stop) = ⊥

abbrev pub SaysOpenRefusal : Setup → OpenRefusal → Type 0
SaysOpenRefusal setup Passes = setup.passes < 2
SaysOpenRefusal setup Memory = Unit {0}
SaysOpenRefusal setup (Refused kind) = SaysNotOpened setup kind

module _ {H : Type 0} where
  -- a session has a log's first pass, and a helper that was split off it
  pub record IsFirstOn (wal : Wal HostedDisk) (first : Pass) (session : LogSession H) : Type 0 where
    pub log : wal_of_session session ≡ wal
    pub pass : view_of_session session ≡ after_split (view_of_pass first)
    pub helper : view_of_helper session ≡ split_off (view_of_pass first)
    pub kept : IsOpenSession session

  -- .. of a log that was opened on a hosted disk that held nothing, and of which nobody had called
  -- anything
  pub record OpensSession (setup : Setup) (session : LogSession H) : Type 0 where
    pub disk : HostedDisk
    pub untouched : HasNoCalls disk
    pub nothing : hosted_tape disk ≡ Some (read_tape empty_state)
    pub first : Pass
    pub opened : IsOpened hosted_tape hosted_moment hosted_faults setup disk
        (wal_of_session session) first
    pub begins : IsFirstOn (wal_of_session session) first session

  -- .. and what the host has of it: the other end of that disk's queue
  pub record OpensWithHost (setup : Setup) (session : LogSession H) (calls : HostCalls H) : Type 0
    where
      pub opens : OpensSession setup session
      pub ends : HasBothEnds opens.disk calls

  -- the log was closed by a pass that took the session's own and its helper in
  pub record ClosesSession (session : LogSession H) (closed : Closed HostedDisk) : Type 0 where
    pub pass : Pass
    pub view : view_of_pass pass ≡ after_join (view_of_session session) (view_of_helper session)
    pub closes : ClosesLog hosted_tape hosted_moment hosted_faults (wal_of_session session) pass
        closed

-- What a fault says of a log that was to be opened, anew or to be gone on with.
use Rattle.std.specs.Prelude.{IfSome, IsSome, Option, Some}
use Rattle.std.proofs.Common.{◌≡◌, List, false, true, sym, subst}
use Rattle.segment_disk.specs.Tape.{Tape, empty_state, page_of_segment, state_now}
use Rattle.handed_pages.specs.Handed.{read_tape}
use Rattle.handed_pages.specs.declared.page.HandedPage.{HandedPage}
use Rattle.hosted_disk.specs.HostSegments.{HostSegment, host_state}
use Rattle.hosted_disk.specs.Hosted.{hosted_faults, hosted_moment, hosted_tape}
use Rattle.hosted_disk.specs.declared.disk.HostedDisk.{HostedDisk}
use Rattle.machine_state.specs.declared.setup.Setup.{Setup}
use Rattle.wal_log.specs.Opening.{TellsOpenFault}
use Rattle.wal_log.specs.Reopening.{TellsReopenFault}
use Rattle.wal_log.specs.declared.opening.OpenFaultKind.{OpenFaultKind}
use Rattle.wal_log.specs.declared.opening.OpenFaultKind.TheVariants.{BadSetup, NotEmpty, Beyond, Foreign}
use Rattle.wal_log.specs.declared.opening.OpenFaultKind.TheVariants as kinds
use Rattle.embedded_log.specs.Opened.{SaysNotOpened}
use Rattle.embedded_log.specs.Reopened.{HasHanded, IsStopOf, SaysRefused, SaysReopenStop}
use Rattle.embedded_log.specs.declared.reopening.ReopenStop.{ReopenStop}
use Rattle.embedded_log.specs.declared.reopening.ReopenStop.TheVariants.{Memory, Passes, Refused, Room, Wants}

never : false ≡ true → ⊥
never is = cc

pub says_not_opened : (setup : Setup) (old new : HostedDisk)
    → hosted_tape old ≡ Some (read_tape empty_state) → (kind : OpenFaultKind)
    → TellsOpenFault hosted_tape hosted_moment hosted_faults setup old new kind
    → SaysNotOpened setup kind
says_not_opened setup old new nothing BadSetup told = told.0
says_not_opened setup old new nothing kinds.Memory told = told.0
says_not_opened setup old new nothing (kinds.Disk faults) told = told.0
says_not_opened setup old new nothing NotEmpty told =
    never (subst (λ (tape : Option Tape).
    IfSome tape (λ t. IsSome (page_of_segment (state_now t 1) 0))) nothing told.3)
says_not_opened setup old new nothing (Beyond segment) told = told
says_not_opened setup old new nothing (Foreign stop) told = told

module _ (setup : Setup) (segments : List HostSegment) (pages : List HandedPage)
    (old new : HostedDisk)
    (tells : HasHanded segments pages
    → hosted_tape old ≡ Some (read_tape (host_state segments))) where
  -- what is said of the disk's tape is said of the host's disk
  of_host : (P : Tape → Type 0) → IfSome (hosted_tape old) P → HasHanded segments pages
      → P (read_tape (host_state segments))
  of_host P said has = subst (λ (tape : Option Tape). IfSome tape P) (tells has) said

  abbrev Tells : OpenFaultKind → Type 0
  Tells kind = TellsReopenFault hosted_tape hosted_moment hosted_faults setup old new kind

  says_refused : (kind : OpenFaultKind) → Tells kind → SaysRefused setup segments pages kind
  says_refused BadSetup told = told.0
  says_refused kinds.Memory told = tt
  says_refused (kinds.Disk faults) told = tt
  says_refused NotEmpty told = told
  says_refused (Beyond segment) told = of_host _ told.3
  says_refused (Foreign stop) told = of_host _ told.3

  pub says_stop : (kind : OpenFaultKind) (stop : ReopenStop) → Tells kind → IsStopOf kind stop
      → SaysReopenStop setup segments pages stop
  says_stop kind Passes told of = absurd of
  says_stop kind Memory told of = tt
  says_stop kind (Wants number) told of = tt
  says_stop kind Room told of = tt
  says_stop kind (Refused same) told of =
      says_refused same (subst (λ (k : OpenFaultKind). Tells k) (sym of) told)

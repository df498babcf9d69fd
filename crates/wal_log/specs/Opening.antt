-- What an opening answers.
use Rattle.std.specs.Prelude.{◌≡◌, ℕ, Option, IfSome, IsSome, None}
use Rattle.segment_disk.specs.Cause.{RoseByOne}
use Rattle.segment_disk.specs.Tape.{IsUncalled, Tape, page_of_segment, state_now}
use Rattle.machine_state.specs.declared.setup.Setup.{Setup}
use Rattle.machine_state.specs.Sound.{IsSetup}
use Rattle.wal_rule.specs.declared.pass.Pass.{Pass}
use Rattle.wal_rule.specs.Founded.{empty_log_opening}
use Rattle.wal_rule.specs.Passes.{view_of_pass}
use Rattle.machine_state.specs.Opened.{first_view}
use Rattle.wal_rule.specs.Tables.{began_of_table}
use Rattle.wal_log.specs.declared.opening.OpenFault.{OpenFault}
use Rattle.wal_log.specs.declared.opening.OpenFaultKind.{OpenFaultKind}
use Rattle.wal_log.specs.declared.opening.OpenFaultKind.TheVariants.{BadSetup, Memory, Disk, NotEmpty, Beyond, Foreign}
use Rattle.wal_log.specs.declared.wal.Wal.{Wal}
use Rattle.wal_log.specs.Logs.{IsPassOfLog, opening_of_log, table_of}

module _ {D : Type 0} (tape : D → Option Tape) (moment faults : D → ℕ) where
  -- a log that holds nothing, with the first pass, on a disk on which page 0 of segment 1 is not
  -- there
  pub record IsOpened (setup : Setup) (disk : D) (wal : Wal D) (pass : Pass) : Type 0 where
    pub opening : opening_of_log wal
        ≡ empty_log_opening setup (moment disk) (faults disk)
    pub began : began_of_table tape (table_of wal) ≡ tape disk
    pub pass_is : IsPassOfLog wal pass
    pub view : view_of_pass pass ≡ first_view (opening_of_log wal)
    pub empty : IfSome (tape disk) (λ t. page_of_segment (state_now t 1) 0 ≡ None)

  -- why a log was not opened, and what is left of the disk
  abbrev pub TellsOpenFault : Setup → D → D → OpenFaultKind → Type 0
  TellsOpenFault setup old new BadSetup = (IsSetup setup → ⊥) × (new ≡ old)
  TellsOpenFault setup old new Memory = IsSetup setup × (new ≡ old)
  TellsOpenFault setup old new (Disk told) = IsSetup setup × IsUncalled tape moment old new
      × RoseByOne (faults old) (faults new) × (told ≡ faults new)
  TellsOpenFault setup old new NotEmpty = IsSetup setup × IsUncalled tape moment old new
      × (faults new ≡ faults old)
      × IfSome (tape old) (λ t. IsSome (page_of_segment (state_now t 1) 0))
  TellsOpenFault setup old new (Beyond segment) = ⊥
  TellsOpenFault setup old new (Foreign stop) = ⊥

  abbrev pub RefusesOpening : Setup → D → OpenFault D → Type 0
  RefusesOpening setup disk fault = TellsOpenFault setup disk fault.disk fault.kind

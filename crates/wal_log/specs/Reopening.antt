-- What a reopening answers: a log that was found, settled, and is gone on with.
use Rattle.std.specs.Prelude.{◌≡◌, ℕ, ◌+◌, ◌*◌, ◌<◌, ◌≤◌, ◌⊎◌, List, length, Option, IfSome}
use Rattle.byte_position.specs.Position.{end_address_of}
use Rattle.wal_spelling.specs.Spelling.{word_at}
use Rattle.segment_disk.specs.Cause.{Rose}
use Rattle.segment_disk.specs.Tape.{IsUncalled, Tape}
use Rattle.flush_core.specs.Settled.{HasNotSettled, HasSettled}
use Rattle.wal_page.specs.LogPlace.{IsPlace, LogPlace, word_below}
use Rattle.wal_reader.specs.declared.found.FoundRecord.{FoundRecord}
use Rattle.written_log_laws.specs.FoundLog.{end_behind, last_start_behind}
use Rattle.found_log.specs.Found.{HasBegunToSettle, IsDiskLog, RefusesLog, place_of_log}
use Rattle.found_log.specs.Words.{start_of_page}
use Rattle.found_log.specs.declared.fault.FindFault.{FindFault}
use Rattle.found_log.specs.declared.fault.FindFault.TheVariants as finding
use Rattle.found_log.specs.declared.finding.FoundLog.{FoundLog}
use Rattle.machine_state.specs.declared.setup.Setup.{Setup}
use Rattle.machine_state.specs.Opened.{IsOpenable, first_view}
use Rattle.machine_state.specs.Sound.{IsSetup}
use Rattle.machine_state.specs.Words.{Opening}
use Rattle.wal_rule.specs.declared.pass.Pass.{Pass}
use Rattle.wal_rule.specs.Founded.{found_log_opening}
use Rattle.wal_rule.specs.Passes.{view_of_pass}
use Rattle.wal_rule.specs.Tables.{began_of_table}
use Rattle.wal_log.specs.declared.opening.OpenFault.{OpenFault}
use Rattle.wal_log.specs.declared.opening.OpenFaultKind.{OpenFaultKind}
use Rattle.wal_log.specs.declared.opening.OpenFaultKind.TheVariants.{BadSetup, Memory, Disk, NotEmpty, Beyond, Foreign}
use Rattle.wal_log.specs.declared.reopening.Found.{Found}
use Rattle.wal_log.specs.declared.wal.Wal.{Wal}
use Rattle.wal_log.specs.Logs.{IsPassOfLog, opening_of_log, table_of}

-- ---- a log that was found

-- it may be gone on with under this setup: at its place, of whose page it has the words below
pub record IsFoundWithin (setup : Setup) (log : FoundLog) : Type 0 where
  pub placed : IsPlace setup.seg_size (place_of_log log)
  pub position_is : end_address_of setup.seg_size log.position ≡ log.end.0
  pub within : log.made ≤ setup.cap_segments
  pub reaches : log.end.0 ≤ log.made * setup.seg_size + setup.seg_size
  pub page_is : (j : ℕ) → start_of_page log.end.0 + 8 * j < log.end.0
      → word_at log.page.value j
      ≡ word_below setup.seg_size (place_of_log log) (start_of_page log.end.0 + 8 * j)

-- a log is opened behind it at a moment
pub record IsOpenedBehind (setup : Setup) (log : FoundLog) (moment : ℕ) (opening : Opening)
    : Type 0 where
  pub setup_is : opening.setup ≡ setup
  pub moment_is : opening.moment ≡ moment
  pub place_is : opening.place ≡ place_of_log log

-- why a log was not reopened that was not found
abbrev pub unfound_kind : FindFault → OpenFaultKind
unfound_kind finding.Memory = Memory
unfound_kind (finding.Disk faults) = Disk faults
unfound_kind (finding.Beyond segment) = Beyond segment
unfound_kind (finding.Foreign stop) = Foreign stop

-- ---- a log that is gone on with

module _ {D : Type 0} (tape : D → Option Tape) (moment faults : D → ℕ) where
  -- a log that goes on at the place where it was found to end, in the segments up to the last one
  -- made, with its first pass: it was settled up to there. The records that were read end there,
  -- and where the disk tells what it holds, they are its log
  pub record IsReopened (setup : Setup) (disk : D) (wal : Wal D) (pass : Pass) (found : Found)
      : Type 0 where
    pub records : List FoundRecord
    pub place : LogPlace
    pub made : ℕ
    pub opening : opening_of_log wal
        ≡ found_log_opening setup place made (opening_of_log wal).moment (faults disk)
    pub openable : IsOpenable (opening_of_log wal)
    pub settled : HasSettled setup.seg_size found.end.0 made (tape disk)
        (began_of_table tape (table_of wal)) (moment disk) (opening_of_log wal).moment
    pub count_is : found.count ≡ length records
    pub end_is : found.end.0 ≡ end_behind setup.seg_size records
    pub goes_on_at : end_address_of setup.seg_size place.position ≡ found.end.0
    pub prev_is : place.prev ≡ last_start_behind 0 records
    pub read : IfSome (tape disk)
        (IsDiskLog setup.seg_size setup.cap_segments records place made)
    pub pass_is : IsPassOfLog wal pass
    pub view : view_of_pass pass ≡ first_view (opening_of_log wal)

  -- the same of the log that was found there
  pub record GoesOn (setup : Setup) (log : FoundLog) (disk : D) (wal : Wal D) (pass : Pass)
      (found : Found) : Type 0 where
    pub opening : opening_of_log wal
        ≡ found_log_opening setup (place_of_log log) log.made (opening_of_log wal).moment
        (faults disk)
    pub openable : IsOpenable (opening_of_log wal)
    pub settled : HasSettled setup.seg_size log.end.0 log.made (tape disk)
        (began_of_table tape (table_of wal)) (moment disk) (opening_of_log wal).moment
    pub count_is : found.count ≡ log.count
    pub end_is : found.end ≡ log.end
    pub pass_is : IsPassOfLog wal pass
    pub view : view_of_pass pass ≡ first_view (opening_of_log wal)

  -- why a log was not opened that was found, and what is left of the disk: it is the very one where
  -- there was no memory, or it failed while it was settled
  abbrev pub LeavesUnopened : Setup → FoundLog → D → D → OpenFaultKind → Type 0
  LeavesUnopened setup log old new BadSetup = ⊥
  LeavesUnopened setup log old new Memory = new ≡ old
  LeavesUnopened setup log old new (Disk told) = HasNotSettled setup.seg_size
      log.end.0 (tape old) (tape new) (moment old) (moment new)
      × (told ≡ faults new) × Rose (faults old) (faults new)
  LeavesUnopened setup log old new NotEmpty = ⊥
  LeavesUnopened setup log old new (Beyond segment) = ⊥
  LeavesUnopened setup log old new (Foreign stop) = ⊥

  -- why a log was not reopened, and what is left of the disk: no counted call was made, but where
  -- the disk failed while the log was settled
  abbrev pub TellsReopenFault : Setup → D → D → OpenFaultKind → Type 0
  TellsReopenFault setup old new BadSetup = (IsSetup setup → ⊥) × (new ≡ old)
  TellsReopenFault setup old new Memory = IsSetup setup × IsUncalled tape moment old new
      × (faults new ≡ faults old)
  TellsReopenFault setup old new (Disk told) = IsSetup setup × (told ≡ faults new)
      × Rose (faults old) (faults new)
      × (IsUncalled tape moment old new
      ⊎ HasBegunToSettle setup.seg_size setup.cap_segments (tape old) (tape new)
      (moment old) (moment new))
  TellsReopenFault setup old new NotEmpty = ⊥
  TellsReopenFault setup old new (Beyond segment) = IsSetup setup × IsUncalled tape moment old new
      × (faults new ≡ faults old)
      × IfSome (tape old) (RefusesLog setup.seg_size setup.cap_segments
      (finding.Beyond segment))
  TellsReopenFault setup old new (Foreign stop) = IsSetup setup × IsUncalled tape moment old new
      × (faults new ≡ faults old)
      × IfSome (tape old) (RefusesLog setup.seg_size setup.cap_segments
      (finding.Foreign stop))

  abbrev pub RefusesReopening : Setup → D → OpenFault D → Type 0
  RefusesReopening setup disk fault = TellsReopenFault setup disk fault.disk fault.kind

-- The place at which a run goes on with a disk that this program left.
use Rattle.std.proofs.Common.{◌≡◌, List, length, IfSome, Option, Some, subst}
use Rattle.segment_disk.specs.Tape.{Tape}
use Rattle.wal_page.specs.Order.{Entry}
use Rattle.wal_reader.specs.declared.found.FoundRecord.{FoundRecord}
use Rattle.written_log_laws.specs.Written.{found_of}
use Rattle.found_log.specs.Found.{IsDiskLog}
use Rattle.machine_state.specs.Words.{Opening}
use Rattle.machine_laws.specs.WholeOrders.{LiesBehind}
use Rattle.wal_rule.specs.Founded.{found_log_opening}
use Rattle.run_script.specs.Asked.{AskedLine}
use Rattle.run_laws.specs.declared.told.Told.{Told}
use Rattle.reopened_log_laws.specs.FoundFirst.{AreFoundEntries}
use Rattle.reopened_log_laws.specs.WasLeft.{WasLeft}
use Rattle.reopened_log_laws.proofs.FoundPlaces.{found_places_lie_behind}
use Rattle.cli_line.specs.declared.commands.RunOptions.{RunOptions}
use Rattle.backend_cli.specs.Appending.{HoldsAppended}
use Rattle.backend_cli.specs.Outside.{Outside}
use Rattle.backend_cli.specs.Setups.{run_setup, system_id}
use Rattle.backend_cli.specs.declared.outcome.Outcome.{Outcome}

-- it lies behind the entries of the records that were left, which are those that were read
abbrev pub LiesBehindLeft : Opening → Tape → (found records : List FoundRecord) → Type 0
LiesBehindLeft opening t found records =
    (front : List Entry) × AreFoundEntries (opening.setup).seg_size t front
    × LiesBehind opening front × (found_of (opening.setup).seg_size front ≡ found)
    × (records ≡ found)

module _ (options : RunOptions) (outside : Outside) (outcome : Outcome)
    (script : List (List AskedLine)) (lists : List (List Told))
    (appended : HoldsAppended outside options outcome script lists) where
  abbrev pub appended_opening : Opening
  appended_opening = found_log_opening (run_setup options (length script)) appended.place
      appended.headline.segments appended.moment outside.disk_before

  pub lies_behind_left : (t : Tape) → outside.tape_before ≡ Some t → (found : List FoundRecord)
      → WasLeft options.geometry system_id t found
      → LiesBehindLeft appended_opening t found appended.headline.found
  lies_behind_left t told found left =
      found_places_lie_behind appended_opening options.cap_segments appended.headline.segments t
      found appended.headline.found left (appended.openable).placed appended.ends_there
      appended.prev_is
      (subst (λ (o : Option Tape). IfSome o (IsDiskLog options.geometry options.cap_segments
      appended.headline.found appended.place appended.headline.segments)) told appended.judged)

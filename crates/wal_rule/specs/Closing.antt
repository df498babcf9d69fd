-- What a closed table leaves: the writer, and the last state of the machine.
use Rattle.std.specs.Prelude.{◌≡◌, ℕ, List}
use mathlib.Core.Option.{some}
use Rattle.segment_disk.specs.Tape.{Tape}
use Rattle.machine_state.specs.Words.{Opening, position_word}
use Rattle.machine_state.specs.Views.{HasAt, View}
use Rattle.machine_state.specs.Sound.{IsSound}
use Rattle.machine_laws.specs.SharedOrders.{HasNumber}
use Rattle.machine_laws.specs.ClosedLogs.{IsClosed}
use Rattle.machine_laws.specs.RisingMoments.{LogsRise, promised_of}
use Rattle.wal_rule.specs.declared.writer.LogWriter.{LogWriter}
use Rattle.wal_rule.specs.Slotted.{IsOfLog, first_on, slot_plain}

-- a table ended with this view of its last seat, this writer and this number of the position: the
-- writer is the log's, and stood at home in a sound state of the machine, in which this was the
-- last pass, of this number among the views, and the position's word; and the moments rise that the
-- pass's log was promised, and each log that it took in
pub record ClosesWith {D : Type 0} (tape : D → Rattle.std.specs.Prelude.Option Tape)
    (moment faults : D → ℕ) (began : Rattle.std.specs.Prelude.Option Tape) (opening : Opening)
    (v : View) (w : LogWriter D) (position : ℕ) : Type 0 where
  pub of_log : IsOfLog tape faults began opening w
  pub words : List ℕ
  pub position_is : position ≡ position_word words
  pub views : List View
  pub id : ℕ
  pub here : HasAt views id v
  pub sound : IsSound (first_on began) opening words (some (slot_plain tape moment w)) views
  pub closed : IsClosed (first_on began) opening sound.order words (some (slot_plain tape moment w))
      (slot_plain tape moment w) views id v
  pub in_order : LogsRise opening (promised_of v)

-- one view has each number that the other one had
abbrev pub KeepsNumbers : View → View → Type 0
KeepsNumbers old new = (n : ℕ) → HasNumber n old.reserving → HasNumber n new.reserving

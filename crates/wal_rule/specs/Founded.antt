-- What is fixed when a table is made, of a log that holds nothing or of one that was found. Where
-- something was found, the disk is settled behind that: so what is fixed names the disk as it was
-- handed in, and the moment at which the log is opened, behind the settling.
use Rattle.std.specs.Prelude.{ℕ, Option}
use Rattle.segment_disk.specs.Tape.{Tape}
use Rattle.flush_core.specs.Planned.{settled_tape}
use Rattle.wal_page.specs.LogPlace.{LogPlace, new_place}
use Rattle.machine_state.specs.declared.setup.Setup.{Setup}
use Rattle.machine_state.specs.Views.{Plain}
use Rattle.machine_state.specs.Words.{Opening, found_end}
use Rattle.wal_rule.specs.declared.seats.Founding.{Founding}
use Rattle.wal_rule.specs.Slotted.{resting_plain}

-- what is fixed of a log that goes on at this place, in segments from 1 up to the last made
abbrev pub found_log_opening : Setup → LogPlace → (made moment faults : ℕ) → Opening
found_log_opening setup place made moment faults =
    record {
      setup = setup;
      place = place;
      made = made;
      moment = moment;
      faults = faults;
    }

-- .. and of one that holds nothing
abbrev pub empty_log_opening : Setup → (moment faults : ℕ) → Opening
empty_log_opening setup moment faults =
    found_log_opening setup (new_place setup.seg_size) 0 moment faults

abbrev pub founded_opening : {D : Type 0} → Founding D → Opening
founded_opening founding = found_log_opening founding.setup (founding.place).place
    founding.made founding.moment founding.faults

-- the disk as it was handed in
abbrev pub disk_of_founding : {D : Type 0} → Founding D → D
disk_of_founding founding = (founding.disk).value

-- its tape at the opening: as it was handed in, with the calls behind it that settle what was found
unfoldable pub began_of_founding : {D : Type 0} → (D → Option Tape) → Founding D → Option Tape
began_of_founding tape founding = settled_tape (founding.setup).seg_size
    (found_end (founded_opening founding)) founding.made (tape (disk_of_founding founding))

-- the writer that goes on behind what was found, on the disk as it was handed in
abbrev pub founded_plain : {D : Type 0} → (D → Option Tape) → (D → ℕ) → Founding D → Plain
founded_plain tape moment founding = resting_plain (tape (disk_of_founding founding))
    (moment (disk_of_founding founding)) (found_end (founded_opening founding)) founding.made

-- A table that is not begun: its memory is taken, with its words and its writer, but it is not a
-- log's yet. Where the log is to hold nothing, page 0 of segment 1 is read first; where it was
-- found, the disk is settled first. The table's one seat is no pass's yet: it is not live, and its
-- view has the writer as out, as no view has under the machine's invariant that is not live. So the
-- seat's view tells whether its table is begun.
--
-- A writer at home is told by that view as plain data, whatever was called with it: so it may be
-- one on the disk as it was handed in, or one that comes back behind calls of it. Of the disk the
-- rule says only what it held at first: with the calls that the view tells, that is its tape.
use Rattle.std.specs.Prelude.{◌≡◌, ◌⊎◌, ℕ, false, List, [], ◌∷◌, None}
use mathlib.Core.Option.{Option, none, some}
use Rattle.segment_disk.specs.Tape.{Tape}
use Rattle.machine_state.specs.Words.{Opening}
use Rattle.machine_state.specs.Moves.{no_writing}
use Rattle.machine_state.specs.Opened.{AreFirstWords, IsFirstWriter, first_view}
use Rattle.wal_rule.specs.declared.seats.Founding.{Founding}
use Rattle.wal_rule.specs.declared.writer.LogWriter.{LogWriter}
use Rattle.wal_rule.specs.Founded.{founded_opening, founded_plain}
use Rattle.wal_rule.specs.Ruled.{IsRuled}
use Rattle.machine_state.specs.Views.{Out, Plain, View}
use Rattle.wal_rule.specs.Slotted.{first_on, resting_plain, slot_disk, slot_plain, slot_segment_size}

-- the view of a seat whose table is not begun, with this of the writer, this number that tells
-- where it is, and this count of faults: that of the first pass otherwise, but not live
abbrev pub view_before : Opening → Plain → (known faults : ℕ) → View
view_before opening writer known faults = record (first_view opening) {
  reserving = record (first_view opening).reserving { live = false };
  writing = record no_writing {
    down_set = faults;
    hold = Out (record {
      writer = writer;
      known = known;
      staged = [];
      hard = 0;
      hard_moment = 0;
      stored = 0;
    });
  };
}

-- the seat waits: the writer is at home, and the view tells it, and the disk's count of faults
abbrev pub waiting_view : Opening → Plain → (faults : ℕ) → View
waiting_view opening writer faults = view_before opening writer 1 faults

-- the seat has the writer in hand, of which its view tells nothing
abbrev pub reading_view : Opening → View
reading_view opening = view_before opening (resting_plain None 0 0 0) 0 0

-- the only view of a new table: it waits, with the writer on the disk as it was handed in
abbrev pub founded_view : {D : Type 0} → (D → Rattle.std.specs.Prelude.Option Tape) → (D → ℕ)
    → Founding D → View
founded_view tape moment founding =
    waiting_view (founded_opening founding) (founded_plain tape moment founding) founding.faults

-- a writer of a table that is not begun: it makes segments of the log's size, on a disk that held
-- at first what the one of the opening did
pub record IsUnbegunWriter {D : Type 0} (tape : D → Rattle.std.specs.Prelude.Option Tape)
    (opening : Opening) (began : Rattle.std.specs.Prelude.Option Tape) (w : LogWriter D)
    : Type 0 where
  pub size_is : slot_segment_size w ≡ (opening.setup).seg_size
  pub on_first : first_on (tape (slot_disk w)) ≡ first_on began

-- the writer with which a table may be begun: its disk has the tape of the opening, and of its log
-- just what was found is written
pub record IsUncalledWriter {D : Type 0} (tape : D → Rattle.std.specs.Prelude.Option Tape)
    (moment : D → ℕ) (opening : Opening) (began : Rattle.std.specs.Prelude.Option Tape)
    (w : LogWriter D) : Type 0 where
  pub first : IsFirstWriter opening (slot_plain tape moment w)
  pub size_is : slot_segment_size w ≡ (opening.setup).seg_size
  pub tape_is : tape (slot_disk w) ≡ began

module _ {D : Type 0} (tape : D → Rattle.std.specs.Prelude.Option Tape) (moment faults : D → ℕ)
    (opening : Opening) (began : Rattle.std.specs.Prelude.Option Tape)
  where
    -- the seat waits where the writer is at home, and has it in hand where the slot is empty
    abbrev pub view_by_home : Option (LogWriter D) → View
    view_by_home none = reading_view opening
    view_by_home (some w) =
        waiting_view opening (slot_plain tape moment w) (faults (slot_disk w))

    -- the table is not begun: its words are those with which its log is opened, and there is no
    -- other seat
    pub record IsBeginning (words : List ℕ) (homes : List (Option (LogWriter D)))
        (views : List View) : Type 0 where
      pub words_are : AreFirstWords opening words
      pub home : Option (LogWriter D)
      pub homes_are : homes ≡ home ∷ []
      pub unbegun : (w : LogWriter D) → home ≡ some w → IsUnbegunWriter tape opening began w
      pub views_are : views ≡ view_by_home home ∷ []

    -- the rule of the table: it is not begun, or the machine's invariant holds
    abbrev pub HoldsRule : List ℕ → List (Option (LogWriter D)) → List View → Type 0
    HoldsRule words homes views = IsBeginning words homes views
        ⊎ IsRuled tape moment faults opening began words homes views

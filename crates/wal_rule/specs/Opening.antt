-- What a table is opened with, and why it was not opened.
use Rattle.std.specs.Prelude.{◌≡◌, ℕ, [], Option, IfSome, IsSome}
use Rattle.atomic_table.specs.declared.shared.Seat.{Seat}
use Rattle.segment_disk.specs.Cause.{Rose, RoseByOne}
use Rattle.segment_disk.specs.Tape.{IsUncalled, Tape, page_of_segment, state_now}
use Rattle.flush_core.specs.Settled.{HasNotSettled}
use Rattle.machine_state.specs.Opened.{IsFirstWriter}
use Rattle.machine_state.specs.Views.{View}
use Rattle.wal_rule.specs.declared.opening.OpenErr.{OpenErr}
use Rattle.wal_rule.specs.declared.opening.OpenErr.TheVariants.{Memory, Disk, NotEmpty}
use Rattle.wal_rule.specs.declared.resuming.ResumeErr.{ResumeErr}
use Rattle.wal_rule.specs.declared.resuming.ResumeErr.TheVariants as resuming
use Rattle.wal_rule.specs.declared.seats.Founding.{Founding}
use Rattle.wal_rule.specs.declared.table.LogTable.{LogTable}
use Rattle.wal_rule.specs.declared.writer.LogWriter.{LogWriter}
use Rattle.wal_rule.specs.Beginning.{founded_view}
use Rattle.wal_rule.specs.Founded.{disk_of_founding, founded_opening, founded_plain}
use Rattle.wal_rule.specs.Slotted.{slot_disk, slot_plain, slot_segment_size}
use Rattle.wal_rule.specs.Tables.{opening_of_table, table_number}

-- a writer with which a log is opened, on the disk of which was told what is fixed of a table: its
-- content, its moment and its count of faults
pub record IsFoundedWriter {D : Type 0} (tape : D → Option Tape) (moment faults : D → ℕ)
    (founding : Founding D) (w : LogWriter D) : Type 0 where
  pub first : IsFirstWriter (founded_opening founding) (slot_plain tape moment w)
  pub disk : disk_of_founding founding ≡ slot_disk w
  pub size : slot_segment_size w ≡ (founding.setup).seg_size
  pub failed : founding.faults ≡ faults (slot_disk w)

-- a writer with which a log is gone on with once its disk is settled: of the disk was told what is
-- fixed of a table but for the moment, which is the one behind the settling
pub record IsUnsettledWriter {D : Type 0} (tape : D → Option Tape) (moment faults : D → ℕ)
    (founding : Founding D) (w : LogWriter D) : Type 0 where
  pub plain : slot_plain tape moment w ≡ founded_plain tape moment founding
  pub disk : disk_of_founding founding ≡ slot_disk w
  pub size : slot_segment_size w ≡ (founding.setup).seg_size
  pub failed : founding.faults ≡ faults (slot_disk w)

-- the same as far as the disk's tape, its moment and its count of faults tell it
pub record IsAsFounded {D : Type 0} (tape : D → Option Tape) (moment faults : D → ℕ)
    (founding : Founding D) (w : LogWriter D) : Type 0 where
  pub plain_is : slot_plain tape moment w ≡ founded_plain tape moment founding
  pub tape_is : tape (slot_disk w) ≡ tape (disk_of_founding founding)
  pub size_is : slot_segment_size w ≡ (founding.setup).seg_size
  pub failed_is : faults (slot_disk w) ≡ founding.faults

-- the seat of a new table, which waits: nothing was called since what is fixed was told
pub record IsWaitingSeat {D : Type 0} (tape : D → Option Tape) (moment : D → ℕ) (t : LogTable D)
    (seat : Seat (LogWriter D) View) : Type 0 where
  pub table : seat.table_id ≡ table_number t
  pub waits : seat.me ≡ (founded_view tape moment ((t.table).shared).key, [])

-- what is fixed of a table is the disk's moment and its count of faults as it was handed in
pub record IsFoundedNow {D : Type 0} (moment faults : D → ℕ) (t : LogTable D) : Type 0 where
  pub counted : moment (disk_of_founding ((t.table).shared).key) ≡ (opening_of_table t).moment
  pub failed : faults (disk_of_founding ((t.table).shared).key) ≡ (opening_of_table t).faults

-- what is left of the disk: it is the very one, or it was read, with one fault more or none
abbrev pub TellsOpenErr : {D : Type 0} → (D → Option Tape) → (moment faults : D → ℕ) → D
    → OpenErr D → Type 0
TellsOpenErr tape moment faults old (Memory new) = new ≡ old
TellsOpenErr tape moment faults old (Disk new) = IsUncalled tape moment old new
    × RoseByOne (faults old) (faults new)
TellsOpenErr tape moment faults old (NotEmpty new) = IsUncalled tape moment old new
    × (faults new ≡ faults old)
    × IfSome (tape old) (λ t. IsSome (page_of_segment (state_now t 1) 0))

-- what is left of a disk whose log, in segments of this size, was found to end at this address: it
-- is the very one, or it failed while it was settled
abbrev pub TellsResumeErr : {D : Type 0} → (D → Option Tape) → (moment faults : D → ℕ)
    → (size end : ℕ) → D → ResumeErr D → Type 0
TellsResumeErr tape moment faults size end old (resuming.Memory new) = new ≡ old
TellsResumeErr tape moment faults size end old (resuming.Disk new told) =
    HasNotSettled size end (tape old) (tape new) (moment old) (moment new)
    × (told ≡ faults new) × Rose (faults old) (faults new)

-- All lives of a log on one disk, for a program that embeds `Wal`. A life is an opening, by
-- `Wal::open` or `Wal::reopen`, all that was done until `Wal::close`, and how it ends: the disk
-- comes back, its process is killed, or its machine crashes. Of these calls nothing is said but
-- what they promise in their clauses, and of those in between what the closing pass has of them:
-- the promises of flushes, to itself and to each pass that was taken in.
--
-- `size` is the size of a segment in bytes, `sysid` the log's system id. `t` is the disk's tape
-- when a life begins, `now` the one that the close leaves, `next` what is left for the next life.
-- `order` is the log so far, and `hard` are records of it that were promised to be durable in some
-- life. (A life that is cut short at a moment is one whose later calls of the disk and answers
-- nobody saw.)
use Rattle.std.specs.Prelude.{◌≡◌, ℕ, ◌^◌, ◌<◌, ◌≤◌, All, Contains, List, [], ◌++◌, length, Option, Some}
use Rattle.byte_position.specs.Geometry.{IsSegmentSize}
use Rattle.segment_disk.specs.Tape.{Tape, state_now}
use Rattle.flush_core.specs.Pages.{HoldsNothing}
use Rattle.wal_page.specs.Order.{Entry}
use Rattle.wal_reader.specs.declared.found.FoundRecord.{FoundRecord}
use Rattle.written_log_laws.specs.Written.{found_of}
use Rattle.machine_state.specs.declared.setup.Setup.{Setup}
use Rattle.machine_state.specs.Views.{FlushPromise, View}
use Rattle.wal_rule.specs.declared.pass.Pass.{Pass}
use Rattle.wal_rule.specs.Passes.{view_of_pass}
use Rattle.wal_rule.specs.Tables.{began_of_table}
use Rattle.wal_log.specs.declared.closing.Closed.{Closed}
use Rattle.wal_log.specs.declared.opening.OpenFault.{OpenFault}
use Rattle.wal_log.specs.declared.reopening.Found.{Found}
use Rattle.wal_log.specs.declared.wal.Wal.{Wal}
use Rattle.wal_log.specs.Closing.{ClosesLog}
use Rattle.wal_log.specs.Logs.{opening_of_log, table_of}
use Rattle.wal_log.specs.Opening.{IsOpened}
use Rattle.wal_log.specs.Reopening.{IsReopened, RefusesReopening}
use Rattle.run_laws.specs.Closed.{WasPromised}
use Rattle.reopened_log_laws.specs.FoundFirst.{AreFoundEntries}
use Rattle.reopened_log_laws.specs.Lives.{LifeEndsAt}

-- a record of the log, and by a moment it was promised to the closing pass, or to one that was
-- taken in, that all up to the record's end is durable: so is that of each commit whose receipt
-- names that moment or an earlier one
abbrev pub IsPromisedDurable : (size moment : ℕ) → List Entry → View → FoundRecord → Type 0
IsPromisedDurable size moment order v r = Contains (found_of size order) r
    × (entries : List Entry) × (p : FlushPromise) × WasPromised v entries p
    × (p.moment ≤ moment) × (r.head.end.0 ≤ p.upto)

module _ {D : Type 0} (tape : D → Option Tape) (moment faults : D → ℕ) where
  -- a disk with this tape is handed to an opening that asks for a log of this kind
  pub record IsHandedIn (size sysid : ℕ) (t : Tape) (setup : Setup) (disk : D) : Type 0 where
    pub sized : setup.seg_size ≡ size
    pub named : setup.sysid ≡ sysid
    pub before : tape disk ≡ Some t

  -- the order of what was reserved, as the close has it
  abbrev pub order_of : (wal : Wal D) (pass : Pass) (closed : Closed D)
      → ClosesLog tape moment faults wal pass closed → List Entry
  order_of wal pass closed closes = ((closes.closes).sound).order

  -- a log was filled behind these entries and closed, and its life ended at a moment since the
  -- opening
  pub record IsLived (size : ℕ) (wal : Wal D) (front : List Entry) (next : Tape)
      (order : List Entry) (hard : List FoundRecord) : Type 0 where
    pub pass : Pass
    pub closed : Closed D
    pub closes : ClosesLog tape moment faults wal pass closed
    pub order_is : order ≡ front ++ order_of wal pass closed closes
    pub now : Tape
    pub after : tape closed.disk ≡ Some now
    pub at : ℕ
    pub since : (opening_of_log wal).moment ≤ at
    pub ends : LifeEndsAt size order now at next
    pub promised : All (IsPromisedDurable size at order (view_of_pass pass)) hard

  -- one that begins, on a disk that holds nothing
  pub record BeginsWal (size sysid : ℕ) (t next : Tape) (order : List Entry)
      (hard : List FoundRecord) : Type 0 where
    pub setup : Setup
    pub disk : D
    pub wal : Wal D
    pub first : Pass
    pub handed : IsHandedIn size sysid t setup disk
    pub empty : HoldsNothing (Some t)
    pub opened : IsOpened tape moment faults setup disk wal first
    pub lived : IsLived size wal [] next order hard

  -- one that is gone on with
  pub record ContinuesWal (size sysid : ℕ) (t next : Tape) (order : List Entry)
      (hard : List FoundRecord) : Type 0 where
    pub setup : Setup
    pub disk : D
    pub wal : Wal D
    pub first : Pass
    pub found : Found
    pub handed : IsHandedIn size sysid t setup disk
    pub reopened : IsReopened tape moment faults setup disk wal first found
    -- behind the entries of the records that the reader finds there
    pub front : List Entry
    pub below : AreFoundEntries size t front
    pub lived : IsLived size wal front next order hard

  -- such a life that was cut short while what was found was settled: the log is as it was
  pub record EndsReopening (size sysid : ℕ) (t next : Tape) (order : List Entry) : Type 0 where
    pub setup : Setup
    pub disk : D
    pub wal : Wal D
    pub first : Pass
    pub found : Found
    pub handed : IsHandedIn size sysid t setup disk
    pub reopened : IsReopened tape moment faults setup disk wal first found
    pub began : Tape
    pub began_is : began_of_table tape (table_of wal) ≡ Some began
    pub at : ℕ
    pub since : moment disk ≤ at
    pub early : at < (opening_of_log wal).moment
    pub ends : LifeEndsAt size order began at next

  -- the log was not reopened, since the disk failed while it was settled or for another cause
  pub record FailsToReopen (size sysid : ℕ) (t next : Tape) (order : List Entry) : Type 0 where
    pub setup : Setup
    pub disk : D
    pub fault : OpenFault D
    pub handed : IsHandedIn size sysid t setup disk
    pub refused : RefusesReopening tape moment faults setup disk fault
    pub now : Tape
    pub after : tape fault.disk ≡ Some now
    pub at : ℕ
    pub since : moment disk ≤ at
    pub upto : at ≤ moment fault.disk
    pub ends : LifeEndsAt size order now at next

-- Such lives one behind another. In between the disk may rest, as behind a `Wal::open` that is
-- refused, or a read of the log, and its machine may crash then too; or who has the disk hands it
-- in anew, as it stands then, with what waits for a sync, and without the calls that made it so
pub data WalHistory {D : Type 0} (tape : D → Option Tape) (moment faults : D → ℕ) (size sysid : ℕ)
    : Tape → List Entry → List FoundRecord → Type 0 where
  starts_empty : {t : Tape} → IsSegmentSize size → 0 < sysid → sysid < 2 ^ 64
      → HoldsNothing (Some t) → WalHistory tape moment faults size sysid t [] []
  opens : {t next : Tape} {before order : List Entry} {hard more : List FoundRecord}
      → WalHistory tape moment faults size sysid t before hard
      → BeginsWal tape moment faults size sysid t next order more
      → WalHistory tape moment faults size sysid next order (hard ++ more)
  reopens : {t next : Tape} {before order : List Entry} {hard more : List FoundRecord}
      → WalHistory tape moment faults size sysid t before hard
      → ContinuesWal tape moment faults size sysid t next order more
      → WalHistory tape moment faults size sysid next order (hard ++ more)
  ends_reopening : {t next : Tape} {order : List Entry} {hard : List FoundRecord}
      → WalHistory tape moment faults size sysid t order hard
      → EndsReopening tape moment faults size sysid t next order
      → WalHistory tape moment faults size sysid next order hard
  fails_to_reopen : {t next : Tape} {order : List Entry} {hard : List FoundRecord}
      → WalHistory tape moment faults size sysid t order hard
      → FailsToReopen tape moment faults size sysid t next order
      → WalHistory tape moment faults size sysid next order hard
  rests : {t next : Tape} {order : List Entry} {hard : List FoundRecord}
      → WalHistory tape moment faults size sysid t order hard
      → LifeEndsAt size order t (length t.calls) next
      → WalHistory tape moment faults size sysid next order hard
  handed_anew : {t : Tape} {order : List Entry} {hard : List FoundRecord}
      → WalHistory tape moment faults size sysid t order hard
      → WalHistory tape moment faults size sysid (record { at_first = state_now t; calls = [] })
      order hard

-- One theorem over all lives of a log that a program embeds: a record that was promised to be
-- durable is in the log for ever, through any number of openings, crashes, kills, failed disks and
-- reopenings.
use Rattle.std.specs.Prelude.{◌≡◌, ℕ, ◌+◌, ◌^◌, ◌<◌, ◌≤◌, ◌≢◌, All, List, [], ◌∷◌, ◌++◌, length, Option, IsSome, Some}
use Rattle.byte_position.specs.Geometry.{IsSegmentSize}
use Rattle.wal_spelling.specs.Spelling.{Assembled, assembled}
use Rattle.wal_types.specs.declared.answers.Sealed.{Sealed}
use Rattle.segment_disk.specs.DiskImage.{DiskImage, MayLeave}
use Rattle.segment_disk.specs.Tape.{Tape, state_now}
use Rattle.flush_core.specs.Pages.{HoldsNothing}
use Rattle.wal_page.specs.Order.{Entry}
use Rattle.wal_reader.specs.declared.found.FoundRecord.{FoundRecord}
use Rattle.wal_reader.specs.declared.found.Stopped.{Stopped}
use Rattle.wal_reader.specs.Cache.{log_of}
use Rattle.wal_reader.specs.Finds.{FindsRecords}
use Rattle.wal_reader.specs.Pages.{pages_in}
use Rattle.written_log_laws.specs.Torn.{NoTornPass}
use Rattle.written_log_laws.specs.Written.{found_of}
use Rattle.machine_state.specs.declared.setup.Setup.{Setup}
use Rattle.machine_state.specs.Views.{View}
pub use Rattle.machine_state.specs.Ordered.{entries_under, is_pass}
use Rattle.machine_laws.specs.WholeOrders.{IsWholeOrder, LiesBehind}
use Rattle.wal_rule.specs.declared.pass.Pass.{Pass}
use Rattle.wal_rule.specs.Passes.{view_of_pass}
use Rattle.wal_log.specs.declared.closing.Closed.{Closed}
use Rattle.wal_log.specs.declared.opening.OpenFaultKind.TheVariants.{Foreign}
use Rattle.wal_log.specs.declared.reopening.Found.{Found}
use Rattle.wal_log.specs.declared.wal.Wal.{Wal}
use Rattle.wal_log.specs.Closing.{ClosesLog}
use Rattle.wal_log.specs.Committing.{IsSealed}
use Rattle.wal_log.specs.Logs.{opening_of_log, setup_of_log}
use Rattle.wal_log.specs.PassLogs.{log_of_pass}
use Rattle.wal_log.specs.Reopening.{IsReopened, TellsReopenFault}
use Rattle.wal_log_laws.specs.Growing.{HasGrown, NumberedLog, logs_of_pass}
use Rattle.reopened_log_laws.specs.FoundFirst.{AreFoundEntries}
use Rattle.reopened_log_laws.specs.Lives.{IsFrontWith}
use Rattle.wal_log_laws.specs.History.{BeginsWal, ContinuesWal, WalHistory, IsHandedIn, IsPromisedDurable, order_of}

-- an order is made by passes: each entry is of a pass, each log has its pass's entries in their
-- order, and no other pass has any
pub record IsMadeBy (order : List Entry) (logs : List NumberedLog) : Type 0 where
  pub named : All (λ e. IsSome e.pass) order
  pub own : All (λ l. l.log.entries ≡ entries_under l.number order) logs
  pub no_other : (number : ℕ) → All (λ l. number ≢ l.number) logs → entries_under number order ≡ []

-- the first record starts at an address or behind it, and each other one behind the one before it
abbrev pub StartsRise : ℕ → List FoundRecord → Type 0
StartsRise low [] = Unit {0}
StartsRise low (r ∷ records) = (low ≤ r.head.start.0) × StartsRise (r.head.start.0 + 1) records

module _ {D : Type 0} (tape : D → Option Tape) (moment faults : D → ℕ) where
  pub record KeepsPromised (size sysid : ℕ) (t : Tape) (order : List Entry)
      (hard : List FoundRecord) : Type 0 where
    -- no two of the log's records start at one address
    pub apart : StartsRise 0 (found_of size order)
    -- The reader finds a front of the log on the disk, each record whole, with all that was
    -- promised,
    pub reads : (records : List FoundRecord) → FindsRecords size (log_of t size) size records
        → IsFrontWith size order hard records
    -- and on each image that a crash may leave of it, if no torn record passes its CRC there
    pub crash : (image : DiskImage) (records : List FoundRecord) → MayLeave (state_now t) image
        → NoTornPass size (pages_in size image) order
        → FindsRecords size (pages_in size image) size records
        → IsFrontWith size order hard records
    -- A reopening is not refused as of another program's log, whatever stands on the disk;
    pub not_foreign : (setup : Setup) (disk left : D) (stop : Stopped)
        → IsHandedIn tape moment faults size sysid t setup disk
        → TellsReopenFault tape moment faults setup disk left (Foreign stop) → ⊥
    -- where it opens the log, it finds such records, whose entries lie below its place,
    pub finds : (setup : Setup) (disk : D) (wal : Wal D) (first : Pass) (found : Found)
        → IsHandedIn tape moment faults size sysid t setup disk
        → IsReopened tape moment faults setup disk wal first found
        → (front : List Entry) × AreFoundEntries size t front
        × LiesBehind (opening_of_log wal) front × (found.count ≡ length front)
        × IsFrontWith size order hard (found_of size front)
    -- and what is closed then goes on behind them as one log, with entries of its passes alone
    pub goes_on : (setup : Setup) (disk : D) (wal : Wal D) (first pass : Pass) (found : Found)
        (closed : Closed D) (front : List Entry)
        → IsHandedIn tape moment faults size sysid t setup disk
        → IsReopened tape moment faults setup disk wal first found
        → AreFoundEntries size t front → (c : ClosesLog tape moment faults wal pass closed)
        → IsWholeOrder (opening_of_log wal) (order_of tape moment faults wal pass closed c)
        (front ++ order_of tape moment faults wal pass closed c)
        × All (λ e. IsSome e.pass) (order_of tape moment faults wal pass closed c)

  -- this holds behind each history
  abbrev pub PromisedRecordsStay : Type 0
  PromisedRecordsStay =
      (size sysid : ℕ) (t : Tape) (order : List Entry) (hard : List FoundRecord)
      → WalHistory tape moment faults size sysid t order hard
      → KeepsPromised size sysid t order hard

  -- of each commit that was told to be durable by a moment, where the closing pass has the log of
  -- the commit's pass, grown since, the record that its receipt names is the one that was
  -- committed, and was promised to be durable: that of the log which goes on behind these entries,
  -- whichever they are
  abbrev pub CommitsArePromised : Type 0
  CommitsArePromised =
      (wal : Wal D) (front : List Entry) (pass : Pass) (closed : Closed D)
      (c : ClosesLog tape moment faults wal pass closed) (body : Assembled) (old new : View)
      (sealed : Sealed) (at : ℕ) → IsSealed (setup_of_log wal) body old new sealed
      → HasGrown (log_of_pass new) (view_of_pass pass) → sealed.moment ≤ at
      → (r : FoundRecord) × (r.head.start.0 ≡ sealed.start.0) × (r.head.end.0 ≡ sealed.end.0)
      × (assembled r.value ≡ body)
      × IsPromisedDurable (setup_of_log wal).seg_size at
      (front ++ order_of tape moment faults wal pass closed c) (view_of_pass pass) r

  -- where the closing pass took no other one in, what was reserved are its own entries
  abbrev pub LonePassesMakeTheOrder : Type 0
  LonePassesMakeTheOrder =
      (wal : Wal D) (pass : Pass) (closed : Closed D)
      (c : ClosesLog tape moment faults wal pass closed)
      → ((view_of_pass pass).reserving).joined ≡ []
      → order_of tape moment faults wal pass closed c
      ≡ (log_of_pass (view_of_pass pass)).entries

  -- and else they are its own and those of the passes that it took in, of each in its order
  abbrev pub PassesMakeTheOrder : Type 0
  PassesMakeTheOrder =
      (wal : Wal D) (pass : Pass) (closed : Closed D)
      (c : ClosesLog tape moment faults wal pass closed)
      → IsMadeBy (order_of tape moment faults wal pass closed c)
      (logs_of_pass (view_of_pass pass))

  -- so three lives of a log have all that was promised in any of them, each of which may have been
  -- killed or ended by a crash
  abbrev pub ThreeLivesKeepPromised : Type 0
  ThreeLivesKeepPromised =
      (size sysid : ℕ) (a b c d : Tape) (first second third : List Entry)
      (one two three records : List FoundRecord) → IsSegmentSize size → 0 < sysid
      → sysid < 2 ^ 64 → HoldsNothing (Some a)
      → BeginsWal tape moment faults size sysid a b first one
      → ContinuesWal tape moment faults size sysid b c second two
      → ContinuesWal tape moment faults size sysid c d third three
      → FindsRecords size (log_of d size) size records
      → IsFrontWith size third ((one ++ two) ++ three) records

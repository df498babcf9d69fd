-- All lives of a map on one disk. A life is an opening, calls one behind another, a close, and how
-- it ends: the disk comes back, its process is killed, or its machine crashes, at a moment of the
-- disk. (A life that is cut short is one whose later calls of the disk and answers nobody saw.) Of
-- its calls nothing is said but what they promise in their clauses.
--
-- `size` is the size of a segment in bytes, `sysid` the log's system id; `t` is the disk's tape
-- when a life begins, `next` what is left for the next life, and `order` is the log. `begun` are
-- the changes that the last opening found, and behind them those that were begun since, in their
-- order. `answered` has, for each change that was answered Ok in some life, all changes up to it.
use Rattle.std.specs.Prelude.{◌≡◌, ℕ, ◌^◌, ◌<◌, ◌≤◌, All, List, [], ◌∷◌, ◌++◌, length, Option, Some, Ok}
use Rattle.byte_position.specs.Geometry.{IsSegmentSize}
use Rattle.segment_disk.specs.Tape.{Tape}
use Rattle.flush_core.specs.Pages.{HoldsNothing}
use Rattle.wal_types.specs.declared.answers.Sealed.{Sealed}
use Rattle.wal_page.specs.Order.{Entry}
use Rattle.machine_state.specs.declared.setup.Setup.{Setup}
use Rattle.wal_log.specs.declared.closing.Closed.{Closed}
use Rattle.wal_log.specs.declared.wal.Wal.{Wal}
use Rattle.wal_log.specs.Closing.{ClosesLog}
use Rattle.wal_rule.specs.declared.pass.Pass.{Pass}
use Rattle.wal_rule.specs.Tables.{began_of_table}
use Rattle.wal_log.specs.Logs.{opening_of_log, table_of}
use Rattle.reopened_log_laws.specs.FoundFirst.{AreFoundEntries}
use Rattle.reopened_log_laws.specs.Lives.{LifeEndsAt}
use Rattle.wal_log_laws.specs.History.{IsHandedIn, order_of}
pub use Rattle.durable_map.specs.Calls.{ChangeCall, LeadTo, begun_in}
use Rattle.durable_map.specs.Changes.{MapChange}
use Rattle.durable_map.specs.Opening.{OpensMap, TellsMapFault}
use Rattle.durable_map.specs.Stores.{IsOpenMap, log_under, part_under}
use Rattle.durable_map.specs.Weaving.{AreAllLanes, AreWoven, LaneCalls, PassChange, WasAnsweredInLane, changes_in}
use Rattle.durable_map.specs.declared.fault.MapFault.{MapFault}
use Rattle.durable_map.specs.declared.part.MapPart.{MapPart}
use Rattle.durable_map.specs.declared.store.DurableMap.{DurableMap}

-- ---- calls

-- these are the changes up to one that was answered Ok by a moment: those that were found, those
-- that were begun before it, and this one
pub record WasAnswered (moment : ℕ) (found : List MapChange) (calls : List ChangeCall)
    (upto : List MapChange) : Type 0 where
  pub before : List ChangeCall
  pub change : MapChange
  pub sealed : Sealed
  pub others : List ChangeCall
  pub are : calls ≡ before ++ (record { change = change; answer = Ok sealed }) ∷ others
  pub by : sealed.moment ≤ moment
  pub upto_is : upto ≡ found ++ (begun_in before ++ change ∷ [])

-- ---- lives

module _ {D : Type 0} (tape : D → Option Tape) (moment faults : D → ℕ) where
  -- a log that went on behind these entries was closed by a pass, and its life ended at a moment
  -- since the opening
  pub record EndsMap (size : ℕ) (wal : Wal D) (pass : Pass) (front : List Entry) (next : Tape)
      (order : List Entry) (at : ℕ) : Type 0 where
    pub closed : Closed D
    pub closes : ClosesLog tape moment faults wal pass closed
    pub order_is : order ≡ front ++ order_of tape moment faults wal pass closed closes
    pub now : Tape
    pub after : tape closed.disk ≡ Some now
    pub since : (opening_of_log wal).moment ≤ at
    pub ends : LifeEndsAt size order now at next

  pub record LivesMap (size sysid : ℕ) (t next : Tape) (order : List Entry)
      (begun : List MapChange) (answered : List (List MapChange)) : Type 0 where
    pub setup : Setup
    pub disk : D
    pub map : DurableMap D
    pub handed : IsHandedIn tape moment faults size sysid t setup disk
    pub opened : OpensMap tape moment faults setup disk map
    pub kept : IsOpenMap map
    pub calls : List ChangeCall
    pub last : MapPart
    pub called : LeadTo (log_under map) calls (part_under map) last
    -- behind the entries of the records that the reader finds there
    pub front : List Entry
    pub below : AreFoundEntries size t front
    pub at : ℕ
    pub ended : EndsMap size (log_under map) last.pass front next order at
    pub begun_is : begun ≡ opened.read.changes ++ begun_in calls
    pub told : All (WasAnswered at opened.read.changes calls) answered

  -- one whose map was shared by lanes once it was opened. `woven` are the changes that its log
  -- says, in its order: by the law `logs_weave_lanes` there are such, of each lane just those that
  -- were begun, in their order
  pub record SharesMap (size sysid : ℕ) (t next : Tape) (order : List Entry)
      (begun : List MapChange) (answered : List (List MapChange)) : Type 0 where
    pub setup : Setup
    pub disk : D
    pub map : DurableMap D
    pub handed : IsHandedIn tape moment faults size sysid t setup disk
    pub opened : OpensMap tape moment faults setup disk map
    pub lanes : List LaneCalls
    pub pass : Pass
    pub all : AreAllLanes (log_under map) pass lanes
    pub front : List Entry
    pub below : AreFoundEntries size t front
    pub at : ℕ
    pub ended : EndsMap size (log_under map) pass front next order at
    pub woven : List PassChange
    pub are : AreWoven
        (order_of tape moment faults (log_under map) pass ended.closed ended.closes) woven
    pub begun_is : begun ≡ opened.read.changes ++ changes_in woven
    pub told : All (WasAnsweredInLane at opened.read.changes lanes woven) answered

  -- an opening that was cut short while the log which it had found was settled: it is as it was
  pub record EndsOpening (size sysid : ℕ) (t next : Tape) (order : List Entry) : Type 0 where
    pub setup : Setup
    pub disk : D
    pub map : DurableMap D
    pub handed : IsHandedIn tape moment faults size sysid t setup disk
    pub opened : OpensMap tape moment faults setup disk map
    pub began : Tape
    pub began_is : began_of_table tape (table_of (log_under map)) ≡ Some began
    pub at : ℕ
    pub since : moment disk ≤ at
    pub early : at < (opening_of_log (log_under map)).moment
    pub ends : LifeEndsAt size order began at next

  -- no map was opened, since the disk failed or for another cause
  pub record FailsToOpen (size sysid : ℕ) (t next : Tape) (order : List Entry) : Type 0 where
    pub setup : Setup
    pub disk : D
    pub fault : MapFault D
    pub handed : IsHandedIn tape moment faults size sysid t setup disk
    pub refused : TellsMapFault tape moment faults setup disk fault.disk fault.kind
    pub at : ℕ
    pub since : moment disk ≤ at
    pub upto : at ≤ moment fault.disk
    pub now : Tape
    pub after : tape fault.disk ≡ Some now
    pub ends : LifeEndsAt size order now at next

-- Such lives one behind another; in between the disk may rest, and its machine may crash then
pub data MapHistory {D : Type 0} (tape : D → Option Tape) (moment faults : D → ℕ) (size sysid : ℕ)
    : Tape → List Entry → List MapChange → List (List MapChange) → Type 0 where
  starts_empty : {t : Tape} → IsSegmentSize size → 0 < sysid → sysid < 2 ^ 64
      → HoldsNothing (Some t) → MapHistory tape moment faults size sysid t [] [] []
  lives : {t next : Tape} {before order : List Entry} {old begun : List MapChange}
      {answered more : List (List MapChange)}
      → MapHistory tape moment faults size sysid t before old answered
      → LivesMap tape moment faults size sysid t next order begun more
      → MapHistory tape moment faults size sysid next order begun (answered ++ more)
  shares : {t next : Tape} {before order : List Entry} {old begun : List MapChange}
      {answered more : List (List MapChange)}
      → MapHistory tape moment faults size sysid t before old answered
      → SharesMap tape moment faults size sysid t next order begun more
      → MapHistory tape moment faults size sysid next order begun (answered ++ more)
  ends_opening : {t next : Tape} {order : List Entry} {begun : List MapChange}
      {answered : List (List MapChange)}
      → MapHistory tape moment faults size sysid t order begun answered
      → EndsOpening tape moment faults size sysid t next order
      → MapHistory tape moment faults size sysid next order begun answered
  fails_to_open : {t next : Tape} {order : List Entry} {begun : List MapChange}
      {answered : List (List MapChange)}
      → MapHistory tape moment faults size sysid t order begun answered
      → FailsToOpen tape moment faults size sysid t next order
      → MapHistory tape moment faults size sysid next order begun answered
  rests : {t next : Tape} {order : List Entry} {begun : List MapChange}
      {answered : List (List MapChange)}
      → MapHistory tape moment faults size sysid t order begun answered
      → LifeEndsAt size order t (length t.calls) next
      → MapHistory tape moment faults size sysid next order begun answered

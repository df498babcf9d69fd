-- The changes of several lanes of a map, as one log has them.
use Rattle.std.specs.Prelude.{◌≡◌, ◌≢◌, ℕ, ◌≤◌, All, Contains, List, [], ◌∷◌, ◌++◌, map, Option, Some, ◌==◌, if◌then◌else◌, Ok}
use Rattle.segment_disk.specs.Tape.{Tape}
use Rattle.wal_types.specs.declared.answers.Sealed.{Sealed}
use Rattle.wal_page.specs.Order.{Entry}
use Rattle.wal_rule.specs.declared.pass.Pass.{Pass}
use Rattle.wal_rule.specs.Passes.{view_of_pass}
use Rattle.wal_log.specs.declared.closing.Closed.{Closed}
use Rattle.wal_log.specs.declared.wal.Wal.{Wal}
use Rattle.wal_log.specs.Closing.{ClosesLog}
use Rattle.wal_log_laws.specs.Growing.{IsNewPass, NumberedLog, logs_of_pass, numbered_log}
use Rattle.wal_log_laws.specs.History.{order_of}
use Rattle.durable_map.specs.Calls.{ChangeCall, LeadTo, begun_in}
use Rattle.durable_map.specs.Changes.{MapChange}
use Rattle.durable_map.specs.Records.{SaysChange}
use Rattle.durable_map.specs.Stores.{view_of_part}
use Rattle.durable_map.specs.declared.part.MapPart.{MapPart}

-- ---- changes of several passes

-- a change, and the number of the pass that logged it
pub record PassChange : Type 0 where
  pub number : ℕ
  pub change : MapChange

abbrev pub changes_in : List PassChange → List MapChange
changes_in woven = map (λ c. c.change) woven

-- those of one pass
abbrev pub changes_under : ℕ → List PassChange → List MapChange
changes_under number [] = []
changes_under number (c ∷ cs) =
    if c.number == number then c.change ∷ changes_under number cs else changes_under number cs

-- a log's entries say changes, each the one at its place, which its pass logged: so there is one
-- such list at most
abbrev pub AreWoven : List Entry → List PassChange → Type 0
AreWoven [] [] = Unit {0}
AreWoven [] (c ∷ cs) = ⊥
AreWoven (e ∷ es) [] = ⊥
AreWoven (e ∷ es) (c ∷ cs) =
    ((e.pass ≡ Some c.number) × SaysChange e.value c.change) × AreWoven es cs

-- ---- lanes

-- what a lane's part was at first, its calls, and what it was then
pub record LaneCalls : Type 0 where
  pub first : MapPart
  pub calls : List ChangeCall
  pub last : MapPart

-- its pass had logged nothing at first
pub record IsLane {D : Type 0} (wal : Wal D) (lane : LaneCalls) : Type 0 where
  pub new : IsNewPass (view_of_part lane.first)
  pub called : LeadTo wal lane.calls lane.first lane.last

abbrev pub log_of_lane : LaneCalls → NumberedLog
log_of_lane lane = numbered_log (view_of_part lane.last)

abbrev pub number_of_lane : LaneCalls → ℕ
number_of_lane lane = (log_of_lane lane).number

-- the pass that closes a log has the passes of these lanes, and no other one
pub record AreAllLanes {D : Type 0} (wal : Wal D) (pass : Pass) (lanes : List LaneCalls)
    : Type 0 where
  pub each : All (IsLane wal) lanes
  pub all : logs_of_pass (view_of_pass pass) ≡ map log_of_lane lanes

-- a lane's changes that were begun are among these, in their order
abbrev pub HasItsOwn : List PassChange → LaneCalls → Type 0
HasItsOwn woven lane = changes_under (number_of_lane lane) woven ≡ begun_in lane.calls

-- these are the changes up to one that was answered Ok by a moment: those that were found, those
-- that the log has before it, of which its lane's are those that were begun before it, and this one
pub record WasAnsweredInLane (moment : ℕ) (found : List MapChange) (lanes : List LaneCalls)
    (woven : List PassChange) (upto : List MapChange) : Type 0 where
  pub lane : LaneCalls
  pub one : Contains lanes lane
  pub before : List ChangeCall
  pub change : MapChange
  pub sealed : Sealed
  pub others : List ChangeCall
  pub are : lane.calls ≡ before ++ (record { change = change; answer = Ok sealed }) ∷ others
  pub by : sealed.moment ≤ moment
  pub earlier : List PassChange
  pub later : List PassChange
  pub there : woven ≡ earlier ++ (record { number = number_of_lane lane; change = change }) ∷ later
  pub own : changes_under (number_of_lane lane) earlier ≡ begun_in before
  pub upto_is : upto ≡ found ++ (changes_in earlier ++ change ∷ [])

-- an answered call of a lane has its place among the changes that the log has
pub record HasItsPlace (lane : LaneCalls) (woven : List PassChange) (before : List ChangeCall)
    (change : MapChange) : Type 0 where
  pub earlier : List PassChange
  pub later : List PassChange
  pub there : woven ≡ earlier ++ (record { number = number_of_lane lane; change = change }) ∷ later
  pub own : changes_under (number_of_lane lane) earlier ≡ begun_in before

-- ---- what a log has of its lanes

-- the entries of a log say the changes that its lanes begun, each lane's in their order, and no
-- others; among them is each one that was answered Ok
pub record WeavesLanes (order : List Entry) (lanes : List LaneCalls) : Type 0 where
  pub woven : List PassChange
  pub are : AreWoven order woven
  pub each : All (HasItsOwn woven) lanes
  pub no_other : (number : ℕ) → All (λ lane. number ≢ number_of_lane lane) lanes
      → changes_under number woven ≡ []
  pub placed : (lane : LaneCalls) (before : List ChangeCall) (change : MapChange) (sealed : Sealed)
      (others : List ChangeCall) → Contains lanes lane
      → lane.calls ≡ before ++ (record { change = change; answer = Ok sealed }) ∷ others
      → HasItsPlace lane woven before change

module _ {D : Type 0} (tape : D → Option Tape) (moment faults : D → ℕ) where
  -- so it is with each log that lanes shared until it was closed
  abbrev pub LogsWeaveLanes : Type 0
  LogsWeaveLanes =
      (wal : Wal D) (pass : Pass) (closed : Closed D)
      (c : ClosesLog tape moment faults wal pass closed) (lanes : List LaneCalls)
      → AreAllLanes wal pass lanes
      → WeavesLanes (order_of tape moment faults wal pass closed c) lanes

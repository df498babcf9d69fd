-- The lanes of a map that threads share, and what they are asked and told.
use Rattle.std.specs.Prelude.{◌≡◌, ◌⊎◌, ℕ, ◌<◌, All, List, [], ◌∷◌, ◌++◌, length, map, slice_index_or, slice_set, Option}
use Rattle.segment_disk.specs.Tape.{Tape}
use Rattle.machine_state.specs.Views.{View}
use Rattle.wal_rule.specs.declared.pass.Pass.{Pass}
use Rattle.wal_rule.specs.Passes.{view_of_pass}
use Rattle.wal_log.specs.declared.closing.Closed.{Closed}
use Rattle.wal_log.specs.declared.wal.Wal.{Wal}
use Rattle.wal_log.specs.Closing.{ClosesLog}
use Rattle.wal_log.specs.Logs.{setup_of_log}
use Rattle.wal_log.specs.Sharing.{ShareNumbers}
use Rattle.wal_log.specs.Standing.{KeepsPass}
use Rattle.wal_log_laws.specs.Growing.{IsNewPass, NumberedLog, logs_of_pass, numbered_log}
use Rattle.durable_map.specs.Asked.{AreTold}
use Rattle.durable_map.specs.Stores.{IsPartOfLog, log_under, view_of_part, view_under}
use Rattle.durable_map.specs.declared.asked.MapCall.{MapCall}
use Rattle.durable_map.specs.declared.asked.MapTold.{MapTold}
use Rattle.durable_map.specs.declared.sharing.MapLane.{MapLane}
use Rattle.durable_map.specs.declared.sharing.SharedMap.{SharedMap}
use Rattle.durable_map.specs.declared.store.DurableMap.{DurableMap}

abbrev pub view_in_lane : MapLane → View
view_in_lane lane = view_of_part lane.part

abbrev pub log_in_lane : MapLane → NumberedLog
log_in_lane lane = numbered_log (view_in_lane lane)

-- ---- lanes that share a log

-- between two calls each lane's pass is about nothing
abbrev pub AreLanesOf : {D : Type 0} → Wal D → List MapLane → Type 0
AreLanesOf wal lanes = All (λ lane. IsPartOfLog wal lane.part) lanes

-- a pass has no numbers to give away, and took no other one in
pub record IsOnlyItself (v : View) : Type 0 where
  pub no_spares : (v.reserving).spare_end ≡ 0
  pub alone : (v.reserving).joined ≡ []

-- There is one at least. So is each one but the last, which took no pass in either, and together
-- they have all numbers of the log
pub record ShareLog {D : Type 0} (wal : Wal D) (lanes : List MapLane) : Type 0 where
  pub some : 0 < length lanes
  pub parts : AreLanesOf wal lanes
  pub others : List MapLane
  pub own : MapLane
  pub are : lanes ≡ others ++ own ∷ []
  pub only : All (λ lane. IsOnlyItself (view_in_lane lane)) others
  pub alone : ((view_in_lane own).reserving).joined ≡ []
  pub numbers : ShareNumbers (setup_of_log wal).passes (view_in_lane own)
      (map view_in_lane others)

abbrev pub lanes_of : {D : Type 0} → SharedMap D → List MapLane
lanes_of shared = (shared.lanes).items

abbrev pub IsSharedMap : {D : Type 0} → SharedMap D → Type 0
IsSharedMap shared = ShareLog shared.log (lanes_of shared)

-- no call is left with a lane, and it was told nothing
pub record IsUnasked (lane : MapLane) : Type 0 where
  pub no_calls : (lane.calls).items ≡ []
  pub not_told : (lane.told).items ≡ []

-- the log of a map is shared by lanes, each of which is idle; if the map's pass had logged nothing,
-- no lane's has
pub record IsSharedFrom {D : Type 0} (single : DurableMap D) (shared : SharedMap D) : Type 0 where
  pub log : shared.log ≡ log_under single
  pub idle : All IsUnasked (lanes_of shared)
  pub new : IsNewPass (view_under single)
      → All (λ lane. IsNewPass (view_in_lane lane)) (lanes_of shared)

-- ---- what they are asked and told

-- a lane made calls, one behind another, and has what they were told behind what it had
pub record MakesItsCalls {D : Type 0} (wal : Wal D) (calls : List MapCall) (old new : MapLane)
    : Type 0 where
  pub pass : IsPartOfLog wal new.part
  pub keeps : KeepsPass (view_in_lane old) (view_in_lane new)
  pub same_calls : new.calls ≡ old.calls
  pub made : List MapTold
  pub told_is : (new.told).items ≡ (old.told).items ++ made
  pub are : AreTold wal calls old.part made new.part

-- a lane is as it was
pub record IsSameLane (old new : MapLane) : Type 0 where
  pub part : new.part ≡ old.part
  pub calls : (new.calls).items ≡ (old.calls).items
  pub told : (new.told).items ≡ (old.told).items

-- a lane made all calls that were left with it, in their order; or none of them, for want of
-- memory, and they are forgotten
pub record WorksOff {D : Type 0} (wal : Wal D) (old new : MapLane) : Type 0 where
  pub pass : IsPartOfLog wal new.part
  pub keeps : KeepsPass (view_in_lane old) (view_in_lane new)
  pub none_left : (new.calls).items ≡ []
  pub made : List MapTold
  pub told_is : (new.told).items ≡ (old.told).items ++ made
  pub are : AreTold wal (old.calls).items old.part made new.part
      ⊎ ((made ≡ []) × (new.part ≡ old.part))

-- so did each lane
pub record WorkOff {D : Type 0} (wal : Wal D) (old new : List MapLane) : Type 0 where
  pub as_many : length new ≡ length old
  pub each : (k : ℕ) (d : MapLane) → k < length old
      → WorksOff wal (slice_index_or old k d) (slice_index_or new k d)

-- a call was left with a lane, behind those that it has
pub record HasCall (call : MapCall) (old new : MapLane) : Type 0 where
  pub part : new.part ≡ old.part
  pub calls : (new.calls).items ≡ (old.calls).items ++ call ∷ []
  pub told : (new.told).items ≡ (old.told).items

-- what a lane was told first was taken from it
pub record GivesTold (told : MapTold) (old new : MapLane) : Type 0 where
  pub part : new.part ≡ old.part
  pub calls : (new.calls).items ≡ (old.calls).items
  pub told_is : (old.told).items ≡ told ∷ (new.told).items

-- one lane was as `was` and is as `now`; the log and the other lanes are as they were
pub record ChangesLane {D : Type 0} (lane : ℕ) (So : MapLane → MapLane → Type 0)
    (old new : SharedMap D) : Type 0 where
  pub log : new.log ≡ old.log
  pub within : lane < length (lanes_of old)
  pub was : MapLane
  pub was_there : was ≡ slice_index_or (lanes_of old) lane was
  pub now : MapLane
  pub lanes : lanes_of new ≡ slice_set (lanes_of old) lane now
  pub so : So was now

-- the log and all lanes are as they were
pub record KeepsLanes {D : Type 0} (old new : SharedMap D) : Type 0 where
  pub log : new.log ≡ old.log
  pub parts : map (λ lane. lane.part) (lanes_of new) ≡ map (λ lane. lane.part) (lanes_of old)
  pub calls : map (λ lane. (lane.calls).items) (lanes_of new)
      ≡ map (λ lane. (lane.calls).items) (lanes_of old)
  pub told : map (λ lane. (lane.told).items) (lanes_of new)
      ≡ map (λ lane. (lane.told).items) (lanes_of old)

-- ---- closing

-- the closing pass is that of the last lane, and has the logs of all
pub record HasLogsOf (lanes : List MapLane) (pass : Pass) : Type 0 where
  pub others : List MapLane
  pub own : MapLane
  pub are : lanes ≡ others ++ own ∷ []
  pub logs : logs_of_pass (view_of_pass pass) ≡ map log_in_lane (own ∷ others)

module _ {D : Type 0} (tape : D → Option Tape) (moment faults : D → ℕ) where
  pub record ClosesShared (shared : SharedMap D) (closed : Closed D) : Type 0 where
    pub pass : Pass
    pub all : HasLogsOf (lanes_of shared) pass
    pub closes : ClosesLog tape moment faults shared.log pass closed

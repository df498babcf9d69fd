-- Lanes before and behind their lines, and the first pass beside them.
use Rattle.std.specs.Prelude.{◌≡◌, ℕ, ◌+◌, ◌≤◌, All, List, [], ◌∷◌, length, Vec, vec_capacity, vec_len}
use Rattle.std.specs.declared.alloc.Global.{Global}
use Rattle.machine_state.specs.declared.setup.Setup.{Setup}
use Rattle.machine_state.specs.Words.{log_limit}
use Rattle.machine_state.specs.Views.{View}
use Rattle.wal_log.specs.Logs.{setup_of_log}
use Rattle.wal_log.specs.Standing.{KeepsPass}
use Rattle.wal_log.specs.declared.wal.Wal.{Wal}
use Rattle.run_script.specs.Asked.{AskedLine}
use Rattle.run_script.specs.Bodies.{AreLinesOf}
use Rattle.run_laws.specs.declared.told.Told.{Told}
use Rattle.run_laws.specs.Played.{PlaysAllLines, state_at_first}
use Rattle.run_laws.specs.Reached.{EndsBy, ReachesAll}
use Rattle.run_backends.specs.declared.backend.AnsweredLines.{AnsweredLines}
use Rattle.run_backends.specs.declared.lane.Lane.{Lane}
use Rattle.run_backends.specs.Backends.{HasRoom, HasToldEach}
use Rattle.run_backends.specs.Sessions.{IsReserved, IsSessionOf, state_of_session, view_of_session}

abbrev pub view_of_lane : Lane → View
view_of_lane lane = view_of_session lane.session

-- the first pass beside the lanes: it has number 0, reserved nothing, took nobody in and set no
-- fault
pub record IsIdle (v : View) : Type 0 where
  pub number : (v.reserving).number ≡ 0
  pub none : (v.reserving).entries ≡ []
  pub joined : (v.reserving).joined ≡ []
  pub set_none : (v.writing).down_set ≡ 0

-- a lane's session, which took nobody in and has no number to give away
pub record HasLaneSession {D : Type 0} (wal : Wal D) (lane : Lane) : Type 0 where
  pub session : IsSessionOf wal lane.session
  pub joined : ((view_of_lane lane).reserving).joined ≡ []
  pub none_to_give : ((view_of_lane lane).reserving).spare_end ≡ 0

-- a lane before its first line
pub record IsFreshLane {D : Type 0} (wal : Wal D) (lane : Lane) : Type 0 where
  pub session : HasLaneSession wal lane
  pub unplayed : state_of_session lane.session
      ≡ state_at_first ((view_of_lane lane).reserving).seen
  pub room : HasRoom lane.backend

-- a lane that may play: it is before its first line, and its lines do what is asked for
pub record IsReadyLane {D : Type 0} (wal : Wal D) (lane : Lane) : Type 0 where
  pub fresh : IsFreshLane wal lane
  pub asked : List AskedLine
  pub lines : AreLinesOf asked lane.backend.lines.items

-- the lines that ask for this, played from the first on by a pass of a number, leave this lane
abbrev pub PlaysAsked : {D : Type 0} → Wal D → ℕ → List AskedLine → Lane → Type 0
PlaysAsked wal pass asked lane =
    PlaysAllLines (setup_of_log wal).seg_size (log_limit (setup_of_log wal)) pass asked
    lane.backend.told.items (state_of_session lane.session)

-- what playing its lines leaves of a lane
pub record PlaysLane {D : Type 0} (wal : Wal D) (old new : Lane) : Type 0 where
  pub session : IsSessionOf wal new.session
  pub keeps : KeepsPass (view_of_lane old) (view_of_lane new)
  pub lines : new.backend.lines ≡ old.backend.lines
  pub each : length new.backend.told.items ≡ length new.backend.lines.items
  pub plays : (asked : List AskedLine) → AreLinesOf asked new.backend.lines.items
      → PlaysAsked wal ((view_of_lane new).reserving).number asked new
  pub ends : All (EndsBy new.session.end.0) new.backend.told.items

-- lanes before their first lines, whose passes have the numbers from this one on, for the backends
-- of a script
abbrev pub BegunLanes : {D : Type 0} → Wal D → ℕ → List (List AskedLine) → List Lane → Type 0
BegunLanes wal pass [] [] = Unit {0}
BegunLanes wal pass (asked ∷ script) (lane ∷ lanes) =
    IsFreshLane wal lane × (((view_of_lane lane).reserving).number ≡ pass)
    × AreLinesOf asked lane.backend.lines.items × BegunLanes wal (pass + 1) script lanes
BegunLanes wal pass script others = ⊥

-- a lane that may be taken in
pub record MayBeTakenIn {D : Type 0} (wal : Wal D) (lane : Lane) : Type 0 where
  pub session : HasLaneSession wal lane
  pub ends : All (EndsBy lane.session.end.0) lane.backend.told.items

-- lanes that played the lines of a script's backends, whose passes have the numbers from this one
-- on
abbrev pub PlayedLanes : {D : Type 0} → Wal D → ℕ → List (List AskedLine) → List Lane → Type 0
PlayedLanes wal pass [] [] = Unit {0}
PlayedLanes wal pass (asked ∷ script) (lane ∷ lanes) =
    MayBeTakenIn wal lane × (((view_of_lane lane).reserving).number ≡ pass)
    × HasToldEach asked lane.backend × PlaysAsked wal pass asked lane
    × PlayedLanes wal (pass + 1) script lanes
PlayedLanes wal pass script others = ⊥

-- ---- room for lanes, and for what comes back of them

-- each backend has room for its answers, and there is room for a lane of each
pub record HasLaneRoom (backends : Vec AnsweredLines Global) (lanes : Vec Lane Global) : Type 0
  where
    pub each : All HasRoom backends.items
    pub none : lanes.items ≡ []
    pub room : vec_len backends ≤ vec_capacity lanes

-- there is room for the backend of each lane
pub record HasBackendRoom (lanes : Vec Lane Global) (backends : Vec AnsweredLines Global) : Type 0
  where
    pub none : backends.items ≡ []
    pub room : vec_len lanes ≤ vec_capacity backends

-- an end is at or above each that a line was told, and a pass has seen it reserved or it is the
-- log's start
pub record IsEndOfAll (setup : Setup) (end : ℕ) (lists : List (List Told)) (v : View) : Type 0
  where
    pub reaches : ReachesAll setup.seg_size end lists
    pub reserved : IsReserved setup end v

-- Backends, by what their lines ask for and were told.
use Rattle.std.specs.Prelude.{◌≡◌, ◌≤◌, All, List, [], ◌∷◌, length, map, Vec, vec_capacity}
use Rattle.std.specs.declared.alloc.Global.{Global}
use Rattle.run_script.specs.Asked.{AskedLine}
use Rattle.run_script.specs.Bodies.{AreLinesOf}
use Rattle.run_script.specs.declared.line.Line.{Line}
use Rattle.run_laws.specs.declared.told.Told.{Told}
use Rattle.run_backends.specs.declared.backend.AnsweredLines.{AnsweredLines}
use Rattle.run_backends.specs.declared.playing.Room.{Room}

-- what the lines of each were told
abbrev pub lists_of : List AnsweredLines → List (List Told)
lists_of backends = map (λ backend. backend.told.items) backends

-- the lines of each
abbrev pub scripts_of : List AnsweredLines → List (Vec Line Global)
scripts_of backends = map (λ backend. backend.lines) backends

-- nothing was told yet, and there is room for an answer to each line
pub record HasRoom (backend : AnsweredLines) : Type 0 where
  pub none : backend.told.items ≡ []
  pub room : length backend.lines.items ≤ vec_capacity backend.told

-- backends with these lines, and room for each of them while they play
pub record IsRoomFor (scripts : List (Vec Line Global)) (room : Room) : Type 0 where
  pub lines : scripts_of room.backends.items ≡ scripts
  pub each : All HasRoom room.backends.items
  pub no_lane : room.lanes.items ≡ []
  pub lanes_room : length scripts ≤ vec_capacity room.lanes
  pub none_played : room.played.items ≡ []
  pub played_room : length scripts ≤ vec_capacity room.played
  pub none_told : room.told.items ≡ []
  pub told_room : length scripts ≤ vec_capacity room.told

-- one backend's lines ask for this, and each was told an answer
pub record HasToldEach (asked : List AskedLine) (backend : AnsweredLines) : Type 0 where
  pub lines : AreLinesOf asked backend.lines.items
  pub each : length backend.told.items ≡ length backend.lines.items

-- so it is for each backend of a script
abbrev pub HaveToldEach : List (List AskedLine) → List AnsweredLines → Type 0
HaveToldEach [] [] = Unit {0}
HaveToldEach (asked ∷ script) (backend ∷ backends) =
    HasToldEach asked backend × HaveToldEach script backends
HaveToldEach script others = ⊥

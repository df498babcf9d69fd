-- How far a flush behind reaches, by what its backend was told before it. That it reaches the page
-- that holds the end of the backend's last record is said in specs/Told.antt.
use Rattle.std.specs.Prelude.{ℕ, ◌≤◌, List, [], ◌∷◌, max, option_map, unwrap_or}
use Rattle.run_script.specs.Asked.{Asked, AskedLine, WriteBehind}
use Rattle.run_laws.specs.declared.told.Told.{Told}
use Rattle.run_laws.specs.declared.told.Told.TheVariants.{Async, Flushed, Idle}
use Rattle.run_laws.specs.Told.{DurableTold, durable_told}

-- up to where an answer says that all is durable from a moment on; 0 where it does not
abbrev pub hard_told : Told → ℕ
hard_told told = unwrap_or (option_map (λ (d : DurableTold). d.upto.0) (durable_told told)) 0

-- where a commit ends that is answered ahead; 0 where none is
abbrev pub ahead_told : Told → ℕ
ahead_told (Async start end) = end.0
ahead_told other = 0

-- a flush behind tells no less than a receipt or a flush told the backend before (`hard`), and one
-- that finds nothing to do no less than where its commits end that were answered ahead (`ahead`)
abbrev pub CatchesUp : (hard ahead : ℕ) → Asked → Told → Type 0
CatchesUp hard ahead WriteBehind (Flushed upto moment) = hard ≤ upto.0
CatchesUp hard ahead WriteBehind (Idle upto) = (hard ≤ upto.0) × (ahead ≤ upto.0)
CatchesUp hard ahead asked others = Unit {0}

-- the answers of lines, in order
abbrev pub AllCatchUp : (hard ahead : ℕ) → List AskedLine → List Told → Type 0
AllCatchUp hard ahead [] told = Unit {0}
AllCatchUp hard ahead (line ∷ lines) [] = Unit {0}
AllCatchUp hard ahead (line ∷ lines) (told ∷ others) =
    CatchesUp hard ahead line.asked told
    × AllCatchUp (max hard (hard_told told)) (max ahead (ahead_told told)) lines others

-- so it is for each backend
abbrev pub EachCatchesUp : List (List AskedLine) → List (List Told) → Type 0
EachCatchesUp [] told = Unit {0}
EachCatchesUp (lines ∷ script) [] = Unit {0}
EachCatchesUp (lines ∷ script) (told ∷ others) =
    AllCatchUp 0 0 lines told × EachCatchesUp script others

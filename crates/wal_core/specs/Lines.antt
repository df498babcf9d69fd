-- Lines with their records assembled, and what they ask for.
use Rattle.std.specs.Prelude.{◌≡◌, ℕ, false, List, [], ◌∷◌, slice_get, Some, IfSome}
use Rattle.wal_types.specs.declared.record.Record.{Record}
use Rattle.wal_spelling.specs.Spelling.{Assembled, IsWritable, assembled, is_assembled_switch}
use Rattle.machine_turns.specs.Doing.{Ask, Inserts, Commits, Flushes}
use Rattle.machine_turns.specs.declared.script.PlainLine.{PlainLine}
use Rattle.machine_turns.specs.declared.script.PlainLine.TheVariants.{Insert, Commit, Flush}
use Rattle.machine_turns.specs.Scripts.{body_of}

-- a line inserts no record that ends its segment
abbrev pub InsertsNoSwitch : PlainLine → Type 0
InsertsNoSwitch line = IfSome (body_of line) (λ body. is_assembled_switch body ≡ false)

-- a record that can be inserted, assembled
abbrev pub IsBody : Record → Assembled → Type 0
IsBody value body = (body ≡ assembled value) × IsWritable value

-- a line does what is asked for
abbrev pub IsLineFor : Ask → PlainLine → Type 0
IsLineFor (Inserts value) (Insert body) = IsBody value body
IsLineFor (Inserts value) (Commit body) = ⊥
IsLineFor (Inserts value) Flush = ⊥
IsLineFor (Commits value) (Insert body) = ⊥
IsLineFor (Commits value) (Commit body) = IsBody value body
IsLineFor (Commits value) Flush = ⊥
IsLineFor Flushes (Insert body) = ⊥
IsLineFor Flushes (Commit body) = ⊥
IsLineFor Flushes Flush = Unit {0}

-- each does, in order
abbrev pub AreLinesFor : List Ask → List PlainLine → Type 0
AreLinesFor [] [] = Unit {0}
AreLinesFor [] (line ∷ lines) = ⊥
AreLinesFor (ask ∷ asks) [] = ⊥
AreLinesFor (ask ∷ asks) (line ∷ lines) = IsLineFor ask line × AreLinesFor asks lines

-- and so for each backend
abbrev pub AreScriptsFor : List (List Ask) → List (List PlainLine) → Type 0
AreScriptsFor [] [] = Unit {0}
AreScriptsFor [] (lines ∷ scripts) = ⊥
AreScriptsFor (asks ∷ others) [] = ⊥
AreScriptsFor (asks ∷ others) (lines ∷ scripts) =
    AreLinesFor asks lines × AreScriptsFor others scripts

-- a line inserts this record
abbrev pub InsertsRecord : Record → PlainLine → Type 0
InsertsRecord value (Insert body) = IsBody value body
InsertsRecord value (Commit body) = IsBody value body
InsertsRecord value Flush = ⊥

-- the line with this number does
abbrev pub HasRecord : List PlainLine → ℕ → Record → Type 0
HasRecord script number value =
    (line : PlainLine) × (slice_get script number ≡ Some line) × InsertsRecord value line

-- Lines as they are read: what they ask for, with its records assembled.
use Rattle.std.specs.Prelude.{◌≡◌, List, [], ◌∷◌}
use Rattle.wal_types.specs.declared.record.Record.{Record}
use Rattle.wal_spelling.specs.Record.{switch_record}
use Rattle.wal_spelling.specs.Spelling.{Assembled, IsWritable, assembled}
use Rattle.run_script.specs.declared.line.Action.{Action}
use Rattle.run_script.specs.declared.line.Action.TheVariants as actions
use Rattle.run_script.specs.declared.line.Line.{Line}
use Rattle.run_script.specs.Asked.{Asked, AskedLine, Insert, Commit, Flush, CommitAsync, WriteBehind, Switch}

-- a record that can be written, assembled
abbrev pub IsBodyOf : Record → Assembled → Type 0
IsBodyOf value body = (body ≡ assembled value) × IsWritable value

-- an action does what is asked for: the body of a segment switch is the one that there is, and that
-- of a line which inserts is none, since its record can be written
abbrev pub IsActionOf : Asked → Action → Type 0
IsActionOf (Insert value) (actions.Insert body) = IsBodyOf value body
IsActionOf (Commit value) (actions.Commit body) = IsBodyOf value body
IsActionOf Flush actions.Flush = Unit {0}
IsActionOf (CommitAsync value) (actions.CommitAsync body) = IsBodyOf value body
IsActionOf WriteBehind actions.WriteBehind = Unit {0}
IsActionOf Switch (actions.Switch body) = body ≡ assembled switch_record
IsActionOf asked others = ⊥

-- each line has the number and does what is asked for, in order
abbrev pub AreLinesOf : List AskedLine → List Line → Type 0
AreLinesOf [] [] = Unit {0}
AreLinesOf (asked ∷ others) (line ∷ lines) =
    (line.number ≡ asked.number) × IsActionOf asked.asked line.action × AreLinesOf others lines
AreLinesOf asked others = ⊥

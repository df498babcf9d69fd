-- What an action asks for.
use Rattle.std.proofs.Common.{◌≡◌}
use Rattle.wal_types.specs.declared.record.Record.{Record}
use Rattle.wal_spelling.specs.Record.{switch_record}
use Rattle.wal_spelling.specs.Spelling.{Assembled, assembled}
use Rattle.run_script.specs.Asked.{Asked, Commit, CommitAsync, Flush, Insert, Switch, WriteBehind}
use Rattle.run_script.specs.Bodies.{IsActionOf, IsBodyOf}
use Rattle.run_script.specs.declared.line.Action.TheVariants as actions

-- a fact that holds of what an action asks for, whatever its record is
module _ (P : Asked → Type 0) (body : Assembled) where
  pub holds_of_insert : ((value : Record) → IsBodyOf value body → P (Insert value))
      → (asked : Asked) → IsActionOf asked (actions.Insert body) → P asked
  holds_of_insert at (Insert value) is = at value is
  holds_of_insert at (Commit value) is = absurd is
  holds_of_insert at Flush is = absurd is
  holds_of_insert at (CommitAsync value) is = absurd is
  holds_of_insert at WriteBehind is = absurd is
  holds_of_insert at Switch is = absurd is

  pub holds_of_commit : ((value : Record) → IsBodyOf value body → P (Commit value))
      → (asked : Asked) → IsActionOf asked (actions.Commit body) → P asked
  holds_of_commit at (Insert value) is = absurd is
  holds_of_commit at (Commit value) is = at value is
  holds_of_commit at Flush is = absurd is
  holds_of_commit at (CommitAsync value) is = absurd is
  holds_of_commit at WriteBehind is = absurd is
  holds_of_commit at Switch is = absurd is

  pub holds_of_ahead : ((value : Record) → IsBodyOf value body → P (CommitAsync value))
      → (asked : Asked) → IsActionOf asked (actions.CommitAsync body) → P asked
  holds_of_ahead at (Insert value) is = absurd is
  holds_of_ahead at (Commit value) is = absurd is
  holds_of_ahead at Flush is = absurd is
  holds_of_ahead at (CommitAsync value) is = at value is
  holds_of_ahead at WriteBehind is = absurd is
  holds_of_ahead at Switch is = absurd is

  pub holds_of_switch : (body ≡ assembled switch_record → P Switch)
      → (asked : Asked) → IsActionOf asked (actions.Switch body) → P asked
  holds_of_switch at (Insert value) is = absurd is
  holds_of_switch at (Commit value) is = absurd is
  holds_of_switch at Flush is = absurd is
  holds_of_switch at (CommitAsync value) is = absurd is
  holds_of_switch at WriteBehind is = absurd is
  holds_of_switch at Switch is = at is

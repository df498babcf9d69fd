-- Under which locks a record may stand.
use Rattle.std.proofs.Common.{ℕ, List, true≢false, sym, ◌∙◌}
use Rattle.wal_types.specs.declared.record.Record.{Record}
use Rattle.wal_spelling.specs.Spelling.{IsWritable, inserted}
use Rattle.wal_spelling.proofs.SwitchLaws.{is_switch-inserted}
use Rattle.machine_state.specs.Steps.{MayStandUnder}

-- a record that can be inserted may stand under any, since it is no switch
pub MayStandUnder-inserted : (locks : List ℕ) (value : Record) → IsWritable value → MayStandUnder locks value
MayStandUnder-inserted locks value writable = record {
  logged = inserted writable;
  all_locks = λ switches. absurd (true≢false (sym switches ∙ is_switch-inserted value writable));
}

-- What a call answers that puts a record into one that its caller has.
use Rattle.std.specs.Prelude.{Result, Ok, Err}
use Rattle.wal_types.specs.declared.record.Record.{Record}

-- the record that is held then, or why there is none
abbrev pub held_after : {T E : Type 0} → Record → Result T E → Result Record E
held_after held (Ok x) = Ok held
held_after held (Err e) = Err e

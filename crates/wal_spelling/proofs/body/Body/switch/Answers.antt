use Rattle.std.proofs.Common.{refl}
use Rattle.wal_spelling.specs.Record.{switch_record}
use Rattle.wal_spelling.specs.Spelling.{switched}
use Rattle.wal_spelling.proofs.body.Body.switch.Goals as goal

pub of_parts-requires : goal.of_parts-requires
of_parts-requires c = record { value = switch_record; logged = switched refl; same = rw c.new.ensures.items refl }

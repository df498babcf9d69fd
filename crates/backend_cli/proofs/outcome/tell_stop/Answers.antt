use Rattle.backend_cli.proofs.outcome.tell_stop.Goals as goal

pub returns-in-Compressed : goal.returns-in-Compressed
returns-in-Compressed g c = rw c.in-Compressed.is c.tell_damage-in-Compressed.ensures

pub returns-in-Overwritten : goal.returns-in-Overwritten
returns-in-Overwritten g c = rw c.in-Overwritten.is c.tell_damage-in-Overwritten.ensures

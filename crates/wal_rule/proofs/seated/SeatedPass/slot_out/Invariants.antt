use Rattle.wal_rule.specs.SeatedPasses.{began_of}
use Rattle.wal_rule.proofs.seated.SeatedPass.slot_out.Given as goal

abbrev pub ghosts-slot_out_on : goal.ghosts-slot_out_on
ghosts-slot_out_on g a = record { began = began_of g.D.Disk.tape a.self.now }

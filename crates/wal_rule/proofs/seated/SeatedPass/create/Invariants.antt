use Rattle.wal_rule.specs.Called.{creates}
use Rattle.wal_rule.specs.SeatedPasses.{began_of}
use Rattle.wal_rule.proofs.seated.SeatedPass.create.Given as goal

abbrev pub ghosts-catch_up : goal.ghosts-catch_up
ghosts-catch_up g a = record {
  call = creates a._operands.now;
  ended = a._ended.now;
  began = began_of g.D.Disk.tape a.self.now;
}

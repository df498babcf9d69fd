use Rattle.wal_rule.specs.Called.{writes}
use Rattle.wal_rule.specs.SeatedPasses.{began_of}
use Rattle.wal_rule.proofs.seated.SeatedPass.write_page.Given as goal

abbrev pub ghosts-catch_up : goal.ghosts-catch_up
ghosts-catch_up g a = record {
  call = writes a._operands.now.0 a._operands.now.1 a._operands.now.2 a._operands.now.3.now;
  ended = a._ended.now;
  began = began_of g.D.Disk.tape a.self.now;
}

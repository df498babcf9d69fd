-- Two passes that insert side by side, in the tests.
use Rattle.wal_rule.specs.Passes.{view_of_pass}
use Rattle.wal_rule.specs.declared.pass.Pass.{Pass}
use Rattle.wal_log.specs.Logs.{IsPassOfLog}
use Rattle.wal_log.specs.Standing.{KeepsPass}
use Rattle.wal_log.specs.declared.wal.Wal.{Wal}

pub record AreOfLog {D : Type 0} (wal : Wal D) (passes : Pass × Pass) : Type 0 where
  pub first : IsPassOfLog wal passes.0
  pub second : IsPassOfLog wal passes.1

-- each keeps what a pass keeps in a call
pub record KeepsBoth (old new : Pass × Pass) : Type 0 where
  pub first : KeepsPass (view_of_pass old.0) (view_of_pass new.0)
  pub second : KeepsPass (view_of_pass old.1) (view_of_pass new.1)

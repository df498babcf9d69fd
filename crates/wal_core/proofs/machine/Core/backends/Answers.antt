-- There are fewer backends than passes.
use Rattle.std.proofs.Common.{arith}
use Rattle.wal_core.specs.Cores.{core_of}
use Rattle.wal_core.proofs.Cores.{few_lanes}
use Rattle.wal_core.proofs.machine.Core.backends.Goals as goal

pub overflow_cast-result : goal.overflow_cast-result
overflow_cast-result c =
    let core = core_of c.args.self.now in
    omega (arith, c.len.ensures, (c.args.self.now.lanes).ok.0, few_lanes core c.requires.1.0 c.requires.1.1)

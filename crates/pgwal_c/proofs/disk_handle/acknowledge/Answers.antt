-- the program's word is taken
use Rattle.pgwal_c.specs.Told.{ProgramSays}
use Rattle.pgwal_c.proofs.disk_handle.acknowledge.Goals as goal

pub acknowledge-requires-clause-made : goal.acknowledge-requires-clause-made
unfolding ProgramSays
acknowledge-requires-clause-made c = tt

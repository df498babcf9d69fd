-- the program's word is taken of no call at all
use Rattle.pgwal_c.specs.Told.{ProgramSays}
use Rattle.pgwal_c.proofs.tests.begun.Goals as goal

pub open-requires : goal.open-requires
unfolding ProgramSays
open-requires c = tt

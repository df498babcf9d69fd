-- How far a mapper is.
use Rattle.machine_state.specs.Views.{Stage, Away, Taken, Looked, Ready, Zeroing, Published}
use Rattle.machine_state.specs.Locked.{HasTurn}
use Rattle.machine_state.specs.Paged.{IsOpen}

-- who may give the turn back has it
pub open_has : (s : Stage) → IsOpen s → HasTurn s
open_has Away is_open = is_open
open_has Taken is_open = tt
open_has (Looked at) is_open = tt
open_has (Ready at written) is_open = tt
open_has (Zeroing at count) is_open = tt
open_has (Published at) is_open = tt

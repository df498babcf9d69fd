-- A log's first pass is about nothing.
use Rattle.std.proofs.Common.{refl}
use Rattle.machine_state.specs.Words.{Opening}
use Rattle.machine_state.specs.Steps.{IsResting}
use Rattle.machine_state.specs.Opened.{first_view}

pub first_rests : (opening : Opening) → IsResting (first_view opening)
first_rests opening =
    record { place = refl; locks = refl; flight = refl; stage = refl; hold = refl }

-- Runs of the machine: so many steps of any passes, one after another.
use Rattle.std.specs.Prelude.{◌≡◌, ℕ, zero, suc}
use Rattle.machine_state.specs.Steps.{State, MachineStep}

abbrev pub Runs : ℕ → State → State → Type 0
Runs zero s t = s ≡ t
Runs (suc n) s t = (u : State) × Runs n s u × MachineStep u t

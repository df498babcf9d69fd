-- What calls that only add leave at each moment.
use Rattle.std.specs.Prelude.{ℕ, ◌≤◌}
use Rattle.segment_disk.specs.Tape.{Tape, state_at}
use Rattle.machine_state.specs.Growing.{LosesOnly, ReadsWhole}

-- of each word a crash may leave what is read, or zeros
abbrev pub LosesOnlySince : (size moment : ℕ) → Tape → Type 0
LosesOnlySince size moment t = (m : ℕ) → moment ≤ m → LosesOnly size (state_at t m)

-- pages that were whole stay so
abbrev pub StaysWholeSince : (size moment : ℕ) → Tape → Type 0
StaysWholeSince size moment t = ReadsWhole size (state_at t moment)
    → (m : ℕ) → moment ≤ m → ReadsWhole size (state_at t m)

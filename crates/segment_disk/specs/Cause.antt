-- What a count of faults says.
use Rattle.std.specs.Prelude.{◌≡◌, ℕ, ◌+◌, ◌-◌, ◌^◌, ◌<◌, ◌⊎◌, Result, MatchResult}
use Rattle.segment_disk.specs.declared.failed.Failed.{Failed}

-- the count rose, or stands at the last value that it can have
abbrev pub Rose : ℕ → ℕ → Type 0
Rose old new = (old < new) ⊎ (new ≡ 2 ^ 64 - 1)

-- the count rose by one, or stands at the last value that it can have
abbrev pub RoseByOne : ℕ → ℕ → Type 0
RoseByOne old new = (new ≡ old + 1) ⊎ ((new ≡ old) × (new ≡ 2 ^ 64 - 1))

-- an outside fails only where its count of faults rises, and nothing else changes the count
abbrev pub HasCause : {T : Type 0} → ℕ → ℕ → Result T Failed → Type 0
HasCause old new result = MatchResult result (λ _. new ≡ old) (λ _. RoseByOne old new)

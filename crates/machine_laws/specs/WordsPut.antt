-- A function of numbers with one value changed.
use Rattle.std.specs.Prelude.{◌≡◌, ◌≢◌, ℕ, ◌==◌, if◌then◌else◌}

-- `after` gives `value` at `index`, and elsewhere what `before` gives
pub record IsPut (before : ℕ → ℕ) (index value : ℕ) (after : ℕ → ℕ) : Type 0 where
  pub here : after index ≡ value
  pub elsewhere : (k : ℕ) → k ≢ index → after k ≡ before k

-- there is always one
abbrev pub put : (ℕ → ℕ) → ℕ → ℕ → ℕ → ℕ
put before index value k = if k == index then value else before k

-- Which calls fail in memory.
use Rattle.std.specs.Prelude.{ℕ, ◌+◌, ◌-◌, ◌^◌, Bool, List, min, ◌==◌}
use Rattle.std.specs.List.{list_any}

-- whether a call's number is listed
abbrev pub is_listed : List ℕ → ℕ → Bool
is_listed numbers call = list_any (λ number. number == call) numbers

-- the calls that fail, by their numbers from 1, and how many were made
pub record Failing : Type 0 where
  pub numbers : List ℕ
  pub made : ℕ

-- the next call's number, which stops at the last of 64 bits
abbrev pub next_number : Failing → ℕ
next_number failing = min (failing.made + 1) (2 ^ 64 - 1)

-- whether the next call fails
abbrev pub fails_next : Failing → Bool
fails_next failing = is_listed failing.numbers (next_number failing)

-- with the next call made
abbrev pub after_next : Failing → Failing
after_next failing = record failing { made = next_number failing }

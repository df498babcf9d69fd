-- Bytes taken away by a multiple of the polynomial with few terms,
-- x^209 + x^144 + x^54 + x^39 + x^14 + 1, each power standing for so many bytes.
use Rattle.std.specs.Prelude.{◌≡◌, ℕ, ◌*◌, List, [], ◌∷◌, drop}
use Rattle.std.specs.Int.Bits.{bit_xor}
use Rattle.wal_crc32c.specs.Crc32c.{times_power}
use Rattle.wal_crc32c.specs.Folding.{remainder}

-- the terms below the highest: a byte 209 bytes before a place leaves there what it leaves from
-- so many bytes before it, together
abbrev pub terms : List ℕ
terms = 144 ∷ 54 ∷ 39 ∷ 14 ∷ 0 ∷ []

-- what a number gives for each term, together
unfoldable pub over : List ℕ → (ℕ → ℕ) → ℕ
over [] f = 0
over (k ∷ ks) f = bit_xor (f k) (over ks f)

-- what the 209 bytes that were taken away last put onto the 209 behind them
abbrev pub put_on : List ℕ → ℕ
put_on taken = over terms (λ k. times_power (8 * k) (remainder (drop k taken)))

-- that is what the remainder r of all bytes so far leaves behind 209 more
abbrev pub CarriesOn : List ℕ → ℕ → Type 0
CarriesOn taken r = put_on taken ≡ times_power 1672 r

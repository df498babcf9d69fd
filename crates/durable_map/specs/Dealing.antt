-- Whose a key is: the lane that a sum of its bytes names, so that a key is always the same lane's.
use Rattle.std.specs.Prelude.{ℕ, ◌*◌, List, [], ◌∷◌, ◌%◌, bit_xor}

-- the sum of Fowler, Noll and Vo in four bytes, from one so far
abbrev pub key_sum : List ℕ → ℕ → ℕ
key_sum [] sum = sum
key_sum (byte ∷ key) sum = key_sum key (bit_xor sum byte * 16777619 % 4294967296)

-- the lane that has a key, of so many
abbrev pub lane_of_key : ℕ → List ℕ → ℕ
lane_of_key lanes key = key_sum key 2166136261 % lanes

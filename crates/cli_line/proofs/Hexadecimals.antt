-- Reading hexadecimal digits from the left.
use Rattle.std.proofs.Common.{◌≡◌, ℕ, ◌+◌, ◌*◌, ◌^◌, ◌<◌, ◌≤◌, List, add-one, map, drop, arith}
use Rattle.std.specs.List.{list_all}
use Rattle.std.specs.Int.Digits.{number_from_digits, number_from_digits_after}
use Rattle.std.proofs.Math.Nat.{pow-le-pow_right, pow-suc}
use Rattle.cli_text.specs.Hexadecimal.{hexadecimal_digit, is_hexadecimal_digit}

-- the value so far and the digits that are left make the number
pub record IsReadTo (digits : List ℕ) (i value : ℕ) : Type 0 where
  pub value_is : number_from_digits_after 16 value (map hexadecimal_digit (drop i digits)) ≡ number_from_digits 16 (map hexadecimal_digit digits)
  pub digits_are : list_all is_hexadecimal_digit (drop i digits) ≡ list_all is_hexadecimal_digit digits
  pub small : value < 16 ^ i

-- a value of fewer than eight digits leaves room for one more
pub room_for_digit : (i value : ℕ) → i < 8 → value < 16 ^ i → value * 16 + 15 < 2 ^ 32
room_for_digit i value few small =
    let fewer : i ≤ 7 = omega arith in
    let power : 16 ^ i ≤ 16 ^ 7 = pow-le-pow_right {n = 16} (omega arith) fewer in
    omega arith

pub small_with_digit : (i value digit : ℕ) → value < 16 ^ i → digit < 16 → value * 16 + digit < 16 ^ (i + 1)
small_with_digit i value digit small below = rw (add-one, pow-suc) (omega arith)

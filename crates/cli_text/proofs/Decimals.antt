-- Reading a field's digits from the left.
use Rattle.std.proofs.Common.{◌≡◌, ℕ, ◌+◌, ◌-◌, ◌*◌, ◌<◌, false, List, length, get_or, map, drop, None, refl, nat_le, arith}
use Rattle.std.specs.List.{list_all}
use Rattle.std.specs.Int.Digits.{number_from_digits_after}
use Rattle.std.proofs.lemmas.Int.Digits.{number_after_ge}
use Rattle.std.proofs.Math.Bool.{and-false}
use Rattle.std.proofs.lemmas.Bool.{lt-leb}
use Rattle.std.proofs.lemmas.List.{drop_more}
use Rattle.cli_text.specs.Numbers.{is_digit, decimal_value, number_of}

-- the value so far and the digits that are left make the field's number
pub record IsReadTo (field : List ℕ) (i value : ℕ) : Type 0 where
  pub value_is : number_from_digits_after 10 value (map (λ c. c - 48) (drop i field)) ≡ decimal_value field
  pub digits_are : list_all is_digit (drop i field) ≡ list_all is_digit field

-- a number that is too large before its last digit is too large
pub number_of_too_large : (most : ℕ) (field : List ℕ) (i value : ℕ) → i < length field → most < value * 10 + (get_or field i 0 - 48) → IsReadTo field i value → number_of most field ≡ None
number_of_too_large most field i value lt above read =
    let digit = get_or field i 0 - 48 in
    let left = map (λ (c : ℕ). c - 48) (drop (i + 1) field) in
    let step : number_from_digits_after 10 (value * 10 + digit) left ≡ decimal_value field = rw (drop_more field i 0 lt) at read.value_is in
    let at_least = number_after_ge 10 (value * 10 + digit) left (omega arith) in
    let beyond : nat_le (decimal_value field) most ≡ false = lt-leb _ _ (omega arith) in
    rw (beyond, and-false) refl

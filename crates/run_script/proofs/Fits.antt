-- What fields spell fits: numbers are no larger than they may be, and bytes are below 256.
use Rattle.std.proofs.Common.{◌≡◌, ℕ, ◌+◌, ◌-◌, ◌*◌, ◌<◌, ◌≤◌, inl, inr, ◌&&◌, List, [], ◌∷◌, length, take, drop, cond, Option, Some, None, All, eqb, leb, refl, arith, leb-true}
use Rattle.std.specs.Prelude.{codes, replicate, if◌then◌else◌}
use Rattle.std.proofs.lemmas.Bool.{cases_Bool, and_parts}
use Rattle.std.proofs.lemmas.List.Elements.{All-nil, All-cons, All-replicate}
use Rattle.run_script.specs.Text.{is_text}
use Rattle.cli_text.specs.Numbers.{is_decimal, decimal_value, number_of}
use Rattle.cli_text.specs.Hexadecimal.{hexadecimal_value}
use Rattle.run_script.specs.Hexadecimal.{pair_of, byte_spelled, onto, bytes_of, above_zero, copies, repeated_of, has_star, data_of}

abbrev IsByte : ℕ → Type 0
IsByte b = b < 256

-- a number is no larger than it may be
pub number_of-le : (most : ℕ) (field : List ℕ) (n : ℕ) → number_of most field ≡ Some n → n ≤ most
number_of-le most field n is =
    elim (cases_Bool (is_decimal field && leb (decimal_value field) most)) [
      | inl holds ↦
          (let value : Some (decimal_value field) ≡ Some n = rw holds at is in
          let same : decimal_value field ≡ n = cc in
          omega (arith, same, leb-true (decimal_value field) most (and_parts (is_decimal field) (leb (decimal_value field) most) holds).1))
      | inr fails ↦ (let none : None ≡ Some n = rw fails at is in cc)
    ]

-- a row of the table of digits
in_range-lt : (first last base c d : ℕ) (others : Option ℕ) → last < base + 16 → (others ≡ Some d → d < 16) → cond (leb first c && leb c last) (Some (c - base)) others ≡ Some d → d < 16
in_range-lt first last base c d others small others_lt is =
    elim (cases_Bool (leb first c && leb c last)) [
      | inl holds ↦
          (let value : Some (c - base) ≡ Some d = rw holds at is in
          let same : c - base ≡ d = cc in
          omega (arith, same, leb-true c last (and_parts (leb first c) (leb c last) holds).1))
      | inr fails ↦ others_lt (rw fails at is)
    ]

hexadecimal_value-lt : (c d : ℕ) → hexadecimal_value c ≡ Some d → d < 16
hexadecimal_value-lt c d is =
    let upper = (if leb 65 c && leb c 70 then Some (c - 55) else (if leb 97 c && leb c 102 then Some (c - 87) else None)) in
    let lower = (if leb 97 c && leb c 102 then Some (c - 87) else None) in
    in_range-lt 48 57 48 c d upper (omega arith) (in_range-lt 65 70 55 c d lower (omega arith) (in_range-lt 97 102 87 c d None (omega arith) (λ e. absurd cc))) is

pair_of-lt : (high low : Option ℕ) (b : ℕ) → ((d : ℕ) → high ≡ Some d → d < 16) → ((d : ℕ) → low ≡ Some d → d < 16) → pair_of high low ≡ Some b → b < 256
pair_of-lt None low b high_fits low_fits is = absurd cc
pair_of-lt (Some h) None b high_fits low_fits is = absurd cc
pair_of-lt (Some h) (Some l) b high_fits low_fits is =
    let same : h * 16 + l ≡ b = cc in
    omega (arith, same, high_fits h refl, low_fits l refl)

pub byte_of-lt : (field : List ℕ) (b : ℕ) → byte_spelled field ≡ Some b → b < 256
byte_of-lt [] b is = absurd cc
byte_of-lt (high ∷ []) b is = absurd cc
byte_of-lt (high ∷ low ∷ []) b is = pair_of-lt (hexadecimal_value high) (hexadecimal_value low) b (hexadecimal_value-lt high) (hexadecimal_value-lt low) is
byte_of-lt (high ∷ low ∷ c ∷ cs) b is = absurd cc

onto_fits : (byte : Option ℕ) (rest : Option (List ℕ)) (bytes : List ℕ) → ((b : ℕ) → byte ≡ Some b → b < 256) → ((bs : List ℕ) → rest ≡ Some bs → All IsByte bs) → onto byte rest ≡ Some bytes → All IsByte bytes
onto_fits None rest bytes byte_fits rest_fits is = absurd cc
onto_fits (Some b) None bytes byte_fits rest_fits is = absurd cc
onto_fits (Some b) (Some bs) bytes byte_fits rest_fits is =
    let same : b ∷ bs ≡ bytes = cc in
    rw (← same) (All-cons IsByte b bs (byte_fits b refl) (rest_fits bs refl))

bytes_of_fits : (digits bytes : List ℕ) → bytes_of digits ≡ Some bytes → All IsByte bytes
bytes_of_fits [] bytes is =
    let same : [] ≡ bytes = cc in
    rw (← same) (All-nil IsByte)
bytes_of_fits (digit ∷ []) bytes is = absurd cc
bytes_of_fits (high ∷ low ∷ digits) bytes is =
    onto_fits (pair_of (hexadecimal_value high) (hexadecimal_value low)) (bytes_of digits) bytes (λ b. pair_of-lt (hexadecimal_value high) (hexadecimal_value low) b (hexadecimal_value-lt high) (hexadecimal_value-lt low)) (bytes_of_fits digits) is

copies_fit : (count byte : Option ℕ) (bytes : List ℕ) → ((b : ℕ) → byte ≡ Some b → b < 256) → copies count byte ≡ Some bytes → All IsByte bytes
copies_fit None byte bytes byte_fits is = absurd cc
copies_fit (Some n) None bytes byte_fits is = absurd cc
copies_fit (Some n) (Some b) bytes byte_fits is =
    let same : replicate n b ≡ bytes = cc in
    rw (← same) (All-replicate IsByte n b (byte_fits b refl))

repeated_of_fits : (count byte bytes : List ℕ) → repeated_of count byte ≡ Some bytes → All IsByte bytes
repeated_of_fits count byte bytes is = copies_fit (above_zero (number_of 1048576 count)) (byte_spelled byte) bytes (byte_of-lt byte) is

-- data is bytes
pub data_of_fits : (field bytes : List ℕ) → data_of field ≡ Some bytes → All IsByte bytes
data_of_fits field bytes is =
    elim (cases_Bool (is_text field (codes "-"))) [
      | inl none ↦ (let same : [] ≡ bytes = (let e : Some [] ≡ Some bytes = rw none at is in cc) in rw (← same) (All-nil IsByte))
      | inr some ↦ elim (cases_Bool (has_star field)) [
        | inl star ↦ repeated_of_fits (take (length field - 3) field) (drop (length field - 2) field) bytes (rw (some, star) at is)
        | inr plain ↦ elim (cases_Bool (eqb (length field) 0)) [
          | inl empty ↦ (let e : None ≡ Some bytes = rw (some, plain, empty) at is in absurd cc)
          | inr digits ↦ bytes_of_fits field bytes (rw (some, plain, digits) at is)
        ]
      ]
    ]

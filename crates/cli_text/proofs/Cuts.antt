-- A text's parts from its first separator on.
use Rattle.std.proofs.Common.{◌≡◌, ℕ, zero, suc, ◌+◌, ◌<◌, ◌≤◌, Bool, true, false, ◌==◌, List, [], ◌∷◌, Option, Some, None, length, get_or, take, drop, refl, ap, sym, ◌∙◌, subst, arith}
use Rattle.std.specs.Borrow.{Bor}
use Rattle.std.specs.List.{slice_split, position_or_len}
use Rattle.std.specs.Prelude.{is_some, not}
use Rattle.std.proofs.Math.Dec.{eqb-suc-zero}
use Rattle.std.proofs.lemmas.List.{get_or_default}
use Rattle.std.proofs.lemmas.List.Splits.{length-slice_split, slice_split_first, slice_split_none}
use Rattle.std.proofs.lemmas.List.Sums.{position_or_len_is}
use Rattle.cli_text.specs.Parts.{parts_left}

-- the first part ends before the first separator
pub slice_split-at_first : (separator : ℕ) (text : List ℕ) (i : ℕ) → i < length text → ((k : ℕ) → k < i → (get_or text k 0 == separator) ≡ false) → (get_or text i 0 == separator) ≡ true → slice_split (λ c. c == separator) text ≡ take i text ∷ slice_split (λ c. c == separator) (drop (i + 1) text)
slice_split-at_first separator text i lt before at =
    let first : position_or_len (λ c. c == separator) text ≡ i = position_or_len_is (λ c. c == separator) text i 0 (omega arith) before (λ _. at) in
    slice_split_first (λ c. c == separator) text 0 (omega (arith, first)) ∙ ap (λ (n : ℕ). take n text ∷ slice_split (λ c. c == separator) (drop (n + 1) text)) first

-- a text with no separator is its only part
pub slice_split-lacking : (separator : ℕ) (text : List ℕ) → ((k : ℕ) → k < length text → (get_or text k 0 == separator) ≡ false) → slice_split (λ c. c == separator) text ≡ text ∷ []
slice_split-lacking separator text before =
    slice_split_none (λ c. c == separator) text (λ k d lt. subst (λ (c : ℕ). (c == separator) ≡ false) (get_or_default text k 0 d lt) (before k lt))

some_left : (n : ℕ) → 1 ≤ n → false ≡ (n == 0)
some_left zero some = absurd (omega arith)
some_left (suc n) some = sym (eqb-suc-zero n)

-- no part is left where no text is, and there alone
pub none_left : (separator : ℕ) (rest : Option (Bor (List ℕ))) (is_none : Bool) → is_some rest ≡ not is_none → is_none ≡ (length (parts_left separator rest) == 0)
none_left separator None true is = refl
none_left separator None false is = absurd cc
none_left separator (Some text) true is = absurd cc
none_left separator (Some text) false is =
    some_left (length (slice_split (λ c. c == separator) text.now)) (omega (arith, length-slice_split (λ c. c == separator) text.now))

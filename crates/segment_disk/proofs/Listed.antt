-- The least number behind another in a list, and the numbers of a list of segments.
use Rattle.std.proofs.Common.{◌≡◌, ◌≢◌, ℕ, ◌+◌, ◌<◌, ◌≤◌, Bool, true, false, ◌||◌, List, [], ◌∷◌, ◌++◌, length, get_or, take, min, Option, Some, None, is_some, unwrap_or, IfSome, MatchOption, nat_le, refl, sym, ap, subst, ◌∙◌, ◌==◌, if◌then◌else◌, arith}
use Rattle.std.proofs.lemmas.Bool.{eq-eqb, leb-false, leb-true, ne_eqb}
use Rattle.std.proofs.Math.Bool.{or-true}
use Rattle.std.proofs.Math.Nat.{min-eq_left, min-eq_right}
use Rattle.std.proofs.lemmas.List.{take_more}
use Rattle.std.proofs.lemmas.List.Folds.{list_any-append}
use Rattle.segment_disk.specs.Failing.{is_listed}

-- no number of the list, from one on and below the next, if there is a next
abbrev pub IsNextOf : List ℕ → ℕ → Option ℕ → Type 0
IsNextOf numbers from next =
    MatchOption next ((k : ℕ) → from ≤ k → is_listed numbers k ≡ false)
    (λ next. (from ≤ next) × ((k : ℕ) → from ≤ k → k < next → is_listed numbers k ≡ false))

-- the next, if there is one, is one of the list
abbrev pub IsOneOf : List ℕ → Option ℕ → Type 0
IsOneOf numbers next = IfSome next (λ next. is_listed numbers next ≡ true)

listed-push : (numbers : List ℕ) (number k : ℕ) → is_listed numbers k ≡ true → is_listed (numbers ++ number ∷ []) k ≡ true
listed-push numbers number k is = list_any-append (λ n. n == k) numbers (number ∷ []) ∙ ap (λ (b : Bool). b || ((number == k) || false)) is

listed-last : (numbers : List ℕ) (number : ℕ) → is_listed (numbers ++ number ∷ []) number ≡ true
listed-last numbers number =
    list_any-append (λ n. n == number) numbers (number ∷ []) ∙ ap (λ (b : Bool). is_listed numbers number || (b || false)) (eq-eqb number number refl) ∙ or-true (is_listed numbers number)

one-push : (numbers : List ℕ) (number : ℕ) (next : Option ℕ) → IsOneOf numbers next → IsOneOf (numbers ++ number ∷ []) next
one-push numbers number None one = one
one-push numbers number (Some next) one = listed-push numbers number next one

one-behind : (numbers : List ℕ) (number : ℕ) (next : Option ℕ) → IsOneOf numbers next
    → IsOneOf (numbers ++ number ∷ []) (Some (if is_some next then min (unwrap_or next 0) number else number))
one-behind numbers number None one = listed-last numbers number
one-behind numbers number (Some next) one = either (nat_le next number) refl
  where
    either : (b : Bool) → nat_le next number ≡ b → is_listed (numbers ++ number ∷ []) (min next number) ≡ true
    either true below = subst (λ (k : ℕ). is_listed (numbers ++ number ∷ []) k ≡ true) (sym (min-eq_left (leb-true next number below))) (listed-push numbers number next one)
    either false above = subst (λ (k : ℕ). is_listed (numbers ++ number ∷ []) k ≡ true) (sym (min-eq_right (omega (arith, leb-false next number above)))) (listed-last numbers number)

not_listed-push : (numbers : List ℕ) (number k : ℕ) → is_listed numbers k ≡ false → number ≢ k → is_listed (numbers ++ number ∷ []) k ≡ false
not_listed-push numbers number k not other =
    list_any-append (λ n. n == k) numbers (number ∷ []) ∙ ap (λ (b : Bool). b || ((number == k) || false)) not ∙ ap (λ (b : Bool). false || (b || false)) (ne_eqb number k other)

-- a number before all of these
next_before : (numbers : List ℕ) (from number : ℕ) (next : Option ℕ) → number < from → IsNextOf numbers from next → IsNextOf (numbers ++ number ∷ []) from next
next_before numbers from number None less none = λ k behind. not_listed-push numbers number k (none k behind) (λ same. omega arith)
next_before numbers from number (Some next) less some = (some.0, λ k behind below. not_listed-push numbers number k (some.1 k behind below) (λ same. omega arith))

-- and one behind
next_behind : (numbers : List ℕ) (from number : ℕ) (next : Option ℕ) → from ≤ number → IsNextOf numbers from next
    → IsNextOf (numbers ++ number ∷ []) from (Some (if is_some next then min (unwrap_or next 0) number else number))
next_behind numbers from number None behind none = (behind, λ k from_on below. not_listed-push numbers number k (none k from_on) (λ same. omega arith))
next_behind numbers from number (Some next) behind some = (omega (arith, some.0), λ k from_on below. not_listed-push numbers number k (some.1 k from_on (omega arith)) (λ same. omega arith))

module _ (numbers : List ℕ) (i from number : ℕ) (within : i < length numbers) (is : number ≡ get_or numbers i number) where
  taken : take (i + 1) numbers ≡ take i numbers ++ number ∷ []
  taken = take_more numbers i number within ∙ ap (λ (n : ℕ). take i numbers ++ n ∷ []) (sym is)

  pub next_kept : (next : Option ℕ) → number < from → IsNextOf (take i numbers) from next → IsNextOf (take (i + 1) numbers) from next
  next_kept next less is_next = subst (λ (ns : List ℕ). IsNextOf ns from next) (sym taken) (next_before (take i numbers) from number next less is_next)

  pub next_found : (next : Option ℕ) → from ≤ number → IsNextOf (take i numbers) from next
      → IsNextOf (take (i + 1) numbers) from (Some (if is_some next then min (unwrap_or next 0) number else number))
  next_found next behind is_next = subst (λ (ns : List ℕ). IsNextOf ns from (Some (if is_some next then min (unwrap_or next 0) number else number))) (sym taken) (next_behind (take i numbers) from number next behind is_next)

  pub one_kept : (next : Option ℕ) → IsOneOf (take i numbers) next → IsOneOf (take (i + 1) numbers) next
  one_kept next one = subst (λ (ns : List ℕ). IsOneOf ns next) (sym taken) (one-push (take i numbers) number next one)

  pub one_found : (next : Option ℕ) → IsOneOf (take i numbers) next → IsOneOf (take (i + 1) numbers) (Some (if is_some next then min (unwrap_or next 0) number else number))
  one_found next one = subst (λ (ns : List ℕ). IsOneOf ns (Some (if is_some next then min (unwrap_or next 0) number else number))) (sym taken) (one-behind (take i numbers) number next one)

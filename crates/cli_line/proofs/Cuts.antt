-- A text cut at its first slash.
use Rattle.std.proofs.Common.{◌≡◌, ℕ, zero, suc, ◌<◌, true, false, ◌==◌, List, [], ◌∷◌, length, get_or, take, drop, Some, None, refl, arith}
use Rattle.cli_line.specs.Meanings.{cut_at_slash}

pub cut_at_slash-first : (text : List ℕ) (i : ℕ) → i < length text → ((k : ℕ) → k < i → (get_or text k 0 == 47) ≡ false) → (get_or text i 0 == 47) ≡ true → cut_at_slash text ≡ Some (take i text, drop (suc i) text)
cut_at_slash-first [] i lt before at = absurd (omega arith)
cut_at_slash-first (c ∷ cs) zero lt before at = rw at refl
cut_at_slash-first (c ∷ cs) (suc i) lt before at =
    let first : (c == 47) ≡ false = before 0 (omega arith) in
    let others = cut_at_slash-first cs i (omega arith) (λ k h. before (suc k) (omega arith)) at in
    rw (first, others) refl

pub cut_at_slash-none : (text : List ℕ) → ((k : ℕ) → k < length text → (get_or text k 0 == 47) ≡ false) → cut_at_slash text ≡ None
cut_at_slash-none [] before = refl
cut_at_slash-none (c ∷ cs) before =
    let first : (c == 47) ≡ false = before 0 (omega arith) in
    let others = cut_at_slash-none cs (λ k h. before (suc k) (omega arith)) in
    rw (first, others) refl

-- Bytes word by word: two lists that have the same words or zeros in their place.
use Rattle.std.proofs.Common.{◌≡◌, ◌⊎◌, ℕ, zero, suc, ◌+◌, ◌*◌, ◌<◌, List, get_or, take, drop, inl, inr, refl, sym, subst, ◌∙◌, arith}
use Rattle.std.specs.Prelude.{◌≢◌}
use Rattle.std.specs.Int.{w16, w32, w64}
use Rattle.std.proofs.lemmas.Bool.{cases_lt}
use Rattle.std.proofs.lemmas.List.{get_or-take, get_or-drop}
use Rattle.wal_spelling.specs.Spelling.{word_at}
use Rattle.wal_spelling.specs.Numbers.{number_at}

-- the k-th word of bytes is that of others, or zero
abbrev pub SameWord : List ℕ → List ℕ → ℕ → Type 0
SameWord xs ys k = (i : ℕ) → i < 8 → get_or xs (8 * k + i) 0 ≡ get_or ys (8 * k + i) 0

abbrev pub ZeroWord : List ℕ → ℕ → Type 0
ZeroWord xs k = (i : ℕ) → i < 8 → get_or xs (8 * k + i) 0 ≡ 0

byte_of_front : (n at i : ℕ) (xs : List ℕ) → i < n → get_or (take n (drop at xs)) i 0 ≡ get_or xs (at + i) 0
byte_of_front n at i xs lt = get_or-take n (drop at xs) i 0 lt ∙ get_or-drop at xs i 0

-- ---- numbers of the same bytes are the same

module _ (xs ys : List ℕ) (at : ℕ) where
  same_front : (n i : ℕ) → i < n → get_or xs (at + i) 0 ≡ get_or ys (at + i) 0 → get_or (take n (drop at xs)) i 0 ≡ get_or (take n (drop at ys)) i 0
  same_front n i lt e = byte_of_front n at i xs lt ∙ e ∙ sym (byte_of_front n at i ys lt)

  pub same_two : ((i : ℕ) → i < 2 → get_or xs (at + i) 0 ≡ get_or ys (at + i) 0) → number_at w16 xs at ≡ number_at w16 ys at
  same_two h =
      rw (same_front 2 0 (omega arith) (h 0 (omega arith)), same_front 2 1 (omega arith) (h 1 (omega arith))) refl

  pub same_four : ((i : ℕ) → i < 4 → get_or xs (at + i) 0 ≡ get_or ys (at + i) 0) → number_at w32 xs at ≡ number_at w32 ys at
  same_four h =
      let e : (i : ℕ) → i < 4 → get_or (take 4 (drop at xs)) i 0 ≡ get_or (take 4 (drop at ys)) i 0 = λ i lt. same_front 4 i lt (h i lt) in
      rw (e 0 (omega arith), e 1 (omega arith), e 2 (omega arith), e 3 (omega arith)) refl

  pub same_eight : ((i : ℕ) → i < 8 → get_or xs (at + i) 0 ≡ get_or ys (at + i) 0) → number_at w64 xs at ≡ number_at w64 ys at
  same_eight h =
      let e : (i : ℕ) → i < 8 → get_or (take 8 (drop at xs)) i 0 ≡ get_or (take 8 (drop at ys)) i 0 = λ i lt. same_front 8 i lt (h i lt) in
      rw (e 0 (omega arith), e 1 (omega arith), e 2 (omega arith), e 3 (omega arith), e 4 (omega arith), e 5 (omega arith), e 6 (omega arith), e 7 (omega arith)) refl

-- a number of eight bytes is zero exactly where they are
pub zero_eight : (xs : List ℕ) (at : ℕ) → ((i : ℕ) → i < 8 → get_or xs (at + i) 0 ≡ 0) → number_at w64 xs at ≡ 0
zero_eight xs at h =
    let e : (i : ℕ) → i < 8 → get_or (take 8 (drop at xs)) i 0 ≡ 0 = λ i lt. byte_of_front 8 at i xs lt ∙ h i lt in
    rw (e 0 (omega arith), e 1 (omega arith), e 2 (omega arith), e 3 (omega arith), e 4 (omega arith), e 5 (omega arith), e 6 (omega arith), e 7 (omega arith)) refl

pub by_eight : (P : ℕ → Type 0) → P 0 → P 1 → P 2 → P 3 → P 4 → P 5 → P 6 → P 7 → (i : ℕ) → i < 8 → P i
by_eight P a b c d e f g h zero lt = a
by_eight P a b c d e f g h (suc zero) lt = b
by_eight P a b c d e f g h (suc (suc zero)) lt = c
by_eight P a b c d e f g h (suc (suc (suc zero))) lt = d
by_eight P a b c d e f g h (suc (suc (suc (suc zero)))) lt = e
by_eight P a b c d e f g h (suc (suc (suc (suc (suc zero))))) lt = f
by_eight P a b c d e f g h (suc (suc (suc (suc (suc (suc zero)))))) lt = g
by_eight P a b c d e f g h (suc (suc (suc (suc (suc (suc (suc zero))))))) lt = h
by_eight P a b c d e f g h (suc (suc (suc (suc (suc (suc (suc (suc i)))))))) lt = absurd (omega arith)

pub eight_zeros : (xs : List ℕ) (at : ℕ) → number_at w64 xs at ≡ 0 → (i : ℕ) → i < 8 → get_or xs (at + i) 0 ≡ 0
eight_zeros xs at e i lt =
    let word = take 8 (drop at xs) in
    sym (byte_of_front 8 at i xs lt) ∙ by_eight (λ j. get_or word j 0 ≡ 0) (omega arith) (omega arith) (omega arith) (omega arith) (omega arith) (omega arith) (omega arith) (omega arith) i lt

-- ---- words that are the same or zero

-- such words are all the same, or one is another
pub all_or_one : (xs ys : List ℕ) (n : ℕ) → ((k : ℕ) → k < n → ZeroWord xs k ⊎ SameWord xs ys k) → ((k : ℕ) → k < n → SameWord xs ys k) ⊎ ((k : ℕ) × (k < n) × (word_at xs k ≢ word_at ys k))
all_or_one xs ys zero h = inl (λ k lt. absurd (omega arith))
all_or_one xs ys (suc n) h =
    let with_last : SameWord xs ys n → ((k : ℕ) → k < n → SameWord xs ys k) → (k : ℕ) → k < suc n → SameWord xs ys k = λ last before k lt. elim (cases_lt k n) [
      | inl below ↦ before k below
      | inr here ↦ (let e : n ≡ k = omega arith in
          subst (λ (j : ℕ). SameWord xs ys j) e last)
    ] in
    elim (all_or_one xs ys n (λ k lt. h k (omega arith))) [
      | inr other ↦ inr (other.0, omega (arith, other.1), other.2)
      | inl before ↦
          elim (h n (omega arith)) [
            | inr same ↦ inl (with_last same before)
            | inl zeros ↦
                elim (cases_lt 0 (word_at ys n)) [
                  | inl some ↦ inr (n, omega arith, λ e. absurd (omega (arith, e, zero_eight xs (8 * n) zeros)))
                  | inr none ↦ inl (with_last (λ i lt. zeros i lt ∙ sym (eight_zeros ys (8 * n) (omega arith) i lt)) before)
                ]
          ]
    ]

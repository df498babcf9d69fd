-- The words of bytes, many at a time.
use Rattle.std.proofs.Common.{◌≡◌, ℕ, zero, suc, ◌+◌, ◌-◌, ◌*◌, ◌/◌, ◌%◌, ◌^◌, ◌<◌, ◌≤◌, ◌≢◌, List, [], ◌∷◌, ◌++◌, length, get_or, set, take, drop, get_or-set_other, get_or-set_same, refl, sym, ap, subst, ◌∙◌, inl, inr, arith}
use Rattle.std.specs.Int.{w64, from_le_bytes}
use Rattle.std.proofs.lemmas.Bool.{cases_lt}
use Rattle.std.proofs.lemmas.List.{length-append, length-drop, get_or-drop, get_or_append_left, get_or-append_right, drop-drop}
use Rattle.std.specs.Simd.{first_chunks}
use Rattle.wal_spelling.specs.Spelling.{Assembled, assembled_room, filled, word_at}
use Rattle.wal_spelling.proofs.Words.{word_after_header}

-- the k-th word of bytes
abbrev pub word_of_bytes : List ℕ → ℕ → ℕ
word_of_bytes bytes k = from_le_bytes w64 (take 8 (drop (8 * k) bytes))

chunk_at : (count : ℕ) (bytes : List ℕ) (k : ℕ) → k < count → get_or (first_chunks 8 count bytes) k [] ≡ take 8 (drop (8 * k) bytes)
chunk_at zero bytes k lt = absurd (omega arith)
chunk_at (suc count) bytes zero lt = refl
chunk_at (suc count) bytes (suc k) lt =
    let place : 8 + 8 * k ≡ 8 * suc k = omega arith in
    chunk_at count (drop 8 bytes) k (omega arith) ∙ ap (take 8) (drop-drop (8 * k) 8 bytes ∙ ap (λ (m : ℕ). drop m bytes) place)

module _ (bytes words put : List ℕ) (chunks : List (List ℕ)) (whole : ℕ) (cut : chunks ≡ first_chunks 8 (length bytes / 8) bytes) (within : whole ≤ length bytes / 8) (long : length put ≡ whole) (each : (k : ℕ) → k < whole → get_or put k 0 ≡ from_le_bytes w64 (get_or chunks k [])) where
  pub whole_words : (k : ℕ) → k < whole → get_or (put ++ drop whole words) k 0 ≡ word_of_bytes bytes k
  whole_words k lt =
      get_or_append_left put (drop whole words) 0 k (omega arith)
      ∙ each k lt
      ∙ ap (λ (cs : List (List ℕ)). from_le_bytes w64 (get_or cs k [])) cut
      ∙ ap (from_le_bytes w64) (chunk_at (length bytes / 8) bytes k (omega arith))

  pub last_word : (last : ℕ) → last ≡ from_le_bytes w64 (take 8 (drop (length bytes / 8 * 8) bytes)) → whole ≡ length bytes / 8 → 8 * length words ≤ length bytes + 7 → whole < length words
      → (k : ℕ) → k < length words → get_or (set (put ++ drop whole words) whole last) k 0 ≡ word_of_bytes bytes k
  last_word last is all short less k lt =
      elim (cases_lt k whole) [
        | inl before ↦ (let other : k ≢ whole = omega arith in get_or-set_other (put ++ drop whole words) whole k last 0 other ∙ whole_words k before)
        | inr behind ↦
            (let at : k ≡ whole = omega arith in
            let place : length bytes / 8 * 8 ≡ 8 * k = omega arith in
            let inside : whole < length (put ++ drop whole words) = omega (arith, length-append put (drop whole words), length-drop whole words) in
            ap (λ (j : ℕ). get_or (set (put ++ drop whole words) whole last) j 0) at
            ∙ get_or-set_same (put ++ drop whole words) whole last 0 inside
            ∙ is
            ∙ ap (λ (m : ℕ). from_le_bytes w64 (take 8 (drop m bytes))) place)
      ]

-- the bytes of a word from one of them on are what is left when the bits of those before are shifted out
behind_shift : (eight : List ℕ) → length eight ≡ 8 → ((i : ℕ) → get_or eight i 0 < 256) → (j : ℕ) → j < 8 → from_le_bytes w64 eight / 2 ^ (8 * j) ≡ from_le_bytes w64 (take 8 (drop j eight))
behind_shift (b0 ∷ b1 ∷ b2 ∷ b3 ∷ b4 ∷ b5 ∷ b6 ∷ b7 ∷ []) e small j lt = from_each (small 0) (small 1) (small 2) (small 3) (small 4) (small 5) (small 6) (small 7) j lt
  where
    from_each : b0 < 256 → b1 < 256 → b2 < 256 → b3 < 256 → b4 < 256 → b5 < 256 → b6 < 256 → b7 < 256 → (j : ℕ) → j < 8 → from_le_bytes w64 (b0 ∷ b1 ∷ b2 ∷ b3 ∷ b4 ∷ b5 ∷ b6 ∷ b7 ∷ []) / 2 ^ (8 * j) ≡ from_le_bytes w64 (take 8 (drop j (b0 ∷ b1 ∷ b2 ∷ b3 ∷ b4 ∷ b5 ∷ b6 ∷ b7 ∷ [])))
    from_each p0 p1 p2 p3 p4 p5 p6 p7 zero below = omega arith
    from_each p0 p1 p2 p3 p4 p5 p6 p7 (suc zero) below = omega arith
    from_each p0 p1 p2 p3 p4 p5 p6 p7 (suc (suc zero)) below = omega arith
    from_each p0 p1 p2 p3 p4 p5 p6 p7 (suc (suc (suc zero))) below = omega arith
    from_each p0 p1 p2 p3 p4 p5 p6 p7 (suc (suc (suc (suc zero)))) below = omega arith
    from_each p0 p1 p2 p3 p4 p5 p6 p7 (suc (suc (suc (suc (suc zero))))) below = omega arith
    from_each p0 p1 p2 p3 p4 p5 p6 p7 (suc (suc (suc (suc (suc (suc zero)))))) below = omega arith
    from_each p0 p1 p2 p3 p4 p5 p6 p7 (suc (suc (suc (suc (suc (suc (suc zero))))))) below = omega arith
    from_each p0 p1 p2 p3 p4 p5 p6 p7 (suc (suc (suc (suc (suc (suc (suc (suc k)))))))) below = absurd (omega arith)
behind_shift _ e small j lt = absurd (omega arith)

pub tail_of_eight : (bytes eight tail : List ℕ) (shift : ℕ) → 8 ≤ length bytes → ((i : ℕ) → get_or bytes i 0 < 256) → eight ≡ drop (length bytes - 8) bytes → tail ≡ drop (length bytes / 8 * 8) bytes → 0 < length bytes % 8 → shift ≡ 64 - length bytes % 8 * 8 → from_le_bytes w64 eight / 2 ^ shift ≡ from_le_bytes w64 (take 8 tail)
tail_of_eight bytes eight tail shift long small eight_is tail_is some shift_is =
    let j : ℕ = 8 - length bytes % 8 in
    let bits : shift ≡ 8 * j = omega arith in
    let place : length bytes - 8 + j ≡ length bytes / 8 * 8 = omega arith in
    let whole : length eight ≡ 8 = ap (λ (l : List ℕ). length l) eight_is ∙ omega (arith, length-drop (length bytes - 8) bytes) in
    let eight_small : (i : ℕ) → get_or eight i 0 < 256 = λ i. subst (λ (n : ℕ). n < 256) (sym (ap (λ (l : List ℕ). get_or l i 0) eight_is ∙ get_or-drop (length bytes - 8) bytes i 0)) (small (length bytes - 8 + i)) in
    ap (λ (n : ℕ). from_le_bytes w64 eight / 2 ^ n) bits
    ∙ behind_shift eight whole eight_small j (omega arith)
    ∙ ap (λ (l : List ℕ). from_le_bytes w64 (take 8 l)) (ap (drop j) eight_is ∙ drop-drop j (length bytes - 8) bytes ∙ ap (λ (m : ℕ). drop m bytes) place ∙ sym tail_is)

-- the words of a record from its header on
module _ (a : Assembled) (prev : ℕ) where
  pub three_words : (first second third : ℕ) → first ≡ word_at (filled a prev) 0 → second ≡ word_at (filled a prev) 1 → third ≡ word_at (filled a prev) 2 → (n : ℕ) → n < 3 → get_or (first ∷ second ∷ third ∷ []) n 0 ≡ word_at (filled a prev) n
  three_words first second third e0 e1 e2 zero lt = e0
  three_words first second third e0 e1 e2 (suc zero) lt = e1
  three_words first second third e0 e1 e2 (suc (suc zero)) lt = e2
  three_words first second third e0 e1 e2 (suc (suc (suc n))) lt = absurd (omega arith)

  pub words_from_header : (header behind : List ℕ) (count : ℕ) → length header ≡ 3 → 8 * count ≤ assembled_room a → ((n : ℕ) → n < 3 → get_or header n 0 ≡ word_at (filled a prev) n) → ((k : ℕ) → k + 3 < count → get_or behind k 0 ≡ word_of_bytes a.after_header k) → (k : ℕ) → k < count → get_or (header ++ behind) k 0 ≡ word_at (filled a prev) k
  words_from_header header behind count three room in_header behind_it k lt =
      elim (cases_lt k 3) [
        | inl inside ↦ get_or_append_left header behind 0 k (omega arith) ∙ in_header k inside
        | inr on ↦
            get_or-append_right header behind 3 k 0 three on
            ∙ behind_it (k - 3) (omega arith)
            ∙ sym (word_after_header a prev k (8 * (k - 3)) (omega arith) (omega arith))
      ]

-- The bytes of a page's words that were loaded in order.
use Rattle.std.proofs.Common.{◌≡◌, ◌≢◌, inl, inr, ℕ, zero, suc, ◌+◌, ◌*◌, ◌<◌, List, [], ◌∷◌, ◌++◌, length, take, drop, refl, sym, ap, ◌∙◌, subst, arith}
use Rattle.std.proofs.lemmas.Bool.{cases_lt}
use Rattle.std.specs.Int.{w64, to_le_bytes}
use Rattle.std.proofs.lemmas.List.{length-append, take-append-le, drop-append-le, length-drop}
use Rattle.std.proofs.Math.Seq.{drop-append_seam, take-length}
use Rattle.segment_disk.specs.DiskImage.{word_of}
use Rattle.machine_state.specs.Views.{IsLoadedLast, View}
use Rattle.machine_turns.specs.Turned.{bytes_staged}
use Rattle.machine_turns.specs.Standing.{AreLoaded}

module _ (v : View) (page : ℕ) where
  abbrev bytes : ℕ → List (ℕ × ℕ) → List ℕ
  bytes k staged = bytes_staged v (take k staged)

  pub bytes-length : (k : ℕ) (staged : List (ℕ × ℕ)) → AreLoaded page k staged
      → length (bytes k staged) ≡ 8 * k
  bytes-length zero staged all = refl
  bytes-length (suc k) [] all = absurd all
  bytes-length (suc k) (s ∷ ss) all =
      let before = bytes-length k ss all.1 in
      let both = length-append (bytes k ss) (to_le_bytes w64 s.1) in
      let last : length (to_le_bytes w64 s.1) ≡ 8 = refl in
      omega (arith, before, both, last)

  abbrev IsThere : ℕ → List (ℕ × ℕ) → ℕ → Type 0
  IsThere k staged n = (word : ℕ) × IsLoadedLast (page * 1024 + n) word staged
      × (word_of (bytes k staged) n ≡ to_le_bytes w64 word)

  last_word : (k : ℕ) (s : ℕ × ℕ) (ss : List (ℕ × ℕ)) → AreLoaded page k ss
      → word_of (bytes k ss ++ to_le_bytes w64 s.1) k ≡ to_le_bytes w64 s.1
  last_word k s ss all =
      let front = bytes k ss in
      let word = to_le_bytes w64 s.1 in
      let all_of : take 8 word ≡ word = take-length word in
      subst (λ (n : ℕ). take 8 (drop n (front ++ word)) ≡ word) (bytes-length k ss all)
      (ap (take 8) (drop-append_seam front word) ∙ all_of)

  earlier_word : (k n : ℕ) (s : ℕ × ℕ) (ss : List (ℕ × ℕ)) → AreLoaded page k ss → n < k
      → word_of (bytes k ss ++ to_le_bytes w64 s.1) n ≡ word_of (bytes k ss) n
  earlier_word k n s ss all below =
      let front = bytes k ss in
      let word = to_le_bytes w64 s.1 in
      let whole = bytes-length k ss all in
      let left = length-drop (8 * n) front in
      ap (take 8) (drop-append-le (8 * n) front word (omega (arith, whole, below)))
      ∙ take-append-le 8 (drop (8 * n) front) word (omega (arith, whole, left, below))

  pub bytes-words : (k : ℕ) (staged : List (ℕ × ℕ)) → AreLoaded page k staged → (n : ℕ) → n < k
      → IsThere k staged n
  bytes-words zero staged all n below = absurd (omega arith)
  bytes-words (suc k) [] all n below = absurd all
  bytes-words (suc k) (s ∷ ss) all n below = elim (cases_lt n k) [
    | inl earlier ↦ (let e = bytes-words k ss all.1 n earlier in
        let other : s.0 ≢ page * 1024 + n = (λ same. omega (arith, all.0, same, earlier)) in
        (e.0, inr (other, e.1), earlier_word k n s ss all.1 earlier ∙ e.2))
    | inr last ↦ (let same : n ≡ k = omega arith in
        subst (λ (i : ℕ). IsThere (suc k) (s ∷ ss) i) (sym same)
        (s.1, inl (all.0, refl), last_word k s ss all.1))
  ]

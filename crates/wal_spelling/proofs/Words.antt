-- The words of a record.
use Rattle.std.proofs.Common.{◌≡◌, ℕ, zero, suc, ◌+◌, ◌-◌, ◌*◌, ◌^◌, ◌<◌, ◌≤◌, List, [], ◌∷◌, ◌++◌, append_assoc, length, get_or, take, drop, replicate, refl, sym, ap, ◌∙◌, arith, inl, inr}
use Rattle.std.specs.Int.{w32, w64, from_le_bytes, to_le_bytes}
use Rattle.std.proofs.lemmas.Bool.{cases_lt}
use Rattle.std.proofs.lemmas.Nat.{from_le_bytes-to_le_bytes_8, le_bytes_4, le_bytes_8}
use Rattle.std.proofs.lemmas.List.{length-append, length-take, get_or-take, get_or_past, get_or_append_left, get_or-append_right, get_or-replicate, length-replicate, drop-append-le, drop-drop, drop_at}
use Rattle.wal_spelling.specs.Spelling.{Assembled, assembled_size, assembled_room, header_front, crc_of, spelled, filled, word_at}

-- a word is told by the bytes that are read at its places
same_word : (xs ys : List ℕ) → ((i : ℕ) → get_or xs i 0 ≡ get_or ys i 0) → from_le_bytes w64 xs ≡ from_le_bytes w64 ys
same_word xs ys h = rw (h 0, h 1, h 2, h 3, h 4, h 5, h 6, h 7) refl

zeros_read : (k i : ℕ) → get_or {A = ℕ} (replicate k 0) i 0 ≡ 0
zeros_read k i =
    let zero : ℕ = 0 in
    elim (cases_lt i k) [
      | inl lt ↦ get_or-replicate k i zero zero lt
      | inr le ↦ get_or_past (replicate k zero) i zero (omega (arith, length-replicate k zero))
    ]

-- zeros behind a list read as what is past its end
padded_read : (xs : List ℕ) (k i : ℕ) → get_or (xs ++ replicate k 0) i 0 ≡ get_or xs i 0
padded_read xs k i =
    elim (cases_lt i (length xs)) [
      | inl lt ↦ get_or_append_left xs (replicate k 0) 0 i lt
      | inr le ↦ get_or-append_right xs (replicate k 0) (length xs) i 0 refl le ∙ zeros_read k (i - length xs) ∙ sym (get_or_past xs i 0 le)
    ]

front_read : (xs ys : List ℕ) (n i : ℕ) → ((i : ℕ) → get_or xs i 0 ≡ get_or ys i 0) → get_or (take n xs) i 0 ≡ get_or (take n ys) i 0
front_read xs ys n i h =
    elim (cases_lt i n) [
      | inl lt ↦ get_or-take n xs i 0 lt ∙ h i ∙ sym (get_or-take n ys i 0 lt)
      | inr le ↦ get_or_past (take n xs) i 0 (omega (arith, length-take n xs)) ∙ sym (get_or_past (take n ys) i 0 (omega (arith, length-take n ys)))
    ]

padded_word : (xs : List ℕ) (k : ℕ) → from_le_bytes w64 (take 8 (xs ++ replicate k 0)) ≡ from_le_bytes w64 (take 8 xs)
padded_word xs k = same_word _ _ (λ i. front_read (xs ++ replicate k 0) xs 8 i (padded_read xs k))

-- the numbers of which a header is made
pub halves : (low high : ℕ) → low < 2 ^ 32 → high < 2 ^ 32 → low + high * 4294967296 ≡ from_le_bytes w64 (to_le_bytes w32 low ++ to_le_bytes w32 high)
halves low high low_fits high_fits = omega arith

pub halves_bytes : (low high n : ℕ) → low < 2 ^ 32 → high < 2 ^ 32 → n ≡ low + high * 4294967296 → to_le_bytes w64 n ≡ to_le_bytes w32 low ++ to_le_bytes w32 high
halves_bytes low high n low_fits high_fits e = le_bytes_8 (to_le_bytes w32 low ++ to_le_bytes w32 high) n refl small (e ∙ halves low high low_fits high_fits)
  where
    small : (i : ℕ) → get_or (to_le_bytes w32 low ++ to_le_bytes w32 high) i 0 < 256
    small zero = omega arith
    small (suc zero) = omega arith
    small (suc (suc zero)) = omega arith
    small (suc (suc (suc zero))) = omega arith
    small (suc (suc (suc (suc zero)))) = omega arith
    small (suc (suc (suc (suc (suc zero))))) = omega arith
    small (suc (suc (suc (suc (suc (suc zero)))))) = omega arith
    small (suc (suc (suc (suc (suc (suc (suc zero))))))) = omega arith
    small (suc (suc (suc (suc (suc (suc (suc (suc i)))))))) = omega arith

pub two_bytes : (info rmid n : ℕ) → info < 256 → rmid < 256 → n ≡ info + rmid * 256 → to_le_bytes w32 n ≡ info ∷ rmid ∷ 0 ∷ 0 ∷ []
two_bytes info rmid n info_fits rmid_fits e = le_bytes_4 (info ∷ rmid ∷ 0 ∷ 0 ∷ []) n refl small (e ∙ omega arith)
  where
    small : (i : ℕ) → get_or (info ∷ rmid ∷ 0 ∷ 0 ∷ []) i 0 < 256
    small zero = info_fits
    small (suc zero) = rmid_fits
    small (suc (suc zero)) = omega arith
    small (suc (suc (suc zero))) = omega arith
    small (suc (suc (suc (suc i)))) = omega arith

flags_and_crc : (info rmid crc : ℕ) → info < 256 → rmid < 256 → crc < 2 ^ 32 → info + rmid * 256 + crc * 4294967296 ≡ from_le_bytes w64 (info ∷ rmid ∷ 0 ∷ 0 ∷ to_le_bytes w32 crc)
flags_and_crc info rmid crc info_fits rmid_fits crc_fits = omega arith

-- the words of the header
module _ (a : Assembled) (prev n : ℕ) where
  pub first_of_header : n ≡ 0 → from_le_bytes w64 (to_le_bytes w32 (assembled_size a) ++ to_le_bytes w32 a.xid) ≡ word_at (filled a prev) n
  first_of_header e = rw e refl

  pub second_of_header : n ≡ 1 → prev < 2 ^ 64 → prev ≡ word_at (filled a prev) n
  second_of_header e fits = rw e (sym (from_le_bytes-to_le_bytes_8 prev fits))

  pub third_of_header : (crc : ℕ) → crc ≡ crc_of a prev → n ≡ 2 → a.info < 256 → a.rmid < 256 → crc < 2 ^ 32 → a.info + a.rmid * 256 + crc * 4294967296 ≡ word_at (filled a prev) n
  third_of_header crc is e info_fits rmid_fits crc_fits =
      flags_and_crc a.info a.rmid crc info_fits rmid_fits crc_fits
      ∙ ap (λ (c : ℕ). from_le_bytes w64 (a.info ∷ a.rmid ∷ 0 ∷ 0 ∷ to_le_bytes w32 c)) is
      ∙ rw e refl

-- the header's front behind bytes, piece by piece
pub behind_bytes : (a : Assembled) (prev : ℕ) (bytes : List ℕ) → bytes ++ (to_le_bytes w32 (assembled_size a) ++ to_le_bytes w32 a.xid) ++ to_le_bytes w64 prev ++ (a.info ∷ a.rmid ∷ 0 ∷ 0 ∷ []) ≡ bytes ++ header_front a prev
behind_bytes a prev bytes =
    let first = to_le_bytes w32 (assembled_size a) ++ to_le_bytes w32 a.xid in
    let second = to_le_bytes w64 prev in
    let last = a.info ∷ a.rmid ∷ 0 ∷ 0 ∷ [] in
    append_assoc (bytes ++ first) second last ∙ append_assoc bytes first (second ++ last)

behind_header : (front crc after_header : List ℕ) (m : ℕ) → length front ≡ 20 → length crc ≡ 4 → drop (24 + m) (front ++ crc ++ after_header) ≡ drop m after_header
behind_header front crc after_header m f c = sym (drop-drop m 24 (front ++ crc ++ after_header)) ∙ ap (drop m) (drop_at (front ++ crc) after_header 24 (omega (arith, length-append front crc)))

pub word_after_header : (a : Assembled) (prev n m : ℕ) → 8 * n ≡ 24 + m → 8 * n < assembled_room a → word_at (filled a prev) n ≡ from_le_bytes w64 (take 8 (drop m a.after_header))
word_after_header a prev n m e within =
    let inside : 8 * n ≤ length (spelled a prev) = omega arith in
    let front = drop-append-le (8 * n) (spelled a prev) (replicate (assembled_room a - assembled_size a) 0) inside in
    let rest : drop (8 * n) (spelled a prev) ≡ drop m a.after_header = rw e (behind_header (header_front a prev) (to_le_bytes w32 (crc_of a prev)) a.after_header m refl refl) in
    ap (λ (l : List ℕ). from_le_bytes w64 (take 8 l)) (front ∙ ap (λ (l : List ℕ). l ++ replicate (assembled_room a - assembled_size a) 0) rest) ∙ padded_word (drop m a.after_header) (assembled_room a - assembled_size a)

-- Each word has a place of its own: a load at it is a load by the number, and a store at it a store
-- by the number.
use Rattle.std.proofs.Common.{◌≡◌, ◌≢◌, ℕ, ◌+◌, ◌*◌, ◌-◌, ◌<◌, ◌≤◌, inl, inr, Bool, true, eqb, eqb-true, ltb, ltb-true, ◌&&◌, List, map, length, drop, set, slice_index, zero, suc, arith, refl, sym, ap, ◌∙◌, subst}
use Rattle.std.proofs.lemmas.Bool.{cases_eq, cases_lt, and_parts}
use Rattle.std.proofs.lemmas.List.{ext_get_or, get_or-append_right, get_or-drop, get_or-map, get_or-set_other, get_or-set_same, get_or_append_left, get_or_past, length-append, length-drop, length-map, length-set}
use Rattle.wal_rule.specs.WordPlaces.{first_end_place, first_places, place_of_word, places_between, words_of}

-- ---- the places rise with the numbers

few : length first_places ≡ 17
few = refl

-- a test of each number below this one
below : (ℕ → Bool) → ℕ → Bool
below test zero = true
below test (suc n) = below test n && test n

at_below : (test : ℕ → Bool) (n : ℕ) → below test n ≡ true → (i : ℕ) → i < n → test i ≡ true
unfolding below
at_below test zero all i within = absurd (omega arith)
at_below test (suc n) all i within = elim (cases_eq i n) [
  | inl is ↦ subst (λ (k : ℕ). test k ≡ true) (sym is) (and_parts _ _ all).1
  | inr other ↦ at_below test n (and_parts _ _ all).0 i (omega (arith, other))
]

abbrev rises_at : ℕ → Bool
rises_at n = ltb (place_of_word n) (place_of_word (suc n))

all_rise : below rises_at 17 ≡ true
unfolding below
all_rise = refl

-- from the first buffer's end on they follow one another
pub place_behind : (n : ℕ) → 17 ≤ n → place_of_word n ≡ n + places_between
place_behind n behind = get_or_past first_places n (n + places_between) (omega (arith, few))

-- the locks stand as far apart as two lines
abbrev lock_test : ℕ → Bool
lock_test lock = eqb (16 + lock * 16) (place_of_word (2 + lock))

all_locks : below lock_test 8 ≡ true
unfolding below
all_locks = refl

pub place_of_lock : (lock : ℕ) → lock < 8 → 16 + lock * 16 ≡ place_of_word (2 + lock)
place_of_lock lock low = eqb-true _ _ (at_below lock_test 8 all_locks lock low)

place_next : (n : ℕ) → place_of_word n < place_of_word (suc n)
place_next n = elim (cases_lt n 17) [
  | inl low ↦ ltb-true _ _ (at_below rises_at 17 all_rise n low)
  | inr behind ↦ (let here = place_behind n behind in
      let next = place_behind (suc n) (omega (arith, behind)) in omega (arith, here, next))
]

places_rise : (n m : ℕ) → n < m → place_of_word n < place_of_word m
places_rise n zero less = absurd (omega arith)
places_rise n (suc m) less =
    let next = place_next m in
    elim (cases_eq n m) [
      | inl is ↦ subst (λ (k : ℕ). place_of_word k < place_of_word (suc m)) (sym is) next
      | inr other ↦ (let before = places_rise n m (omega (arith, other)) in
          omega (arith, before, next))
    ]

pub place_apart : (n m : ℕ) → n ≢ m → place_of_word n ≢ place_of_word m
place_apart n m apart = λ same. elim (cases_lt n m) [
  | inl less ↦ (let rises = places_rise n m less in omega (arith, rises, same))
  | inr more ↦ (let rises = places_rise m n (omega (arith, more, apart)) in
      omega (arith, rises, same))
]

-- ---- the words by their numbers

module _ (memory : List ℕ) where
  abbrev firsts : List ℕ
  firsts = map (λ (place : ℕ). slice_index memory place) first_places

  firsts_few : length firsts ≡ 17
  firsts_few = length-map first_places (λ (place : ℕ). slice_index memory place) ∙ few

  pub word_count_of : length (words_of memory) ≡ 17 + (length memory - first_end_place)
  unfolding words_of
  word_count_of = length-append firsts (drop first_end_place memory)
      ∙ ap (λ (n : ℕ). n + length (drop first_end_place memory)) firsts_few
      ∙ ap (λ (n : ℕ). 17 + n) (length-drop first_end_place memory)

  -- a load of a word is one of its place
  pub word_there : (n : ℕ)
      → slice_index (words_of memory) n ≡ slice_index memory (place_of_word n)
  unfolding words_of
  word_there n = elim (cases_lt n 17) [
    | inl low ↦ get_or_append_left firsts (drop first_end_place memory) 0 n
        (omega (arith, firsts_few, low))
        ∙ get_or-map (λ (place : ℕ). slice_index memory place) first_places n
        (n + places_between) 0 (omega (arith, few, low))
    | inr behind ↦ get_or-append_right firsts (drop first_end_place memory) 17 n 0 firsts_few behind
        ∙ get_or-drop first_end_place memory (n - 17) 0
        ∙ ap (λ (place : ℕ). slice_index memory place)
        (omega (arith, behind, place_behind n behind))
  ]

-- a store at a word's place is one of the word, and changes no other
module _ (memory : List ℕ) (long : first_end_place ≤ length memory) (n value : ℕ) where
  abbrev stored : List ℕ
  stored = set memory (place_of_word n) value

  stored_count : length (words_of stored) ≡ length (words_of memory)
  stored_count = word_count_of stored
      ∙ ap (λ (k : ℕ). 17 + (k - first_end_place)) (length-set memory (place_of_word n) value)
      ∙ sym (word_count_of memory)

  pub place_within : n < length (words_of memory) → place_of_word n < length memory
  place_within within =
      let count = word_count_of memory in
      elim (cases_lt n 17) [
        | inl low ↦ (let less = places_rise n 17 low in
            let end = place_behind 17 (omega arith) in omega (arith, less, end, long))
        | inr behind ↦ (let here = place_behind n behind in
            omega (arith, here, within, count, behind))
      ]

  pub word_stored : words_of stored ≡ set (words_of memory) n value
  word_stored = ext_get_or 0 (words_of stored) (set (words_of memory) n value)
      (stored_count ∙ sym (length-set (words_of memory) n value))
      (λ i within. elim (cases_eq i n) [
        | inl is ↦ subst (λ (k : ℕ). slice_index (words_of stored) k
            ≡ slice_index (set (words_of memory) n value) k) (sym is)
            (let there : n < length (words_of memory) = omega (arith, within, is, stored_count) in
            word_there stored n
            ∙ get_or-set_same memory (place_of_word n) value 0 (place_within there)
            ∙ sym (get_or-set_same (words_of memory) n value 0 there))
        | inr other ↦ word_there stored i
            ∙ get_or-set_other memory (place_of_word n) (place_of_word i) value 0
            (place_apart i n other)
            ∙ sym (word_there memory i)
            ∙ sym (get_or-set_other (words_of memory) n i value 0 other)
      ])

-- ---- words that are laid out

module _ (words memory : List ℕ) (some : 17 < length words)
    (long : length memory ≡ length words + places_between) where
  full : length (words_of memory) ≡ length words
  full =
      let count = word_count_of memory in
      omega (arith, count, some, long)

  -- the next word's place is there
  pub next_there : (number : ℕ) → number < length words → place_of_word number < length memory
  next_there number within =
      place_within memory (omega (arith, some, long)) number 0 (omega (arith, full, within))

  -- with the next word put there, all before it lie where they lay
  pub laid_next : (number : ℕ) → number < length words
      → ((n : ℕ) → n < number → slice_index (words_of memory) n ≡ slice_index words n)
      → (n : ℕ) → n < number + 1
      → slice_index (words_of (set memory (place_of_word number) (slice_index words number))) n
      ≡ slice_index words n
  laid_next number within laid n low =
      let value : ℕ = slice_index words number in
      ap (λ (ws : List ℕ). slice_index ws n)
      (word_stored memory (omega (arith, some, long)) number value)
      ∙ elim (cases_eq n number) [
        | inl is ↦ subst (λ (k : ℕ). slice_index (set (words_of memory) number value) k
            ≡ slice_index words k) (sym is)
            (get_or-set_same (words_of memory) number value 0 (omega (arith, full, within)))
        | inr other ↦ get_or-set_other (words_of memory) number n value 0 other
            ∙ laid n (omega (arith, low, other))
      ]

  -- all are laid out
  pub laid_all : ((n : ℕ) → n < length words
      → slice_index (words_of memory) n ≡ slice_index words n) → words_of memory ≡ words
  laid_all laid = ext_get_or 0 (words_of memory) words full
      (λ n within. laid n (omega (arith, within, full)))

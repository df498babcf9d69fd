-- What becomes of each word when one is set: each has its own number.
use Rattle.std.proofs.Common.{◌≡◌, ◌≢◌, ◌⊎◌, ⊎_elim, ℕ, ◌+◌, ◌*◌, ◌<◌, ◌≤◌, List, length, set, ◌∙◌, arith}
use Rattle.std.specs.Prelude.{slice_index}
use Rattle.std.proofs.lemmas.List.{length-set, set-get_or, get_or-set_same, get_or-set_other}
use Rattle.machine_state.specs.declared.setup.Setup.{Setup}
use Rattle.machine_state.specs.Words.{end_word, ends_number, lock_number, lock_word, mapping_turn_number, word_count, word_of_ring}

module _ (words : List ℕ) where
  -- a load leaves all words
  pub word_again : (i : ℕ) → set words i (slice_index words i) ≡ words
  word_again i = set-get_or words i 0

  -- any two words, by their numbers
  pub word_set : (i n : ℕ) → i < length words → slice_index (set words i n) i ≡ n
  word_set i n within = get_or-set_same words i n 0 within

  pub word_else : (i n j : ℕ) → j ≢ i → slice_index (set words i n) j ≡ slice_index words j
  word_else i n j ne = get_or-set_other words i j n 0 ne

  -- the locks
  pub locks_else : (i n : ℕ) → (i < 2) ⊎ (mapping_turn_number ≤ i) → (lock : ℕ) → lock < 8
      → lock_word (set words i n) lock ≡ lock_word words lock
  locks_else i n away lock low =
      word_else i n (lock_number lock) (λ e. ⊎_elim (λ before. omega arith) (λ behind. omega arith) away)

  pub lock_else : (lock n other : ℕ) → other ≢ lock
      → lock_word (set words (lock_number lock) n) other ≡ lock_word words other
  lock_else lock n other ne = word_else (lock_number lock) n (lock_number other) (λ e. ne (omega arith))

  -- the ends of the buffers
  pub ends_before : (i n : ℕ) → i < ends_number → end_word (set words i n) ≡ end_word words
  ends_before i n before = λ k b. word_else i n (ends_number + b) (λ e. omega arith) k

  pub end_else : (buffer n b : ℕ) → b ≢ buffer
      → end_word (set words (ends_number + buffer) n) b ≡ end_word words b
  end_else buffer n b ne = word_else (ends_number + buffer) n (ends_number + b) (λ e. ne (omega arith))

  module _ (setup : Setup) where
    -- the ring
    pub ring_before : (i n : ℕ) → i < ends_number + setup.ring_pages
        → word_of_ring setup (set words i n) ≡ word_of_ring setup words
    ring_before i n before =
        λ k place. word_else i n (ends_number + setup.ring_pages + place) (λ e. omega arith) k

    pub ring_else : (place n p : ℕ) → p ≢ place
        → word_of_ring setup (set words (ends_number + setup.ring_pages + place) n) p
        ≡ word_of_ring setup words p
    ring_else place n p ne = word_else (ends_number + setup.ring_pages + place) n
        (ends_number + setup.ring_pages + p) (λ e. ne (omega arith))

    pub ends_behind : (place n b : ℕ) → b < setup.ring_pages
        → end_word (set words (ends_number + setup.ring_pages + place) n) b ≡ end_word words b
    ends_behind place n b below =
        word_else (ends_number + setup.ring_pages + place) n (ends_number + b) (λ e. omega arith)

    module _ (wide : length words ≡ word_count setup) where
      pub single_set : (i n : ℕ) → i < ends_number → slice_index (set words i n) i ≡ n
      single_set i n single = word_set i n (omega (arith, wide))

      pub lock_set : (lock n : ℕ) → lock < 8 → lock_word (set words (lock_number lock) n) lock ≡ n
      lock_set lock n low = word_set (lock_number lock) n (omega (arith, wide))

      pub end_set : (buffer n : ℕ) → buffer < setup.ring_pages
          → end_word (set words (ends_number + buffer) n) buffer ≡ n
      end_set buffer n below = word_set (ends_number + buffer) n (omega (arith, wide))

      pub ring_set : (place n : ℕ) → place < setup.ring_pages * 1024
          → word_of_ring setup (set words (ends_number + setup.ring_pages + place) n) place ≡ n
      ring_set place n below = word_set (ends_number + setup.ring_pages + place) n (omega (arith, wide))

pub wide_still : (setup : Setup) (words : List ℕ) (i n : ℕ) → length words ≡ word_count setup
    → length (set words i n) ≡ word_count setup
wide_still setup words i n wide = length-set words i n ∙ wide

-- A word that is set by its number changes one value of the ends of the buffers, or of the ring.
use Rattle.std.proofs.Common.{◌≡◌, ℕ, ◌+◌, ◌*◌, ◌/◌, ◌%◌, ◌<◌, Bool, cond, eq-eqb, ne_eqb, List, length, set, refl, ap, arith}
use Rattle.std.proofs.Math.Nat.{mod-lt}
use Rattle.machine_state.specs.declared.setup.Setup.{Setup}
use Rattle.machine_state.specs.Words.{end_word, word_of_ring, word_count, ends_number}
use Rattle.machine_state.specs.Steps.{buffer_of, ring_place}
use Rattle.machine_state.proofs.WordLists.{end_else, end_set, ring_else, ring_set}
use Rattle.machine_laws.specs.WordsPut.{IsPut, put}

pub put_is : (before : ℕ → ℕ) (index value : ℕ) → IsPut before index value (put before index value)
put_is before index value = record {
  here = ap (λ (b : Bool). cond b value (before index)) (eq-eqb index index refl);
  elsewhere = λ k ne. ap (λ (b : Bool). cond b value (before k)) (ne_eqb k index ne);
}

module _ (setup : Setup) where
  -- buffers and places are the ring's
  pub buffer-below : 0 < setup.ring_pages → (at : ℕ) → buffer_of setup at < setup.ring_pages
  buffer-below some at = mod-lt (at / 8192) some

  pub place-below : (buffer n : ℕ) → buffer < setup.ring_pages → n < 1024
      → buffer * 1024 + n < setup.ring_pages * 1024
  place-below buffer n below small = omega arith

  pub ring_place-below : 0 < setup.ring_pages → (k : ℕ)
      → ring_place setup k < setup.ring_pages * 1024
  ring_place-below some k = place-below (k / 1024 % setup.ring_pages) (k % 1024)
      (mod-lt (k / 1024) some) (mod-lt k (omega arith))

  module _ (words : List ℕ) (wide : length words ≡ word_count setup) where
    pub end_put : (buffer value : ℕ) → buffer < setup.ring_pages
        → IsPut (end_word words) buffer value (end_word (set words (ends_number + buffer) value))
    end_put buffer value below = record {
      here = end_set words setup wide buffer value below;
      elsewhere = λ b ne. end_else words buffer value b ne;
    }

    pub ring_put : (place value : ℕ) → place < setup.ring_pages * 1024
        → IsPut (word_of_ring setup words) place value
        (word_of_ring setup (set words (ends_number + setup.ring_pages + place) value))
    ring_put place value below = record {
      here = ring_set words setup wide place value below;
      elsewhere = λ p ne. ring_else words setup place value p ne;
    }

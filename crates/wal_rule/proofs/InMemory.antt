-- What is allowed of the words by their numbers is allowed of the memory in which they lie.
use Rattle.std.proofs.Common.{◌≡◌, ℕ, ◌<◌, ◌≤◌, arith, List, length, set, slice_index, sym, ap, subst}
use Rattle.atomic_table.specs.Table.{Allows, Final, Me, Seen, State, carried_after, homes_after}
use Rattle.wal_rule.specs.WordPlaces.{first_end_place, place_of_word, words_of}
use Rattle.wal_rule.proofs.WordPlaceLaws.{word_count_of, word_stored, word_there}

module _ {S V : Type 0} where
  -- a table's state, with its words by their numbers
  abbrev pub by_number : State S V → State S V
  by_number s = record { words = words_of s.words; homes = s.homes; views = s.views }

  -- a rule of the words by their numbers, as one of the memory
  abbrev pub InMemory : (State S V → Type 0) → State S V → Type 0
  InMemory rule s = rule (by_number s)

  module _ (rule : State S V → Type 0) (long : (s : State S V) → rule s → 17 < length s.words)
    where
      reaches : (s : State S V) → InMemory rule s → first_end_place ≤ length s.words
      reaches s k =
          let many = long (by_number s) k in
          let count = word_count_of s.words in
          omega (arith, many, count)

      -- a step on a word is one on its place
      pub at_place : (slots id : ℕ) (me : Me S V) (number : ℕ) (f : ℕ → ℕ)
          (then : ℕ → Me S V → Type 0) → Allows rule slots id me number f then
          → Allows (InMemory rule) slots id me (place_of_word number) f then
      at_place slots id me number f then allows = λ s k one here fits.
          let place : ℕ = place_of_word number in
          let met : ℕ = slice_index s.words place in
          let read : slice_index (words_of s.words) number ≡ met = word_there s.words number in
          let step = allows (by_number s) k one here
          (subst (λ (n : ℕ). n < 18446744073709551616) (sym read) fits) in
          let behind : List ℕ → Type 0 = λ words. rule (record {
            words = words;
            homes = homes_after s.homes me.1 step.1;
            views = set s.views id step.0;
          }) in (
            step.0,
            step.1,
            step.2,
            subst behind (sym (word_stored s.words (reaches s k) number (f met)))
                (subst (λ (n : ℕ). behind (set (words_of s.words) number (f n))) read step.3),
            subst (λ (n : ℕ). then n (step.0, carried_after me.1 step.1)) read step.4,
          )

  -- what is known of the last state
  pub ends_by_number : (rule : State S V → Type 0) (id : ℕ) (v : V) (words : List ℕ)
      (slots : List S) → Final (Seen (InMemory rule) id v) words slots
      → Final (Seen rule id v) (words_of words) slots
  ends_by_number rule id v words slots end =
      (by_number end.0, end.1, ap words_of end.2, end.3, end.4)

-- The entries of one number end no later than the order does, and each starts below where the last
-- one ends.
use Rattle.std.proofs.Common.{◌≡◌, ℕ, ◌+◌, ◌<◌, ◌≤◌, cond, Bool, true, false, All, List, [], ◌∷◌, Some, refl, ap, sym, ◌∙◌, arith}
use Rattle.std.proofs.lemmas.Bool.{true≢false}
use Rattle.std.proofs.lemmas.List.Elements.{All-cons, All-nil}
use Rattle.wal_page.specs.Order.{Entry, FollowsFrom, position_behind, rooms_of}
use Rattle.wal_page.proofs.OrderLaws.{room_at-pos, rooms_of_cons}
use Rattle.machine_state.specs.Ordered.{entries_under, is_pass}
use Rattle.machine_laws.proofs.OrderedEntries.{is_pass_own}
use Rattle.run_laws.specs.Played.{behind_last_own}

pub ends_within : (size number position behind : ℕ) (es : List Entry)
    → FollowsFrom size position es → behind ≤ position
    → behind_last_own size behind (entries_under number es) ≤ position + rooms_of size es
ends_within size number position behind [] follows within = omega (arith, within)
ends_within size number position behind (e ∷ es) follows within =
    let next = position_behind size e in
    by_test (is_pass number e.pass)
    (ends_within size number next next es follows.2 (omega arith))
    (ends_within size number next behind es follows.2 (omega (arith, follows.0, within)))
  where
    by_test : (b : Bool)
        → behind_last_own size (position_behind size e) (entries_under number es)
        ≤ position_behind size e + rooms_of size es
        → behind_last_own size behind (entries_under number es)
        ≤ position_behind size e + rooms_of size es
        → behind_last_own size behind (cond b (e ∷ entries_under number es) (entries_under number es))
        ≤ position + rooms_of size (e ∷ es)
    by_test true with_it without = omega (arith, follows.0, rooms_of_cons size e es, with_it)
    by_test false with_it without = omega (arith, follows.0, rooms_of_cons size e es, without)

-- ---- where they start

-- an entry of the number starts below a position
abbrev pub StartsBelow : (number position : ℕ) → Entry → Type 0
StartsBelow number position e = e.pass ≡ Some number → e.start < position

module _ (size number : ℕ) where
  -- they end no lower than where the order begins
  low_end : (position behind : ℕ) (es : List Entry) → FollowsFrom size position es
      → behind ≤ position → behind ≤ behind_last_own size behind (entries_under number es)
  low_end position behind [] follows within = omega arith
  low_end position behind (e ∷ es) follows within =
      let next = position_behind size e in
      by_test (is_pass number e.pass) (low_end next next es follows.2 (omega arith))
      (low_end next behind es follows.2 (omega (arith, follows.0, within)))
    where
      by_test : (b : Bool)
          → position_behind size e
          ≤ behind_last_own size (position_behind size e) (entries_under number es)
          → behind ≤ behind_last_own size behind (entries_under number es)
          → behind ≤ behind_last_own size behind
          (cond b (e ∷ entries_under number es) (entries_under number es))
      by_test true with_it without = omega (arith, follows.0, within, with_it)
      by_test false with_it without = without

  pub own_starts_below : (position behind : ℕ) (es : List Entry) → FollowsFrom size position es
      → behind ≤ position
      → All (StartsBelow number (behind_last_own size behind (entries_under number es))) es
  own_starts_below position behind [] follows within = All-nil (StartsBelow number behind)
  own_starts_below position behind (e ∷ es) follows within =
      let next = position_behind size e in
      by_test (is_pass number e.pass) refl
      (own_starts_below next next es follows.2 (omega arith))
      (own_starts_below next behind es follows.2 (omega (arith, follows.0, within)))
    where
      own : e.pass ≡ Some number → is_pass number e.pass ≡ true
      own mine = ap (is_pass number) mine ∙ is_pass_own number

      by_test : (b : Bool) → is_pass number e.pass ≡ b
          → All (StartsBelow number
          (behind_last_own size (position_behind size e) (entries_under number es))) es
          → All (StartsBelow number (behind_last_own size behind (entries_under number es))) es
          → All (StartsBelow number (behind_last_own size behind
          (cond b (e ∷ entries_under number es) (entries_under number es)))) (e ∷ es)
      by_test true is with_it without =
          let next = position_behind size e in
          let low = low_end next next es follows.2 (omega arith) in
          All-cons
          (StartsBelow number (behind_last_own size next (entries_under number es))) e es
          (λ mine. omega (arith, low, room_at-pos size e)) with_it
      by_test false is with_it without =
          All-cons (StartsBelow number (behind_last_own size behind (entries_under number es)))
          e es (λ mine. absurd (true≢false (sym (own mine) ∙ is))) without

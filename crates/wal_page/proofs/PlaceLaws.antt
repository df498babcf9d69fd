-- Laws of a log that goes on at a place, for the proofs of this crate and of those above.
use Rattle.std.proofs.Common.{◌≡◌, ℕ, ◌+◌, ◌-◌, ◌/◌, ◌%◌, ◌<◌, ◌≤◌, ◌↔◌, cond, ltb, leb, ◌&&◌, List, [], ◌∷◌, ◌++◌, get_or, Option, None, Some, refl, ap, subst, sym, ◌∙◌, inl, inr, arith}
use Rattle.std.proofs.lemmas.Bool.{cases_Bool, cases_lt, cond-true, cond-false, le-ltb, lt-ltb}
use Rattle.std.proofs.lemmas.List.{append_assoc}
use Rattle.std.proofs.lemmas.Option.{none-some, same_Some}
use Rattle.byte_position.specs.Geometry.{IsSegmentSize}
use Rattle.byte_position.specs.Position.{position_of, address_of, end_address_of, first_position}
use Rattle.byte_position.proofs.EndAddresses.{le-position_of, end_address_of-le}
use Rattle.wal_spelling.specs.Record.{switch_record}
use Rattle.wal_spelling.specs.Spelling.{assembled, room_of}
use Rattle.wal_spelling.proofs.SwitchLaws.{room-switch}
use Rattle.wal_page.specs.Order.{Entry, FollowsFrom, IsChained, next_segment, position_behind, prev_before, prev_of, rooms_of}
use Rattle.wal_page.specs.Log.{log_word, owner_of, owner_at}
use Rattle.wal_page.specs.Placed.{Owns, entry_word}
use Rattle.wal_page.specs.LogPlace.{IsPlace, LogPlace, end_from, new_place, word_below, word_from, word_of_owner}
use Rattle.wal_page.proofs.OrderLaws.{FollowsFrom-parts, prev_before-entry, rooms_of-append}
use Rattle.wal_page.proofs.OwnerLaws.{FollowsFrom-whole, owner_of-entry, owner_of-found, owner_of-none_before, owner_of-none_behind, owner_of-none_where, owner_of_push, owns_or_not}
use Rattle.wal_page.proofs.PaddingLaws.{position_behind-switch_record}
use Rattle.wal_page.proofs.LogWordLaws.{entry_word-padding, log_word-entry, log_word-unowned}
use Rattle.wal_page.proofs.WordPositions.{end_address_of-first_position, first_position-whole}

-- ---- where entries stand that follow from a byte position on

module _ (size : ℕ) (valid : IsSegmentSize size) (position : ℕ) where
  pub end-whole_from : (es : List Entry) → FollowsFrom size position es → position % 8 ≡ 0 → (position + rooms_of size es) % 8 ≡ 0
  end-whole_from es chain whole = omega (arith, whole, FollowsFrom-whole size valid position es chain whole)

  pub start-whole_from : (front back : List Entry) (e : Entry) → FollowsFrom size position (front ++ e ∷ back) → position % 8 ≡ 0 → e.start % 8 ≡ 0
  start-whole_from front back e chain whole =
      let parts = FollowsFrom-parts size position front (e ∷ back) chain in
      omega (arith, parts.1.0, end-whole_from front parts.0 whole)

  pub start-from : (front back : List Entry) (e : Entry) → FollowsFrom size position (front ++ e ∷ back) → position ≤ e.start
  start-from front back e chain =
      let parts = FollowsFrom-parts size position front (e ∷ back) chain in
      omega (arith, parts.1.0)

  -- the entry behind a switch starts with the segment behind the one in which the switch ends
  pub start-behind_switch_from : (front back : List Entry) (e next : Entry) → FollowsFrom size position (front ++ e ∷ next ∷ back) → position % 8 ≡ 0 → e.value ≡ switch_record → next.start ≡ next_segment size (e.start + 23)
  start-behind_switch_from front back e next chain whole switch =
      let parts = FollowsFrom-parts size position front (e ∷ next ∷ back) chain in
      parts.1.2.0 ∙ position_behind-switch_record size valid e (start-whole_from front (next ∷ back) e chain whole) switch

  -- ---- who owns an address

  pub owner_at-entry_from_iff : (front back : List Entry) (e : Entry) → FollowsFrom size position (front ++ e ∷ back) → (address : ℕ) → (owner_at size (front ++ e ∷ back) address ≡ Some e) ↔ Owns size (assembled e.value) e.start address
  owner_at-entry_from_iff front back e chain address = (
    λ owner. owner_of-found size (front ++ e ∷ back) (position_of size address) e owner,
    λ owns. owner_of-entry size position front back e chain (position_of size address) owns.0 owns.1,
  )

  pub owner_at-none_below : (es : List Entry) → FollowsFrom size position es → (address : ℕ) → address < end_address_of size position → owner_at size es address ≡ None
  owner_at-none_below es chain address below =
      elim (cases_lt (position_of size address) position) [
        | inl lt ↦ owner_of-none_before size position es chain (position_of size address) lt
        | inr le ↦ absurd (omega (arith, end_address_of-le size valid position address le))
      ]

  pub owner_at-none_from : (es : List Entry) → FollowsFrom size position es → (address : ℕ) → end_address_of size (position + rooms_of size es) ≤ address → owner_at size es address ≡ None
  owner_at-none_from es chain address behind =
      owner_of-none_behind size position es chain (position_of size address) (le-position_of size valid (position + rooms_of size es) address behind)

-- ---- the entry before one, where another follows

prev_before_push : (size prev : ℕ) (es : List Entry) (e : Entry) (start : ℕ) → start ≤ e.start → prev_before size prev (es ++ e ∷ []) start ≡ prev_before size prev es start
prev_before_push size prev [] e start le = cond-false (ltb e.start start) (address_of size e.start) prev (le-ltb e.start start le)
prev_before_push size prev (f ∷ es) e start le =
    ap (λ (q : ℕ). cond (ltb f.start start) q prev) (prev_before_push size (address_of size f.start) es e start le)

-- ---- the words

module _ (size sysid : ℕ) (valid : IsSegmentSize size) (place : LogPlace) where
  abbrev end : ℕ
  end = end_address_of size place.position

  pub word_from-below : (es : List Entry) (a : ℕ) → a < end → word_from size sysid place es a ≡ word_below size place a
  word_from-below es a below = cond-true (ltb a end) (word_below size place a) (word_of_owner size sysid place.prev es a (owner_at size es a)) (lt-ltb a end below)

  word_from-owner : (es : List Entry) (a : ℕ) → end ≤ a → word_from size sysid place es a ≡ word_of_owner size sysid place.prev es a (owner_at size es a)
  word_from-owner es a from = cond-false (ltb a end) (word_below size place a) (word_of_owner size sysid place.prev es a (owner_at size es a)) (le-ltb a end from)

  -- none is in segment 0
  end-low : IsPlace size place → size ≤ end
  end-low stands =
      let first = end_address_of-first_position size valid in
      let rises = le-position_of size valid place.position end (omega arith) in
      omega (arith, first, end_address_of-le size valid (first_position size) end (omega (arith, rises, stands.from)))

  pub word_from-before : IsPlace size place → (es : List Entry) (a : ℕ) → a < size → word_from size sysid place es a ≡ 0
  word_from-before stands es a before =
      word_from-below es a (omega (arith, end-low stands)) ∙ cond-true (ltb a size) 0 (get_or place.below ((a - size) / 8) 0) (lt-ltb a size before)

  -- an entry gives the words that it owns
  pub word_from-entry : (front back : List Entry) (e : Entry) → FollowsFrom size place.position (front ++ e ∷ back) → (a : ℕ) → Owns size (assembled e.value) e.start a
      → word_from size sysid place (front ++ e ∷ back) a ≡ entry_word size sysid (assembled e.value) e.start (prev_of size place.prev front) a
  word_from-entry front back e chain a owns =
      let es = front ++ e ∷ back in
      let from : end ≤ a = end_address_of-le size valid place.position a (omega (arith, owns.0, start-from size valid place.position front back e chain)) in
      word_from-owner es a from
      ∙ ap (word_of_owner size sysid place.prev es a) ((owner_at-entry_from_iff size valid place.position front back e chain a).1 owns)
      ∙ ap (λ (q : ℕ). entry_word size sysid (assembled e.value) e.start q a) (prev_before-entry size place.prev place.position front back e chain)

  -- an entry that follows gives no word that it does not own
  owner-low : (es : List Entry) (e : Entry) → FollowsFrom size place.position es → e.start ≡ place.position + rooms_of size es → (p : ℕ) (f : Entry) → owner_of size es p ≡ Some f → f.start ≤ e.start
  owner-low es e chain at p f owns =
      elim (cases_lt p e.start) [
        | inl lt ↦ omega (arith, (owner_of-found size es p f owns).0)
        | inr le ↦ (let none = owner_of-none_behind size place.position es chain p (omega (arith, at)) in absurd (none-some f (sym none ∙ owns)))
      ]

  word_of_owner_push : (es : List Entry) (e : Entry) (a : ℕ) (owner : Option Entry) → ((f : Entry) → owner ≡ Some f → f.start ≤ e.start)
      → word_of_owner size sysid place.prev (es ++ e ∷ []) a owner ≡ word_of_owner size sysid place.prev es a owner
  word_of_owner_push es e a None low = refl
  word_of_owner_push es e a (Some f) low =
      ap (λ (q : ℕ). entry_word size sysid (assembled f.value) f.start q a) (prev_before_push size place.prev es e f.start (low f refl))

  pub word_from_push : (es : List Entry) (e : Entry) → FollowsFrom size place.position es → e.start ≡ place.position + rooms_of size es → (a : ℕ) → (Owns size (assembled e.value) e.start a → ⊥)
      → word_from size sysid place (es ++ e ∷ []) a ≡ word_from size sysid place es a
  word_from_push es e chain at a not_owned =
      let p = position_of size a in
      let away = owns_or_not size (assembled e.value) e.start a not_owned in
      let same : owner_at size (es ++ e ∷ []) a ≡ owner_at size es a = owner_of_push size es e p away in
      elim (cases_lt a end) [
        | inl below ↦ word_from-below (es ++ e ∷ []) a below ∙ sym (word_from-below es a below)
        | inr from ↦ word_from-owner (es ++ e ∷ []) a from
            ∙ ap (word_of_owner size sysid place.prev (es ++ e ∷ []) a) same
            ∙ word_of_owner_push es e a (owner_at size es a) (owner-low es e chain at p)
            ∙ sym (word_from-owner es a from)
      ]

  -- what nobody owns is 0
  pub word_from-unowned : (es : List Entry) (a : ℕ) → end ≤ a → owner_at size es a ≡ None → word_from size sysid place es a ≡ 0
  word_from-unowned es a from none = word_from-owner es a from ∙ ap (word_of_owner size sysid place.prev es a) none

  pub word_from-behind : (es : List Entry) → FollowsFrom size place.position es → (a : ℕ) → end_address_of size (end_from size place es) ≤ a → word_from size sysid place es a ≡ 0
  word_from-behind es chain a behind =
      let rises : end ≤ a = end_address_of-le size valid place.position a (omega (arith, le-position_of size valid (end_from size place es) a behind)) in
      word_from-unowned es a rises (owner_at-none_from size valid place.position es chain a behind)

  -- so are all words between a switch and the next entry
  pub word_from-behind_switch : (front back : List Entry) (e : Entry) → FollowsFrom size place.position (front ++ e ∷ back) → e.value ≡ switch_record → (a : ℕ) → e.start + 24 ≤ position_of size a → position_of size a < position_behind size e
      → word_from size sysid place (front ++ e ∷ back) a ≡ 0
  word_from-behind_switch front back e chain switch a behind within =
      let room : room_of e.value ≡ 24 = ap room_of switch ∙ room-switch in
      word_from-entry front back e chain a (omega arith, within)
      ∙ entry_word-padding size sysid valid (assembled e.value) e.start (prev_of size place.prev front) a (omega (arith, room, behind))

-- ---- places that a log written from its start on has

-- an order parts at whoever owns a position
pub owner_parts : (size : ℕ) (es : List Entry) (p : ℕ) (e : Entry) → owner_of size es p ≡ Some e → (front : List Entry) × (back : List Entry) × (es ≡ front ++ e ∷ back)
owner_parts size [] p e owner = absurd (none-some e owner)
owner_parts size (f ∷ es) p e owner =
    let has = leb f.start p && ltb p (position_behind size f) in
    elim (cases_Bool has) [
      | inl here ↦ ([], es, ap (λ (g : Entry). g ∷ es) (same_Some f e (sym (cond-true has (Some f) (owner_of size es p) here) ∙ owner)))
      | inr further ↦
          (let rest = owner_parts size es p e (sym (cond-false has (Some f) (owner_of size es p) further) ∙ owner) in
          (f ∷ rest.0, rest.1, ap (λ (l : List Entry). f ∷ l) rest.2))
    ]

prev_of-append : (size prev : ℕ) (es fs : List Entry) → prev_of size prev (es ++ fs) ≡ prev_of size (prev_of size prev es) fs
prev_of-append size prev [] fs = refl
prev_of-append size prev (e ∷ es) fs = prev_of-append size (address_of size e.start) es fs

module _ (size sysid : ℕ) (valid : IsSegmentSize size) where
  pub new_place-stands : IsPlace size (new_place size)
  new_place-stands = record { whole = first_position-whole size valid; from = omega arith }

  -- entries that follow change no word below
  log_word-front : (es fs : List Entry) → IsChained size (es ++ fs) → (a : ℕ) → a % 8 ≡ 0 → a < end_address_of size (first_position size + rooms_of size es) → (o : Option Entry) → owner_at size es a ≡ o
      → log_word size sysid (es ++ fs) a ≡ log_word size sysid es a
  log_word-front es fs chain a whole below None none =
      let front = (FollowsFrom-parts size (first_position size) es fs chain).0 in
      let p = position_of size a in
      elim (owner_of-none_where size (first_position size) es front p none) [
        | inl before ↦ log_word-unowned size sysid valid (es ++ fs) chain a whole (owner_of-none_before size (first_position size) (es ++ fs) chain p before) ∙ sym (log_word-unowned size sysid valid es front a whole none)
        | inr behind ↦ absurd (omega (arith, end_address_of-le size valid (first_position size + rooms_of size es) a behind))
      ]
  log_word-front es fs chain a whole below (Some e) some =
      let parts = owner_parts size es (position_of size a) e some in
      let here : es ++ fs ≡ parts.0 ++ e ∷ (parts.1 ++ fs) = ap (λ (l : List Entry). l ++ fs) parts.2 ∙ append_assoc parts.0 (e ∷ parts.1) fs in
      let front = (FollowsFrom-parts size (first_position size) es fs chain).0 in
      let owns : Owns size (assembled e.value) e.start a = owner_of-found size es (position_of size a) e some in
      ap (λ (l : List Entry). log_word size sysid l a) here
      ∙ log_word-entry size sysid valid parts.0 (parts.1 ++ fs) e (subst (IsChained size) here chain) a whole owns
      ∙ sym (ap (λ (l : List Entry). log_word size sysid l a) parts.2 ∙ log_word-entry size sysid valid parts.0 parts.1 e (subst (IsChained size) parts.2 front) a whole owns)

  -- Behind entries that are found, whose last start it names, with their words below: those that
  -- follow give the words that all of them give together
  module _ (found : List Entry) (place : LogPlace) (at : place.position ≡ first_position size + rooms_of size found) (behind : place.prev ≡ prev_of size 0 found)
      (words : (a : ℕ) → a % 8 ≡ 0 → a < end_address_of size place.position → word_below size place a ≡ log_word size sysid found a) where
    word_of_owner-all : (es : List Entry) → IsChained size (found ++ es) → FollowsFrom size place.position es → (a : ℕ) → a % 8 ≡ 0 → end_address_of size place.position ≤ a → (o : Option Entry) → owner_at size es a ≡ o
        → word_from size sysid place es a ≡ log_word size sysid (found ++ es) a
    word_of_owner-all es chain follows a whole from None none =
        let p = position_of size a in
        let rooms = rooms_of-append size found es in
        let passed = le-position_of size valid place.position a from in
        let nobody : owner_at size (found ++ es) a ≡ None =
        elim (owner_of-none_where size place.position es follows p none) [
          | inl before ↦ absurd (omega arith)
          | inr past ↦ owner_of-none_behind size (first_position size) (found ++ es) chain p (omega (arith, at, rooms))
        ] in
        word_from-unowned size sysid valid place es a from none ∙ sym (log_word-unowned size sysid valid (found ++ es) chain a whole nobody)
    word_of_owner-all es chain follows a whole from (Some e) some =
        let parts = owner_parts size es (position_of size a) e some in
        let owns : Owns size (assembled e.value) e.start a = owner_of-found size es (position_of size a) e some in
        let here : found ++ es ≡ (found ++ parts.0) ++ e ∷ parts.1 = ap (λ (l : List Entry). found ++ l) parts.2 ∙ sym (append_assoc found parts.0 (e ∷ parts.1)) in
        let last : prev_of size place.prev parts.0 ≡ prev_of size 0 (found ++ parts.0) = ap (λ (q : ℕ). prev_of size q parts.0) behind ∙ sym (prev_of-append size 0 found parts.0) in
        ap (λ (l : List Entry). word_from size sysid place l a) parts.2
        ∙ word_from-entry size sysid valid place parts.0 parts.1 e (subst (FollowsFrom size place.position) parts.2 follows) a owns
        ∙ ap (λ (q : ℕ). entry_word size sysid (assembled e.value) e.start q a) last
        ∙ sym (ap (λ (l : List Entry). log_word size sysid l a) here ∙ log_word-entry size sysid valid (found ++ parts.0) parts.1 e (subst (IsChained size) here chain) a whole owns)

    pub word_from-all : (es : List Entry) → IsChained size (found ++ es) → (a : ℕ) → a % 8 ≡ 0 → word_from size sysid place es a ≡ log_word size sysid (found ++ es) a
    word_from-all es chain a whole =
        let follows : FollowsFrom size place.position es = subst (λ (p : ℕ). FollowsFrom size p es) (sym at) (FollowsFrom-parts size (first_position size) found es chain).1 in
        let end : end_address_of size place.position ≡ end_address_of size (first_position size + rooms_of size found) = ap (end_address_of size) at in
        elim (cases_lt a (end_address_of size place.position)) [
          | inl below ↦ word_from-below size sysid valid place es a below ∙ words a whole below ∙ sym (log_word-front found es chain a whole (omega (arith, end)) (owner_at size found a) refl)
          | inr from ↦ word_of_owner-all es chain follows a whole from (owner_at size es a) refl
        ]

  -- so the words from a new log's place on are its words
  pub word_from-new : (es : List Entry) → IsChained size es → (a : ℕ) → a % 8 ≡ 0 → word_from size sysid (new_place size) es a ≡ log_word size sysid es a
  word_from-new es chain a whole =
      let first = end_address_of-first_position size valid in
      word_from-all [] (new_place size) (omega arith) refl (λ b at below.
      let before : b < size = omega (arith, first, below) in
      cond-true (ltb b size) 0 (get_or [] ((b - size) / 8) 0) (lt-ltb b size before)
      ∙ sym (log_word-unowned size sysid valid [] tt b at refl)) es chain a whole

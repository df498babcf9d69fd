-- The steps by which a record's words are given.
use Rattle.std.proofs.Common.{◌≡◌, ℕ, ◌+◌, ◌-◌, ◌*◌, ◌/◌, ◌%◌, ◌^◌, ◌<◌, ◌≤◌, ltb, eqb, true, false, List, get_or, replicate, cond, ap, sym, ◌∙◌, inl, inr, arith}
use Rattle.std.proofs.lemmas.Bool.{cases_lt, lt-ltb, le-ltb, eq-eqb, ne_eqb, cond-true, cond-false}
use Rattle.std.proofs.lemmas.List.{get_or-replicate}
use Rattle.byte_position.specs.Geometry.{IsSegmentSize}
use Rattle.byte_position.specs.Position.{is_in_header, position_of, end_address_of}
use Rattle.byte_position.proofs.EndAddresses.{end_address_of-le, le-position_of, position_of-end_address_of}
use Rattle.byte_position.proofs.Rising.{position_of-mono}
use Rattle.byte_position.proofs.Words.{end_address_of-mod_word}
use Rattle.wal_spelling.specs.Spelling.{Assembled, assembled_room, assembled_size, filled, word_at}
use Rattle.wal_page.specs.Order.{assembled_room_at}
use Rattle.wal_page.specs.Page.{page_header}
use Rattle.wal_page.specs.Placed.{Owns, StandsAt, entry_word, still_to_come}
use Rattle.wal_page.proofs.WordPositions.{position_of-header_word, position_of-own_word, position_of-whole, address-bound}
use Rattle.wal_page.proofs.OwnerLaws.{Owns-between}
use Rattle.wal_page.proofs.PaddingLaws.{assembled_room_at-bound, assembled_room_at-whole, usable-bound}
use Rattle.wal_page.proofs.LogWordLaws.{entry_word-inside, entry_word-padding}

-- what is still to come, as the code counts it
pub still_to_come-passed : (a : Assembled) (start position passed : ℕ) → position ≡ start + passed → still_to_come a start position ≡ cond (eqb passed 0) 0 (assembled_size a - passed)
still_to_come-passed a start position passed e =
    elim (cases_lt 0 passed) [
      | inl lt ↦ cond-true (ltb start position) _ _ (lt-ltb start position (omega arith)) ∙ omega arith ∙ sym (cond-false (eqb passed 0) 0 (assembled_size a - passed) (ne_eqb passed 0 (omega arith)))
      | inr le ↦ cond-false (ltb start position) _ _ (le-ltb start position (omega arith)) ∙ sym (cond-true (eqb passed 0) 0 (assembled_size a - passed) (eq-eqb passed 0 (omega arith)))
    ]

-- before the first word
pub stands_first : (size : ℕ) (a : Assembled) (start room : ℕ) → IsSegmentSize size → room ≡ assembled_room_at size start a → start % 8 ≡ 0 → start + room < 2 ^ 60 → StandsAt size a start room (end_address_of size start) 0
stands_first size a start room valid takes_up whole within =
    let at = position_of-end_address_of size valid start in
    record {
      valid = valid;
      takes_up = takes_up;
      whole_start = whole;
      within = within;
      whole_next = end_address_of-mod_word size valid start whole;
      position = omega (arith, at);
      passed_within = omega arith;
      next_within = end_address_of-le size valid start (end_address_of size (start + room)) (omega (arith, position_of-end_address_of size valid (start + room)));
    }

-- before a word further on
pub stands_between : (size : ℕ) (a : Assembled) (start room next : ℕ) → IsSegmentSize size → room ≡ assembled_room_at size start a → start % 8 ≡ 0 → start + room < 2 ^ 60 → next % 8 ≡ 0 → end_address_of size start ≤ next → next ≤ end_address_of size (start + room)
    → StandsAt size a start room next (position_of size next - start)
stands_between size a start room next valid takes_up whole within at_word begun owned =
    let from = le-position_of size valid start next begun in
    let below = position_of-mono size next (end_address_of size (start + room)) owned in
    record {
      valid = valid;
      takes_up = takes_up;
      whole_start = whole;
      within = within;
      whole_next = at_word;
      position = omega (arith, from);
      passed_within = omega (arith, below, position_of-end_address_of size valid (start + room));
      next_within = owned;
    }

module _ (size : ℕ) (a : Assembled) (start room next passed : ℕ) (stands : StandsAt size a start room next passed) where
  pub passed-whole : passed % 8 ≡ 0
  passed-whole =
      let here = position_of-whole size stands.valid next stands.whole_next in
      omega (arith, here, stands.position, stands.whole_start)

  room-whole : room % 8 ≡ 0
  room-whole = omega (arith, stands.takes_up, assembled_room_at-whole size stands.valid start a stands.whole_start)

  pub next-bound : next < 2 ^ 62
  next-bound = omega (arith, address-bound size stands.valid next, stands.position, stands.passed_within, stands.within)

  -- behind the last word
  pub stands_behind : passed ≡ room → next ≡ end_address_of size (start + assembled_room_at size start a)
  stands_behind all =
      let reached = end_address_of-le size stands.valid (start + room) next (omega (arith, stands.position)) in
      let end : next ≡ end_address_of size (start + room) = omega (arith, reached, stands.next_within) in
      rw (← stands.takes_up) end

  pub owns-next : passed < room → Owns size a start next
  owns-next left = (omega (arith, stands.position), rw (← stands.takes_up) (omega (arith, stands.position)))

  next_word_within : passed < room → next + 8 ≤ end_address_of size (start + room)
  next_word_within left =
      let below : next < end_address_of size (start + room) = rw stands.takes_up ((Owns-between size stands.valid a start next (owns-next left)).1) in
      let whole = end_address_of-mod_word size stands.valid (start + room) (omega (arith, stands.whole_start, room-whole)) in
      omega (arith, below, whole, stands.whole_next)

  -- over a word of a header
  pub stands_over_header : passed < room → is_in_header size next ≡ true → StandsAt size a start room (next + 8) passed
  stands_over_header left inside =
      let same = position_of-header_word size stands.valid next 8 stands.whole_next (omega arith) inside in
      record {
        valid = stands.valid;
        takes_up = stands.takes_up;
        whole_start = stands.whole_start;
        within = stands.within;
        whole_next = omega (arith, stands.whole_next);
        position = same ∙ stands.position;
        passed_within = stands.passed_within;
        next_within = next_word_within left;
      }

  -- over another word
  pub stands_over_other : passed < room → is_in_header size next ≡ false → StandsAt size a start room (next + 8) (passed + 8)
  stands_over_other left outside =
      let on = position_of-own_word size stands.valid next 8 stands.whole_next (omega arith) outside in
      record {
        valid = stands.valid;
        takes_up = stands.takes_up;
        whole_start = stands.whole_start;
        within = stands.within;
        whole_next = omega (arith, stands.whole_next);
        position = omega (arith, on, stands.position);
        passed_within = omega (arith, passed-whole, room-whole);
        next_within = next_word_within left;
      }

  -- over zeros behind the record
  pub stands_over_zeros : (count : ℕ) → next + 8 * count ≤ end_address_of size (start + assembled_room_at size start a) → StandsAt size a start room (next + 8 * count) (position_of size (next + 8 * count) - start)
  stands_over_zeros count owned =
      let begun = end_address_of-le size stands.valid start next (omega (arith, stands.position)) in
      stands_between size a start room (next + 8 * count) stands.valid stands.takes_up stands.whole_start stands.within (omega (arith, stands.whole_next)) (omega (arith, begun)) (rw stands.takes_up owned)

  -- they are what it gives there
  pub zeros_next : (sysid prev count : ℕ) (words : List ℕ) → words ≡ replicate count 0 → start + assembled_room a ≤ position_of size next → (k : ℕ) → k < count → get_or words k 0 ≡ entry_word size sysid a start prev (next + 8 * k)
  zeros_next sysid prev count words zeros behind k lt =
      let at = next + 8 * k in
      let rises = position_of-mono size next at (omega arith) in
      let read = ap (λ (list : List ℕ). get_or list k 0) zeros ∙ get_or-replicate count k 0 0 lt in
      read ∙ sym (entry_word-padding size sysid stands.valid a start prev at (omega (arith, behind, rises)))

  -- the record's own words, those of headers among them
  module _ (sysid prev : ℕ) (own : position_of size next < start + assembled_room a) where
    abbrev header : ℕ → List ℕ
    header remaining = page_header size sysid (next / 8192) remaining

    pub header_word_next : is_in_header size next ≡ true → entry_word size sysid a start prev next ≡ word_at (header (cond (eqb passed 0) 0 (assembled_size a - passed))) (next % 8192 / 8)
    header_word_next inside =
        entry_word-inside size sysid stands.valid a start prev next own
        ∙ cond-true (is_in_header size next) _ _ inside
        ∙ ap (λ (remaining : ℕ). word_at (header remaining) (next % 8192 / 8)) (still_to_come-passed a start (position_of size next) passed stands.position)

    pub own_word_next : is_in_header size next ≡ false → (n : ℕ) → 8 * n ≡ position_of size next - start → entry_word size sysid a start prev next ≡ word_at (filled a prev) n
    own_word_next outside n number =
        let at : (position_of size next - start) / 8 ≡ n = omega (arith, number) in
        entry_word-inside size sysid stands.valid a start prev next own
        ∙ cond-false (is_in_header size next) _ _ outside
        ∙ ap (word_at (filled a prev)) at

pub own_room-within : (size : ℕ) (a : Assembled) (start room next passed : ℕ) → StandsAt size a start room next passed → start + assembled_room a < 2 ^ 60
own_room-within size a start room next passed stands = omega (arith, stands.takes_up, stands.within)

-- ---- a page that the record has the header of

pub page-bound : (size : ℕ) (a : Assembled) (start page : ℕ) → IsSegmentSize size → Owns size a start (page * 8192) → start + assembled_room a < 2 ^ 60 → page * 8192 < 2 ^ 62
page-bound size a start page valid owns within =
    let room = assembled_room_at-bound size valid start a in
    omega (arith, address-bound size valid (page * 8192), owns.1, room, usable-bound size valid)

pub page_position-whole : (size start page : ℕ) → IsSegmentSize size → start % 8 ≡ 0 → (position_of size (page * 8192) - start) % 8 ≡ 0
page_position-whole size start page valid whole =
    let here = position_of-whole size valid (page * 8192) (omega arith) in
    omega (arith, here)

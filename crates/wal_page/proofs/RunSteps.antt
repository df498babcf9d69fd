-- The steps by which words of a record that lie together are put at once.
use Rattle.std.proofs.Common.{◌≡◌, ℕ, ◌+◌, ◌-◌, ◌*◌, ◌/◌, ◌%◌, ◌<◌, ◌≤◌, false, List, ◌++◌, length, take, ap, ◌∙◌, inl, inr, arith}
use Rattle.std.proofs.lemmas.Bool.{cases_lt, le-ltb, cond-false}
use Rattle.std.proofs.lemmas.List.{length-take, get_or-take, get_or_append_left, get_or-append_right}
use Rattle.byte_position.specs.Geometry.{IsSegmentSize}
use Rattle.byte_position.specs.Position.{is_in_header, position_of, end_address_of}
use Rattle.byte_position.proofs.EndAddresses.{position_of-end_address_of}
use Rattle.byte_position.proofs.Pages.{is_in_header-by_page, header_below}
use Rattle.byte_position.proofs.PositionLaws.{position_of-run}
use Rattle.byte_position.proofs.Rising.{position_of-mono}
use Rattle.wal_spelling.specs.Spelling.{Assembled, assembled_room, filled, word_at}
use Rattle.wal_page.specs.Order.{assembled_room_at}
use Rattle.wal_page.specs.Page.{header_size}
use Rattle.wal_page.specs.Placed.{PlacedState, HasWordsFrom, StandsAt, entry_word}
use Rattle.wal_page.proofs.LogWordLaws.{entry_word-inside}

-- behind a page's header no byte of the page is in one, and positions rise with addresses
module _ (size : ℕ) (valid : IsSegmentSize size) (a : ℕ) (outside : is_in_header size a ≡ false) where
  outside_on_page : (i : ℕ) → a % 8192 + i < 8192 → is_in_header size (a + i) ≡ false
  outside_on_page i lt =
      let page : (a + i) / 8192 ≡ a / 8192 = omega arith in
      let same = ap (header_size size) page in
      is_in_header-by_page size valid (a + i) ∙ le-ltb ((a + i) % 8192) (header_size size ((a + i) / 8192)) (omega (arith, same, header_below size valid a outside))

  position_of-on_page : (k : ℕ) → a % 8192 + k ≤ 8192 → position_of size (a + k) ≡ position_of size a + k
  position_of-on_page k le = position_of-run size a k (λ i lt. outside_on_page i (omega arith))

module _ (size : ℕ) (a : Assembled) (start room next passed : ℕ) (stands : StandsAt size a start room next passed) (outside : is_in_header size next ≡ false) (count : ℕ) (on_page : next % 8192 + 8 * count ≤ 8192) where
  position_behind_run : position_of size (next + 8 * count) ≡ start + passed + 8 * count
  position_behind_run = omega (arith, position_of-on_page size stands.valid next outside (8 * count) on_page, stands.position)

  -- the words are the record's own
  pub own_words_next : (sysid prev n : ℕ) → 8 * n ≡ position_of size next - start → position_of size next + 8 * count ≤ start + assembled_room a → (k : ℕ) → k < count → entry_word size sysid a start prev (next + 8 * k) ≡ word_at (filled a prev) (n + k)
  own_words_next sysid prev n number own k lt =
      let at = next + 8 * k in
      let on = position_of-on_page size stands.valid next outside (8 * k) (omega arith) in
      let place : (position_of size at - start) / 8 ≡ n + k = omega (arith, on, number, stands.position) in
      entry_word-inside size sysid stands.valid a start prev at (omega (arith, on, own))
      ∙ cond-false (is_in_header size at) _ _ (outside_on_page size stands.valid next outside (8 * k) (omega arith))
      ∙ ap (word_at (filled a prev)) place

  pub stands_over_run : next + 8 * count ≤ end_address_of size (start + assembled_room_at size start a) → StandsAt size a start room (next + 8 * count) (passed + 8 * count)
  stands_over_run owned =
      let ends : next + 8 * count ≤ end_address_of size (start + room) = rw stands.takes_up owned in
      let below = position_of-mono size (next + 8 * count) (end_address_of size (start + room)) ends in
      record {
        valid = stands.valid;
        takes_up = stands.takes_up;
        whole_start = stands.whole_start;
        within = stands.within;
        whole_next = omega (arith, stands.whole_next);
        position = omega (arith, position_behind_run);
        passed_within = omega (arith, below, position_behind_run, position_of-end_address_of size stands.valid (start + room));
        next_within = ends;
      }

  -- what is left of the run behind some of it
  pub run_behind : (done : ℕ) → done < count → position_of size next + 8 * count ≤ start + assembled_room a → (is_in_header size (next + 8 * done) ≡ false) × ((next + 8 * done) % 8192 + 8 * (count - done) ≤ 8192) × (position_of size (next + 8 * done) + 8 * (count - done) ≤ start + assembled_room a)
  run_behind done less own =
      let on = position_of-on_page size stands.valid next outside (8 * done) (omega arith) in (
        outside_on_page size stands.valid next outside (8 * done) (omega arith),
        omega arith,
        omega (arith, on, own),
      )

-- further words behind those that were put
module _ (first placed : PlacedState) (put count : ℕ) (at : placed ≡ record first { next = first.next + 8 * put }) where
  pub words_further : (words more rest : List ℕ) → count ≤ length more → put ≤ length words → HasWordsFrom first put words → HasWordsFrom placed count more → HasWordsFrom first (put + count) (take put words ++ (more ++ rest))
  words_further words more rest long within so_far gives k lt =
      elim (cases_lt k put) [
        | inl below ↦ get_or_append_left (take put words) (more ++ rest) 0 k (omega (arith, length-take put words)) ∙ get_or-take put words k 0 below ∙ so_far k below
        | inr on ↦
            (let front : length (take put words) ≡ put = omega (arith, length-take put words) in
            let place : first.next + 8 * put + 8 * (k - put) ≡ first.next + 8 * k = omega arith in
            get_or-append_right (take put words) (more ++ rest) put k 0 front on
            ∙ get_or_append_left more rest 0 (k - put) (omega arith)
            ∙ gives (k - put) (omega arith)
            ∙ ap (λ (p : PlacedState). entry_word p.size p.sysid p.body p.start p.prev (p.next + 8 * (k - put))) at
            ∙ ap (entry_word first.size first.sysid first.body first.start first.prev) place)
      ]

  pub placed_further : (new : PlacedState) → new ≡ record placed { next = placed.next + 8 * count } → new ≡ record first { next = first.next + 8 * (put + count) }
  placed_further new step =
      let sum : first.next + 8 * put + 8 * count ≡ first.next + 8 * (put + count) = omega arith in
      step ∙ ap (λ (p : PlacedState). record p { next = p.next + 8 * count }) at ∙ ap (λ (n : ℕ). record first { next = n }) sum

-- An entry that is read in pages that hold nothing but words of a log, where no torn record passes: each of its words is its own, those of page headers and the zeros behind a switch too.
use Rattle.std.proofs.Common.{◌≡◌, ◌⊎◌, ℕ, zero, suc, ◌+◌, ◌-◌, ◌*◌, ◌/◌, ◌%◌, ◌^◌, ◌<◌, ◌≤◌, Bool, true, false, not, eqb, List, [], ◌∷◌, ◌++◌, get_or, Option, Some, None, inl, inr, refl, sym, ap, subst, ◌∙◌, arith}
use Rattle.std.specs.Prelude.{IsSome}
use Rattle.std.specs.List.{flat_map, range_with_len}
use Rattle.std.proofs.lemmas.Bool.{cases_Bool, cases_lt, cond-false, cond-true, eqb-true, le-ltb, lt-ltb, not-false, true≢false}
use Rattle.std.proofs.lemmas.List.{get_or_past}
use Rattle.std.proofs.lemmas.Nat.{div_below, le-div}
use Rattle.std.proofs.Math.Nat.{mul-div-le, mul_comm}
use Rattle.byte_position.specs.Geometry.{IsSegmentSize, pages_of}
use Rattle.byte_position.specs.Position.{address_of, first_position, header_size, is_in_header, position_of}
use Rattle.byte_position.proofs.EndAddresses.{end_address_of-le}
use Rattle.byte_position.proofs.PagesTimes.{end_address_of-page_start_times, is_in_header-page_rest_times, position_of-page_header_times}
use Rattle.byte_position.proofs.HeaderSizes.{header_size_bounds}
use Rattle.byte_position.proofs.PositionLaws.{address_of-position_of, end_address_of-next, position_of-address_of}
use Rattle.byte_position.proofs.Rising.{lt-position_of, position_of-mono}
use Rattle.byte_position.proofs.SegmentSizes.{segment_size_in_pages}
use Rattle.wal_spelling.specs.Spelling.{assembled, filled, is_assembled_switch, room_of, size_of}
use Rattle.wal_spelling.proofs.SpellingLaws.{length-filled, room_is}
use Rattle.wal_types.specs.declared.lsn.Lsn.{Lsn}
use Rattle.wal_page.specs.Order.{Entry, IsChained, position_behind, prev_of}
use Rattle.wal_page.specs.Page.{first_fault, is_continued, is_overwritten, page_header, remaining_of}
use Rattle.wal_page.specs.Log.{header_byte, log_byte, owner_of, remaining_at}
use Rattle.wal_page.proofs.LogByteLaws.{header_byte-own, header_byte-padding, log_byte-header}
use Rattle.wal_page.proofs.OwnerLaws.{owner_of-entry}
use Rattle.wal_page.proofs.PaddingLaws.{assembled_padding_at-inserted, position_behind_switch}
use Rattle.wal_page.proofs.WordPositions.{position_of-whole}
use Rattle.wal_reader.specs.declared.record_place.RecordPlace.{RecordPlace}
use Rattle.wal_reader.specs.declared.found.FoundRecord.{FoundRecord}
use Rattle.wal_reader.specs.declared.found.DamageKind.TheVariants as kinds
use Rattle.wal_reader.specs.Pages.{Pages, byte_at}
use Rattle.wal_reader.specs.Decodes.{continuation_rows, continuation_rows_of, damaged, page_answers, page_of_byte, rows_of_pages}
use Rattle.wal_reader.proofs.SettledLaws.{passes_both, passes_row}
use Rattle.written_log_laws.specs.Torn.{IsSeenTorn, IsTorn, bytes_in}
use Rattle.written_log_laws.proofs.LawfulPages.{ArePagesOf, split_by}
use Rattle.written_log_laws.proofs.LawfulRecords.{entry_start, entry_whole, here_byte, is_whole, own_byte, total_is}
use Rattle.written_log_laws.proofs.LogPages.{byte_at-page, log_byte-page_header, offset_in_page, page_of_offset}
use Rattle.written_log_laws.proofs.LogPositions.{page_begins, page_from_first}
use Rattle.written_log_laws.proofs.OwnHeaders.{IsPassed, answers_pass, header_word_is_own, no_first}
use Rattle.written_log_laws.proofs.ReadRecord.{IsFoundAt, claimed_size}
use Rattle.written_log_laws.proofs.WordsOfBytes.{SameWord, ZeroWord}

-- where no row of a run of tables holds, none of each table does
run_passes : {K : Type 0} (rows : ℕ → List (Bool × K)) (a n i : ℕ) → first_fault (flat_map rows (range_with_len a n)) ≡ None → a ≤ i → i < a + n → first_fault (rows i) ≡ None
run_passes rows a zero i passes low high = absurd (omega (arith, low, high))
run_passes rows a (suc n) i passes low high =
    let parts = passes_both (rows a) (flat_map rows (range_with_len (a + 1) n)) passes in
    elim (cases_lt a i) [
      | inl above ↦ run_passes rows (a + 1) n i parts.1 (omega (arith, above)) (omega (arith, high))
      | inr here ↦ (let at : a ≡ i = omega (arith, low, here) in subst (λ (j : ℕ). first_fault (rows j) ≡ None) at parts.0)
    ]

-- the byte at an address is the log's, and a page of its segment is there, at or below it, of which the first word is not zero
pub record IsOwn (size sysid : ℕ) (pages : Pages) (es : List Entry) (address : ℕ) : Type 0 where
  pub same : byte_at pages address ≡ log_byte size sysid es address
  pub page : ℕ
  pub there : IsSome (pages page)
  pub segment : page * 8192 / size ≡ address / size
  pub low : page * 8192 ≤ address
  pub marked : ((i : ℕ) → i < 8 → byte_at pages (8 * (page * 1024) + i) ≡ 0) → ⊥

pub page_by_segment : (size a : ℕ) → IsSegmentSize size → a / 8192 * 8192 / size ≡ a / size
page_by_segment size a valid =
    let whole = segment_size_in_pages size valid in
    let n = pages_of size in
    let page = a / 8192 in
    let start : page * 8192 + 0 ≡ page * 8192 = omega arith in
    let split : page * 8192 + a % 8192 ≡ a = omega arith in
    ap (λ (b : ℕ). b / size) (sym start) ∙ split_by page n size 0 whole.0 (omega (arith, whole.1)) (omega arith)
    ∙ sym (split_by page n size (a % 8192) whole.0 (omega (arith, whole.1)) (omega arith)) ∙ ap (λ (b : ℕ). b / size) split

module _ (size sysid : ℕ) (pages : Pages) (es : List Entry) (upto : ℕ) (valid : IsSegmentSize size) (chained : IsChained size es) (are : ArePagesOf size sysid pages es upto) where
  module _ (front others : List Entry) (e : Entry) (parts : es ≡ front ++ e ∷ others) (before : Option Lsn) (timeline : ℕ) (found : FoundRecord) (prev_fits : prev_of size 0 front < 2 ^ 64) (known : (before ≡ Some (record { 0 = prev_of size 0 front })) ⊎ (front ≡ [])) where
    abbrev place : RecordPlace
    place = record { position = e.start; prev = before; timeline = timeline }

    abbrev prev : ℕ
    prev = prev_of size 0 front

    abbrev first_page : ℕ
    first_page = address_of size e.start / 8192

    abbrev last_page : ℕ
    last_page = page_of_byte size e.start (size_of e.value)

    chained_parts : IsChained size (front ++ e ∷ others)
    chained_parts = subst (λ (l : List Entry). IsChained size l) parts chained

    whole_start : e.start % 8 ≡ 0
    whole_start = entry_whole size sysid pages es upto valid chained are front others e parts

    module _ (read : IsFoundAt size pages place found) (no_pass : IsTorn size pages e prev → IsSeenTorn size pages e prev) where
      total : claimed_size size pages place ≡ size_of e.value
      total = total_is size sysid pages es upto valid chained are front others e parts before timeline found prev_fits known read

      record_is : bytes_in size pages e ≡ filled (assembled e.value) prev
      record_is = is_whole size sysid pages es upto valid chained are front others e parts before timeline found prev_fits known read no_pass

      -- ---- the pages that were read

      -- a page into which it continues
      continued : (page : ℕ) → first_page < page → page ≤ last_page → first_fault (continuation_rows size pages place (size_of e.value) page) ≡ None
      continued page behind within =
          let header_page = page_of_byte size e.start 24 in
          let rows = continuation_rows size pages place (size_of e.value) in
          let in_header = subst (λ (t : ℕ). first_fault (rows_of_pages size pages place t first_page header_page) ≡ None) total read.header_pages in
          let in_last = subst (λ (t : ℕ). first_fault (rows_of_pages size pages place t header_page (page_of_byte size e.start t)) ≡ None) total read.last_pages in
          elim (cases_lt header_page page) [
            | inl above ↦ run_passes rows (header_page + 1) (last_page - header_page) page in_last (omega (arith, above)) (omega (arith, within, above))
            | inr upto_header ↦ run_passes rows (first_page + 1) (header_page - first_page) page in_header (omega (arith, behind)) (omega (arith, upto_header, behind))
          ]

      continued_on : (page seen owed : ℕ) (here : Option (List ℕ)) → pages page ≡ here → first_fault (continuation_rows_of size page seen (address_of size e.start) owed here) ≡ None → IsPassed size pages page owed
      continued_on page seen owed None there passes = absurd cc
      continued_on page seen owed (Some bytes) there passes =
          let answers = passes_both (page_answers size page bytes seen) _ passes in
          let of_overwritten = passes_row (is_overwritten bytes) _ _ answers.1 in
          let of_continued = passes_row (not (is_continued bytes)) _ _ of_overwritten.1 in
          let of_owed = passes_row (not (eqb (remaining_of bytes) owed)) _ _ of_continued.1 in
          record {
            bytes = bytes;
            there = there;
            timeline = seen;
            passes = answers_pass size page bytes seen (λ fault. damaged (page * 8192) (kinds.Page fault)) answers.0;
            owed = inr (eqb-true _ _ (not-false _ of_owed.0));
          }

      -- the one in which it starts
      opened : IsPassed size pages first_page 0
      opened =
          let of_zero = passes_row _ _ _ read.opens in
          let answers = passes_both (page_answers size first_page read.page timeline) _ of_zero.1 in
          record {
            bytes = read.page;
            there = read.here;
            timeline = timeline;
            passes = answers_pass size first_page read.page timeline (λ fault. damaged (first_page * 8192) (kinds.Page fault)) answers.0;
            owed = inl refl;
          }

      -- ---- an address of the record's room

      module _ (a : ℕ) (from : e.start ≤ position_of size a) (inside : position_of size a < e.start + room_of e.value) where
        abbrev page : ℕ
        page = a / 8192

        abbrev first : ℕ
        first = position_of size (page * 8192)

        not_before : first_page ≤ page
        not_before = elim (cases_lt page first_page) [
          | inl below ↦
              (let begins = page_begins size valid e.start in
              let low = end_address_of-le size valid (position_of size (first_page * 8192)) a (omega (arith, begins, from)) in
              absurd (omega (arith, below, low, end_address_of-page_start_times size valid first_page)))
          | inr upto_it ↦ upto_it
        ]

        -- no page begins between its last byte and the end of its room
        begins_inside : (number : ℕ) → position_of size (number * 8192) ≤ position_of size a → position_of size (number * 8192) < e.start + size_of e.value
        begins_inside number low =
            let is = room_is (assembled e.value) in
            let turned : number * 8192 % 8 ≡ 0 = omega arith in
            omega (arith, is, low, inside, whole_start, position_of-whole size valid (number * 8192) turned)

        not_behind : page ≤ last_page
        not_behind = elim (cases_lt last_page page) [
          | inl above ↦
              (let q = e.start + size_of e.value - 1 in
              let high = lt-position_of size valid q (page * 8192) (omega (arith, above)) in
              let begins = begins_inside page (position_of-mono size (page * 8192) a (omega arith)) in
              absurd (omega (arith, high, begins)))
          | inr upto_it ↦ upto_it
        ]

        page_passed : (remaining : ℕ) × IsPassed size pages page remaining × (e.start ≤ position_of size (page * 8192) → remaining ≡ remaining_at e (position_of size (page * 8192)))
        page_passed = elim (cases_lt first_page page) [
          | inl behind ↦
              (let p = position_of size (page * 8192) in
              let ahead = lt-position_of size valid e.start (page * 8192) (omega (arith, behind)) in
              let is : e.start + size_of e.value - p ≡ remaining_at e p = sym (cond-true _ _ _ (lt-ltb e.start p ahead)) in (
                e.start + size_of e.value - p,
                continued_on page _ (e.start + size_of e.value - p) (pages page) refl (continued page behind not_behind),
                λ _. is,
              ))
          | inr here ↦
              (let same : first_page ≡ page = omega (arith, here, not_before) in
              let p = position_of size (page * 8192) in
              let begins = page_begins size valid e.start in
              let at = ap (λ (n : ℕ). position_of size (n * 8192)) same in (
                0,
                subst (λ (n : ℕ). IsPassed size pages n 0) same opened,
                λ low. sym (cond-false _ _ _ (le-ltb e.start p (omega (arith, begins, at, low)))),
              ))
        ]

        later : 0 < page
        later =
            let start = entry_start size sysid pages es upto valid chained are front others e parts in
            omega (arith, not_before, page_from_first size valid e.start (omega (arith, start)), segment_size_in_pages size valid)

        page_marked : ((i : ℕ) → i < 8 → byte_at pages (8 * (page * 1024) + i) ≡ 0) → ⊥
        page_marked zeros =
            let passed = page_passed.1 in
            let at : (i : ℕ) → page * 8192 + (8 * 0 + i) ≡ 8 * (page * 1024) + i = λ i. omega arith in
            no_first size sysid pages page page_passed.0 valid later passed (λ i lt. sym (byte_at-page pages page (8 * 0 + i) passed.bytes passed.there (omega (arith, lt))) ∙ ap (byte_at pages) (at i) ∙ zeros i lt)

        -- its byte is its own where it lies in no header ..
        own_outside : is_in_header size a ≡ false → byte_at pages a ≡ log_byte size sysid es a
        own_outside outside =
            let j = position_of size a - e.start in
            let p : e.start + j ≡ position_of size a = omega (arith, from) in
            let at : address_of size (e.start + j) ≡ a = ap (address_of size) p ∙ address_of-position_of size valid a outside in
            let within : j < room_of e.value = omega (arith, from, inside) in
            let here = here_byte size sysid pages es upto valid chained are front others e parts j within in
            let own = own_byte size sysid pages es upto valid chained are front others e parts j (omega (arith, within)) in
            subst (λ (b : ℕ). byte_at pages b ≡ log_byte size sysid es b) at (sym here ∙ ap (λ (l : List ℕ). get_or l j 0) record_is ∙ sym own)

        -- .. and where it lies in one
        module _ (in_header : is_in_header size a ≡ true) where
          abbrev offset : ℕ
          offset = a % 8192

          split : page * 8192 + offset ≡ a
          split = omega arith

          within_header : offset < header_size size page
          within_header = elim (cases_lt offset (header_size size page)) [
            | inl below ↦ below
            | inr behind ↦ absurd (true≢false (sym in_header ∙ ap (is_in_header size) (sym split) ∙ is_in_header-page_rest_times size valid page offset behind (omega arith)))
          ]

          first_is : first ≡ position_of size a
          first_is = sym (position_of-page_header_times size valid page offset (omega (arith, within_header))) ∙ ap (position_of size) split

          owns : owner_of size es first ≡ Some e
          owns =
              ap (λ (l : List Entry). owner_of size l first) parts ∙ owner_of-entry size (first_position size) front others e chained_parts first (omega (arith, from, first_is)) (omega (arith, inside, first_is))

          abbrev header : List ℕ
          header = page_header size sysid page (remaining_at e first)

          header_log : (k : ℕ) → k < header_size size page → log_byte size sysid es (page * 8192 + k) ≡ get_or header k 0
          header_log k lt =
              let bounds = header_size_bounds size valid page in
              log_byte-page_header size sysid es page k (Some e) valid lt owns ∙ header_byte-own size sysid (page * 8192 + k) first e (omega (arith, inside, first_is))
              ∙ rw (page_of_offset page k (omega (arith, lt, bounds)), offset_in_page page k (omega (arith, lt, bounds))) refl

          passed : IsPassed size pages page (remaining_at e first)
          passed = subst (IsPassed size pages page) (page_passed.2 (omega (arith, from, first_is))) page_passed.1

          header_word : (n : ℕ) → 8 * n < header_size size page → ZeroWord passed.bytes n ⊎ SameWord passed.bytes header n
          header_word n lt =
              let bounds = header_size_bounds size valid page in
              let at : (i : ℕ) → 8 * (page * 1024 + n) + i ≡ page * 8192 + (8 * n + i) = λ i. omega arith in
              let byte : (i : ℕ) → i < 8 → get_or passed.bytes (8 * n + i) 0 ≡ byte_at pages (8 * (page * 1024 + n) + i) = λ i less.
              sym (byte_at-page pages page (8 * n + i) passed.bytes passed.there (omega (arith, less, lt, bounds))) ∙ ap (byte_at pages) (sym (at i)) in
              elim (are.words (page * 1024 + n)) [
                | inl zeros ↦ inl (λ i less. byte i less ∙ zeros i less)
                | inr own ↦ inr (λ i less. byte i less ∙ own i less ∙ ap (log_byte size sysid es) (at i) ∙ header_log (8 * n + i) (omega (arith, less, lt, bounds)))
              ]

          own_inside : byte_at pages a ≡ log_byte size sysid es a
          own_inside =
              let bounds = header_size_bounds size valid page in
              let n = offset / 8 in
              let at : 8 * n + offset % 8 ≡ offset = omega arith in
              let lt : 8 * n < header_size size page = omega (arith, within_header) in
              let own = header_word_is_own size sysid pages page (remaining_at e first) valid later passed n lt (header_word n lt) (offset % 8) (omega arith) in
              let byte = subst (λ (k : ℕ). get_or passed.bytes k 0 ≡ get_or header k 0) at own in
              ap (byte_at pages) (sym split) ∙ byte_at-page pages page offset passed.bytes passed.there (omega arith) ∙ byte ∙ sym (header_log offset within_header) ∙ ap (log_byte size sysid es) split

        own_in_room : IsOwn size sysid pages es a
        own_in_room = record {
          same = elim (cases_Bool (is_in_header size a)) [ inl in_header ↦ own_inside in_header | inr outside ↦ own_outside outside ];
          page = page;
          there = subst (λ (o : Option (List ℕ)). IsSome o) (sym page_passed.1.there) refl;
          segment = page_by_segment size a valid;
          low = omega arith;
          marked = page_marked;
        }

      -- ---- an address of the zeros behind a switch

      module _ (a : ℕ) (behind : e.start + room_of e.value ≤ position_of size a) (within : position_of size a < position_behind size e) where
        log_zero : log_byte size sysid es a ≡ 0
        log_zero =
            let p = position_of size a in
            let owner = ap (λ (l : List Entry). owner_of size l p) parts ∙ owner_of-entry size (first_position size) front others e chained_parts p (omega (arith, behind)) within in
            elim (cases_Bool (is_in_header size a)) [
              | inl in_header ↦ log_byte-header size sysid es a in_header ∙ ap (header_byte size sysid a p) owner ∙ header_byte-padding size sysid a p e behind
              | inr outside ↦
                  (let j = p - e.start in
                  let here : e.start + j ≡ p = omega (arith, behind) in
                  let at : address_of size (e.start + j) ≡ a = ap (address_of size) here ∙ address_of-position_of size valid a outside in
                  let own = own_byte size sysid pages es upto valid chained are front others e parts j (omega (arith, within, behind)) in
                  ap (log_byte size sysid es) (sym at) ∙ own ∙ get_or_past (filled (assembled e.value) prev) j 0 (omega (arith, length-filled (assembled e.value) prev, behind)))
            ]

        zero_is_own : byte_at pages a ≡ log_byte size sysid es a
        zero_is_own =
            let split : 8 * (a / 8) + a % 8 ≡ a = omega arith in
            elim (are.words (a / 8)) [
              | inl zeros ↦ ap (byte_at pages) (sym split) ∙ zeros (a % 8) (omega arith) ∙ sym log_zero
              | inr own ↦ subst (λ (b : ℕ). byte_at pages b ≡ log_byte size sysid es b) split (own (a % 8) (omega arith))
            ]

        -- its segment is that of the record's last byte
        abbrev last : ℕ
        last = e.start + size_of e.value - 1

        in_segment : is_assembled_switch (assembled e.value) ≡ true → address_of size last / size ≡ a / size
        in_segment switches =
            let is = room_is (assembled e.value) in
            let n = address_of size last / size in
            let whole = segment_size_in_pages size valid in
            let some : 0 < size = omega (arith, whole) in
            let next : position_behind size e ≡ position_of size (size * (n + 1)) = position_behind_switch size valid e.start (assembled e.value) whole_start switches in
            let high : a < size * (n + 1) = elim (cases_lt a (size * (n + 1))) [
              | inl below ↦ below
              | inr above ↦ absurd (omega (arith, within, next, position_of-mono size (size * (n + 1)) a above))
            ] in
            let low = end_address_of-le size valid (last + 1) a (omega (arith, behind, is)) in
            let turned : (n + 1) * size ≡ size * (n + 1) = mul_comm (n + 1) size in
            let begins : n * size ≤ address_of size last = omega (arith, mul-div-le (address_of size last) size, mul_comm n size) in
            let from = le-div n a size some (omega (arith, begins, low, end_address_of-next size last)) in
            let upto_it = div_below a size (n + 1) some (omega (arith, turned, high)) in
            omega (arith, from, upto_it)

        own_in_zeros : IsOwn size sysid pages es a
        own_in_zeros =
            let is = room_is (assembled e.value) in
            let position = position_of-address_of size valid last in
            let from : e.start ≤ position_of size (address_of size last) = omega (arith, position, is) in
            let inside : position_of size (address_of size last) < e.start + room_of e.value = omega (arith, position, is) in
            let passed = (page_passed (address_of size last) from inside).1 in
            let low = end_address_of-le size valid (last + 1) a (omega (arith, behind, is)) in
            elim (cases_Bool (is_assembled_switch (assembled e.value))) [
              | inl switches ↦ record {
                same = zero_is_own;
                page = last_page;
                there = subst (λ (o : Option (List ℕ)). IsSome o) (sym passed.there) refl;
                segment = page_by_segment size (address_of size last) valid ∙ in_segment switches;
                low = omega (arith, low, end_address_of-next size last);
                marked = page_marked (address_of size last) from inside;
              }
              | inr plain ↦ absurd (omega (arith, behind, within, assembled_padding_at-inserted size e.start (assembled e.value) plain))
            ]

      -- so each byte of the entry's room is its own
      pub entry_is_own : (a : ℕ) → e.start ≤ position_of size a → position_of size a < position_behind size e → IsOwn size sysid pages es a
      entry_is_own a from below = elim (cases_lt (position_of size a) (e.start + room_of e.value)) [
        | inl inside ↦ own_in_room a from inside
        | inr behind ↦ own_in_zeros a behind below
      ]

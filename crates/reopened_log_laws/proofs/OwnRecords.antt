-- Where a log that this program may have left stops to be read at an entry's place, or behind the last one, it stops by words that are zeros or at a wrong CRC.
use Rattle.std.proofs.Common.{◌≡◌, ◌⊎◌, ℕ, zero, suc, ◌+◌, ◌-◌, ◌*◌, ◌/◌, ◌%◌, ◌^◌, ◌<◌, ◌≤◌, ◌&&◌, Bool, true, false, not, eqb, ltb, List, [], ◌∷◌, ◌++◌, get_or, take, drop, Option, Some, None, Ok, Err, inl, inr, refl, sym, ap, subst, ◌∙◌, append-nil, arith}
use Rattle.std.specs.Prelude.{◌≢◌, slice_index}
use Rattle.std.specs.Int.{w32, w64}
use Rattle.std.proofs.lemmas.Bool.{and_left, and_right, cases_Bool, cases_lt, cond-false, cond-true, eqb-true, eq-eqb, le-ltb, lt-ltb, not-false, not-true, not_from_true, true≢false}
use Rattle.std.proofs.lemmas.List.{ext_get_or, get_or-take}
use Rattle.std.proofs.lemmas.Nat.{from_le_bytes-to_le_bytes_4, from_le_bytes-to_le_bytes_8}
use Rattle.byte_position.specs.Geometry.{IsSegmentSize}
use Rattle.byte_position.specs.Position.{address_of, end_address_of, first_position, position_of}
use Rattle.byte_position.proofs.EndAddresses.{end_address_of-le_address_of}
use Rattle.byte_position.proofs.Rising.{lt-position_of}
use Rattle.byte_position.proofs.Words.{address_of-in_word, address_of-mod_word}
use Rattle.wal_crc32c.specs.Crc32c.{crc32c}
use Rattle.wal_types.specs.declared.lsn.Lsn.{Lsn}
use Rattle.wal_spelling.specs.Numbers.{number_at}
use Rattle.wal_spelling.specs.Record.{is_free_manager}
use Rattle.wal_spelling.specs.Spelling.{IsLogRecord, assembled, filled, room_of, size_of, word_at}
use Rattle.wal_spelling.proofs.SpellingLaws.{length-filled, room_is}
use Rattle.wal_spelling.proofs.SwitchLaws.{logged_readable, logged_size}
use Rattle.wal_record.specs.Reading.{reading_of}
use Rattle.wal_record.proofs.SpellingReads.{spelling_reads}
use Rattle.wal_page.specs.Order.{Entry, IsChained, end_position, position_behind, prev_of}
use Rattle.wal_page.specs.Page.{first_fault, is_continued, is_overwritten, remaining_of}
use Rattle.wal_page.specs.Log.{log_byte, owner_of}
use Rattle.wal_page.proofs.LogByteLaws.{log_byte-behind}
use Rattle.wal_page.proofs.OwnerLaws.{end_position-whole, owner_of-entry, owner_of-none_behind}
use Rattle.wal_reader.specs.declared.found.Answer.{Answer}
use Rattle.wal_reader.specs.declared.found.Answer.TheVariants as answers
use Rattle.wal_reader.specs.declared.found.DamageKind.TheVariants as kinds
use Rattle.wal_reader.specs.declared.found.Stopped.TheVariants as stopped
use Rattle.wal_reader.specs.declared.record_place.RecordPlace.{RecordPlace}
use Rattle.wal_reader.specs.Pages.{Pages, as_byte, byte_at, bytes_from}
use Rattle.wal_reader.specs.Decodes.{continuation_rows, continuation_rows_of, crc_rows, damaged, ended, header_rows, is_right_prev, is_zero_word, opening_rows, opens_page, page_answers, page_of_byte, record_rows, rest_rows, rows_of_pages, size_rows, timeline_or}
use Rattle.wal_reader.specs.ReadAt.{answer_or, found_or, read_at, read_in}
use Rattle.wal_reader.proofs.PagesLaws.{as_byte-of, length-bytes_from, take-bytes_from}
use Rattle.wal_reader.proofs.RowLaws.{number_at-take}
use Rattle.wal_reader.proofs.SettledLaws.{passes_both, passes_row, size_in_header}
use Rattle.written_log_laws.specs.Torn.{IsSeenTorn, IsTorn, bytes_in}
use Rattle.written_log_laws.proofs.LawfulPages.{ArePagesOf}
use Rattle.written_log_laws.proofs.LawfulRecords.{entry_logged, entry_start, entry_whole, here_byte, own_byte}
use Rattle.written_log_laws.proofs.LogPositions.{opening_position, page_begins, position_of-le}
use Rattle.written_log_laws.proofs.RecordBytes.{take-filled}
use Rattle.written_log_laws.proofs.WordsOfBytes.{SameWord, ZeroWord, all_or_one, same_eight, same_four, zero_eight}
use Rattle.reopened_log_laws.proofs.OwnHeadersRead.{AreLow, HasHeader, has_header, still_owed, timeline_at, wide}
use Rattle.reopened_log_laws.proofs.OwnPages.{IsOwnAnswer, answers_own, answers_tell, continued_is, not_overwritten, remaining_either, zero_at, same_at}
use Rattle.reopened_log_laws.proofs.OwnRows.{TellsOnly, none_tells, row_tells, run_tells, tells_both}

read_or_told : {A B : Type 0} {value : A} (told : B) → Ok value ≡ Err told → ⊥
read_or_told told same = cc

module _ (size sysid : ℕ) (pages : Pages) (es : List Entry) (upto : ℕ) (valid : IsSegmentSize size) (known : 0 < sysid) (narrow : sysid < 2 ^ 64) (chained : IsChained size es) (are : ArePagesOf size sysid pages es upto) (low : AreLow pages) where
  -- ---- the page in which a place lies

  module _ (place : RecordPlace) (early : place.timeline ≤ 1) (from : first_position size ≤ place.position) where
    abbrev here_page : ℕ
    here_page = address_of size place.position / 8192

    abbrev opened : ℕ
    opened = position_of size (here_page * 8192)

    -- nothing is still to come where the place is the page's first
    module _ (bytes : List ℕ) (there : pages here_page ≡ Some bytes) (begins : opened ≡ place.position → still_owed (owner_of size es opened) opened ≡ 0) where
      abbrev owed_here : ℕ
      owed_here = still_owed (owner_of size es opened) opened

      not_claimed : first_fault (page_answers size here_page bytes place.timeline) ≡ None → (opens_page size place.position && is_continued bytes) ≡ false
      not_claimed passes =
          let header = has_header size sysid pages es upto valid known narrow chained are low here_page bytes there in
          let wide_here = wide size sysid pages es upto valid known narrow chained are low here_page bytes there in
          let same = answers_own size sysid here_page owed_here bytes valid known narrow wide_here header place.timeline passes in
          let continued = continued_is size sysid here_page owed_here bytes valid known narrow wide_here header same in
          elim (cases_Bool (opens_page size place.position)) [
            | inl opens ↦ and_right (opens_page size place.position) (is_continued bytes) (continued ∙ ap (ltb 0) (begins (opening_position size valid place.position (eqb-true _ _ opens))))
            | inr within ↦ and_left (opens_page size place.position) (is_continued bytes) within
          ]

      pub opening_tells : TellsOnly IsOwnAnswer (opening_rows size place bytes)
      opening_tells =
          let header = has_header size sysid pages es upto valid known narrow chained are low here_page bytes there in
          let wide_here = wide size sysid pages es upto valid known narrow chained are low here_page bytes there in
          row_tells IsOwnAnswer (opens_page size place.position && is_zero_word bytes) (ended size place.position) _ (λ _. refl)
          (λ _. tells_both IsOwnAnswer (page_answers size here_page bytes place.timeline) _ (answers_tell size sysid here_page owed_here bytes valid known narrow wide_here header place.timeline early)
          (λ passes. row_tells IsOwnAnswer (opens_page size place.position && is_continued bytes) (damaged (address_of size place.position) kinds.Claims) []
          (λ claims. absurd (true≢false (sym claims ∙ not_claimed passes))) (λ _. none_tells IsOwnAnswer)))

  -- ---- an entry of the order

  module _ (front others : List Entry) (e : Entry) (parts : es ≡ front ++ e ∷ others) where
    abbrev prev : ℕ
    prev = prev_of size 0 front

    abbrev room : ℕ
    room = room_of e.value

    abbrev own : List ℕ
    own = filled (assembled e.value) prev

    abbrev here : List ℕ
    here = bytes_in size pages e

    logged : IsLogRecord e.value
    logged = entry_logged size sysid pages es upto valid chained are front others e parts

    start : e.start ≡ end_position size front
    start = entry_start size sysid pages es upto valid chained are front others e parts

    whole : e.start % 8 ≡ 0
    whole = entry_whole size sysid pages es upto valid chained are front others e parts

    -- each word of the record is zero or its own
    own_word : (k : ℕ) → 8 * k < room → ZeroWord here k ⊎ SameWord here own k
    own_word k lt =
        let is = room_is (assembled e.value) in
        let p = e.start + 8 * k in
        let turned : p % 8 ≡ 0 = omega (arith, whole) in
        let a = address_of size p in
        let further : (i : ℕ) → e.start + 8 * k + i ≡ e.start + (8 * k + i) = λ i. omega arith in
        let at : (i : ℕ) → i < 8 → 8 * (a / 8) + i ≡ address_of size (e.start + (8 * k + i)) = λ i less. omega (arith, address_of-mod_word size valid p turned, address_of-in_word size valid p i turned less, ap (address_of size) (further i)) in
        let within : (i : ℕ) → i < 8 → 8 * k + i < room = λ i less. omega (arith, is, lt, less) in
        let byte : (i : ℕ) → i < 8 → get_or here (8 * k + i) 0 ≡ byte_at pages (8 * (a / 8) + i) = λ i less.
        here_byte size sysid pages es upto valid chained are front others e parts (8 * k + i) (within i less) ∙ ap (byte_at pages) (sym (at i less)) in
        elim (are.words (a / 8)) [
          | inl zeros ↦ inl (λ i less. byte i less ∙ zeros i less)
          | inr owned ↦ inr (λ i less. byte i less ∙ owned i less ∙ ap (log_byte size sysid es) (at i less) ∙ own_byte size sysid pages es upto valid chained are front others e parts (8 * k + i) (omega (arith, within i less)))
        ]

    long : 24 ≤ size_of e.value
    long = omega arith

    owns : (p : ℕ) → e.start ≤ p → p < position_behind size e → owner_of size es p ≡ Some e
    owns p from below =
        ap (λ (l : List Entry). owner_of size l p) parts ∙ owner_of-entry size (first_position size) front others e (subst (λ (l : List Entry). IsChained size l) parts chained) p from below

    -- bytes of which each word is its own are its own
    own_bytes : ((k : ℕ) → k < room / 8 → SameWord here own k) → here ≡ own
    own_bytes same =
        let is = room_is (assembled e.value) in
        let size_here = length-bytes_from size pages room e.start in
        ext_get_or 0 here own (size_here ∙ sym (length-filled (assembled e.value) prev)) (λ j lt.
        let split : 8 * (j / 8) + j % 8 ≡ j = omega arith in
        subst (λ (i : ℕ). get_or here i 0 ≡ get_or own i 0) split (same (j / 8) (omega (arith, is, size_here, lt)) (j % 8) (omega arith)))

    torn_here : (k : ℕ) → k < room / 8 → word_at here k ≢ word_at own k → IsTorn size pages e prev
    torn_here k lt other = record {
      words = λ i within. elim (own_word i within) [ inl zeros ↦ inr (zero_eight here (8 * i) zeros) | inr same ↦ inl (same_eight here own (8 * i) same) ];
      missing = (k, omega (arith, lt), other);
    }

    module _ (before : Option Lsn) (timeline : ℕ) (early : timeline ≤ 1) (prev_fits : prev < 2 ^ 64) (known_prev : (before ≡ Some (record { 0 = prev })) ⊎ (front ≡ [])) where
      abbrev place : RecordPlace
      place = record { position = e.start; prev = before; timeline = timeline }

      abbrev header : List ℕ
      header = bytes_from size pages 24 e.start

      abbrev claimed : ℕ
      claimed = number_at w32 (bytes_from size pages 8 e.start) 0

      abbrev first_page : ℕ
      first_page = address_of size e.start / 8192

      front_of : (n : ℕ) → n ≤ room → bytes_from size pages n e.start ≡ take n here
      front_of n within = sym (take-bytes_from size pages n room e.start within)

      header_is : header ≡ take 24 here
      header_is = let is = room_is (assembled e.value) in front_of 24 (omega (arith, is))

      number_is : (at : ℕ) → at + 8 ≤ 24 → number_at w64 header at ≡ number_at w64 here at
      number_is at within = ap (λ (bytes : List ℕ). number_at w64 bytes at) header_is ∙ number_at-take w64 here 24 at within

      -- ---- its header

      first_own : is_zero_word header ≡ false → SameWord here own 0
      first_own some =
          let is = room_is (assembled e.value) in
          elim (own_word 0 (omega (arith, is))) [
            | inl zeros ↦ absurd (true≢false (sym (eq-eqb (number_at w64 header 0) 0 (number_is 0 (omega arith) ∙ zero_eight here 0 zeros)) ∙ some))
            | inr same ↦ same
          ]

      claimed_is : is_zero_word header ≡ false → claimed ≡ size_of e.value
      claimed_is some =
          let is = room_is (assembled e.value) in
          let small = logged_size e.value logged in
          ap (λ (bytes : List ℕ). number_at w32 bytes 0) (front_of 8 (omega (arith, is))) ∙ number_at-take w32 here 8 0 (omega arith)
          ∙ same_four here own 0 (λ i lt. first_own some i (omega (arith, lt))) ∙ from_le_bytes-to_le_bytes_4 (size_of e.value) (omega (arith, small))

      -- the record before it that it names
      named : (number_at w64 header 8 ≡ 0) ⊎ (number_at w64 header 8 ≡ prev)
      named =
          let is = room_is (assembled e.value) in
          elim (own_word 1 (omega (arith, is))) [
            | inl zeros ↦ inl (number_is 8 (omega arith) ∙ zero_eight here 8 zeros)
            | inr same ↦ inr (number_is 8 (omega arith) ∙ same_eight here own 8 same ∙ from_le_bytes-to_le_bytes_8 prev prev_fits)
          ]

      manager_fits : is_free_manager (slice_index header 17) ≡ false
      manager_fits =
          let is = room_is (assembled e.value) in
          let at : slice_index header 17 ≡ get_or here 17 0 = ap (λ (bytes : List ℕ). get_or bytes 17 0) header_is ∙ get_or-take 24 here 17 0 (omega arith) in
          elim (own_word 2 (omega (arith, is))) [
            | inl zeros ↦ ap is_free_manager (at ∙ zero_at here 2 16 1 zeros (omega arith) (omega arith))
            | inr same ↦ ap is_free_manager (at ∙ same_at here own 2 16 1 same (omega arith) (omega arith)) ∙ not-true (is_free_manager e.value.rmid) (logged_readable e.value logged).manager
          ]

      -- a record before it that is not the right one is none
      other_is_none : is_right_prev before (address_of size e.start) (number_at w64 header 8) ≡ false → number_at w64 header 8 ≡ 0
      other_is_none wrong = elim named [
        | inl none ↦ none
        | inr is ↦ elim known_prev [
          | inl behind ↦
              (let right : is_right_prev (Some (record { 0 = prev })) (address_of size e.start) (number_at w64 header 8) ≡ true = eq-eqb (number_at w64 header 8) prev is in
              absurd (true≢false (sym right ∙ sym (ap (λ (b : Option Lsn). is_right_prev b (address_of size e.start) (number_at w64 header 8)) behind) ∙ wrong)))
          | inr first ↦ is ∙ ap (prev_of size 0) first
        ]
      ]

      header_tells : TellsOnly IsOwnAnswer (header_rows (address_of size e.start) before header)
      header_tells =
          let n = number_at w64 header 8 in
          row_tells IsOwnAnswer (is_free_manager (slice_index header 17)) (damaged (address_of size e.start) kinds.Rmgr) _ (λ free. absurd (true≢false (sym free ∙ manager_fits)))
          (λ _. row_tells IsOwnAnswer (not (is_right_prev before (address_of size e.start) n)) (damaged (address_of size e.start) (kinds.Prev (record { 0 = n }))) []
          (λ wrong. not_from_true _ (eq-eqb n 0 (other_is_none (not-true _ wrong)))) (λ _. none_tells IsOwnAnswer))

      -- ---- the pages into which it continues

      module _ (page : ℕ) (behind : first_page < page) (inside : position_of size (page * 8192) < e.start + size_of e.value) where
        abbrev begins : ℕ
        begins = position_of size (page * 8192)

        abbrev owed : ℕ
        owed = e.start + size_of e.value - begins

        ahead : e.start < begins
        ahead = lt-position_of size valid e.start (page * 8192) (omega (arith, behind))

        owed_is : still_owed (owner_of size es begins) begins ≡ owed
        owed_is =
            let is = room_is (assembled e.value) in
            ap (λ (o : Option Entry). still_owed o begins) (owns begins (omega (arith, ahead)) (omega (arith, inside, is))) ∙ cond-true _ _ _ (lt-ltb e.start begins ahead)

        continuation_tells : (seen : ℕ) → seen ≤ 1 → (there : Option (List ℕ)) → pages page ≡ there → TellsOnly IsOwnAnswer (continuation_rows_of size page seen (address_of size e.start) owed there)
        continuation_tells seen soon None is = row_tells IsOwnAnswer true (damaged (address_of size e.start) kinds.Missing) [] (λ _. refl) (λ _. none_tells IsOwnAnswer)
        continuation_tells seen soon (Some bytes) is =
            let start = address_of size e.start in
            let small = logged_size e.value logged in
            let header_here = subst (HasHeader size sysid page bytes) owed_is (has_header size sysid pages es upto valid known narrow chained are low page bytes is) in
            let wide_here = wide size sysid pages es upto valid known narrow chained are low page bytes is in
            tells_both IsOwnAnswer (page_answers size page bytes seen) _ (answers_tell size sysid page owed bytes valid known narrow wide_here header_here seen soon)
            (λ passes.
            let same = answers_own size sysid page owed bytes valid known narrow wide_here header_here seen passes in
            row_tells IsOwnAnswer (is_overwritten bytes) (answers.Stopped (stopped.Overwritten (record { 0 = start }))) _
            (λ over. absurd (true≢false (sym over ∙ not_overwritten size sysid page owed bytes valid known narrow wide_here header_here same)))
            (λ _. row_tells IsOwnAnswer (not (is_continued bytes)) (damaged start kinds.NoContinuation) _
            (λ none. absurd (true≢false (sym none ∙ not_from_true _ (continued_is size sysid page owed bytes valid known narrow wide_here header_here same ∙ lt-ltb 0 owed (omega (arith, inside))))))
            (λ _. row_tells IsOwnAnswer (not (eqb (remaining_of bytes) owed)) (damaged start (kinds.RemLen (remaining_of bytes))) []
            (λ other. elim (remaining_either size sysid page owed bytes valid known narrow wide_here header_here (omega (arith, small, ahead))) [
              | inl none ↦ not_from_true _ (eq-eqb (remaining_of bytes) 0 none)
              | inr equal ↦ absurd (true≢false (sym other ∙ not_from_true _ (eq-eqb (remaining_of bytes) owed equal)))
            ]) (λ _. none_tells IsOwnAnswer))))

      pages_tell : (q r : ℕ) → e.start ≤ q → r < e.start + size_of e.value → TellsOnly IsOwnAnswer (rows_of_pages size pages place (size_of e.value) (address_of size q / 8192) (address_of size r / 8192))
      pages_tell q r from upto_it =
          let first = address_of size q / 8192 in
          let last = address_of size r / 8192 in
          let rises = address_rises q from in
          run_tells IsOwnAnswer (continuation_rows size pages place (size_of e.value)) (first + 1) (last - first) (λ page above below.
          let inside = position_of-le size valid r (page * 8192) (omega (arith, below, above)) in
          continuation_tells page (omega (arith, above, rises)) (omega (arith, inside, upto_it)) (timeline_or (pages (page - 1)) timeline) (timeline_at size sysid pages es upto valid known narrow chained are low (page - 1) (pages (page - 1)) refl timeline early) (pages page) refl)
        where
          address_rises : (q : ℕ) → e.start ≤ q → first_page ≤ address_of size q / 8192
          address_rises q from =
              let begins = position_of-le size valid q (first_page * 8192) in
              elim (cases_lt (address_of size q / 8192) first_page) [
                | inr upto ↦ upto
                | inl below ↦ (let high = lt-position_of size valid q (first_page * 8192) (omega (arith, below)) in absurd (omega (arith, high, page_begins size valid e.start, from)))
              ]

      -- ---- all checks

      rest_tells : TellsOnly IsOwnAnswer (rest_rows size pages place (size_of e.value))
      rest_tells =
          let start = address_of size e.start in
          let total = size_of e.value in
          let header_page = page_of_byte size e.start 24 in
          let upto_header = rows_of_pages size pages place total (start / 8192) header_page in
          let of_header = header_rows start before header in
          let upto_last = rows_of_pages size pages place total header_page (page_of_byte size e.start total) in
          let crc = crc_rows start (bytes_from size pages total e.start) in
          tells_both IsOwnAnswer (upto_header ++ of_header ++ upto_last) crc
          (tells_both IsOwnAnswer (upto_header ++ of_header) upto_last
          (tells_both IsOwnAnswer upto_header of_header (pages_tell e.start (e.start + 24 - 1) (omega arith) (omega (arith, long))) (λ _. header_tells))
          (λ _. pages_tell (e.start + 24 - 1) (e.start + total - 1) (omega arith) (omega (arith, long))))
          (λ _. row_tells IsOwnAnswer _ (damaged start kinds.Crc) [] (λ _. refl) (λ _. none_tells IsOwnAnswer))

      begins_here : position_of size (first_page * 8192) ≡ e.start → still_owed (owner_of size es (position_of size (first_page * 8192))) (position_of size (first_page * 8192)) ≡ 0
      begins_here at =
          let is = room_is (assembled e.value) in
          let p = position_of size (first_page * 8192) in
          ap (λ (o : Option Entry). still_owed o p) (owns p (omega (arith, at)) (omega (arith, at, is, long))) ∙ cond-false _ _ _ (le-ltb e.start p (omega (arith, at)))

      from_start : first_position size ≤ e.start
      from_start = omega (arith, start)

      record_tells : (bytes : List ℕ) → pages first_page ≡ Some bytes → TellsOnly IsOwnAnswer (record_rows size pages None place bytes)
      record_tells bytes there =
          let no_record = is_zero_word header in
          let sizes = size_rows size None e.start no_record claimed in
          let rest = rest_rows size pages place claimed in
          tells_both IsOwnAnswer (opening_rows size place bytes) (sizes ++ rest) (opening_tells place early from_start bytes there begins_here)
          (λ _. tells_both IsOwnAnswer sizes rest
          (row_tells IsOwnAnswer no_record (ended size e.start) _ (λ _. refl)
          (λ some. row_tells IsOwnAnswer (ltb claimed 24) (damaged (address_of size e.start) kinds.Length) _
          (λ short. absurd (true≢false (sym short ∙ le-ltb claimed 24 (omega (arith, claimed_is some, long)))))
          (λ _. row_tells IsOwnAnswer false (ended size e.start) [] (λ _. refl) (λ _. none_tells IsOwnAnswer))))
          (λ passes.
          let some = (passes_row no_record (ended size e.start) _ passes).0 in
          subst (λ (total : ℕ). TellsOnly IsOwnAnswer (rest_rows size pages place total)) (sym (claimed_is some)) rest_tells))

      -- ---- where all pass it is read

      module _ (no_pass : IsTorn size pages e prev → IsSeenTorn size pages e prev) (bytes : List ℕ) (passes : first_fault (record_rows size pages None place bytes) ≡ None) where
        abbrev whole_bytes : List ℕ
        whole_bytes = bytes_from size pages claimed e.start

        record Passed : Type 0 where
          some : is_zero_word header ≡ false
          right_prev : is_right_prev before (address_of size e.start) (number_at w64 header 8) ≡ true
          right_crc : eqb (crc32c (drop 24 whole_bytes ++ take 20 whole_bytes)) (number_at w32 whole_bytes 20) ≡ true

        passed : Passed
        passed =
            let start = address_of size e.start in
            let no_record = is_zero_word header in
            let header_page = page_of_byte size e.start 24 in
            let of_header = header_rows start before header in
            let crc = crc_rows start whole_bytes in
            let sizes = size_rows size None e.start no_record claimed in
            let upto_header = rows_of_pages size pages place claimed (start / 8192) header_page in
            let upto_last = rows_of_pages size pages place claimed header_page (page_of_byte size e.start claimed) in
            let parts = passes_both (opening_rows size place bytes) (sizes ++ rest_rows size pages place claimed) passes in
            let behind = passes_both sizes (rest_rows size pages place claimed) parts.1 in
            let of_crc = passes_both (upto_header ++ of_header ++ upto_last) crc behind.1 in
            let of_last = passes_both (upto_header ++ of_header) upto_last of_crc.0 in
            let headers = passes_both upto_header of_header of_last.0 in
            let of_manager = passes_row (is_free_manager (slice_index header 17)) (damaged start kinds.Rmgr) _ headers.1 in
            let is_right = is_right_prev before start (number_at w64 header 8) in
            let of_prev = passes_row (not is_right) (damaged start (kinds.Prev (record { 0 = number_at w64 header 8 }))) _ of_manager.1 in
            let is_crc = eqb (crc32c (drop 24 whole_bytes ++ take 20 whole_bytes)) (number_at w32 whole_bytes 20) in
            record {
              some = (passes_row no_record (ended size e.start) _ behind.0).0;
              right_prev = not-false is_right of_prev.0;
              right_crc = not-false is_crc (passes_row (not is_crc) (damaged start kinds.Crc) _ of_crc.1).0;
            }

        record_is : bytes_from size pages (size_of e.value) e.start ≡ take (size_of e.value) here
        record_is = let is = room_is (assembled e.value) in front_of (size_of e.value) (omega (arith, is))

        prev_is : number_at w64 header 8 ≡ prev
        prev_is = elim named [
          | inr is ↦ is
          | inl none ↦ elim known_prev [
            | inl behind ↦ eqb-true (number_at w64 header 8) prev (subst (λ (b : Option Lsn). is_right_prev b (address_of size e.start) (number_at w64 header 8) ≡ true) behind passed.right_prev)
            | inr first ↦ none ∙ sym (ap (prev_of size 0) first)
          ]
        ]

        unseen : IsSeenTorn size pages e prev → ⊥
        unseen seen =
            let crc_right : List ℕ → Bool = λ (all : List ℕ). eqb (crc32c (drop 24 all ++ take 20 all)) (number_at w32 all 20) in
            elim seen [
              | inl none ↦ true≢false (sym (eq-eqb (number_at w64 header 0) 0 (number_is 0 (omega arith) ∙ sym (number_at-take w64 here (size_of e.value) 0 (omega (arith, long))) ∙ none)) ∙ passed.some)
              | inr (inl other) ↦ other (number_at-take w64 here (size_of e.value) 8 (omega (arith, long)) ∙ sym (number_is 8 (omega arith)) ∙ prev_is)
              | inr (inr other) ↦
                  (let right : crc_right (take (size_of e.value) here) ≡ true = ap crc_right (sym record_is) ∙ ap (λ (n : ℕ). crc_right (bytes_from size pages n e.start)) (sym (claimed_is passed.some)) ∙ passed.right_crc in
                  other (sym (eqb-true _ _ right)))
            ]

        is_own : here ≡ own
        is_own = elim (all_or_one here own (room / 8) (λ k lt. own_word k (omega (arith, lt)))) [
          | inl same ↦ own_bytes same
          | inr other ↦ absurd (unseen (no_pass (torn_here other.0 other.1 other.2)))
        ]

        reads : (n : ℕ) → n ≡ size_of e.value → reading_of (bytes_from size pages n e.start) ≡ Ok e.value
        reads n is =
            let spelled : bytes_from size pages n e.start ≡ take (size_of e.value) (own ++ []) = ap (λ (m : ℕ). bytes_from size pages m e.start) is ∙ record_is ∙ ap (take (size_of e.value)) (is_own ∙ sym (append-nil own)) in
            ap reading_of (spelled ∙ take-filled (assembled e.value) prev []) ∙ spelling_reads e.value prev logged prev_fits

        no_answer : (told : Answer) → answer_or size pages place None ≡ Err told → ⊥
        no_answer told stops =
            let n = number_at w32 header 0 in
            let is : n ≡ size_of e.value = size_in_header size pages None place ∙ claimed_is passed.some in
            let found = ap (found_or size place n (number_at w64 header 8)) (reads n is) in
            read_or_told told (sym found ∙ stops)

      module _ (no_pass : IsTorn size pages e prev → IsSeenTorn size pages e prev) (told : Answer) where
        stops_own : (bytes : List ℕ) → pages first_page ≡ Some bytes → (fault : Option Answer) → first_fault (record_rows size pages None place bytes) ≡ fault → answer_or size pages place fault ≡ Err told → IsOwnAnswer told
        stops_own bytes there (Some other) fails stops = let is : other ≡ told = cc in subst IsOwnAnswer is ((record_tells bytes there).tells other fails)
        stops_own bytes there None passes stops = absurd (no_answer no_pass bytes passes told stops)

        stops_on : (there : Option (List ℕ)) → pages first_page ≡ there → read_in size pages None place there ≡ Err told → IsOwnAnswer told
        stops_on None there stops = let is : ended size e.start ≡ told = cc in subst IsOwnAnswer is refl
        stops_on (Some bytes) there stops = stops_own bytes there (first_fault (record_rows size pages None place bytes)) refl stops

        pub entry_stops : read_at size pages None place ≡ Err told → IsOwnAnswer told
        unfolding read_at
        entry_stops stops = stops_on (pages first_page) refl stops

  -- ---- behind the last entry

  byte_from : (n p j : ℕ) → j < n → get_or (bytes_from size pages n p) j 0 ≡ as_byte (byte_at pages (address_of size (p + j)))
  unfolding bytes_from
  byte_from zero p j lt = absurd (omega (arith, lt))
  byte_from (suc n) p zero lt = ap (λ (q : ℕ). as_byte (byte_at pages (address_of size q))) (omega arith)
  byte_from (suc n) p (suc j) lt = byte_from n (p + 1) j (omega (arith, lt)) ∙ ap (λ (q : ℕ). as_byte (byte_at pages (address_of size q))) (omega arith)

  module _ (place : RecordPlace) (early : place.timeline ≤ 1) (at : place.position ≡ end_position size es) where
    zero_behind : (i : ℕ) → i < 8 → byte_at pages (address_of size (place.position + i)) ≡ 0
    zero_behind i lt =
        let p = place.position in
        let turned : p % 8 ≡ 0 = omega (arith, at, end_position-whole size valid es chained) in
        let a = address_of size p in
        let same : 8 * (a / 8) + i ≡ address_of size (p + i) = omega (arith, address_of-mod_word size valid p turned, address_of-in_word size valid p i turned lt) in
        let high = end_address_of-le_address_of size valid p in
        elim (are.words (a / 8)) [
          | inl zeros ↦ ap (byte_at pages) (sym same) ∙ zeros i lt
          | inr owned ↦ ap (byte_at pages) (sym same) ∙ owned i lt ∙ log_byte-behind size sysid valid es chained (8 * (a / 8) + i) (omega (arith, ap (end_address_of size) at, high, same, address_of-in_word size valid p i turned lt))
        ]

    no_record_here : is_zero_word (bytes_from size pages 24 place.position) ≡ true
    no_record_here =
        let bytes = bytes_from size pages 24 place.position in
        eq-eqb (number_at w64 bytes 0) 0 (zero_eight bytes 0 (λ i lt. let none : 0 + i ≡ i = omega arith in
        ap (λ (j : ℕ). get_or bytes j 0) none ∙ byte_from 24 place.position i (omega (arith, lt)) ∙ ap as_byte (zero_behind i lt) ∙ as_byte-of 0 (omega arith)))

    none_owns : position_of size (address_of size place.position / 8192 * 8192) ≡ place.position → still_owed (owner_of size es (position_of size (address_of size place.position / 8192 * 8192))) (position_of size (address_of size place.position / 8192 * 8192)) ≡ 0
    none_owns begins =
        let p = position_of size (address_of size place.position / 8192 * 8192) in
        ap (λ (o : Option Entry). still_owed o p) (owner_of-none_behind size (first_position size) es chained p (omega (arith, begins, at)))

    behind_tells : (bytes : List ℕ) → pages (address_of size place.position / 8192) ≡ Some bytes → TellsOnly IsOwnAnswer (record_rows size pages None place bytes)
    behind_tells bytes there =
        let claimed_here = number_at w32 (bytes_from size pages 8 place.position) 0 in
        let no_record = is_zero_word (bytes_from size pages 24 place.position) in
        let sizes = size_rows size None place.position no_record claimed_here in
        tells_both IsOwnAnswer (opening_rows size place bytes) (sizes ++ rest_rows size pages place claimed_here) (opening_tells place early (omega (arith, at)) bytes there none_owns)
        (λ _. row_tells IsOwnAnswer no_record (ended size place.position) _ (λ _. refl) (λ some. absurd (true≢false (sym no_record_here ∙ some))))

    module _ (told : Answer) where
      behind_own : (bytes : List ℕ) → pages (address_of size place.position / 8192) ≡ Some bytes → (fault : Option Answer) → first_fault (record_rows size pages None place bytes) ≡ fault → answer_or size pages place fault ≡ Err told → IsOwnAnswer told
      behind_own bytes there (Some other) fails stops = let is : other ≡ told = cc in subst IsOwnAnswer is ((behind_tells bytes there).tells other fails)
      behind_own bytes there None passes stops =
          let sizes = size_rows size None place.position (is_zero_word (bytes_from size pages 24 place.position)) (number_at w32 (bytes_from size pages 8 place.position) 0) in
          let parts = passes_both (opening_rows size place bytes) _ passes in
          let some = (passes_row (is_zero_word (bytes_from size pages 24 place.position)) (ended size place.position) _ parts.1).0 in
          absurd (true≢false (sym no_record_here ∙ some))

      behind_on : (there : Option (List ℕ)) → pages (address_of size place.position / 8192) ≡ there → read_in size pages None place there ≡ Err told → IsOwnAnswer told
      behind_on None there stops = let is : ended size place.position ≡ told = cc in subst IsOwnAnswer is refl
      behind_on (Some bytes) there stops = behind_own bytes there (first_fault (record_rows size pages None place bytes)) refl stops

      pub end_stops : read_at size pages None place ≡ Err told → IsOwnAnswer told
      unfolding read_at
      end_stops stops = behind_on (pages (address_of size place.position / 8192)) refl stops

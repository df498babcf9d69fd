-- Two logs that have the same pages up to the first one that is not there, which decode to the same.
use Rattle.std.proofs.Common.{◌≡◌, ℕ, zero, suc, ◌+◌, ◌-◌, ◌*◌, ◌/◌, ◌%◌, ◌^◌, ◌<◌, ◌≤◌, Bool, eqb, leb, List, [], ◌∷◌, ◌++◌, map, Option, Some, None, Result, Ok, Err, inl, inr, refl, sym, ap, subst, ◌∙◌, mul_comm, arith}
use Rattle.std.specs.Prelude.{slice_index}
use Rattle.std.specs.Int.{w32, w64}
use Rattle.std.specs.List.{flat_map, range_with_len}
use Rattle.std.specs.Option.{unwrap_or}
use Rattle.std.proofs.Math.Nat.{le-div_iff_mul-le, mul-le-mul_right}
use Rattle.std.proofs.lemmas.Bool.{cases_Bool, cases_lt, leb-false}
use Rattle.byte_position.specs.Geometry.{IsSegmentSize}
use Rattle.byte_position.specs.Position.{address_of, header_size, position_of}
use Rattle.byte_position.proofs.HeaderSizes.{header_size_bounds}
use Rattle.byte_position.proofs.Pages.{position_of-next_page}
use Rattle.byte_position.proofs.PagesTimes.{address_of-page_start_times}
use Rattle.byte_position.proofs.Rising.{address_of-mono, lt-position_of, position_of-mono}
use Rattle.byte_position.proofs.SegmentSizes.{segment_size_in_pages}
use Rattle.byte_position.proofs.Words.{address_of-in_word, address_of-mod_word}
use Rattle.wal_spelling.specs.Numbers.{number_at}
use Rattle.wal_spelling.specs.Record.{is_switch}
use Rattle.wal_record.specs.Reading.{reading_of}
use Rattle.wal_record.specs.declared.fault.RecErr.{RecErr}
use Rattle.wal_record.specs.declared.fault.RecErr.TheVariants.{Memory, Malformed, Compressed}
use Rattle.wal_types.specs.declared.lsn.Lsn.{Lsn}
use Rattle.wal_types.specs.declared.record.Record.{Record}
use Rattle.wal_page.specs.Order.{next_segment}
use Rattle.wal_page.specs.Page.{first_fault, is_continued, page_rows, remaining_of, timeline_of}
use Rattle.wal_page.specs.declared.checks.PageErr.{PageErr}
use Rattle.wal_reader.specs.declared.record_place.RecordPlace.{RecordPlace}
use Rattle.wal_reader.specs.declared.found.FoundRecord.{FoundRecord}
use Rattle.wal_reader.specs.declared.found.Answer.{Answer}
use Rattle.wal_reader.specs.declared.found.Answer.TheVariants as answers
use Rattle.wal_reader.specs.declared.found.DamageKind.TheVariants as kinds
use Rattle.wal_reader.specs.Decodes.{Decodes, ReadsFrom, begin_at, begin_in, beginning, continuation_rows, continuation_rows_of, crc_rows, damaged, header_rows, is_zero_word, next_position, opening_rows, page_answers, page_of_byte, place_behind, record_rows, rest_rows, rows_of_pages, size_rows}
use Rattle.wal_reader.specs.Pages.{Pages, as_byte, byte_at, bytes_from}
use Rattle.wal_reader.specs.ReadAt.{ReadsComputed, answer_or, found_or, read_at, read_in}
use Rattle.wal_reader.proofs.BeginningLaws.{page_position-aligned}
use Rattle.wal_reader.proofs.NextPositionLaws.{next_position-further, next_position-rounded, next_position-segment, next_position-whole}
use Rattle.wal_reader.proofs.PagesLaws.{take-bytes_from}
use Rattle.wal_reader.proofs.ReadAtLaws.{reads_records, records_computed}
use Rattle.wal_reader.proofs.RowLaws.{first_fault-append, first_of, number_at-take}
use Rattle.wal_reader.proofs.SettledLaws.{passes_both, size-passed, size_in_header, total_of}
use Rattle.written_log_laws.proofs.AgreeingLaws.{cases_Option, same_place}

-- ---- rows that tell no end

abbrev IsStop : Answer → Type 0
IsStop (answers.End at) = ⊥
IsStop (answers.Stopped stop) = Unit {0}

abbrev TellNoEnd : List (Bool × Answer) → Type 0
TellNoEnd [] = Unit {0}
TellNoEnd (row ∷ rows) = IsStop row.1 × TellNoEnd rows

no_end_both : (xs ys : List (Bool × Answer)) → TellNoEnd xs → TellNoEnd ys → TellNoEnd (xs ++ ys)
no_end_both [] ys first second = second
no_end_both (x ∷ xs) ys first second = (first.0, no_end_both xs ys first.1 second)

no_end_of_page : (at : ℕ) (rows : List (Bool × PageErr)) → TellNoEnd (map (λ (row : Bool × PageErr). (row.0, damaged at (kinds.Page row.1))) rows)
no_end_of_page at [] = tt
no_end_of_page at (row ∷ rows) = (tt, no_end_of_page at rows)

no_end_continued : (size page timeline start owed : ℕ) (here : Option (List ℕ)) → TellNoEnd (continuation_rows_of size page timeline start owed here)
no_end_continued size page timeline start owed None = (tt, tt)
no_end_continued size page timeline start owed (Some bytes) =
    no_end_both (page_answers size page bytes timeline) _ (no_end_of_page (page * 8192) (page_rows size page bytes timeline)) (tt, (tt, (tt, tt)))

told_end : (rows : List (Bool × Answer)) (answer : Answer) → TellNoEnd rows → first_fault rows ≡ Some answer → IsStop answer
told_end [] answer none told = absurd (cc told)
told_end (row ∷ rows) answer none told = elim (cases_Bool row.0) [
  | inl holds ↦
      (let same : Some row.1 ≡ Some answer = rw holds at told in
      subst IsStop (some_same row.1 answer same) none.0)
  | inr passes ↦ told_end rows answer none.1 (rw passes at told)
]
  where
    some_same : (one other : Answer) → Some one ≡ Some other → one ≡ other
    some_same one other same = cc

-- ---- pages that are the same, in whole segments, up to one that is in neither log

module _ (size : ℕ) (valid : IsSegmentSize size) (first count beyond : ℕ) (segments : beyond * 8192 ≡ (count + 1) * size) where
  -- a place from the first page on up to the one that is not there
  record InRange (place : RecordPlace) : Type 0 where
    low : position_of size (first * 8192) ≤ place.position
    high : place.position ≤ position_of size (beyond * 8192)
    whole : place.position % 8 ≡ 0

  page_low : (place : RecordPlace) → InRange place → first ≤ address_of size place.position / 8192
  page_low place range =
      omega (arith, address_of-mono size valid (position_of size (first * 8192)) place.position range.low, address_of-page_start_times size valid first)

  page_high : (place : RecordPlace) → InRange place → address_of size place.position / 8192 ≤ beyond
  page_high place range =
      omega (arith, address_of-mono size valid place.position (position_of size (beyond * 8192)) range.high, address_of-page_start_times size valid beyond, header_size_bounds size valid beyond)

  -- the next place behind a record whose last byte is in a page that is there
  module _ (place : RecordPlace) (range : InRange place) (total : ℕ) (some : 24 ≤ total) (value : Record) (within : page_of_byte size place.position total < beyond) where
    abbrev last : ℕ
    last = place.position + total - 1

    last_address : address_of size last < beyond * 8192
    last_address = omega (arith, within)

    last_below : last < position_of size (beyond * 8192)
    last_below = lt-position_of size valid last (beyond * 8192) last_address

    segment_upto : address_of size last / size ≤ count
    segment_upto = elim (cases_lt count (address_of size last / size)) [
      | inl above ↦
          (let positive : 0 < size = omega (arith, (segment_size_in_pages size valid).0, (segment_size_in_pages size valid).1) in
          let product : (count + 1) * size ≤ address_of size last = (le-div_iff_mul-le positive).0 (omega (arith, above)) in
          absurd (omega (arith, product, segments, last_address)))
      | inr upto ↦ upto
    ]

    switched_high : next_segment size last ≤ position_of size (beyond * 8192)
    switched_high =
        let product : (address_of size last / size + 1) * size ≤ (count + 1) * size = mul-le-mul_right size (omega (arith, segment_upto)) in
        let turned : size * (address_of size last / size + 1) ≡ (address_of size last / size + 1) * size = mul_comm size (address_of size last / size + 1) in
        position_of-mono size (size * (address_of size last / size + 1)) (beyond * 8192) (omega (arith, product, turned, segments))

    next_high : next_position size place.position total value ≤ position_of size (beyond * 8192)
    next_high = elim (cases_Bool (is_switch value)) [
      | inl switches ↦ omega (arith, next_position-segment size place.position total value switches, switched_high)
      | inr plain ↦ omega (arith, next_position-rounded size place.position total value plain, last_below, page_position-aligned size beyond valid, range.whole, some)
    ]

    next_in_range : (behind : RecordPlace) → behind.position ≡ next_position size place.position total value → InRange behind
    next_in_range behind is = record {
      low = omega (arith, is, range.low, next_position-further size valid place.position total value (omega (arith, some)));
      high = omega (arith, is, next_high);
      whole = ap (λ (p : ℕ). p % 8) is ∙ next_position-whole size valid place.position total value range.whole;
    }

  module _ (one other : Pages) (same : (page : ℕ) → first ≤ page → page < beyond → one page ≡ other page) (one_ends : one beyond ≡ None) (other_ends : other beyond ≡ None) where
    -- ---- bytes of such pages

    bytes_same : (n position : ℕ) → first ≤ address_of size position / 8192 → ((k : ℕ) → k < n → address_of size (position + k) / 8192 < beyond) → bytes_from size one n position ≡ bytes_from size other n position
    unfolding bytes_from
    bytes_same zero position low high = refl
    bytes_same (suc n) position low high =
        let address = address_of size position in
        let start : position + 0 ≡ position = omega arith in
        let below : address / 8192 < beyond = subst (λ (p : ℕ). address_of size p / 8192 < beyond) start (high 0 (omega arith)) in
        let here : byte_at one address ≡ byte_at other address = ap (λ (page : Option (List ℕ)). slice_index (unwrap_or page []) (address % 8192)) (same (address / 8192) low below) in
        let further : (k : ℕ) → k < n → address_of size (position + 1 + k) / 8192 < beyond = λ k less.
        (let at : position + suc k ≡ position + 1 + k = omega arith in
        subst (λ (p : ℕ). address_of size p / 8192 < beyond) at (high (suc k) (omega (arith, less)))) in
        let rest = bytes_same n (position + 1) (omega (arith, low, address_of-mono size valid position (position + 1) (omega arith))) further in
        ap (λ (b : ℕ). as_byte b ∷ bytes_from size one n (position + 1)) here ∙ ap (λ (bs : List ℕ). as_byte (byte_at other address) ∷ bs) rest

    -- bytes up to one that is in a page which is there
    bytes_upto : (n total position : ℕ) → n ≤ total → first ≤ address_of size position / 8192 → address_of size (position + total - 1) / 8192 < beyond → bytes_from size one n position ≡ bytes_from size other n position
    bytes_upto n total position few low high =
        bytes_same n position low (λ k less. omega (arith, high, address_of-mono size valid (position + k) (position + total - 1) (omega (arith, less, few))))

    -- ---- the pages over which a record continues

    is_there : (page timeline start owed : ℕ) (here : Option (List ℕ)) → first_fault (continuation_rows_of size page timeline start owed here) ≡ None → here ≡ None → ⊥
    is_there page timeline start owed None passes none = absurd (cc passes)
    is_there page timeline start owed (Some bytes) passes none = absurd (cc none)

    module _ (place : RecordPlace) (total : ℕ) where
      abbrev rows : Pages → ℕ → ℕ → List (Bool × Answer)
      rows pages from n = flat_map (continuation_rows size pages place total) (range_with_len (from + 1) n)

      rows_same : (from n : ℕ) → first ≤ from → from < beyond → first_fault (rows one from n) ≡ None → (rows other from n ≡ rows one from n) × (from + n < beyond)
      rows_same from zero low high passes = (refl, omega (arith, high))
      rows_same from (suc n) low high passes =
          let own = continuation_rows size one place total (from + 1) in
          let both = passes_both own (rows one (from + 1) n) passes in
          let next : from + 1 < beyond = elim (cases_lt (from + 1) beyond) [
            | inl below ↦ below
            | inr above ↦
                (let at : beyond ≡ from + 1 = omega (arith, above, high) in
                absurd (is_there (from + 1) _ _ _ (one (from + 1)) both.0 (subst (λ (page : ℕ). one page ≡ None) at one_ends)))
          ] in
          let here : one (from + 1) ≡ other (from + 1) = same (from + 1) (omega (arith, low)) next in
          let back : from + 1 - 1 ≡ from = omega arith in
          let timelines : other (from + 1 - 1) ≡ one (from + 1 - 1) = rw back (sym (same from low high)) in
          let row : continuation_rows size other place total (from + 1) ≡ own = rw (timelines, ← here) refl in
          let more = rows_same (from + 1) n (omega (arith, low)) next both.1 in (
            ap (λ (r : List (Bool × Answer)). r ++ rows other (from + 1) n) row ∙ ap (λ (r : List (Bool × Answer)). own ++ r) more.0,
            omega (arith, more.1),
          )

    -- ---- a record that is read in one log is read in the other

    module _ (place : RecordPlace) (range : InRange place) where
      abbrev page : ℕ
      page = address_of size place.position / 8192

      module _ (found : FoundRecord) where
        record ReadAlike : Type 0 where
          read : read_at size other None place ≡ Ok found
          behind : place_behind size one place found ≡ place_behind size other place found
          next : InRange (place_behind size other place found)

        with_page : (bytes : List ℕ) → one page ≡ Some bytes → page < beyond → (fault : Option Answer) → first_fault (record_rows size one None place bytes) ≡ fault → answer_or size one place fault ≡ Ok found → ReadAlike
        unfolding read_at
        with_page bytes there high (Some answer) fails e = absurd (cc e)
        with_page bytes there high None passes e =
            let low = page_low place range in
            let total = number_at w32 (bytes_from size one 8 place.position) 0 in
            let header_page = page_of_byte size place.position 24 in
            let last_page = page_of_byte size place.position total in
            let header = header_rows (address_of size place.position) place.prev (bytes_from size one 24 place.position) in
            let crc = crc_rows (address_of size place.position) (bytes_from size one total place.position) in
            let opening = opening_rows size place bytes in
            let sizes = size_rows size None place.position (is_zero_word (bytes_from size one 24 place.position)) total in
            let claimed = number_at w32 (bytes_from size one 24 place.position) 0 in
            let prev = number_at w64 (bytes_from size one 24 place.position) 8 in
            let of_claimed : claimed ≡ total = size_in_header size one None place in
            let of_total : found.head.total ≡ total = total_of size one None place found claimed prev (reading_of (bytes_from size one claimed place.position)) e ∙ of_claimed in
            let long : 24 ≤ total = size-passed size one None place bytes passes in
            let parts = passes_both opening (sizes ++ rest_rows size one place total) passes in
            let here : other page ≡ Some bytes = sym (same page low high) ∙ there in
            let upto_header = rows_of_pages size one place total page header_page in
            let upto_last = rows_of_pages size one place total header_page last_page in
            let rest = (passes_both sizes (rest_rows size one place total) parts.1).1 in
            let crossed = passes_both (upto_header ++ header ++ upto_last) crc rest in
            let crossed_last = passes_both (upto_header ++ header) upto_last crossed.0 in
            let crossed_header = passes_both upto_header header crossed_last.0 in
            let rises = address_of-mono size valid place.position (place.position + 24 - 1) (omega arith) in
            let rises_last = address_of-mono size valid (place.position + 24 - 1) (place.position + total - 1) (omega (arith, long)) in
            let to_header = rows_same place total page (header_page - page) low high crossed_header.0 in
            let header_high : header_page < beyond = omega (arith, to_header.1, rises) in
            let to_last = rows_same place total header_page (last_page - header_page) (omega (arith, low, rises)) header_high crossed_last.1 in
            let last_high : last_page < beyond = omega (arith, to_last.1, rises_last) in
            let last_same : one last_page ≡ other last_page = same last_page (omega (arith, low, rises, rises_last)) last_high in
            let eight = bytes_upto 8 total place.position (omega (arith, long)) low last_high in
            let twenty_four = bytes_upto 24 total place.position long low last_high in
            let all = bytes_upto total total place.position (omega arith) low last_high in
            let all_claimed : bytes_from size one claimed place.position ≡ bytes_from size other claimed place.position = rw of_claimed all in
            let same_rest : rest_rows size other place total ≡ rest_rows size one place total = rw (to_header.0, to_last.0, ← twenty_four, ← all) refl in
            let same_rows : record_rows size other None place bytes ≡ record_rows size one None place bytes = rw (← eight, same_rest, ← twenty_four) refl in
            let same_answer : answer_or size other place None ≡ answer_or size one place None = rw (← twenty_four, ← all_claimed) refl in
            let read : read_in size other None place (other page) ≡ Ok found =
            ap (read_in size other None place) here
            ∙ ap (λ (r : List (Bool × Answer)). answer_or size other place (first_fault r)) same_rows
            ∙ ap (answer_or size other place) passes ∙ same_answer ∙ e in
            let behind : place_behind size one place found ≡ place_behind size other place found = rw (of_total, last_same) refl in
            record {
              read = read;
              behind = behind;
              next = next_in_range place range total long found.value last_high (place_behind size other place found) (ap (λ (n : ℕ). next_position size place.position n found.value) of_total);
            }

        within : (bytes : List ℕ) → one page ≡ Some bytes → page < beyond
        within bytes there = elim (cases_lt page beyond) [
          | inl below ↦ below
          | inr above ↦
              (let at : beyond ≡ page = omega (arith, above, page_high place range) in
              let none : one page ≡ None = subst (λ (p : ℕ). one p ≡ None) at one_ends in
              absurd (cc (there, none)))
        ]

        from_page : (here : Option (List ℕ)) → one page ≡ here → read_in size one None place here ≡ Ok found → ReadAlike
        from_page None there e = absurd (cc e)
        from_page (Some bytes) there e =
            with_page bytes there (within bytes there) (first_fault (record_rows size one None place bytes)) refl e

        read_alike : read_at size one None place ≡ Ok found → ReadAlike
        unfolding read_at
        read_alike e = from_page (one page) refl e

      -- ---- so is an end

      first_eight : page < beyond → (k : ℕ) → k < 8 → address_of size (place.position + k) / 8192 < beyond
      first_eight high k less = omega (arith, high, address_of-in_word size valid place.position k range.whole less, address_of-mod_word size valid place.position range.whole)

      zero_word_of : (pages : Pages) → is_zero_word (bytes_from size pages 24 place.position) ≡ is_zero_word (bytes_from size pages 8 place.position)
      zero_word_of pages =
          ap (λ (n : ℕ). eqb n 0)
          (sym (number_at-take w64 (bytes_from size pages 24 place.position) 8 0 (omega arith))
          ∙ ap (λ (bytes : List ℕ). number_at w64 bytes 0) (take-bytes_from size pages 8 24 place.position (omega arith)))

      no_end_pages : (pages : Pages) (total from n : ℕ) → TellNoEnd (flat_map (continuation_rows size pages place total) (range_with_len from n))
      no_end_pages pages total from zero = tt
      no_end_pages pages total from (suc n) =
          no_end_both (continuation_rows size pages place total from) _ (no_end_continued size from _ _ _ (pages from)) (no_end_pages pages total (from + 1) n)

      no_end_rest : (pages : Pages) (total : ℕ) → TellNoEnd (rest_rows size pages place total)
      no_end_rest pages total =
          let start = address_of size place.position in
          let header_page = page_of_byte size place.position 24 in
          let upto_header = rows_of_pages size pages place total (start / 8192) header_page in
          let header = header_rows start place.prev (bytes_from size pages 24 place.position) in
          let upto_last = rows_of_pages size pages place total header_page (page_of_byte size place.position total) in
          no_end_both (upto_header ++ header ++ upto_last) (crc_rows start (bytes_from size pages total place.position))
          (no_end_both (upto_header ++ header) upto_last (no_end_both upto_header header (no_end_pages pages total _ _) (tt, (tt, tt))) (no_end_pages pages total _ _)) (tt, tt)

      -- what the bytes of a record say is no end
      no_end_said : (total prev : ℕ) (reading : Result Record RecErr) (at : Lsn) → found_or size place total prev reading ≡ Err (answers.End at) → ⊥
      no_end_said total prev (Ok value) at e = absurd (cc e)
      no_end_said total prev (Err Memory) at e = absurd (cc e)
      no_end_said total prev (Err (Malformed offset kind)) at e = absurd (cc e)
      no_end_said total prev (Err (Compressed block)) at e = absurd (cc e)

      abbrev refused : Answer → Result FoundRecord Answer
      refused answer = Err answer

      same_refusal : (a b : Answer) → refused a ≡ refused b → a ≡ b
      same_refusal a b e = cc

      -- an end is told by the page's own checks, or by the first word
      module _ (bytes : List ℕ) (high : page < beyond) (at : Lsn) where
        abbrev total_in : Pages → ℕ
        total_in pages = number_at w32 (bytes_from size pages 8 place.position) 0

        abbrev sizes_in : Pages → List (Bool × Answer)
        sizes_in pages = size_rows size None place.position (is_zero_word (bytes_from size pages 24 place.position)) (total_in pages)

        eight_same : bytes_from size one 8 place.position ≡ bytes_from size other 8 place.position
        eight_same = bytes_same 8 place.position (page_low place range) (first_eight high)

        sizes_same : sizes_in one ≡ sizes_in other
        sizes_same =
            let zeros : is_zero_word (bytes_from size one 24 place.position) ≡ is_zero_word (bytes_from size other 24 place.position) = zero_word_of one ∙ ap is_zero_word eight_same ∙ sym (zero_word_of other) in
            rw (zeros, eight_same) refl

        told_sizes : (pages : Pages) (answer : Answer) → first_fault (opening_rows size place bytes) ≡ None → first_fault (sizes_in pages) ≡ Some answer → first_fault (record_rows size pages None place bytes) ≡ Some answer
        told_sizes pages answer o z =
            let rest = rest_rows size pages place (total_in pages) in
            first_fault-append (opening_rows size place bytes) (sizes_in pages ++ rest) ∙ ap (λ (x : Option Answer). first_of x (first_fault (sizes_in pages ++ rest))) o
            ∙ first_fault-append (sizes_in pages) rest ∙ ap (λ (x : Option Answer). first_of x (first_fault rest)) z

        told_rest : (pages : Pages) (told : Option Answer) → first_fault (opening_rows size place bytes) ≡ None → first_fault (sizes_in pages) ≡ None → first_fault (rest_rows size pages place (total_in pages)) ≡ told → first_fault (record_rows size pages None place bytes) ≡ told
        told_rest pages told o z r =
            let rest = rest_rows size pages place (total_in pages) in
            first_fault-append (opening_rows size place bytes) (sizes_in pages ++ rest) ∙ ap (λ (x : Option Answer). first_of x (first_fault (sizes_in pages ++ rest))) o
            ∙ first_fault-append (sizes_in pages) rest ∙ ap (λ (x : Option Answer). first_of x (first_fault rest)) z ∙ r

        by_fault : (opening sizes rest : Option Answer) → first_fault (opening_rows size place bytes) ≡ opening → first_fault (sizes_in one) ≡ sizes → first_fault (rest_rows size one place (total_in one)) ≡ rest
            → answer_or size one place (first_fault (record_rows size one None place bytes)) ≡ Err (answers.End at) → answer_or size other place (first_fault (record_rows size other None place bytes)) ≡ Err (answers.End at)
        by_fault (Some answer) sizes rest o z r e =
            let told = λ (pages : Pages). first_fault-append (opening_rows size place bytes) (sizes_in pages ++ rest_rows size pages place (total_in pages)) ∙ ap (λ (x : Option Answer). first_of x (first_fault (sizes_in pages ++ rest_rows size pages place (total_in pages)))) o in
            ap (answer_or size other place) (told other) ∙ sym (ap (answer_or size one place) (told one)) ∙ e
        by_fault None (Some answer) rest o z r e =
            ap (answer_or size other place) (told_sizes other answer o (ap first_fault (sym sizes_same) ∙ z)) ∙ sym (ap (answer_or size one place) (told_sizes one answer o z)) ∙ e
        by_fault None None (Some answer) o z r e =
            let is : answer ≡ answers.End at = same_refusal answer (answers.End at) (sym (ap (answer_or size one place) (told_rest one (Some answer) o z r)) ∙ e) in
            absurd (subst IsStop is (told_end (rest_rows size one place (total_in one)) answer (no_end_rest one (total_in one)) r))
        by_fault None None None o z r e =
            absurd (no_end_said _ _ _ at (sym (ap (answer_or size one place) (told_rest one None o z r)) ∙ e))

      end_in : (here : Option (List ℕ)) (high : page < beyond) (at : Lsn) → read_in size one None place here ≡ Err (answers.End at) → read_in size other None place here ≡ Err (answers.End at)
      end_in None high at e = e
      end_in (Some bytes) high at e = by_fault bytes high at _ _ _ refl refl refl e

      end_alike : (at : Lsn) → read_at size one None place ≡ Err (answers.End at) → read_at size other None place ≡ Err (answers.End at)
      unfolding read_at
      end_alike at e = elim (cases_lt page beyond) [
        | inl below ↦ ap (read_in size other None place) (sym (same page (page_low place range) below)) ∙ end_in (one page) below at e
        | inr above ↦
            (let is : beyond ≡ page = omega (arith, above, page_high place range) in
            let none : one page ≡ None = subst (λ (p : ℕ). one p ≡ None) is one_ends in
            let no_other : other page ≡ None = subst (λ (p : ℕ). other p ≡ None) is other_ends in
            ap (read_in size other None place) no_other ∙ sym (ap (read_in size one None place) none) ∙ e)
      ]

    -- ---- where reading begins

    begins_with : (turns page timeline : ℕ) → ((timeline : ℕ) → begin_at turns size one (page + 1) timeline ≡ begin_at turns size other (page + 1) timeline) → (here : Option (List ℕ)) → begin_in (begin_at turns size one) size page timeline here ≡ begin_in (begin_at turns size other) size page timeline here
    begins_with turns number timeline next None = refl
    begins_with turns number timeline next (Some bytes) = ap (λ (r : Result RecordPlace Answer). begin_in (λ p t. r) size number timeline (Some bytes)) (next (timeline_of bytes))

    begins_same : (turns page timeline : ℕ) → first ≤ page → page ≤ beyond → begin_at turns size one page timeline ≡ begin_at turns size other page timeline
    unfolding begin_at
    begins_same zero page timeline low high = refl
    begins_same (suc turns) page timeline low high = elim (cases_lt page beyond) [
      | inl below ↦
          begins_with turns page timeline (λ told. begins_same turns (page + 1) told (omega (arith, low)) (omega (arith, below))) (one page)
          ∙ ap (begin_in (begin_at turns size other) size page timeline) (same page low below)
      | inr above ↦
          (let is : beyond ≡ page = omega (arith, above, high) in
          let none : one page ≡ None = subst (λ (p : ℕ). one p ≡ None) is one_ends in
          let no_other : other page ≡ None = subst (λ (p : ℕ). other p ≡ None) is other_ends in
          ap (begin_in (begin_at turns size one) size page timeline) none ∙ sym (ap (begin_in (begin_at turns size other) size page timeline) no_other))
    ]

    -- it begins in range
    begun_at : (page : ℕ) (low : first ≤ page) (high : page < beyond) (at : RecordPlace) (skipped : ℕ) → at.position ≡ position_of size (page * 8192) + skipped → skipped % 8 ≡ 0 → skipped < 8192 - header_size size page → InRange at
    begun_at page low high at skipped is whole few =
        let turned : page * 8192 ≡ 8192 * page = omega arith in
        let mine = ap (position_of size) turned in
        record {
          low = omega (arith, is, position_of-mono size (first * 8192) (page * 8192) (omega (arith, low)));
          high = omega (arith, is, mine, few, position_of-next_page size valid page, position_of-mono size (8192 * (page + 1)) (beyond * 8192) (omega (arith, high)));
          whole = omega (arith, is, page_position-aligned size page valid, whole);
        }

    begun_page : (turns page timeline : ℕ) (low : first ≤ page) (high : page < beyond) (place : RecordPlace) → ((p t : ℕ) (at : RecordPlace) → first ≤ p → p ≤ beyond → begin_at turns size one p t ≡ Ok at → InRange at) → (bytes : List ℕ) → begin_in (begin_at turns size one) size page timeline (Some bytes) ≡ Ok place → InRange place
    begun_page turns page timeline low high place next bytes e =
        elim (cases_Bool (is_zero_word bytes)) [
          | inl zeros ↦ (let stops = rw zeros at e in
              absurd cc)
          | inr marked ↦
              (let checked = rw marked at e in
              elim (cases_Option (first_fault (page_answers size page bytes timeline))) [
                | inr fails ↦ (let stops = rw fails.1 at checked in
                    absurd cc)
                | inl passes ↦
                    (let begins = rw passes at checked in
                    elim (cases_Bool (is_continued bytes)) [
                      | inl continues ↦
                          elim (cases_Bool (leb (8192 - header_size size page) ((remaining_of bytes + 7) / 8 * 8))) [
                            | inl filled ↦ next (page + 1) (timeline_of bytes) place (omega (arith, low)) (omega (arith, high)) (rw (continues, filled) at begins)
                            | inr ends ↦
                                (let is = same_place _ place (rw (continues, ends) at begins) in
                                begun_at page low high place ((remaining_of bytes + 7) / 8 * 8) (sym (ap (λ (p : RecordPlace). p.position) is)) (omega arith) (leb-false (8192 - header_size size page) ((remaining_of bytes + 7) / 8 * 8) ends))
                          ]
                      | inr starts ↦
                          (let is = same_place _ place (rw starts at begins) in
                          begun_at page low high place 0 (omega (arith, ap (λ (p : RecordPlace). p.position) is)) refl (omega (arith, header_size_bounds size valid page)))
                    ])
              ])
        ]

    begun_option : (turns page timeline : ℕ) (low : first ≤ page) (high : page ≤ beyond) (place : RecordPlace) → ((p t : ℕ) (at : RecordPlace) → first ≤ p → p ≤ beyond → begin_at turns size one p t ≡ Ok at → InRange at) → (here : Option (List ℕ)) → one page ≡ here → begin_in (begin_at turns size one) size page timeline here ≡ Ok place → InRange place
    begun_option turns page timeline low high place next None there e = absurd (cc e)
    begun_option turns page timeline low high place next (Some bytes) there e =
        let below : page < beyond = elim (cases_lt page beyond) [
          | inl below ↦ below
          | inr above ↦
              (let at : beyond ≡ page = omega (arith, above, high) in
              let none : one page ≡ None = subst (λ (p : ℕ). one p ≡ None) at one_ends in
              absurd (cc (there, none)))
        ] in
        begun_page turns page timeline low below place next bytes e

    begun_in_range : (turns page timeline : ℕ) (low : first ≤ page) (high : page ≤ beyond) (place : RecordPlace) → begin_at turns size one page timeline ≡ Ok place → InRange place
    unfolding begin_at
    begun_in_range zero page timeline low high place e = absurd (cc e)
    begun_in_range (suc turns) page timeline low high place e =
        begun_option turns page timeline low high place (λ p t at p_low p_high begins. begun_in_range turns p t p_low p_high at begins) (one page) refl e

    -- ---- all records

    records_alike : (place : RecordPlace) (range : InRange place) (found : List FoundRecord) (at : Lsn) → ReadsComputed size one None place found (answers.End at) → ReadsComputed size other None place found (answers.End at)
    records_alike place range [] at e = end_alike place range at e
    records_alike place range (f ∷ found) at e =
        let alike = read_alike place range f e.0 in
        (alike.read, records_alike (place_behind size other place f) alike.next found at (subst (λ (p : RecordPlace). ReadsComputed size one None p found (answers.End at)) alike.behind e.1))

    from_alike : (begun : Result RecordPlace Answer) → ((place : RecordPlace) → begun ≡ Ok place → InRange place) → (found : List FoundRecord) (at : Lsn) → ReadsFrom size one None begun found (answers.End at) → ReadsFrom size other None begun found (answers.End at)
    from_alike (Ok place) range found at reads =
        reads_records size other None place found (answers.End at) (records_alike place (range place refl) found at (records_computed size one None place found (answers.End at) reads))
    from_alike (Err told) range found at reads = reads

    -- such logs decode to the same, if one comes to a clean end
    pub decodes_alike : (start : ℕ) → start / 8192 ≡ first → first ≤ beyond → (found : List FoundRecord) (at : Lsn) → Decodes size one start None found (answers.End at) → Decodes size other start None found (answers.End at)
    decodes_alike start is low found at d =
        let begins : beginning size one start ≡ beginning size other start = begins_same (2 ^ 47) (start / 8192) 0 (omega (arith, is)) (omega (arith, is, low)) in
        record {
          read = d.read;
          reads = subst (λ (begun : Result RecordPlace Answer). ReadsFrom size other None begun d.read (answers.End at)) begins (from_alike (beginning size one start) (λ place e. begun_in_range (2 ^ 47) (start / 8192) 0 (omega (arith, is)) (omega (arith, is, low)) place e) d.read at d.reads);
          given = d.given;
        }

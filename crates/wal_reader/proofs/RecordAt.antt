-- Laws of the record at a place, by the groups of its checks.
use Rattle.std.proofs.Common.{◌≡◌, ℕ, ◌+◌, ◌/◌, ◌≤◌, true, false, eqb, List, ◌++◌, take, drop, Option, Some, None, Err, refl, sym, ap, subst, ◌∙◌, arith}
use Rattle.std.specs.Int.{w32, w64}
use Rattle.std.proofs.lemmas.Bool.{cond-true, cond-false}
use Rattle.byte_position.specs.Position.{address_of}
use Rattle.wal_spelling.specs.Numbers.{number_at}
use Rattle.wal_record.specs.Reading.{reading_of}
use Rattle.wal_page.specs.Page.{first_fault}
use Rattle.wal_reader.specs.declared.record_place.RecordPlace.{RecordPlace}
use Rattle.wal_reader.specs.declared.found.Answer.{Answer}
use Rattle.wal_reader.specs.declared.page_cursor.PageCursor.{PageCursor}
use Rattle.wal_reader.specs.Pages.{IsPage, Pages, bytes_from}
use Rattle.wal_reader.specs.PageCursor.{HasGathered, StandsIn}
use Rattle.wal_reader.specs.Decodes.{ended, is_at_end, is_zero_word, record_rows, opening_fault, opening_rows, size_rows, rest_rows}
use Rattle.wal_reader.specs.ReadAt.{found_or, answer_or, read_in, read_at}
use Rattle.wal_reader.specs.RecordRead.{said_of}
use Rattle.wal_reader.proofs.GatherLaws.{bytes_in_page}
use Rattle.wal_reader.proofs.PagesLaws.{take-bytes_from}
use Rattle.wal_reader.proofs.RowLaws.{first_of, first_fault-append, number_at-take}

module _ (size : ℕ) (pages : Pages) (end : Option ℕ) (place : RecordPlace) where
  abbrev start : ℕ
  start = address_of size place.position

  abbrev total : ℕ
  total = number_at w32 (bytes_from size pages 8 place.position) 0

  -- at an end nothing is read
  pub read_at-end : is_at_end end (address_of size place.position) ≡ true → read_at size pages end place ≡ Err (ended size place.position)
  unfolding read_at
  read_at-end e = cond-true _ _ _ e

  module _ (before : is_at_end end (address_of size place.position) ≡ false) where
    pub read_at-before : read_at size pages end place ≡ read_in size pages end place (pages (start / 8192))
    unfolding read_at
    read_at-before = cond-false _ _ _ before

    groups : (bytes : List ℕ) → first_fault (record_rows size pages end place bytes) ≡ first_of (first_fault (opening_rows size place bytes)) (first_fault (size_rows size end place.position (is_zero_word (bytes_from size pages 24 place.position)) total ++ rest_rows size pages place total))
    groups bytes = first_fault-append (opening_rows size place bytes) (size_rows size end place.position (is_zero_word (bytes_from size pages 24 place.position)) total ++ rest_rows size pages place total)

    -- the page is not there, or one of its own checks fails
    opening_tells : (here : Option (List ℕ)) (answer : Answer) → opening_fault size place here ≡ Some answer → read_in size pages end place here ≡ Err answer
    opening_tells None answer told = ap (answer_or size pages place) told
    opening_tells (Some bytes) answer told = ap (answer_or size pages place) (groups bytes ∙ ap (λ (o : Option Answer). first_of o (first_fault (size_rows size end place.position (is_zero_word (bytes_from size pages 24 place.position)) total ++ rest_rows size pages place total))) told)

    pub read_at-not_opened : (answer : Answer) → opening_fault size place (pages (address_of size place.position / 8192)) ≡ Some answer → read_at size pages end place ≡ Err answer
    read_at-not_opened answer told = read_at-before ∙ opening_tells (pages (start / 8192)) answer told

    module _ (page : List ℕ) (here : pages (address_of size place.position / 8192) ≡ Some page) (opened : opening_fault size place (pages (address_of size place.position / 8192)) ≡ None) where
      behind_opening : first_fault (record_rows size pages end place page) ≡ first_of (first_fault (size_rows size end place.position (is_zero_word (bytes_from size pages 24 place.position)) total)) (first_fault (rest_rows size pages place total))
      behind_opening =
          let passes : first_fault (opening_rows size place page) ≡ None = ap (opening_fault size place) (sym here) ∙ opened in
          groups page
          ∙ ap (λ (o : Option Answer). first_of o (first_fault (size_rows size end place.position (is_zero_word (bytes_from size pages 24 place.position)) total ++ rest_rows size pages place total))) passes
          ∙ first_fault-append (size_rows size end place.position (is_zero_word (bytes_from size pages 24 place.position)) total) (rest_rows size pages place total)

      read_at-opened : read_at size pages end place ≡ answer_or size pages place (first_fault (record_rows size pages end place page))
      read_at-opened = read_at-before ∙ ap (read_in size pages end place) here

      module _ (cursor : PageCursor) (first : cursor.page ≡ address_of size place.position / 8192) (gathered : HasGathered size place.position 0 cursor) (whole : IsPage page) (within : cursor.offset + 8 ≤ 8192) where
        word_bytes : bytes_from size pages 8 place.position ≡ take 8 (drop cursor.offset page)
        word_bytes =
            let e : place.position + 0 ≡ place.position = omega arith in
            let stands = subst (λ (p : ℕ). StandsIn size p cursor) e gathered.stands in
            bytes_in_page size place.position cursor stands pages page (ap pages first ∙ here) whole 8 within

        -- the size that the record claims
        pub size_in_page : number_at w32 (bytes_from size pages 8 place.position) 0 ≡ number_at w32 page cursor.offset
        size_in_page = ap (λ (bs : List ℕ). number_at w32 bs 0) word_bytes ∙ number_at-take w32 (drop cursor.offset page) 8 0 (omega arith)

        pub word_in_page : number_at w64 (bytes_from size pages 24 place.position) 0 ≡ number_at w64 page cursor.offset
        word_in_page =
            sym (number_at-take w64 (bytes_from size pages 24 place.position) 8 0 (omega arith))
            ∙ ap (λ (bs : List ℕ). number_at w64 bs 0) (take-bytes_from size pages 8 24 place.position (omega arith) ∙ word_bytes)
            ∙ number_at-take w64 (drop cursor.offset page) 8 0 (omega arith)

        size_rows_in_page : size_rows size end place.position (is_zero_word (bytes_from size pages 24 place.position)) total ≡ size_rows size end place.position (eqb (number_at w64 page cursor.offset) 0) (number_at w32 page cursor.offset)
        size_rows_in_page = rw (word_in_page, size_in_page) refl

        -- the first word or the size fails
        pub read_at-no_size : (answer : Answer) → first_fault (size_rows size end place.position (eqb (number_at w64 page cursor.offset) 0) (number_at w32 page cursor.offset)) ≡ Some answer → read_at size pages end place ≡ Err answer
        read_at-no_size answer told =
            read_at-opened ∙ ap (answer_or size pages place) (behind_opening ∙ ap (λ (o : Option Answer). first_of o (first_fault (rest_rows size pages place total))) (ap first_fault size_rows_in_page ∙ told))

        size_in_header : number_at w32 (bytes_from size pages 24 place.position) 0 ≡ total
        size_in_header =
            sym (number_at-take w32 (bytes_from size pages 24 place.position) 8 0 (omega arith)) ∙ ap (λ (bs : List ℕ). number_at w32 bs 0) (take-bytes_from size pages 8 24 place.position (omega arith))

        says : (fault : Option Answer) → 24 ≤ total → answer_or size pages place fault ≡ said_of size pages place total fault
        says (Some answer) large = refl
        says None large =
            let prev : number_at w64 (bytes_from size pages 24 place.position) 8 ≡ number_at w64 (bytes_from size pages total place.position) 8 = ap (λ (bs : List ℕ). number_at w64 bs 8) (sym (take-bytes_from size pages 24 total place.position large)) ∙ number_at-take w64 (bytes_from size pages total place.position) 24 8 (omega arith) in
            ap (λ (n : ℕ). found_or size place n (number_at w64 (bytes_from size pages 24 place.position) 8) (reading_of (bytes_from size pages n place.position))) size_in_header
            ∙ ap (λ (n : ℕ). found_or size place total n (reading_of (bytes_from size pages total place.position))) prev

        -- the rest decides
        pub read_at-rest : (n : ℕ) → n ≡ number_at w32 page cursor.offset → 24 ≤ n → first_fault (size_rows size end place.position (eqb (number_at w64 page cursor.offset) 0) (number_at w32 page cursor.offset)) ≡ None → read_at size pages end place ≡ said_of size pages place n (first_fault (rest_rows size pages place n))
        read_at-rest n e large passes =
            let sized : total ≡ n = size_in_page ∙ sym e in
            read_at-opened
            ∙ ap (answer_or size pages place) (behind_opening ∙ ap (λ (o : Option Answer). first_of o (first_fault (rest_rows size pages place total))) (ap first_fault size_rows_in_page ∙ passes))
            ∙ says (first_fault (rest_rows size pages place total)) (omega arith)
            ∙ ap (λ (m : ℕ). said_of size pages place m (first_fault (rest_rows size pages place m))) sized

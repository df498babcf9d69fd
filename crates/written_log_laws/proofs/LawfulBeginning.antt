-- Where reading begins in pages that hold nothing but words of a log: at its first record, if anywhere.
use Rattle.std.proofs.Common.{◌≡◌, ◌⊎◌, ℕ, ◌+◌, ◌-◌, ◌*◌, ◌%◌, ◌^◌, ◌<◌, false, eqb, List, [], ◌∷◌, get_or, Option, Some, None, Result, Ok, inl, inr, refl, sym, ap, ◌∙◌, append-nil, arith}
use Rattle.std.proofs.lemmas.Bool.{cases_Bool, cond-false, eq-eqb, le-ltb, true≢false}
use Rattle.byte_position.specs.Geometry.{IsSegmentSize, pages_of}
use Rattle.byte_position.specs.Position.{position_of, first_position}
use Rattle.byte_position.proofs.HeaderSizes.{header_size_bounds}
use Rattle.byte_position.proofs.SegmentSizes.{segment_size_in_pages}
use Rattle.wal_spelling.specs.Numbers.{number_at}
use Rattle.std.specs.Int.{w64}
use Rattle.wal_page.specs.Order.{Entry, IsChained}
use Rattle.wal_page.specs.Page.{first_fault, is_continued, page_header}
use Rattle.wal_page.specs.Log.{log_byte, remaining_at}
use Rattle.wal_page.proofs.LogByteLaws.{header_byte-own}
use Rattle.wal_page.proofs.OrderLaws.{room_at-pos}
use Rattle.wal_page.proofs.OwnerLaws.{owner_of-entry}
use Rattle.wal_reader.specs.declared.record_place.RecordPlace.{RecordPlace}
use Rattle.wal_reader.specs.declared.found.Answer.{Answer}
use Rattle.wal_reader.specs.Pages.{Pages, byte_at}
use Rattle.wal_reader.specs.Decodes.{begin_at, begin_in, beginning, is_zero_word, page_answers}
use Rattle.written_log_laws.proofs.AgreeingLaws.{cases_Option, same_place}
use Rattle.written_log_laws.proofs.BeginLaws.{beginning_is}
use Rattle.written_log_laws.proofs.LawfulPages.{ArePagesOf}
use Rattle.written_log_laws.proofs.LogHeader.{log_header_is_sound}
use Rattle.written_log_laws.proofs.LogPages.{byte_at-page, log_byte-page_header, offset_in_page, page_of_offset}
use Rattle.written_log_laws.proofs.WrittenLogLaws.{first_page_position}
use Rattle.written_log_laws.proofs.WordsOfBytes.{same_two, zero_eight}

-- the first word of the log's first page is 0, or says that no record continues there
first_word : (size sysid : ℕ) (es : List Entry) → IsSegmentSize size → IsChained size es
    → ((i : ℕ) → i < 8 → log_byte size sysid es (pages_of size * 8192 + i) ≡ 0) ⊎ ((i : ℕ) → i < 8 → log_byte size sysid es (pages_of size * 8192 + i) ≡ get_or (page_header size sysid (pages_of size) 0) i 0)
first_word size sysid [] valid chained =
    let bounds = header_size_bounds size valid (pages_of size) in
    inl (λ i lt. log_byte-page_header size sysid [] (pages_of size) i None valid (omega arith) refl)
first_word size sysid (e ∷ es) valid chained =
    let n = pages_of size in
    let bounds = header_size_bounds size valid n in
    let first = first_page_position size valid in
    let p = position_of size (n * 8192) in
    let owns = owner_of-entry size (first_position size) [] es e chained p (omega (arith, first, chained.0)) (omega (arith, first, chained.0, room_at-pos size e)) in
    let nothing : remaining_at e p ≡ 0 = cond-false _ _ _ (le-ltb e.start p (omega (arith, first, chained.0))) in
    inr (λ i lt. log_byte-page_header size sysid (e ∷ es) n i (Some e) valid (omega arith) owns ∙ header_byte-own size sysid (n * 8192 + i) p e (omega (arith, first, chained.0)) ∙ rw (page_of_offset n i (omega arith), offset_in_page n i (omega arith), nothing) refl)

module _ (size sysid : ℕ) (pages : Pages) (es : List Entry) (upto : ℕ) (valid : IsSegmentSize size) (known : 0 < sysid) (narrow : sysid < 2 ^ 64) (chained : IsChained size es) (are : ArePagesOf size sysid pages es upto) where
  module _ (bytes : List ℕ) (there : pages (pages_of size) ≡ Some bytes) (some : is_zero_word bytes ≡ false) where
    not_zero : ((i : ℕ) → i < 8 → get_or bytes (0 + i) 0 ≡ 0) → ⊥
    not_zero zeros = true≢false (sym (eq-eqb (number_at w64 bytes 0) 0 (zero_eight bytes 0 zeros)) ∙ some)

    page_byte : (i : ℕ) → i < 8 → get_or bytes (0 + i) 0 ≡ byte_at pages (8 * (pages_of size * 1024) + i)
    page_byte i lt =
        let none : 0 + i ≡ i = omega arith in
        let at : pages_of size * 8192 + i ≡ 8 * (pages_of size * 1024) + i = omega arith in
        ap (λ (j : ℕ). get_or bytes j 0) none ∙ sym (byte_at-page pages (pages_of size) i bytes there (omega arith)) ∙ ap (byte_at pages) at

    own_is_zero : ((i : ℕ) → i < 8 → byte_at pages (8 * (pages_of size * 1024) + i) ≡ log_byte size sysid es (8 * (pages_of size * 1024) + i)) → is_continued bytes ≡ false
    own_is_zero own =
        let n = pages_of size in
        let header = page_header size sysid n 0 in
        let at : (i : ℕ) → 8 * (n * 1024) + i ≡ n * 8192 + i = λ i. omega arith in
        let log : (i : ℕ) → i < 8 → get_or bytes (0 + i) 0 ≡ log_byte size sysid es (n * 8192 + i) = λ i lt. page_byte i lt ∙ own i lt ∙ ap (log_byte size sysid es) (at i) in
        let whole = segment_size_in_pages size valid in
        elim (first_word size sysid es valid chained) [
          | inl zeros ↦ absurd (not_zero (λ i lt. log i lt ∙ zeros i lt))
          | inr said ↦
              (let same : (i : ℕ) → i < 2 → get_or bytes (2 + i) 0 ≡ get_or header (2 + i) 0 = λ i lt.
              (let none : 0 + (2 + i) ≡ 2 + i = omega arith in
              sym (ap (λ (j : ℕ). get_or bytes j 0) none) ∙ log (2 + i) (omega arith) ∙ said (2 + i) (omega arith)) in
              let sound = log_header_is_sound size sysid 0 [] n (omega (arith, whole)) known narrow (omega (arith, whole)) in
              ap (λ (info : ℕ). eqb (info % 2) 1) (same_two bytes header 2 same) ∙ sym (ap is_continued (append-nil header)) ∙ sound.continued)
        ]

    first_not_continued : is_continued bytes ≡ false
    first_not_continued =
        elim (are.words (pages_of size * 1024)) [
          | inl zeros ↦ absurd (not_zero (λ i lt. page_byte i lt ∙ zeros i lt))
          | inr own ↦ own_is_zero own
        ]

  begun : (next : ℕ → ℕ → Result RecordPlace Answer) (here : Option (List ℕ)) (place : RecordPlace) → pages (pages_of size) ≡ here → begin_in next size (pages_of size) 0 here ≡ Ok place → place.position ≡ first_position size
  begun next None place there e = absurd cc
  begun next (Some bytes) place there e =
      let first = first_page_position size valid in
      elim (cases_Bool (is_zero_word bytes)) [
        | inl zeros ↦ (let stops = rw zeros at e in
            absurd cc)
        | inr marked ↦
            (let checked = rw marked at e in
            elim (cases_Option (first_fault (page_answers size (pages_of size) bytes 0))) [
              | inr fails ↦ (let stops = rw fails.1 at checked in
                  absurd cc)
              | inl passes ↦ (let begins = rw (passes, first_not_continued bytes there marked) at checked in
                  ap (λ (at : RecordPlace). at.position) (sym (same_place _ place begins)) ∙ first)
            ])
      ]

  -- reading begins at the log's first position
  pub begins_first : (place : RecordPlace) → beginning size pages size ≡ Ok place → place.position ≡ first_position size
  begins_first place e = begun (begin_at (2 ^ 47 - 1) size pages) (pages (pages_of size)) place refl (sym (beginning_is size pages valid (pages (pages_of size)) refl) ∙ e)

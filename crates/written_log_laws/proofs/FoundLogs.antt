-- A disk that may hold words of a log, and nothing else, reads as the log that is found there.
use Rattle.std.proofs.Common.{◌≡◌, ℕ, ◌+◌, ◌-◌, ◌*◌, ◌/◌, ◌%◌, ◌<◌, ◌≤◌, List, [], ◌++◌, take, drop, Option, Some, None, inl, inr, refl, sym, ap, subst, ◌∙◌, take-append-drop, arith}
use Rattle.std.specs.Prelude.{IfSome}
use Rattle.std.specs.Int.{w64, from_le_bytes, to_le_bytes}
use Rattle.std.specs.Option.{IsSomeAnd}
use Rattle.std.proofs.lemmas.Bool.{cases_lt, cond-true, lt-ltb}
use Rattle.std.proofs.lemmas.Nat.{le-div}
use Rattle.byte_position.specs.Geometry.{IsSegmentSize, pages_of}
use Rattle.byte_position.specs.Position.{end_address_of, first_position}
use Rattle.byte_position.proofs.EndAddresses.{end_address_of-mono}
use Rattle.byte_position.proofs.HeaderSizes.{byte_in_segment}
use Rattle.byte_position.proofs.SegmentSizes.{segment_size_in_pages}
use Rattle.byte_position.proofs.Words.{end_address_of-mod_word}
use Rattle.segment_disk.specs.DiskImage.{DiskImage, image_as_read, word_of}
use Rattle.segment_disk.specs.ImageWords.{image_word}
use Rattle.segment_disk.specs.Tape.{DiskState, Segment, page_as_read, page_of_segment}
use Rattle.segment_disk.specs.Assured.{DiskImageFits}
use Rattle.wal_spelling.specs.Spelling.{word_at}
use Rattle.wal_page.specs.Order.{Entry, IsChained, end_position}
use Rattle.wal_page.specs.Log.{log_byte, log_word, log_word_bytes}
use Rattle.wal_page.proofs.LogWordLaws.{log_word_bytes as bytes_of_log_word}
use Rattle.wal_page.proofs.OwnerLaws.{end_position-whole}
use Rattle.wal_page.proofs.WordPositions.{end_address_of-first_position}
use Rattle.flush_core.specs.Lawful.{IsLawful}
use Rattle.flush_core.specs.Settled.{IsAmong, IsAsRead}
use Rattle.flush_core.specs.SettledLog.{AreOnly, IsZeroOrLogWord, ReadsAsLog}
use Rattle.wal_reader.specs.declared.found.FoundRecord.{FoundRecord}
use Rattle.wal_reader.specs.Pages.{pages_in}
use Rattle.written_log_laws.specs.FoundLog.{FoundLogsReadAsLog, HasAllPages, ReadsUntorn, IsEndPage, ReadsFirstEntries, end_behind, last_start_behind}
use Rattle.written_log_laws.specs.SettledLog.{MayHoldLog}
use Rattle.written_log_laws.proofs.FoundEntries.{page_by_segment}
use Rattle.written_log_laws.proofs.FoundImages.{IsMarked, chained_front, end_of_front, front, marked_has_page, own_marked, own_word, last_start_behind-found}
use Rattle.written_log_laws.proofs.LawfulFronts.{ReadsFront}
use Rattle.written_log_laws.proofs.LawfulLaws.{log_byte-front}
use Rattle.written_log_laws.proofs.LawfulPages.{split_by}
use Rattle.written_log_laws.proofs.ReadImages.{as_read_fits, fits_lawful, fits_whole, read_is}

-- the log of a front has the order's words below its end
pub log_word-front : (size sysid : ℕ) → IsSegmentSize size → (front back : List Entry) → IsChained size (front ++ back) → (a : ℕ) → a + 8 ≤ end_address_of size (end_position size front) → log_word size sysid (front ++ back) a ≡ log_word size sysid front a
log_word-front size sysid valid front back chained a below =
    let h : (i : ℕ) → i < 8 → log_byte size sysid (front ++ back) (a + i) ≡ log_byte size sysid front (a + i) = λ i lt. log_byte-front size sysid valid back front chained (a + i) (omega (arith, below, lt)) in
    rw (h 0 (omega arith), h 1 (omega arith), h 2 (omega arith), h 3 (omega arith), h 4 (omega arith), h 5 (omega arith), h 6 (omega arith), h 7 (omega arith)) refl

-- a segment of which an image as read has a page is there
some_segment : (segment at : ℕ) (s : Option Segment) → IsSomeAnd (image_as_read (λ (m : ℕ). s) segment) (λ i. at < i.pages) → s ≡ None → ⊥
some_segment segment at None has none = has
some_segment segment at (Some s) has none = absurd cc

module _ (size sysid count : ℕ) (es : List Entry) (state : DiskState) (found : List FoundRecord) (has : ReadsUntorn size sysid count es state found) where
  abbrev pub may : MayHoldLog size sysid count es state
  may = has.may

  abbrev pub image : DiskImage
  image = image_as_read state

  fits : DiskImageFits size (IsAmong count) (IsZeroOrLogWord size sysid es) image
  fits = as_read_fits size (IsAmong count) (IsZeroOrLogWord size sysid es) state may.lawful

  pub read_whole : HasAllPages size image
  read_whole = fits_whole size (IsAmong count) (IsZeroOrLogWord size sysid es) image fits

  pub read_lawful : IsLawful size sysid image es 0
  read_lawful = record {
    words = fits_lawful size sysid es (IsAmong count) image may.valid fits;
    below = λ k low. absurd (omega (arith, low));
    there = λ k low. absurd (omega (arith, low));
  }

  abbrev pub read_front : ReadsFront size sysid (pages_in size image) es [] es found
  read_front = front size sysid es may.valid may.known may.narrow may.chained may.bounded image read_lawful has.none_torn found has.answer has.decodes

  abbrev pub among : ℕ
  among = read_front.count

  abbrev pub entries : List Entry
  entries = take among es

  abbrev pub end : ℕ
  end = end_address_of size (end_position size entries)

  pub end_is : end_behind size found ≡ end
  end_is = end_of_front size es among found may.valid may.chained read_front.found_is

  word_below : (k : ℕ) → 8 * k < end → image_word size image (8 * k) ≡ log_word_bytes size sysid es (8 * k)
  word_below k low = own_word size sysid es may.valid may.known may.narrow may.chained may.bounded image read_lawful has.none_torn found has.answer has.decodes k low

  marked_below : (k : ℕ) → size ≤ 8 * k → 8 * k < end → IsMarked size image (8 * k)
  marked_below k from low = own_marked size sysid es may.valid may.known may.narrow may.chained may.bounded image read_lawful has.none_torn found has.answer has.decodes k from low

  pub entries_chained : IsChained size entries
  entries_chained = chained_front size sysid es may.valid may.known may.narrow may.chained may.bounded among

  end_whole : end % 8 ≡ 0
  end_whole = end_address_of-mod_word size may.valid (end_position size entries) (end_position-whole size may.valid entries entries_chained)

  end_from : size ≤ end
  end_from = omega (arith, end_address_of-mono size may.valid (first_position size) (end_position size entries) (omega arith), end_address_of-first_position size may.valid)

  entries_word : (k : ℕ) → 8 * k < end → log_word size sysid es (8 * k) ≡ log_word size sysid entries (8 * k)
  entries_word k low =
      let parts : entries ++ drop among es ≡ es = take-append-drop among es in
      ap (λ (l : List Entry). log_word size sysid l (8 * k)) (sym parts)
      ∙ log_word-front size sysid may.valid entries (drop among es) (subst (λ (l : List Entry). IsChained size l) (sym parts) may.chained) (8 * k) (omega (arith, low, end_whole))

  -- ---- the words

  -- the image's words below the end
  pub entries_below : (k : ℕ) → 8 * k < end → image_word size image (8 * k) ≡ log_word_bytes size sysid entries (8 * k)
  entries_below k low = word_below k low ∙ ap (to_le_bytes w64) (entries_word k low)

  read_word_is : (number word : ℕ) (bytes : List ℕ) → word < 1024 → number * 8192 + 8 * word < end → IsAsRead size state number word bytes → bytes ≡ log_word_bytes size sysid es (8 * (number * 1024 + word))
  read_word_is number word bytes small low read =
      read_is size state number word bytes may.valid read_whole small read ∙ word_below (number * 1024 + word) (omega (arith, low))

  reads_all : ReadsAsLog size sysid count es end state
  reads_all number word bytes there small low read =
      let at : 8 * (number * 1024 + word) ≡ number * 8192 + 8 * word = omega arith in
      read_word_is number word bytes small low read ∙ ap (log_word_bytes size sysid es) at

  reads_own : ReadsAsLog size sysid count entries end state
  reads_own number word bytes there small low read =
      let at : 8 * (number * 1024 + word) ≡ number * 8192 + 8 * word = omega arith in
      read_word_is number word bytes small low read ∙ ap (to_le_bytes w64) (entries_word (number * 1024 + word) (omega (arith, low))) ∙ ap (log_word_bytes size sysid entries) at

  -- ---- the page in which it ends

  abbrev segment : ℕ
  segment = end / size

  abbrev page : ℕ
  page = end % size / 8192

  -- the page's number in its segment, and the segment's
  page_is : page ≡ end / 8192 % pages_of size
  page_is =
      let split : end ≡ 8192 * (end / 8192) + end % 8192 = omega arith in
      let inside = ap (λ (a : ℕ). a % size) split ∙ byte_in_segment size may.valid (end / 8192) (end % 8192) (omega arith) in
      omega (arith, inside)

  segment_is : segment ≡ end / 8192 / pages_of size
  segment_is =
      let whole = segment_size_in_pages size may.valid in
      let split : end ≡ end / 8192 * 8192 + end % 8192 = omega arith in
      ap (λ (a : ℕ). a / size) split ∙ split_by (end / 8192) (pages_of size) size (end % 8192) whole.0 (omega (arith, whole.1)) (omega arith)

  page_within : page < pages_of size
  page_within = omega (arith, page_is, segment_size_in_pages size may.valid)

  -- where a word of it lies below the end it is there
  no_page : state segment ≡ None → end % 8192 ≡ 0
  no_page none = elim (cases_lt 0 (end % 8192)) [
    | inr nothing ↦ omega (arith, nothing)
    | inl some ↦
        (let k = end / 8192 * 1024 in
        let at : 8 * k ≡ end / 8192 * 8192 = omega arith in
        let from : size ≤ 8 * k = omega (arith, end_from, (segment_size_in_pages size may.valid).0) in
        let low : 8 * k < end = omega (arith, some) in
        let has_page = marked_has_page size image k may.valid read_whole (marked_below k from low) in
        let here : 8 * k / size ≡ segment = ap (λ (a : ℕ). a / size) at ∙ page_by_segment size end may.valid in
        absurd (some_segment (8 * k / size) (8 * k % size / 8192) (state (8 * k / size)) has_page (ap state here ∙ none)))
  ]

  end_word : (s : Segment) → state segment ≡ Some s → (j : ℕ) → end / 8192 * 8192 + 8 * j < end → word_at (page_as_read s page) j ≡ log_word size sysid entries (end / 8192 * 8192 + 8 * j)
  end_word s is j low =
      let bytes = word_of (page_as_read s page) j in
      let k = end / 8192 * 1024 + j in
      let at : 8 * k ≡ end / 8192 * 8192 + 8 * j = omega arith in
      let here = subst (λ (n : ℕ). IsSomeAnd (state n) (λ x. bytes ≡ word_of (page_as_read x page) j)) segment_is (subst (λ (o : Option Segment). IsSomeAnd o (λ x. bytes ≡ word_of (page_as_read x page) j)) (sym is) refl) in
      let read : IsAsRead size state (end / 8192) j bytes = subst (λ (n : ℕ). IsSomeAnd (state (end / 8192 / pages_of size)) (λ x. bytes ≡ word_of (page_as_read x n) j)) page_is here in
      let own = read_word_is (end / 8192) j bytes (omega (arith, low)) low read ∙ ap (to_le_bytes w64) (entries_word k (omega (arith, low))) in
      ap (from_le_bytes w64) (own ∙ bytes_of_log_word size sysid entries entries_chained (8 * k)) ∙ ap (log_word size sysid entries) at

  end_page_of : (s : Option Segment) → state segment ≡ s → IsEndPage size sysid entries end (page_of_segment s page)
  end_page_of None is = no_page is
  end_page_of (Some s) is =
      let whole = subst (λ (o : Option Segment). IfSome (image_as_read (λ (m : ℕ). o) segment) (λ i. i.pages ≡ pages_of size)) is (read_whole segment) in
      let inside : page < s.pages = omega (arith, whole, page_within) in
      let there : page_of_segment (Some s) page ≡ Some (page_as_read s page) = cond-true _ (Some (page_as_read s page)) None (lt-ltb page s.pages inside) in
      subst (IsEndPage size sysid entries end) (sym there) (end_word s is)

  -- ---- the segments

  pub reached : AreOnly count state → end ≤ count * size + size
  reached only = elim (cases_lt size end) [
    | inr none ↦ omega (arith, none)
    | inl more ↦
        (let whole = segment_size_in_pages size may.valid in
        let some : 0 < size = omega (arith, whole) in
        let k = end / 8 - 1 in
        let at : 8 * k + 8 ≡ end = omega (arith, end_whole, more) in
        let all : (count + 1) * size ≡ count * size + size = omega arith in
        let from : size ≤ 8 * k = omega (arith, at, end_whole, more, whole.0) in
        let has_page = marked_has_page size image k may.valid read_whole (marked_below k from (omega (arith, at))) in
        elim (cases_lt (8 * k) ((count + 1) * size)) [
          | inl below ↦ (let words : (count + 1) * size ≡ 8 * ((count + 1) * (1024 * pages_of size)) = ap (λ (n : ℕ). (count + 1) * n) whole.0 ∙ eight_out (count + 1) (pages_of size) in
              omega (arith, below, all, at, words))
          | inr above ↦
              (let behind = le-div (count + 1) (8 * k) size some above in
              absurd (some_segment (8 * k / size) (8 * k % size / 8192) (state (8 * k / size)) has_page (only (8 * k / size) (λ among. omega (arith, among.1, behind)))))
        ])
  ]
    where
      eight_out : (a n : ℕ) → a * (8192 * n) ≡ 8 * (a * (1024 * n))
      eight_out a n = omega arith

  pub reads_as_found : ReadsFirstEntries size sysid count es state found
  reads_as_found = record {
    among = among;
    within = read_front.within;
    found_is = read_front.found_is;
    end_is = end_is;
    start_is = ap (last_start_behind 0) read_front.found_is ∙ last_start_behind-found size 0 entries;
    reads = subst (λ (n : ℕ). ReadsAsLog size sysid count es n state) (sym end_is) reads_all;
    own = subst (λ (n : ℕ). ReadsAsLog size sysid count entries n state) (sym end_is) reads_own;
    end_page = subst (λ (n : ℕ). IsEndPage size sysid entries n (page_of_segment (state (n / size)) (n % size / 8192))) (sym end_is) (end_page_of (state segment) refl);
    reached = λ only. subst (λ (n : ℕ). n ≤ count * size + size) (sym end_is) (reached only);
  }

pub found_logs_read_as_log : FoundLogsReadAsLog
found_logs_read_as_log size sysid count es state found has = reads_as_found size sysid count es state found has

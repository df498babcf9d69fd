-- The words below the end of a log that was found, and the page that holds them last, as it was
-- read.
use Rattle.std.proofs.Common.{◌≡◌, ℕ, zero, ◌+◌, ◌-◌, ◌*◌, ◌/◌, ◌%◌, ◌^◌, ◌<◌, ◌≤◌, true, false, Bool, List, get_or, take, replicate, Option, Some, None, refl, sym, ap, ◌∙◌, inl, inr, arith, ltb, leb}
use Rattle.std.specs.Prelude.{IfSome}
use Rattle.std.specs.Int.{from_le_bytes, w64}
use Rattle.std.proofs.lemmas.Bool.{cases_lt, cond-false, cond-true, false≢true, le-leb, le-ltb, lt-leb}
use Rattle.std.proofs.lemmas.List.{drop-replicate, get_or-replicate, get_or-take, get_or_past, length-replicate}
use Rattle.std.proofs.lemmas.List.FromFn.{get_or-map-range_with_len}
use Rattle.byte_position.specs.Geometry.{IsSegmentSize, pages_of}
use Rattle.byte_position.proofs.HeaderSizes.{byte_in_segment}
use Rattle.byte_position.proofs.SegmentSizes.{segment_size_in_pages}
use Rattle.segment_disk.specs.DiskImage.{image_as_read}
use Rattle.segment_disk.specs.Tape.{IsPageRead, Segment, Tape, page_of_segment, state_now}
use Rattle.wal_spelling.specs.Spelling.{word_at}
use Rattle.wal_page.specs.LogPlace.{LogPlace, word_below}
use Rattle.wal_reader.specs.Cache.{log_of}
use Rattle.wal_reader.specs.Pages.{page_of_image}
use Rattle.written_log_laws.proofs.LawfulPages.{split_by}
use Rattle.found_log.specs.Words.{start_of_page, word_in, word_of_page, word_upto, words_upto}

-- ---- pages as they are read

page_as_is : (s : Option Segment) (segment page : ℕ)
    → page_of_image (image_as_read (λ (n : ℕ). s) segment) page ≡ page_of_segment s page
page_as_is None segment page = refl
page_as_is (Some s) segment page = refl

words_there : (o : Option (List ℕ)) (bytes : List ℕ) → IsPageRead o true bytes → (j : ℕ)
    → word_at bytes j ≡ word_of_page o j
words_there None bytes read j = absurd (false≢true (sym read))
words_there (Some page) bytes read j = ap (λ (b : List ℕ). word_at b j) read.1

words_absent : (o : Option (List ℕ)) (bytes : List ℕ) → IsPageRead o false bytes → (j : ℕ)
    → word_of_page o j ≡ 0
words_absent None bytes read j = refl
words_absent (Some page) bytes read j = absurd (false≢true read.0)

zeros_read : (k i : ℕ) → get_or {A = ℕ} (replicate k 0) i 0 ≡ 0
zeros_read k i = elim (cases_lt i k) [
  | inl lt ↦ get_or-replicate k i zero zero lt
  | inr le ↦ get_or_past (replicate k zero) i zero (omega (arith, length-replicate k zero))
]

word_of_zeros : (n j : ℕ) → word_at (replicate n 0) j ≡ 0
word_of_zeros n j =
    let zeros : List ℕ = replicate (n - 8 * j) zero in
    let h : (i : ℕ) → i < 8 → get_or (take 8 zeros) i 0 ≡ 0 = λ i lt. get_or-take 8 zeros i 0 lt
    ∙ zeros_read (n - 8 * j) i in
    ap (λ (bytes : List ℕ). from_le_bytes w64 (take 8 bytes)) (drop-replicate (8 * j) n zero)
    ∙ rw (
      h 0 (omega arith),
      h 1 (omega arith),
      h 2 (omega arith),
      h 3 (omega arith),
      h 4 (omega arith),
      h 5 (omega arith),
      h 6 (omega arith),
      h 7 (omega arith),
    ) refl

-- the words of a page below the end that it holds are the log's
abbrev pub AreEndWords : ℕ → ℕ → List ℕ → Tape → Type 0
AreEndWords size end page t = (j : ℕ) → start_of_page end + 8 * j < end → word_at page j
    ≡ word_in (log_of t size) (start_of_page end + 8 * j)

-- the page that holds an end was read
abbrev pub IsEndPageRead : ℕ → ℕ → Bool → List ℕ → Tape → Type 0
IsEndPageRead size end there bytes t =
    IsPageRead (page_of_segment (state_now t (end / size)) (end % size / 8192)) there bytes

module _ (size : ℕ) (valid : IsSegmentSize size) (end : ℕ) where
  page_of_end : (t : Tape) → end ≤ 2 ^ 44 → log_of t size (end / 8192)
      ≡ page_of_segment (state_now t (end / size)) (end % size / 8192)
  page_of_end t low =
      let n = pages_of size in
      let whole = segment_size_in_pages size valid in
      let page = end / 8192 in
      let at : page * 8192 + end % 8192 ≡ end = omega arith in
      let turned : 8192 * page + end % 8192 ≡ end = omega arith in
      let segment : end / size ≡ page / n = ap (λ (a : ℕ). a / size) (sym at) ∙ split_by page n
      size (end % 8192) whole.0 (omega (arith, whole)) (omega arith) in
      let offset : end % size ≡ 8192 * (page % n) + end % 8192 =
      ap (λ (a : ℕ). a % size) (sym turned) ∙ byte_in_segment size valid page (end % 8192)
      (omega arith) in
      let number : end % size / 8192 ≡ page % n = omega (arith, offset) in
      cond-true (leb ((page + 1) * 8192) (2 ^ 60)) _ None (le-leb ((page + 1) * 8192) (2 ^ 60)
      (omega (arith, low)))
      ∙ page_as_is (state_now t (page / n)) (page / n) (page % n)
      ∙ ap (λ (s : ℕ). page_of_segment (state_now t s) (page % n)) (sym segment)
      ∙ ap (page_of_segment (state_now t (end / size))) (sym number)

  word_of_end : (t : Tape) → end ≤ 2 ^ 44 → (j : ℕ) → start_of_page end + 8 * j < end
      → word_of_page (page_of_segment (state_now t (end / size)) (end % size / 8192)) j
      ≡ word_in (log_of t size) (start_of_page end + 8 * j)
  word_of_end t low j below =
      let number : end / 8192 ≡ (start_of_page end + 8 * j) / 8192 = omega (arith, below) in
      let place : j ≡ (start_of_page end + 8 * j) % 8192 / 8 = omega (arith, below) in
      ap (λ (o : Option (List ℕ)). word_of_page o j) (sym (page_of_end t low))
      ∙ ap (λ (p : ℕ). word_of_page (log_of t size p) j) number
      ∙ ap (word_of_page (log_of t size ((start_of_page end + 8 * j) / 8192))) place

  -- ---- the page is read, or blank

  module _ (low : end ≤ 2 ^ 44) (bytes : List ℕ) where
    pub words_read : (tape : Option Tape) → IfSome tape (IsEndPageRead size end true bytes)
        → IfSome tape (AreEndWords size end bytes)
    words_read None reads = tt
    words_read (Some t) reads = λ j below. words_there _ bytes reads j ∙ word_of_end t low j below

    -- the end is not in a page that is there
    pub words_blank : (tape : Option Tape) (buffer : List ℕ) (n : ℕ) → bytes ≡ replicate n 0
        → IfSome tape (IsEndPageRead size end false buffer)
        → IfSome tape (AreEndWords size end bytes)
    words_blank None buffer n zeros reads = tt
    words_blank (Some t) buffer n zeros reads = λ j below. ap (λ (b : List ℕ). word_at b j) zeros
        ∙ word_of_zeros n j ∙ sym (words_absent _ buffer reads j) ∙ word_of_end t low j below

  -- where the end is a page's start no word of it lies below
  pub no_words : (bytes : List ℕ) (tape : Option Tape) → end % size % 8192 ≡ 0
      → IfSome tape (AreEndWords size end bytes)
  no_words bytes None start = tt
  no_words bytes (Some t) start = λ j below.
      let turned : 8192 * (end / 8192) + end % 8192 ≡ end = omega arith in
      let offset : end % size ≡ 8192 * (end / 8192 % pages_of size) + end % 8192 =
      ap (λ (a : ℕ). a % size) (sym turned) ∙ byte_in_segment size valid (end / 8192)
      (end % 8192) (omega arith) in
      absurd (omega (arith, start, offset, below))

  -- ---- all words below the end

  module _ (from : size ≤ end) (whole : end % 8 ≡ 0) (tape : Option Tape) (page : List ℕ)
      (place : LogPlace) (are : place.below ≡ words_upto size tape end page) where
    word_below-upto : (address : ℕ) → address % 8 ≡ 0 → size ≤ address → address < end
        → word_below size place address ≡ word_upto size tape end page address
    word_below-upto address at high below =
        let k = (address - size) / 8 in
        let in_pages = (segment_size_in_pages size valid).0 in
        cond-false (ltb address size) 0 (get_or place.below k 0) (le-ltb address size high)
        ∙ ap (λ (l : List ℕ). get_or l k 0) are
        ∙ get_or-map-range_with_len (λ n. word_upto size tape end page (size + 8 * n)) 0
        ((end - size) / 8) k k 0 (omega (arith, at, high, below, whole, in_pages)) (omega arith)
        ∙ ap (word_upto size tape end page) (omega (arith, at, high, in_pages))

    upto-page : (address : ℕ) → start_of_page end ≤ address
        → word_upto size tape end page address ≡ word_at page ((address - start_of_page end) / 8)
    upto-page address high = cond-true (leb (start_of_page end) address) _ _
        (le-leb (start_of_page end) address high)

    pub page_is_below : (j : ℕ) → start_of_page end + 8 * j < end
        → word_at page j ≡ word_below size place (start_of_page end + 8 * j)
    page_is_below j below =
        let in_pages = (segment_size_in_pages size valid).0 in
        let address = start_of_page end + 8 * j in
        let place_is : (address - start_of_page end) / 8 ≡ j = omega arith in
        sym (word_below-upto address (omega arith) (omega (arith, from, in_pages)) below
        ∙ upto-page address (omega arith) ∙ ap (word_at page) place_is)

  pub words_are_read : size ≤ end → end % 8 ≡ 0 → (t : Tape) (page : List ℕ) (place : LogPlace)
      → place.below ≡ words_upto size (Some t) end page → AreEndWords size end page t → (address : ℕ)
      → address % 8 ≡ 0 → size ≤ address → address < end
      → word_below size place address ≡ word_in (log_of t size) address
  words_are_read from whole t page place are read address at high below =
      word_below-upto from whole (Some t) page place are address at high below
      ∙ elim (cases_lt address (start_of_page end)) [
        | inl before ↦ cond-false (leb (start_of_page end) address) _ _
            (lt-leb (start_of_page end) address before)
        | inr inside ↦
            (let j = (address - start_of_page end) / 8 in
            let here : start_of_page end + 8 * j ≡ address = omega (arith, at, inside) in
            upto-page from whole (Some t) page place are address inside
            ∙ read j (omega (arith, here, below)) ∙ ap (word_in (log_of t size)) here)
      ]

-- A log that anybody may have left, once it is settled: below its end it is as it was read.
use Rattle.std.proofs.Common.{◌≡◌, ℕ, ◌+◌, ◌*◌, ◌/◌, ◌%◌, ◌^◌, ◌<◌, ◌≤◌, ◌⊎◌, leb, ltb, List, [], length, take, drop, Option, Some, None, inl, inr, refl, sym, ap, subst, ◌∙◌, arith}
use Rattle.std.specs.Prelude.{IfSome}
use Rattle.std.specs.Int.{w64, to_le_bytes}
use Rattle.std.specs.Option.{IsSomeAnd}
use Rattle.std.proofs.lemmas.Bool.{cases_lt, cond-true, le-leb, lt-ltb}
use Rattle.std.proofs.lemmas.List.{length-drop, length-take-le}
use Rattle.std.proofs.Math.Nat.{div-add-mod}
use Rattle.std.proofs.lemmas.Nat.{mul-le}
use Rattle.byte_position.specs.Geometry.{IsSegmentSize, pages_of}
use Rattle.byte_position.proofs.SegmentSizes.{segment_size_in_pages}
use Rattle.segment_disk.specs.Assured.{SegmentAssures}
use Rattle.segment_disk.specs.DiskImage.{IsWritten, image_as_read, word_of}
use Rattle.segment_disk.specs.ImageWords.{zero_word}
use Rattle.segment_disk.specs.Tape.{DiskState, Segment, Tape, page_as_read, state_now}
use Rattle.wal_spelling.specs.Spelling.{word_at}
use Rattle.wal_spelling.proofs.Bytes.{IsBytes-drop, IsBytes-from_All, IsBytes-take, wide64}
use Rattle.flush_core.specs.Settled.{HaveWholePages, IsAmong, IsOldOrZero, IsSettledWord, KeepsOld, MayStand, StaysSettled}
use Rattle.flush_core.proofs.SettledLeft.{at_number, from_number}
use Rattle.byte_position.specs.Position.{end_address_of}
use Rattle.wal_page.specs.LogPlace.{end_from, word_below}
use Rattle.wal_page.proofs.PlaceLaws.{word_from-behind, word_from-below}
use Rattle.wal_reader.specs.Pages.{IsPage, page_of_image, pages_in}
use Rattle.wal_reader.specs.declared.found.FoundRecord.{FoundRecord}
use Rattle.found_log.specs.Found.{IsDiskLog}
use Rattle.found_log.specs.Words.{word_of_page}
use Rattle.machine_state.specs.Ringed.{log_bytes_of}
use Rattle.machine_state.specs.Suited.{IsLogAt}
use Rattle.machine_state.specs.Words.{Opening, found_end}
use Rattle.reopened_log_laws.specs.AnyLogs.{FoundLogsAreSuited, HoldsSegments}

-- ---- the words of a page

-- a word as a disk holds it, as a number and back
same_bytes : (page : List ℕ) → IsPage page → (word : ℕ) → word < 1024
    → to_le_bytes w64 (word_at page word) ≡ word_of page word
same_bytes page whole word low =
    wide64.back (take 8 (drop (8 * word) page))
    (length-take-le 8 (drop (8 * word) page) (omega (
      arith,
      length-drop (8 * word) page,
      whole.0,
      low,
    )))
    (IsBytes-take 8 (drop (8 * word) page) (IsBytes-drop (8 * word) page (IsBytes-from_All page whole.1)))

module _ (opening : Opening) (cap since : ℕ) (records : List FoundRecord) (t began : Tape)
    (valid : IsSegmentSize opening.setup.seg_size)
    (found : IsDiskLog opening.setup.seg_size cap records opening.place opening.made t)
    (holds : HoldsSegments opening.setup.seg_size opening.made t) where
  abbrev size : ℕ
  size = opening.setup.seg_size

  abbrev before : DiskState
  before = state_now t

  abbrev end : ℕ
  end = found_end opening

  pub whole_pages : HaveWholePages opening.setup.seg_size (state_now t)
  whole_pages segment = whole_in (before segment) (holds.pages segment)
    where
      whole_in : (o : Option Segment)
          → IfSome o (λ s. (s.pages ≡ pages_of size)
          × ((page : ℕ) → page < s.pages → IsPage (page_as_read s page)))
          → IfSome o (λ s. (s.pages ≡ pages_of size)
          × ((page : ℕ) → page < s.pages → length (page_as_read s page) ≡ 8192))
      whole_in None all = tt
      whole_in (Some s) all = (all.0, λ page within. (all.1 page within).0)

  -- a page of the log, as it is read
  page_in : (number : ℕ) (s : Segment) → before (number / pages_of size) ≡ Some s
      → s.pages ≡ pages_of size → (number + 1) * 8192 ≤ 2 ^ 60
      → pages_in size (image_as_read before) number ≡ Some (page_as_read s (number % pages_of size))
  page_in number s is pages low =
      let some : 0 < pages_of size = omega (arith, (segment_size_in_pages size valid).1) in
      let inside : number % pages_of size < s.pages = omega (arith, some, pages) in
      let here = cond-true (ltb (number % pages_of size) s.pages)
      (Some (page_as_read s (number % pages_of size))) None
      (lt-ltb (number % pages_of size) s.pages inside) in
      cond-true (leb ((number + 1) * 8192) (2 ^ 60))
      (page_of_image (image_as_read before (number / pages_of size)) (number % pages_of size)) None
      (le-leb ((number + 1) * 8192) (2 ^ 60) low) ∙ rw is here

  -- below the end the word that was read is the log's
  module _ (number word : ℕ) (small : word < 1024) (among : IsAmong opening.made (number / pages_of opening.setup.seg_size)) where
    abbrev address : ℕ
    address = number * 8192 + 8 * word

    low_page : (number + 1) * 8192 ≤ 2 ^ 60
    low_page =
        let wide = segment_size_in_pages size valid in
        let n = pages_of size in
        let some : 0 < n = omega (arith, wide.1) in
        let parts = div-add-mod number n in
        let most = mul-le (number / n + 1) n (opening.made + 1) n (omega (arith, among.1)) (omega arith) in
        let upto : number + 1 ≤ (opening.made + 1) * n = omega (arith, parts, most, some) in
        let paged : size ≡ 8192 * n = omega (arith, wide) in
        let times : (opening.made + 1) * size ≡ 8192 * ((opening.made + 1) * n) =
        ap (λ (k : ℕ). (opening.made + 1) * k) paged ∙ omega arith in
        let least = mul-le (opening.made + 1) size (2 ^ 60 / size) size (omega (arith, found.counted.there.low)) (omega arith) in
        omega (arith, upto, times, least)

    low_address : size ≤ number * 8192 + 8 * word
    low_address =
        let wide = segment_size_in_pages size valid in
        let n = pages_of size in
        let parts = div-add-mod number n in
        let least = mul-le 1 n (number / n) n (omega (arith, among.0)) (omega arith) in
        omega (arith, wide.0, parts, least)

    read_there : (bytes : List ℕ) (s : Segment) → before (number / pages_of size) ≡ Some s
        → bytes ≡ word_of (page_as_read s (number % pages_of size)) word → address < end
        → IsLogAt opening [] number word bytes
    read_there bytes s is read below =
        let page = page_as_read s (number % pages_of size) in
        let all = subst (λ (o : Option Segment). IfSome o (λ s. (s.pages ≡ pages_of size)
        × ((page : ℕ) → page < s.pages → IsPage (page_as_read s page)))) is
        (holds.pages (number / pages_of size)) in
        let some : 0 < pages_of size = omega (arith, (segment_size_in_pages size valid).1) in
        let whole : IsPage page = all.1 (number % pages_of size) (omega (arith, some, all.0)) in
        let at : address / 8192 ≡ number = omega (arith, small) in
        let within : address % 8192 / 8 ≡ word = omega (arith, small) in
        let from : size ≤ address = low_address in
        let told : word_below size opening.place address ≡ word_at page word =
        found.words address (omega arith) from below
        ∙ ap (λ (n : ℕ). word_of_page (pages_in size (image_as_read before) n) (address % 8192 / 8)) at
        ∙ ap (λ (o : Option (List ℕ)). word_of_page o (address % 8192 / 8)) (page_in number s is all.0 low_page)
        ∙ ap (word_at page) within in
        read ∙ sym (same_bytes page whole word small)
        ∙ ap (to_le_bytes w64) (sym told
        ∙ sym (word_from-below size opening.setup.sysid valid opening.place [] address below))

    read_here : (bytes : List ℕ) (o : Option Segment) → before (number / pages_of size) ≡ o
        → IsSomeAnd o (λ s. bytes ≡ word_of (page_as_read s (number % pages_of size)) word)
        → number * 8192 + 8 * word < found_end opening → IsLogAt opening [] number word bytes
    read_here bytes None is read below = absurd read
    read_here bytes (Some s) is read below = read_there bytes s is read below

  -- from the end on the log is zeros
  zeros_behind : (at : ℕ) → found_end opening ≤ at → zero_word ≡ log_bytes_of opening [] at
  zeros_behind at behind =
      let none : end_from size opening.place [] ≡ opening.place.position = omega arith in
      ap (to_le_bytes w64) (sym (word_from-behind size opening.setup.sysid valid opening.place []
      tt at (subst (λ (p : ℕ). end_address_of size p ≤ at) (sym none) behind)))

  -- ---- behind the settling

  module _ (segment page : ℕ) (within : page < pages_of opening.setup.seg_size) (word : ℕ)
      (small : word < 1024) (bytes : List ℕ) where
    abbrev number : ℕ
    number = segment * pages_of size + page

    -- of another segment nothing was there
    nothing_stands : (IsAmong opening.made segment → ⊥)
        → MayStand size before number word bytes → ⊥
    nothing_stands apart may =
        let P = λ (o : Option Segment). IsSomeAnd o
        (λ s. (bytes ≡ word_of (s.durable (number % pages_of size)) word)
        ⊎ IsWritten s.writes (number % pages_of size) word bytes) in
        subst P (holds.only segment apart)
        (from_number size end valid segment page within (λ (n : ℕ). P (before n)) may)

    outside : (IsAmong opening.made segment → ⊥) → IsOldOrZero size before end number word bytes
        → IsLogAt opening [] number word bytes
    outside apart old = elim old.1 [
      | inl stands ↦ absurd (nothing_stands apart stands)
      | inr zero ↦ zero.1 ∙ zeros_behind (number * 8192 + 8 * word) zero.0
    ]

    inside : IsAmong opening.made segment
        → IsSettledWord size before opening.made end number word bytes
        → IsLogAt opening [] number word bytes
    inside among settled =
        let at = at_number size end valid segment page within (λ d m. IsAmong opening.made d)
        among in
        elim (cases_lt (number * 8192 + 8 * word) end) [
          | inl below ↦ elim (settled.0 at) [
            | inl read ↦ read_here number word small at bytes (before (number / pages_of size)) refl
                read below
            | inr zero ↦ absurd (omega (arith, zero.0, below))
          ]
          | inr above ↦ settled.1 at above ∙ zeros_behind (number * 8192 + 8 * word) above
        ]

    suits : IsOldOrZero size before end number word bytes
        → IsSettledWord size before opening.made end number word bytes
        → IsLogAt opening [] number word bytes
    suits old settled = elim (cases_lt 0 segment) [
      | inl first ↦ elim (cases_lt opening.made segment) [
        | inl beyond ↦ outside (λ among. omega (arith, among.1, beyond)) old
        | inr upto ↦ inside (omega (arith, first), upto) settled
      ]
      | inr none ↦ outside (λ among. omega (arith, among.0, none)) old
    ]

  module _ (old : KeepsOld opening.setup.seg_size (state_now t) opening.made
      (found_end opening) since began) (settled : StaysSettled opening.setup.seg_size
      (state_now t) opening.made (found_end opening) opening.moment began) where
    suited_in : (segment : ℕ) (o : Option Segment) → state_now began segment ≡ o
        → SegmentAssures opening.setup.seg_size
        (λ segment. (1 ≤ segment) × (segment ≤ opening.made)) (IsLogAt opening []) segment o
    suited_in segment None is = subst (SegmentAssures size (IsAmong opening.made)
        (IsOldOrZero size before end) segment) is (old.now segment)
    suited_in segment (Some s) is =
        let was = subst (SegmentAssures size (IsAmong opening.made)
        (IsOldOrZero size before end) segment) is (old.now segment) in
        let now = subst (SegmentAssures size (IsAmong opening.made)
        (IsSettledWord size before opening.made end) segment) is (settled.now segment) in (
          was.0,
          λ page word within low bytes may. suits segment page within word low bytes
              (was.1 page word within low bytes may) (now.1 page word within low bytes may),
        )

pub found_logs_are_suited : FoundLogsAreSuited
found_logs_are_suited opening cap since records t began valid found holds settled =
    let whole = whole_pages opening cap since records t began valid found holds in
    λ segment. suited_in opening cap since records t began valid found holds
    (settled.keeps_old whole) (settled.settled whole) segment (state_now began segment) refl

-- The page in which a log ends that was found on a disk that holds nothing else: as it was read, its
-- words below the end are the log's.
use Rattle.std.proofs.Common.{◌≡◌, ℕ, ◌+◌, ◌*◌, ◌/◌, ◌%◌, ◌^◌, ◌<◌, ◌≤◌, leb, ltb, List, length, take, drop, Option, Some, None, IfSome, refl, sym, ap, subst, ◌∙◌, arith, length-drop, length-take}
use Rattle.std.specs.Prelude.{IsSome}
use Rattle.std.specs.Int.{w64, from_le_bytes, to_le_bytes}
use Rattle.std.specs.Option.{IsSomeAnd}
use Rattle.std.proofs.lemmas.Bool.{cond-true, le-leb, lt-ltb}
use Rattle.std.proofs.lemmas.Nat.{div_below, le-div}
use Rattle.std.proofs.Math.Nat.{div-mul-le_self, mul-le-mul_right}
use Rattle.byte_position.specs.Geometry.{pages_of}
use Rattle.byte_position.specs.Position.{end_address_of}
use Rattle.byte_position.proofs.SegmentSizes.{segment_size_in_pages}
use Rattle.segment_disk.specs.DiskImage.{image_as_read, word_of}
use Rattle.segment_disk.specs.Tape.{DiskState, Segment, Tape, page_as_read, page_of_segment, state_now}
use Rattle.wal_spelling.specs.Spelling.{word_at}
use Rattle.wal_spelling.proofs.Bytes.{IsBytes-drop, IsBytes-from_All, IsBytes-take, wide64}
use Rattle.flush_core.specs.Settled.{IsAmong, IsAsRead}
use Rattle.flush_core.specs.SettledLog.{IsLogWord}
use Rattle.wal_page.specs.Order.{Entry}
use Rattle.wal_page.specs.Log.{log_word}
use Rattle.wal_page.specs.LogPlace.{LogPlace, word_below}
use Rattle.wal_page.proofs.LogWordLaws.{log_word_bytes}
use Rattle.wal_reader.specs.Cache.{log_of}
use Rattle.wal_reader.specs.Pages.{IsPage, page_of_image}
use Rattle.wal_reader.specs.declared.found.FoundRecord.{FoundRecord}
use Rattle.written_log_laws.specs.FoundLog.{end_behind}
use Rattle.found_log.specs.Found.{IsDiskLog}
use Rattle.found_log.specs.Words.{start_of_page, word_in, word_of_page}
use Rattle.standby_laws.proofs.LeftLogs.{ReadsOrder, end_from, read_below}

-- a word of a page, as eight bytes and as a number
word_as_bytes : (bytes : List ℕ) (k : ℕ) → k < 1024 → IsPage bytes
    → to_le_bytes w64 (word_at bytes k) ≡ word_of bytes k
word_as_bytes bytes k low whole =
    let behind = drop (8 * k) bytes in
    wide64.back (take 8 behind)
    (omega (arith, length-take 8 behind, length-drop (8 * k) bytes, whole.0, low))
    (IsBytes-take 8 behind (IsBytes-drop (8 * k) bytes (IsBytes-from_All bytes whole.1)))

none_there : (s : Option Segment) → s ≡ None → IsSome (page_of_segment s 0) → ⊥
none_there None is there = absurd (cc there)
none_there (Some s) is there = absurd (let no : ⊥ = cc in no)

module _ (size sysid : ℕ) (es : List Entry) (left : Tape) (o : ReadsOrder size sysid es left)
    (cap made end : ℕ) (records : List FoundRecord) (place : LogPlace)
    (found : IsDiskLog size cap records place made left) (end_is : end ≡ end_behind size records)
    (reaches : end ≤ made * size + size) where
  abbrev before : DiskState
  before = state_now left

  abbrev number : ℕ
  number = end / 8192

  in_pages : size ≡ 8192 * pages_of size
  in_pages = (segment_size_in_pages size o.order.valid).0

  some_pages : 0 < pages_of size
  some_pages = omega (arith, (segment_size_in_pages size o.order.valid).1)

  from : size ≤ end
  from = end_from size sysid es left o cap made end records place found end_is

  -- ---- where a word of it lies below the end it is there

  module _ (k : ℕ) (below : end / 8192 * 8192 + 8 * k < end) where
    whole_made : (made + 1) * size ≡ 8192 * ((made + 1) * pages_of size)
    whole_made = ap (λ (n : ℕ). (made + 1) * n) in_pages ∙ swapped (made + 1) (pages_of size)
      where
        swapped : (a b : ℕ) → a * (8192 * b) ≡ 8192 * (a * b)
        swapped a b = omega arith

    number_low : end / 8192 < (made + 1) * pages_of size
    number_low = omega (arith, whole_made, reaches, below)

    among : IsAmong made (end / 8192 / pages_of size)
    among = (
      le-div 1 number (pages_of size) some_pages (omega (arith, from, in_pages)),
      omega (arith, div_below number (pages_of size) (made + 1) some_pages number_low),
    )

    page_low : (end / 8192 + 1) * 8192 ≤ 2 ^ 60
    page_low =
        let more : (made + 1) * size ≤ 2 ^ 60 / size * size = mul-le-mul_right size (omega (arith, found.counted.there.low)) in
        omega (arith, more, div-mul-le_self (2 ^ 60) size, whole_made, number_low)

    word_in_page : (x : Option Segment) → state_now left (end / 8192 / pages_of size) ≡ x
        → word_of_page (log_of left size (end / 8192)) k
        ≡ log_word size sysid es (end / 8192 * 8192 + 8 * k)
    word_in_page None is = absurd (none_there (before (number / pages_of size)) is
        (found.counted.there.there (number / pages_of size) among))
    word_in_page (Some s) is =
        let segment = number / pages_of size in
        let page = number % pages_of size in
        let has = subst (λ (o : Option Segment). IfSome o (λ s. (s.pages ≡ pages_of size)
        × ((page : ℕ) → page < s.pages → length (page_as_read s page) ≡ 8192))) is (o.whole segment)
        in
        let inside : page < s.pages = omega (arith, some_pages, has.0) in
        let there : log_of left size number ≡ Some (page_as_read s page) =
        cond-true (leb ((number + 1) * 8192) (2 ^ 60)) _ None
        (le-leb ((number + 1) * 8192) (2 ^ 60) page_low)
        ∙ ap (λ (o : Option Segment). page_of_image (image_as_read (λ (n : ℕ). o) segment) page) is
        ∙ cond-true (ltb page s.pages) (Some (page_as_read s page)) None
        (lt-ltb page s.pages inside) in
        let here : IsAsRead size before number k (word_of (page_as_read s page) k) =
        subst (λ (o : Option Segment). IsSomeAnd o
        (λ x. word_of (page_as_read s page) k ≡ word_of (page_as_read x page) k)) (sym is) refl in
        let log = read_below size sysid es left o cap made end records place found end_is number k
        (word_of (page_as_read s page) k) among (omega (arith, below)) below here in
        ap (λ (o : Option (List ℕ)). word_of_page o k) there
        ∙ ap (from_le_bytes w64)
        (log ∙ log_word_bytes size sysid es o.order.chained (number * 8192 + 8 * k))

    word_is_read : word_in (log_of left size) (start_of_page end + 8 * k)
        ≡ log_word size sysid es (end / 8192 * 8192 + 8 * k)
    word_is_read =
        let page_is : (start_of_page end + 8 * k) / 8192 ≡ number = omega (arith, below) in
        let word_is : (start_of_page end + 8 * k) % 8192 / 8 ≡ k = omega (arith, below) in
        ap (λ (n : ℕ). word_of_page (log_of left size n)
        ((start_of_page end + 8 * k) % 8192 / 8)) page_is
        ∙ ap (word_of_page (log_of left size number)) word_is
        ∙ word_in_page (before (number / pages_of size)) refl

    -- so a page that has the words below the place has the log's
    pub own_word : (own : List ℕ) → IsPage own → end_address_of size place.position ≡ end
        → word_at own k ≡ word_below size place (start_of_page end + 8 * k)
        → IsLogWord size sysid es (end / 8192) k (word_of own k)
    own_word own whole ends same =
        sym (word_as_bytes own k (omega (arith, below)) whole)
        ∙ ap (to_le_bytes w64) (same
        ∙ found.words (start_of_page end + 8 * k) (omega arith) (omega (arith, from, in_pages))
        (omega (arith, below, ends))
        ∙ word_is_read)

-- What stands in the pages of an image that holds nothing but words of a log.
use Rattle.std.proofs.Common.{◌≡◌, ◌⊎◌, ℕ, zero, suc, ◌+◌, ◌*◌, ◌/◌, ◌%◌, ◌^◌, ◌<◌, ◌≤◌, Bool, true, false, cond, ltb, leb, List, length, get_or, drop, Option, Some, None, inl, inr, refl, sym, ap, subst, ◌∙◌, arith}
use Rattle.std.specs.Prelude.{IfSome, IsSome}
use Rattle.std.specs.Option.{IsSomeAnd}
use Rattle.std.proofs.lemmas.Bool.{cases_Bool, cases_lt, cond-true, cond-false, lt-ltb, le-leb, lt-leb}
use Rattle.std.proofs.Math.Nat.{div-div-eq-div-mul}
use Rattle.std.proofs.lemmas.List.{get_or-take, get_or-drop, length-take, length-drop}
use Rattle.byte_position.specs.Geometry.{IsSegmentSize, pages_of}
use Rattle.byte_position.specs.Position.{end_address_of}
use Rattle.byte_position.proofs.HeaderSizes.{byte_in_segment}
use Rattle.byte_position.proofs.SegmentSizes.{segment_size_in_pages}
use Rattle.segment_disk.specs.DiskImage.{DiskImage, ImageSegment, word_of}
use Rattle.wal_page.specs.Order.{Entry, IsChained, end_position}
use Rattle.wal_page.specs.Log.{log_byte}
use Rattle.wal_page.proofs.LogByteLaws.{log_byte-behind}
use Rattle.wal_page.proofs.LogWordLaws.{log_word_byte, log_word_bytes}
use Rattle.wal_page.proofs.OwnerLaws.{owner_at-some}
use Rattle.segment_disk.specs.ImageWords.{HasPageAt, image_word, segment_word, zero_word}
use Rattle.flush_core.specs.Lawful.{IsLawful}
use Rattle.wal_reader.specs.Pages.{Pages, byte_at, page_of_image, pages_in}
use Rattle.written_log_laws.proofs.LogPages.{byte_in_page}
use Rattle.written_log_laws.proofs.LogPositions.{page_of-start}

-- pages that hold nothing but words of a log: each word is 0 or the log's, each byte below `upto` is the log's, and each page that begins below it and below the log's end is there
pub record ArePagesOf (size sysid : ℕ) (pages : Pages) (es : List Entry) (upto : ℕ) : Type 0 where
  pub words : (k : ℕ) → ((i : ℕ) → i < 8 → byte_at pages (8 * k + i) ≡ 0) ⊎ ((i : ℕ) → i < 8 → byte_at pages (8 * k + i) ≡ log_byte size sysid es (8 * k + i))
  pub below : (address : ℕ) → address < upto → byte_at pages address ≡ log_byte size sysid es address
  pub there : (page : ℕ) → pages_of size ≤ page → page * 8192 < upto → page * 8192 < end_address_of size (end_position size es) → IsSome (pages page)
  pub long : (page : ℕ) → IfSome (pages page) (λ bytes. 8192 ≤ length bytes)

-- ---- the words of an image are those of its pages

-- the k-th word of a page, zeros where it is not there
abbrev pub word_in : Option (List ℕ) → ℕ → List ℕ
word_in None k = zero_word
word_in (Some bytes) k = word_of bytes k

pub byte_of_zeros : (i : ℕ) → get_or zero_word i 0 ≡ 0
byte_of_zeros zero = refl
byte_of_zeros (suc zero) = refl
byte_of_zeros (suc (suc zero)) = refl
byte_of_zeros (suc (suc (suc zero))) = refl
byte_of_zeros (suc (suc (suc (suc zero)))) = refl
byte_of_zeros (suc (suc (suc (suc (suc zero))))) = refl
byte_of_zeros (suc (suc (suc (suc (suc (suc zero)))))) = refl
byte_of_zeros (suc (suc (suc (suc (suc (suc (suc zero))))))) = refl
byte_of_zeros (suc (suc (suc (suc (suc (suc (suc (suc i)))))))) = refl

byte_of_word : (page : Option (List ℕ)) (k i : ℕ) → i < 8 → get_or (word_in page k) i 0 ≡ byte_in_page page (8 * k + i)
byte_of_word None k i lt = byte_of_zeros i
byte_of_word (Some bytes) k i lt = get_or-take 8 (drop (8 * k) bytes) i 0 lt ∙ get_or-drop (8 * k) bytes i 0

-- a word of a segment is that of a page of it
word_of_segment : (here : Option ImageSegment) (page k offset : ℕ) → offset / 8192 ≡ page → offset % 8192 / 8 ≡ k → segment_word here offset ≡ word_in (page_of_image here page) k
word_of_segment None page k offset at place = refl
word_of_segment (Some i) page k offset at place =
    elim (cases_Bool (ltb page i.pages)) [
      | inl inside ↦ rw (at, place, inside) refl
      | inr outside ↦ rw (at, place, outside) refl
    ]

page_of_some : (here : Option ImageSegment) (page number : ℕ) → number ≡ page → IsSomeAnd here (λ i. number < i.pages) → IsSome (page_of_image here page)
page_of_some None page number e has = absurd has
page_of_some (Some i) page number e has = subst (λ (o : Option (List ℕ)). IsSome o) (sym (cond-true (ltb page i.pages) (Some (i.page page)) None (lt-ltb page i.pages (omega (arith, e, has))))) refl

-- a page's place in its segment
pub split_by : (page n size k : ℕ) → size ≡ 8192 * n → 0 < n → k < 8192 → (page * 8192 + k) / size ≡ page / n
split_by page n size k whole some lt =
    let inner : (page * 8192 + k) / 8192 ≡ page = omega arith in
    ap (λ (m : ℕ). (page * 8192 + k) / m) whole ∙ sym (div-div-eq-div-mul (page * 8192 + k) 8192 n) ∙ ap (λ (p : ℕ). p / n) inner

module _ (size : ℕ) (image : DiskImage) (valid : IsSegmentSize size) where
  pub page_word : (page k : ℕ) → k < 1024 → image_word size image (8 * (page * 1024 + k)) ≡ word_in (page_of_image (image (page / pages_of size)) (page % pages_of size)) k
  page_word page k lt =
      let n = pages_of size in
      let whole = segment_size_in_pages size valid in
      let at : 8 * (page * 1024 + k) ≡ page * 8192 + 8 * k = omega arith in
      let segment : 8 * (page * 1024 + k) / size ≡ page / n = ap (λ (a : ℕ). a / size) at ∙ split_by page n size (8 * k) whole.0 (omega (arith, whole)) (omega arith) in
      let turned : 8 * (page * 1024 + k) ≡ 8192 * page + 8 * k = omega arith in
      let offset : 8 * (page * 1024 + k) % size ≡ 8192 * (page % n) + 8 * k = ap (λ (a : ℕ). a % size) turned ∙ byte_in_segment size valid page (8 * k) (omega arith) in
      rw (segment, offset) (word_of_segment (image (page / n)) (page % n) k (8192 * (page % n) + 8 * k) (omega arith) (omega arith))

  -- a page as an image has it, however high it is
  abbrev page_in_image : ℕ → Option (List ℕ)
  page_in_image page = page_of_image (image (page / pages_of size)) (page % pages_of size)

  read_page : (page : ℕ) → (page + 1) * 8192 ≤ 2 ^ 60 → pages_in size image page ≡ page_in_image page
  read_page page low = cond-true (leb ((page + 1) * 8192) (2 ^ 60)) (page_in_image page) None (le-leb ((page + 1) * 8192) (2 ^ 60) low)

  pub no_page_above : (page : ℕ) → 2 ^ 60 < (page + 1) * 8192 → pages_in size image page ≡ None
  no_page_above page high = cond-false (leb ((page + 1) * 8192) (2 ^ 60)) (page_in_image page) None (lt-leb ((page + 1) * 8192) (2 ^ 60) high)

  -- the bytes of a word are those that a reader finds
  pub word_is_read : (k i : ℕ) → i < 8 → 8 * k < 2 ^ 60 → byte_at (pages_in size image) (8 * k + i) ≡ get_or (image_word size image (8 * k)) i 0
  word_is_read k i lt low =
      let page = k / 1024 in
      let j = k % 1024 in
      let split : page * 1024 + j ≡ k = omega arith in
      let number : (8 * k + i) / 8192 ≡ page = omega arith in
      let offset : (8 * k + i) % 8192 ≡ 8 * j + i = omega arith in
      let word = ap (λ (n : ℕ). image_word size image (8 * n)) (sym split) ∙ page_word page j (omega arith) in
      let byte : byte_at (pages_in size image) (8 * k + i) ≡ byte_in_page (pages_in size image page) (8 * j + i) = rw (number, offset) refl in
      byte ∙ ap (λ (o : Option (List ℕ)). byte_in_page o (8 * j + i)) (read_page page (omega arith))
      ∙ sym (byte_of_word (page_in_image page) j i lt) ∙ ap (λ (word : List ℕ). get_or word i 0) (sym word)

  module _ (sysid : ℕ) (es : List Entry) (upto : ℕ) (chained : IsChained size es) (bounded : end_address_of size (end_position size es) ≤ 2 ^ 60) (lawful : IsLawful size sysid image es upto) where
    -- above the last address that is read there is nothing, and the log has nothing there
    zero_above : (k i : ℕ) → i < 8 → 2 ^ 60 ≤ 8 * k → byte_at (pages_in size image) (8 * k + i) ≡ 0
    zero_above k i lt high =
        ap (λ (o : Option (List ℕ)). byte_in_page o ((8 * k + i) % 8192)) (no_page_above ((8 * k + i) / 8192) (omega arith))

    word_is_lawful : (k : ℕ) → ((i : ℕ) → i < 8 → byte_at (pages_in size image) (8 * k + i) ≡ 0) ⊎ ((i : ℕ) → i < 8 → byte_at (pages_in size image) (8 * k + i) ≡ log_byte size sysid es (8 * k + i))
    word_is_lawful k =
        elim (cases_lt (8 * k) (2 ^ 60)) [
          | inl low ↦
              elim (lawful.words k) [
                | inl zeros ↦ inl (λ i lt. word_is_read k i lt low ∙ ap (λ (word : List ℕ). get_or word i 0) zeros ∙ byte_of_zeros i)
                | inr own ↦ inr (λ i lt. word_is_read k i lt low ∙ ap (λ (word : List ℕ). get_or word i 0) own ∙ log_word_byte size sysid es chained (8 * k) i lt)
              ]
          | inr high ↦ inl (λ i lt. zero_above k i lt high)
        ]

    byte_is_log : (k i : ℕ) → i < 8 → 8 * k < upto → byte_at (pages_in size image) (8 * k + i) ≡ log_byte size sysid es (8 * k + i)
    byte_is_log k i lt below =
        elim (cases_lt (8 * k) (2 ^ 60)) [
          | inl low ↦ word_is_read k i lt low ∙ ap (λ (word : List ℕ). get_or word i 0) (lawful.below k below) ∙ log_word_byte size sysid es chained (8 * k) i lt
          | inr high ↦ zero_above k i lt high ∙ sym (log_byte-behind size sysid valid es chained (8 * k + i) (omega arith))
        ]

    -- a page that has a word is there
    has_page : (page : ℕ) → HasPageAt size image (8 * (page * 1024)) → IsSome (page_in_image page)
    has_page page has =
        let n = pages_of size in
        let whole = segment_size_in_pages size valid in
        let at : 8 * (page * 1024) ≡ page * 8192 + 0 = omega arith in
        let turned : 8 * (page * 1024) ≡ 8192 * page + 0 = omega arith in
        let segment : 8 * (page * 1024) / size ≡ page / n = ap (λ (a : ℕ). a / size) at ∙ split_by page n size 0 whole.0 (omega (arith, whole)) (omega arith) in
        let offset : 8 * (page * 1024) % size ≡ 8192 * (page % n) + 0 = ap (λ (a : ℕ). a % size) turned ∙ byte_in_segment size valid page 0 (omega arith) in
        let number : 8 * (page * 1024) % size / 8192 ≡ page % n = omega (arith, offset) in
        subst (λ (s : ℕ). IsSome (page_of_image (image s) (page % n))) segment (page_of_some (image (8 * (page * 1024) / size)) (page % n) (8 * (page * 1024) % size / 8192) number has)

    page_is_there : (page : ℕ) → pages_of size ≤ page → page * 8192 < upto → page * 8192 < end_address_of size (end_position size es) → IsSome (pages_in size image page)
    page_is_there page from below within =
        let at : 8 * (page * 1024) ≡ page * 8192 = omega arith in
        let owned = owner_at-some size valid es chained (8 * (page * 1024)) (omega (arith, page_of-start size valid)) (omega arith) in
        subst (λ (o : Option (List ℕ)). IsSome o) (sym (read_page page (omega arith))) (has_page page (lawful.there (page * 1024) (omega arith) owned))

    -- its words are eight bytes each
    word_is_long : (k : ℕ) → length (image_word size image (8 * k)) ≡ 8
    word_is_long k =
        elim (lawful.words k) [
          | inl zeros ↦ ap (λ (word : List ℕ). length word) zeros
          | inr own ↦ ap (λ (word : List ℕ). length word) (own ∙ log_word_bytes size sysid es chained (8 * k))
        ]

    long_by_word : (here : Option (List ℕ)) → length (word_in here 1023) ≡ 8 → IfSome here (λ bytes. 8192 ≤ length bytes)
    long_by_word None e = tt
    long_by_word (Some bytes) e = omega (arith, length-take 8 (drop (8 * 1023) bytes), length-drop (8 * 1023) bytes)

    long_if : (cut : Bool) (here : Option (List ℕ)) → IfSome here (λ bytes. 8192 ≤ length bytes) → IfSome (cond cut here None) (λ bytes. 8192 ≤ length bytes)
    long_if true here long = long
    long_if false here long = tt

    page_is_long : (page : ℕ) → IfSome (pages_in size image page) (λ bytes. 8192 ≤ length bytes)
    page_is_long page =
        let word = page_word page 1023 (omega arith) in
        long_if (leb ((page + 1) * 8192) (2 ^ 60)) (page_in_image page) (long_by_word (page_in_image page) (sym (ap (λ (word : List ℕ). length word) word) ∙ word_is_long (page * 1024 + 1023)))

    -- an image that is lawful has such pages
    pub image_has_pages : ArePagesOf size sysid (pages_in size image) es upto
    image_has_pages = record {
      words = word_is_lawful;
      below = λ address lt.
          let split : 8 * (address / 8) + address % 8 ≡ address = omega arith in
          subst (λ (a : ℕ). byte_at (pages_in size image) a ≡ log_byte size sysid es a) split (byte_is_log (address / 8) (address % 8) (omega arith) (omega arith));
      there = page_is_there;
      long = page_is_long;
    }

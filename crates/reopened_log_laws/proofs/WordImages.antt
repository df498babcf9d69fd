-- What each image assures that a crash may leave of a disk, its state assures word by word.
use Rattle.std.proofs.Common.{◌≡◌, ◌≢◌, ◌⊎◌, ℕ, ◌+◌, ◌-◌, ◌*◌, ◌<◌, ◌≤◌, List, [], ◌++◌, length, take, drop, Option, Some, None, IfSome, inl, inr, refl, sym, ap, subst, ◌∙◌, ◌==◌, if◌then◌else◌, arith}
use Rattle.std.proofs.lemmas.Bool.{cases_eq, cases_lt, cond-false, cond-true, eq-eqb, ne_eqb}
use Rattle.std.proofs.lemmas.List.{drop-append-le, drop-drop, drop_at, length-append, length-drop, length-take, take-append-drop, take-append-le, take_at}
use Rattle.std.proofs.Math.Seq.{drop-append-add}
use Rattle.byte_position.specs.Geometry.{pages_of}
use Rattle.segment_disk.specs.Assured.{DiskImageFits, SegmentAssures, SegmentFits, StateAssures}
use Rattle.segment_disk.specs.DiskImage.{DiskImage, ImageSegment, IsWritten, MayLeave, MayLeavePage, MayLeaveSegment, image_as_read, word_of}
use Rattle.segment_disk.specs.Tape.{DiskState, Segment, page_as_read}
use Rattle.flush_core.specs.Settled.{HaveWholePages}
use Rattle.flush_core.proofs.LeftLaws.{read_word}
use Rattle.machine_state.specs.Growing.{LosesOnly, SegmentLosesOnly}
use Rattle.written_log_laws.specs.SettledFound.{NothingWaits}
use Rattle.reopened_log_laws.proofs.CutWrites.{left_as_read}
use Rattle.reopened_log_laws.proofs.LeftAgain.{durable_read}

-- ---- a page with one word in another's place

abbrev put_word : ℕ → List ℕ → List ℕ → List ℕ
put_word word bytes page = take (8 * word) page ++ (bytes ++ drop (8 * word + 8) page)

module _ (page bytes : List ℕ) (word : ℕ) (whole : length page ≡ 8192) (eight : length bytes ≡ 8)
    (low : word < 1024) where
  abbrev front : List ℕ
  front = take (8 * word) page

  abbrev back : List ℕ
  back = drop (8 * word + 8) page

  front_long : length front ≡ 8 * word
  front_long = omega (arith, length-take (8 * word) page, whole, low)

  put_whole : length (put_word word bytes page) ≡ 8192
  put_whole = omega (
    arith,
    length-append front (bytes ++ back),
    length-append bytes back,
    front_long,
    eight,
    length-drop (8 * word + 8) page,
    whole,
    low,
  )

  put_here : word_of (put_word word bytes page) word ≡ bytes
  put_here = ap (take 8) (drop_at front (bytes ++ back) (8 * word) front_long)
      ∙ take_at bytes back 8 eight

  word_front : (rest : List ℕ) (k : ℕ) → k < word → word_of (front ++ rest) k ≡ word_of front k
  word_front rest k before =
      let left : 8 ≤ length (drop (8 * k) front) =
      omega (arith, length-drop (8 * k) front, front_long, before) in
      ap (take 8) (drop-append-le (8 * k) front rest (omega (arith, front_long, before)))
      ∙ take-append-le 8 (drop (8 * k) front) rest left

  put_apart : (k : ℕ) → k ≢ word → word_of (put_word word bytes page) k ≡ word_of page k
  put_apart k apart = elim (cases_lt k word) [
    | inl before ↦ word_front (bytes ++ back) k before
        ∙ sym (word_front (drop (8 * word) page) k before)
        ∙ ap (λ (l : List ℕ). word_of l k) (take-append-drop (8 * word) page)
    | inr from ↦
        (let behind : word < k = omega (arith, from, apart) in
        let more = 8 * k - (8 * word + 8) in
        let first : 8 * k ≡ length front + (8 + more) = omega (arith, front_long, behind) in
        let second : 8 + more ≡ length bytes + more = omega (arith, eight) in
        let all : 8 * word + 8 + more ≡ 8 * k = omega (arith, behind) in
        ap (take 8) (ap (λ (n : ℕ). drop n (put_word word bytes page)) first
        ∙ drop-append-add front (bytes ++ back) (8 + more)
        ∙ ap (λ (n : ℕ). drop n (bytes ++ back)) second ∙ drop-append-add bytes back more
        ∙ drop-drop more (8 * word + 8) page ∙ ap (λ (n : ℕ). drop n page) all))
  ]

-- ---- the image as a disk is read, with one word in another's place

-- the word is one that may be left there
abbrev MayStandAt : Segment → ℕ → ℕ → List ℕ → Type 0
MayStandAt s page word bytes =
    (bytes ≡ word_of (s.durable page) word) ⊎ IsWritten s.writes page word bytes

module _ (page word : ℕ) (bytes : List ℕ) where
  abbrev page_with : Segment → ℕ → List ℕ
  page_with s n = if n == page then put_word word bytes (page_as_read s n) else page_as_read s n

  abbrev segment_with : Option Segment → Option ImageSegment
  segment_with None = None
  segment_with (Some s) = Some (record { pages = s.pages; page = page_with s })

  module _ (s : Segment) (whole : (n : ℕ) → n < s.pages → length (page_as_read s n) ≡ 8192)
      (low : word < 1024) (eight : length bytes ≡ 8) (may : MayStandAt s page word bytes) where
    word_left : (n k : ℕ) → n ≡ page → n < s.pages
        → MayStandAt s n k (word_of (put_word word bytes (page_as_read s n)) k)
    word_left n k same within = elim (cases_eq k word) [
      | inl here ↦ subst (λ (m : ℕ). MayStandAt s m k
          (word_of (put_word word bytes (page_as_read s n)) k)) (sym same)
          (subst (λ (j : ℕ). MayStandAt s page j
          (word_of (put_word word bytes (page_as_read s n)) j)) (sym here)
          (subst (MayStandAt s page word)
          (sym (put_here (page_as_read s n) bytes word (whole n within) eight low)) may))
      | inr apart ↦ read_word s.writes n k (s.durable n)
          (word_of (put_word word bytes (page_as_read s n)) k)
          (put_apart (page_as_read s n) bytes word (whole n within) eight low k apart)
    ]

    page_left : (n : ℕ) → n < s.pages → MayLeavePage s n (page_with s n)
    page_left n within = elim (cases_eq n page) [
      | inl same ↦ subst (MayLeavePage s n)
          (sym (cond-true (n == page) (put_word word bytes (page_as_read s n)) (page_as_read s n)
          (eq-eqb n page same)))
          (record {
            length = put_whole (page_as_read s n) bytes word (whole n within) eight low;
            words = λ k small. word_left n k same within;
          })
      | inr apart ↦ subst (MayLeavePage s n)
          (sym (cond-false (n == page) (put_word word bytes (page_as_read s n)) (page_as_read s n)
          (ne_eqb n page apart)))
          (record {
            length = whole n within;
            words = λ k small. read_word s.writes n k (s.durable n) (word_of (page_as_read s n) k)
                refl;
          })
    ]

    page_here : page < s.pages → word_of (page_with s page) word ≡ bytes
    page_here within = ap (λ (p : List ℕ). word_of p word)
        (cond-true (page == page) (put_word word bytes (page_as_read s page)) (page_as_read s page)
        (eq-eqb page page refl))
        ∙ put_here (page_as_read s page) bytes word (whole page within) eight low

module _ (size : ℕ) (IsThere : ℕ → Type 0) (Fits : ℕ → ℕ → List ℕ → Type 0) (state : DiskState)
  where
    -- where nothing waits for a sync, the image as it is read tells each word
    quiet_here : (segment : ℕ) (s : Option Segment) → IfSome s (λ s. s.writes ≡ [])
        → SegmentFits size IsThere Fits segment (image_as_read (λ (m : ℕ). s) segment)
        → SegmentAssures size IsThere Fits segment s
    quiet_here segment None none fits = fits
    quiet_here segment (Some s) none fits = (
      fits.0,
      λ page word within low bytes may.
          subst (Fits (segment * pages_of size + page) word)
          (sym (durable_read s page word bytes none may)) (fits.1 page word within low),
    )

    pub quiet_assures : NothingWaits state
        → DiskImageFits size IsThere Fits (image_as_read state)
        → StateAssures size IsThere Fits state
    quiet_assures quiet fits segment =
        quiet_here segment (state segment) (quiet segment) (fits segment)

    -- ---- where each word that may be left is as it is read, or zeros

    module _ (whole : HaveWholePages size state) (loses : LosesOnly size state) where
      eight_bytes : (s : Segment) → SegmentLosesOnly size s
          → ((n : ℕ) → n < s.pages → length (page_as_read s n) ≡ 8192)
          → (page word : ℕ) (bytes : List ℕ) → page < s.pages → word < 1024
          → MayStandAt s page word bytes → length bytes ≡ 8
      eight_bytes s lose long page word bytes within low may =
          elim (lose.1 page within word low bytes may) [
            | inl zeros ↦ ap length zeros
            | inr read ↦
                (let rest : length (drop (8 * word) (page_as_read s page)) ≡ 8192 - 8 * word =
                omega (arith, length-drop (8 * word) (page_as_read s page), long page within) in
                omega (
                  arith,
                  ap length read,
                  length-take 8 (drop (8 * word) (page_as_read s page)),
                  rest,
                  low,
                ))
          ]

      module _ (segment page word : ℕ) (bytes : List ℕ) (s : Segment)
          (is : state segment ≡ Some s) (within : page < s.pages) (low : word < 1024)
          (may : MayStandAt s page word bytes) where
        long : (n : ℕ) → n < s.pages → length (page_as_read s n) ≡ 8192
        long = (subst (λ (o : Option Segment). IfSome o (λ s. (s.pages ≡ pages_of size)
            × ((page : ℕ) → page < s.pages → length (page_as_read s page) ≡ 8192))) is
            (whole segment)).1

        lose : SegmentLosesOnly size s
        lose = subst (λ (o : Option Segment). IfSome o (SegmentLosesOnly size)) is (loses segment)

        eight : length bytes ≡ 8
        eight = eight_bytes s lose long page word bytes within low may

        abbrev image : DiskImage
        image n = if n == segment then segment_with page word bytes (Some s)
            else image_as_read state n

        image_left : MayLeave state image
        image_left n = elim (cases_eq n segment) [
          | inl same ↦ subst (MayLeaveSegment (state n))
              (sym (cond-true (n == segment) (segment_with page word bytes (Some s))
              (image_as_read state n) (eq-eqb n segment same)))
              (subst (λ (o : Option Segment). MayLeaveSegment o
              (segment_with page word bytes (Some s))) (sym (ap state same ∙ is))
              (refl, page_left page word bytes s long low eight may))
          | inr apart ↦ subst (MayLeaveSegment (state n))
              (sym (cond-false (n == segment) (segment_with page word bytes (Some s))
              (image_as_read state n) (ne_eqb n segment apart)))
              (left_as_read size state whole n)
        ]

        word_fits : ((image : DiskImage) → MayLeave state image
            → DiskImageFits size IsThere Fits image)
            → Fits (segment * pages_of size + page) word bytes
        word_fits each =
            let fit : SegmentFits size IsThere Fits segment (segment_with page word bytes (Some s)) =
            subst (SegmentFits size IsThere Fits segment)
            (cond-true (segment == segment) (segment_with page word bytes (Some s))
            (image_as_read state segment) (eq-eqb segment segment refl))
            (each image image_left segment) in
            subst (Fits (segment * pages_of size + page) word)
            (page_here page word bytes s long low eight may within)
            (fit.1 page word (omega (arith, within, fit.0)) low)

      assured_here : ((image : DiskImage) → MayLeave state image
          → DiskImageFits size IsThere Fits image) → (segment : ℕ) (s : Option Segment)
          → state segment ≡ s → SegmentAssures size IsThere Fits segment s
      assured_here each segment None is =
          subst (λ (o : Option Segment). SegmentFits size IsThere Fits segment
          (image_as_read (λ (m : ℕ). o) segment)) is
          (each (image_as_read state) (left_as_read size state whole) segment)
      assured_here each segment (Some s) is =
          let fit = subst (λ (o : Option Segment). SegmentFits size IsThere Fits segment
          (image_as_read (λ (m : ℕ). o) segment)) is
          (each (image_as_read state) (left_as_read size state whole) segment) in (
            fit.0,
            λ page word within low bytes may. word_fits segment page word bytes s is
                (omega (arith, within, fit.0)) low may each,
          )

      -- what each image assures that may be left, the state assures
      pub images_assure : ((image : DiskImage) → MayLeave state image
          → DiskImageFits size IsThere Fits image) → StateAssures size IsThere Fits state
      images_assure each segment = assured_here each segment (state segment) refl

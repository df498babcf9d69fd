-- A page that is put is held, and all is held durably once it is synced.
use Rattle.std.proofs.Common.{◌≡◌, ◌≢◌, ℕ, ◌+◌, ◌-◌, ◌*◌, ◌/◌, ◌%◌, ◌<◌, ◌≤◌, inl, inr, Bool, max, nat_lt, true, false, not, List, [], length, Option, Some, None, refl, sym, ap, subst, ◌∙◌, ◌==◌, arith}
use Rattle.std.proofs.lemmas.Bool.{cases_eq, eq-eqb, ne_eqb, both_ways, ltb-true, ltb-false}
use Rattle.std.proofs.lemmas.Nat.{div-mul-add}
use Rattle.std.proofs.Math.Nat.{div-add-mod, div-div-eq-div-mul, mul-le-mul_right, max-eq_left, max-eq_right, le-max_right}
use Rattle.byte_position.specs.Geometry.{IsSegmentSize, pages_of}
use Rattle.byte_position.proofs.SegmentSizes.{segment_size_in_pages}
use Rattle.segment_disk.specs.Tape.{Segment, DiskState, zero_page, after_call, after_calls, after_writes, sync_call}
use Rattle.segment_disk.specs.DiskImage.{DiskImage, ImageSegment, MayLeave, MayLeaveSegment, image_as_read}
use Rattle.flush_core.specs.Calls.{store_calls, put_calls}
use Rattle.flush_core.specs.Pages.{PutPages, with_page, HoldsSegment, HoldsPages, HoldsPut, ArePutUpto, unsynced_writes}
use Rattle.segment_disk.specs.Assured.{made_upto}
use Rattle.flush_core.proofs.StateLaws.{Stands, stands_created, stands_written, stands_synced}
use Rattle.flush_core.proofs.Words.{left_page}

-- the segment of the last byte below a position inside a segment, and at a segment's start
made_inside : (size n : ℕ) → 0 < size → 0 < n % size → (n - 1) / size ≡ n / size
made_inside size n positive inside =
    let parts = div-add-mod n size in
    let at : n - 1 ≡ n / size * size + (n % size - 1) = omega arith in
    ap (λ (m : ℕ). m / size) at ∙ div-mul-add (n / size) size (n % size - 1) (omega arith)

pub made_at_start : (size n : ℕ) → 0 < size → 0 < n → n % size ≡ 0 → (n - 1) / size ≡ n / size - 1
made_at_start size n positive begun start =
    let q = n / size in
    let parts = div-add-mod n size in
    let some : 0 < q = elim (cases_eq q 0) [
      | inl none ↦ absurd (let empty : size * q ≡ 0 = ap (λ (m : ℕ). size * m) none ∙ omega arith in omega arith)
      | inr other ↦ omega arith
    ] in
    let last : q ≡ (q - 1) + 1 = omega arith in
    let full : size * q ≡ size * ((q - 1) + 1) = ap (λ (m : ℕ). size * m) last in
    let at : n - 1 ≡ (q - 1) * size + (size - 1) = omega arith in
    ap (λ (m : ℕ). m / size) at ∙ div-mul-add (q - 1) size (size - 1) (omega arith)

positive_from_test : (n : ℕ) → (n == 0) ≡ false → 0 < n
positive_from_test n test = elim (cases_eq n 0) [ inl none ↦ absurd (both_ways _ test (eq-eqb n 0 none)) | inr some ↦ omega arith ]

module _ (size made segment page : ℕ) (state : DiskState) (pages : PutPages) (bytes : List ℕ) (positive : 0 < segment) (within : page < pages_of size) where
  -- what stands before a page is stored: its segment is the next to be made, or is made
  pub record StandsBefore (is_new : Bool) : Type 0 where
    pub stands : Stands size made segment state pages
    pub next : is_new ≡ true → made ≡ segment - 1
    pub zeros : is_new ≡ true → (k : ℕ) → k < pages_of size → pages (segment * pages_of size + k) ≡ zero_page
    pub there : is_new ≡ false → segment ≤ made

  abbrev stored : PutPages
  stored = with_page pages (segment * pages_of size + page) bytes

  -- it is stored, and nothing waits for a sync where its segment is full
  stands_stored : (is_new : Bool) → StandsBefore is_new → Stands size (max made segment) segment (after_calls state (store_calls size segment page is_new false bytes)) stored
  stands_stored true before =
      let stands = subst (λ (n : ℕ). Stands size n segment state pages) (before.next refl) before.stands in
      let last : segment ≡ max made segment = sym (max-eq_right (omega (arith, before.next refl))) in
      subst (λ (n : ℕ). Stands size n segment (after_calls state (store_calls size segment page true false bytes)) stored) last
      (stands_written size segment page pages bytes within segment _ positive (omega arith) (stands_created size segment state pages positive (before.zeros refl) stands))
  stands_stored false before =
      let last : made ≡ max made segment = sym (max-eq_left (before.there refl)) in
      subst (λ (n : ℕ). Stands size n segment (after_calls state (store_calls size segment page false false bytes)) stored) last
      (stands_written size segment page pages bytes within made state positive (before.there refl) before.stands)

  stands_full : (is_new : Bool) (other : ℕ) → StandsBefore is_new → Stands size (max made segment) other (after_calls state (store_calls size segment page is_new true bytes)) stored
  stands_full true other before = stands_synced size (max made segment) segment other _ stored (stands_stored true before)
  stands_full false other before = stands_synced size (max made segment) segment other _ stored (stands_stored false before)

-- where a page that is put lies, by its segment and its number there, and which segments are made before and behind
record IsPlaced (size written upto page segment number : ℕ) : Type 0 where
  positive : 0 < segment
  within : number < pages_of size
  is_number : segment * pages_of size + number ≡ page
  of_written : written / size ≡ segment
  made_behind : made_upto size upto ≡ segment
  made_new : written % size ≡ 0 → made_upto size written ≡ segment - 1
  made_there : 0 < written % size → made_upto size written ≡ segment
  of_upto : 0 < upto % size → upto / size ≡ segment
  starts : written % size ≡ 0 → written ≡ segment * pages_of size * 8192

-- what is put up to its page's end or below lies in segments that are made up to that of the page
pub page_reaches : (size upto page : ℕ) → IsSegmentSize size → upto ≤ (page + 1) * 8192 → (made : ℕ) → upto ≤ max made (page / pages_of size) * size + size
page_reaches size upto page valid below made =
    let count = pages_of size in
    let segment = page / count in
    let whole = segment_size_in_pages size valid in
    let parts = div-add-mod page count in
    let full : segment * size ≡ segment * (8192 * count) = ap (λ (m : ℕ). segment * m) whole.0 in
    let high : segment * size ≤ max made segment * size = mul-le-mul_right size (le-max_right made segment) in
    omega (arith, whole.0)

module _ (size written upto page : ℕ) (valid : IsSegmentSize size) (begun : size ≤ written) (at : page ≡ written / 8192) (above : page * 8192 < upto) (below : upto ≤ (page + 1) * 8192) where
  placed : IsPlaced size written upto page (page / pages_of size) (page % pages_of size)
  placed =
      let count = pages_of size in
      let segment = page / count in
      let whole = segment_size_in_pages size valid in
      let parts = div-add-mod page count in
      let of_written : written / size ≡ segment = ap (λ (m : ℕ). written / m) whole.0 ∙ sym (div-div-eq-div-mul written 8192 count) ∙ ap (λ (m : ℕ). m / count) (sym at) in
      let last : upto - 1 ≡ page * 8192 + (upto - 1 - page * 8192) = omega arith in
      let of_last : (upto - 1) / 8192 ≡ page = ap (λ (m : ℕ). m / 8192) last ∙ div-mul-add page 8192 (upto - 1 - page * 8192) (omega arith) in
      let behind : (upto - 1) / size ≡ segment = ap (λ (m : ℕ). (upto - 1) / m) whole.0 ∙ sym (div-div-eq-div-mul (upto - 1) 8192 count) ∙ ap (λ (m : ℕ). m / count) of_last in
      let some = div-add-mod written size in
      record {
        positive = elim (cases_eq (written / size) 0) [
          | inl none ↦ absurd (let empty : size * (written / size) ≡ 0 = ap (λ (m : ℕ). size * m) none ∙ omega arith in omega arith)
          | inr other ↦ omega arith
        ];
        within = omega arith;
        is_number = omega arith;
        of_written = of_written;
        made_behind = behind;
        made_new = λ start. made_at_start size written (omega arith) (omega arith) start ∙ ap (λ (m : ℕ). m - 1) of_written;
        made_there = λ inside. made_inside size written (omega arith) inside ∙ of_written;
        of_upto = λ inside. sym (made_inside size upto (omega arith) inside) ∙ behind;
        starts = λ start. (let product : size * (written / size) ≡ 8192 * count * segment = ap (λ (m : ℕ). m * (written / size)) whole.0 ∙ ap (λ (m : ℕ). 8192 * count * m) of_written in omega arith);
      }

  -- behind it all segments are made up to that of the page
  pub put_makes : (made : ℕ) → made ≡ made_upto size written → max made (page / pages_of size) ≡ made_upto size upto
  put_makes made is =
      let low : made ≤ page / pages_of size = elim (cases_eq (written % size) 0) [
        | inl start ↦ omega (arith, is, placed.made_new start, placed.positive)
        | inr inside ↦ (let some : 0 < written % size = omega arith in omega (arith, is, placed.made_there some))
      ] in
      max-eq_right low ∙ sym placed.made_behind

  pub put_covers : (made : ℕ) → made_upto size upto ≤ max made (page / pages_of size)
  put_covers made = omega (arith, placed.made_behind, le-max_right made (page / pages_of size))

  pub put_reaches : (made : ℕ) → upto ≤ max made (page / pages_of size) * size + size
  put_reaches made = page_reaches size upto page valid below made

  module _ (made : ℕ) (state : DiskState) (pages : PutPages) (bytes : List ℕ) (unsynced : Bool) (made_as_far : made_upto size written ≤ made) (put : ArePutUpto written pages) (holds : HoldsPut size written made unsynced state pages) where
    abbrev segment_of : ℕ
    segment_of = page / pages_of size

    -- a segment that is new is the next one, and begins where all that is written ends
    starts_at : nat_lt made segment_of ≡ true → written % size ≡ 0
    starts_at new = elim (cases_eq (written % size) 0) [
      | inl start ↦ start
      | inr inside ↦ absurd (let some : 0 < written % size = omega arith in omega (arith, ltb-true made segment_of new, placed.made_there some))
    ]

    before : (is_new : Bool) → is_new ≡ nat_lt made segment_of → StandsBefore size made segment_of (page % pages_of size) state pages bytes placed.positive placed.within is_new
    before is_new is = record {
      stands = record { read = holds.read; synced = λ n other. holds.synced n (inl (λ here. other (here ∙ placed.of_written))) };
      next = λ new. (let test : nat_lt made segment_of ≡ true = sym is ∙ new in omega (arith, ltb-true made segment_of test, placed.made_new (starts_at test)));
      zeros = λ new k low. put.behind (segment_of * pages_of size + k) (omega (arith, placed.starts (starts_at (sym is ∙ new))));
      there = λ old. omega (arith, ltb-false made segment_of (sym is ∙ old));
    }

    held : (is_new is_full : Bool) → is_new ≡ nat_lt made segment_of → is_full ≡ (upto % size == 0)
        → HoldsPut size upto (max made segment_of) (not is_full) (after_calls state (store_calls size segment_of (page % pages_of size) is_new is_full bytes)) (with_page pages page bytes)
    held is_new true new is =
        let stands = λ (other : ℕ). subst (λ (m : ℕ). Stands size (max made segment_of) other (after_calls state (store_calls size segment_of (page % pages_of size) is_new true bytes)) (with_page pages m bytes)) placed.is_number
        (stands_full size made segment_of (page % pages_of size) state pages bytes placed.positive placed.within is_new other (before is_new new)) in
        record {
          read = (stands 0).read;
          synced = λ n _. (stands (n + 1)).synced n (λ same. absurd (omega arith));
        }
    held is_new false new is =
        let stands = subst (λ (m : ℕ). Stands size (max made segment_of) segment_of (after_calls state (store_calls size segment_of (page % pages_of size) is_new false bytes)) (with_page pages m bytes)) placed.is_number
        (stands_stored size made segment_of (page % pages_of size) state pages bytes placed.positive placed.within is_new (before is_new new)) in
        let inside = positive_from_test (upto % size) (sym is) in
        record {
          read = stands.read;
          synced = λ n may. elim may [ inl other ↦ stands.synced n (λ here. other (here ∙ sym (placed.of_upto inside))) | inr none ↦ absurd (cc) ];
        }

    -- a page that is put is held
    pub HoldsPut-put : HoldsPut size upto (max made segment_of) (not (upto % size == 0)) (after_calls state (put_calls size made page upto bytes)) (with_page pages page bytes)
    HoldsPut-put = held (nat_lt made segment_of) (upto % size == 0) refl refl

  pub ArePutUpto-put : (pages : PutPages) (bytes : List ℕ) → ArePutUpto written pages → length bytes ≡ 8192 → written ≤ upto → ArePutUpto upto (with_page pages page bytes)
  ArePutUpto-put pages bytes put whole rises = record {
    whole = λ n. elim (cases_eq n page) [ inl same ↦ rw (eq-eqb n page same) whole | inr other ↦ rw (ne_eqb n page other) (put.whole n) ];
    behind = λ n high. let other : n ≢ page = (λ same. absurd (omega arith)) in rw (ne_eqb n page other) (put.behind n (omega arith));
  }

-- what waits for a sync is synced
pub HoldsPut-synced : (size written made : ℕ) (state : DiskState) (pages : PutPages) → HoldsPut size written made true state pages → HoldsPut size written made false (after_call state (sync_call size (written / size))) pages
HoldsPut-synced size written made state pages holds =
    let stands : Stands size made (written / size) state pages = record { read = holds.read; synced = λ n other. holds.synced n (inl other) } in
    record {
      read = (stands_synced size made (written / size) 0 state pages stands).read;
      synced = λ n _. (stands_synced size made (written / size) (n + 1) state pages stands).synced n (λ same. absurd (omega arith));
    }

-- ---- images

-- a crash leaves a segment to which no write waits for a sync as it is
left_segment : (size segment : ℕ) (pages : PutPages) (s : Option Segment) (i : Option ImageSegment) → ((page : ℕ) → length (pages page) ≡ 8192) → HoldsSegment size pages segment (image_as_read (λ (n : ℕ). s) segment)
    → unsynced_writes s ≡ [] → MayLeaveSegment s i → HoldsSegment size pages segment i
left_segment size segment pages None i whole holds synced leaves = absurd holds
left_segment size segment pages (Some s) None whole holds synced leaves = absurd leaves
left_segment size segment pages (Some s) (Some i) whole holds synced leaves = (
  leaves.0 ∙ holds.0,
  λ page within.
      let durable : s.durable page ≡ pages (segment * pages_of size + page) = sym (ap (λ (writes : List (ℕ × List ℕ)). after_writes writes page (s.durable page)) synced) ∙ holds.1 page within in
      let low : page < s.pages = omega (arith, holds.0) in
      left_page s page (i.page page) synced (ap length durable ∙ whole (segment * pages_of size + page)) (leaves.1 page low) ∙ durable,
)

left_absent : (s : Option Segment) (i : Option ImageSegment) → image_as_read (λ (n : ℕ). s) 0 ≡ None → MayLeaveSegment s i → i ≡ None
left_absent None None absent leaves = refl
left_absent None (Some i) absent leaves = absurd leaves
left_absent (Some s) i absent leaves = (cc)

pub HoldsPages-left : (size written made : ℕ) (state : DiskState) (pages : PutPages) (image : DiskImage) → ArePutUpto written pages → HoldsPut size written made false state pages → MayLeave state image → HoldsPages size made image pages
HoldsPages-left size written made state pages image put holds leaves = record {
  there = λ n low high. left_segment size n pages (state n) (image n) put.whole (holds.read.there n low high) (holds.synced n (inr refl)) (leaves n);
  others = λ n none. left_absent (state n) (image n) (holds.read.others n none) (leaves n);
}

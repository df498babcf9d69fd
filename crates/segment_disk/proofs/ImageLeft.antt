-- What a crash leaves of a disk, made segment by segment.
use Rattle.std.proofs.Common.{◌≡◌, ◌≢◌, ℕ, zero, suc, ◌+◌, ◌-◌, ◌*◌, ◌<◌, ◌≤◌, Bool, true, false, IsTrue, List, [], ◌∷◌, ◌++◌, length, drop, Option, Some, None, is_some, option_map, refl, sym, ap, subst, ◌∙◌, ◌==◌, if◌then◌else◌, arith, inl, inr, add-one}
use Rattle.std.proofs.lemmas.Bool.{cases_lt, false≢true, eq-eqb, ne_eqb}
use Rattle.std.proofs.lemmas.List.{drop-drop, length_push}
use Rattle.segment_disk.specs.declared.memory.first.FirstSegment.{FirstSegment}
use Rattle.segment_disk.specs.declared.memory.pick.Pick.{Pick}
use Rattle.segment_disk.specs.First.{durable_segment, first_at, first_state, page_at}
use Rattle.segment_disk.specs.Tape.{Segment, DiskState}
use Rattle.segment_disk.specs.DiskImage.{ImageSegment, DiskImage, image_as_read}
use Rattle.segment_disk.specs.Picks.{Choice, IsPickedSegment, choice_of, undecided_before, undecided_in}
use Rattle.segment_disk.specs.Present.{HasSegments, present_below}
use Rattle.segment_disk.specs.Crash.{numbers_of}

-- the image of a list of segments
abbrev pub image_of : List FirstSegment → DiskImage
image_of segments = image_as_read (first_state segments)

-- one of them
abbrev pub left_of : FirstSegment → ImageSegment
left_of segment = record { pages = length segment.pages.items; page = page_at segment.pages.items }

image_at-none : (segments : List FirstSegment) (number : ℕ) → first_at segments number ≡ None → image_of segments number ≡ None
image_at-none segments number none = by_segment (first_at segments number) none
  where
    by_segment : (s : Option FirstSegment) → s ≡ None → image_as_read (λ n. option_map durable_segment s) number ≡ None
    by_segment None none = refl
    by_segment (Some s) none = absurd (cc)

image_at-some : (segments : List FirstSegment) (number : ℕ) (segment : FirstSegment) → first_at segments number ≡ Some segment → image_of segments number ≡ Some (left_of segment)
image_at-some segments number segment is = ap (λ (s : Option FirstSegment). image_as_read (λ n. option_map durable_segment s) number) is

-- a segment behind the others
first_at-other : (segments : List FirstSegment) (segment : FirstSegment) (number : ℕ) → segment.number ≢ number → first_at (segments ++ segment ∷ []) number ≡ first_at segments number
first_at-other [] segment number other = ap (λ (b : Bool). if b then Some segment else None) (ne_eqb segment.number number other)
first_at-other (s ∷ segments) segment number other = ap (λ (o : Option FirstSegment). if s.number == number then Some s else o) (first_at-other segments segment number other)

first_at-new : (segments : List FirstSegment) (segment : FirstSegment) → first_at segments segment.number ≡ None → first_at (segments ++ segment ∷ []) segment.number ≡ Some segment
first_at-new [] segment none = ap (λ (b : Bool). if b then Some segment else None) (eq-eqb segment.number segment.number refl)
first_at-new (s ∷ segments) segment none = by_test (s.number == segment.number) none (first_at-new segments segment)
  where
    by_test : (b : Bool) → (if b then Some s else first_at segments segment.number) ≡ None → (first_at segments segment.number ≡ None → first_at (segments ++ segment ∷ []) segment.number ≡ Some segment)
        → (if b then Some s else first_at (segments ++ segment ∷ []) segment.number) ≡ Some segment
    by_test true none further = absurd (cc)
    by_test false none further = further none

-- a sum over all lower numbers is the same at two numbers, where none between them adds to it
module _ (sum added : ℕ → ℕ) (grows : (n : ℕ) → sum (suc n) ≡ sum n + added n) where
  sum-none : (from many : ℕ) → ((k : ℕ) → from ≤ k → k < from + many → added k ≡ 0) → sum (from + many) ≡ sum from
  sum-none from zero none = ap sum (omega arith)
  sum-none from (suc many) none =
      let at : from + suc many ≡ suc (from + many) = omega arith in
      let last = none (from + many) (omega arith) (omega arith) in
      let others = sum-none from many (λ k behind below. none k behind (omega arith)) in
      ap sum at ∙ grows (from + many) ∙ omega (arith, last, others)

  sum-next : (from next : ℕ) → from ≤ next → ((k : ℕ) → from ≤ k → k < next → added k ≡ 0) → sum next ≡ sum from
  sum-next from next within none =
      let at : next ≡ from + (next - from) = omega arith in
      ap sum at ∙ sum-none from (next - from) (λ k behind below. none k behind (omega arith))

module _ (state : DiskState) (from next : ℕ) (within : from ≤ next) (none : (k : ℕ) → from ≤ k → k < next → state k ≡ None) where
  -- where no segment is there, none of its pages is undecided
  undecided_before-next : undecided_before state next ≡ undecided_before state from
  undecided_before-next =
      sum-next (undecided_before state) (λ n. undecided_in (state n)) (λ n. refl) from next within (λ k behind below. ap undecided_in (none k behind below))

  -- and none is counted
  present_below-next : present_below state next ≡ present_below state from
  present_below-next =
      sum-next (present_below state) (λ n. if is_some (state n) then 1 else 0) (λ n. refl) from next within (λ k behind below. ap (λ (s : Option Segment). if is_some s then 1 else 0) (none k behind below))

-- what the loop keeps when all numbers below one are done
pub record ImageUpto (pick : Pick) (state : DiskState) (left : List FirstSegment) (numbers : List ℕ) (from : ℕ) : Type 0 where
  pub done : (n : ℕ) → n < from → IsPickedSegment (choice_of pick) (undecided_before state n) (state n) (image_of left n)
  pub ahead : (n : ℕ) → from ≤ n → first_at left n ≡ None
  pub numbers_are : numbers ≡ drop (1024 * undecided_before state from) (numbers_of pick)
  pub count : length left ≡ present_below state from

pub ImageUpto-none : (pick : Pick) (state : DiskState) → ImageUpto pick state [] (numbers_of pick) 0
ImageUpto-none pick state = record {
  done = λ n below. absurd (omega arith);
  ahead = λ n behind. refl;
  numbers_are = refl;
  count = refl;
}

both_none : (pick : Pick) (before : ℕ) (s : Option Segment) (i : Option ImageSegment) → s ≡ None → i ≡ None → IsPickedSegment (choice_of pick) before s i
both_none pick before None None gone none = tt
both_none pick before None (Some i) gone none = absurd (cc)
both_none pick before (Some s) i gone none = absurd (cc)

-- a segment that is picked is there
there_where_picked : (choice : Choice) (before : ℕ) (s : Option Segment) (i : ImageSegment) → IsPickedSegment choice before s (Some i) → ◌≡◌ {A = ℕ} (if is_some s then 1 else 0) 1
there_where_picked choice before None i picked = absurd picked
there_where_picked choice before (Some s) i picked = refl

module _ (pick : Pick) (state : DiskState) (left : List FirstSegment) (numbers : List ℕ) (from next : ℕ) (so_far : ImageUpto pick state left numbers from) (within : from ≤ next)
    (gone : (k : ℕ) → from ≤ k → k < next → state k ≡ None) where
  -- the numbers up to the next segment are none that is there
  image_passes : ImageUpto pick state left numbers next
  image_passes = record {
    done = λ n below. elim (cases_lt n from) [
      | inl earlier ↦ so_far.done n earlier
      | inr behind ↦ both_none pick (undecided_before state n) (state n) (image_of left n) (gone n behind below) (image_at-none left n (so_far.ahead n behind))
    ];
    ahead = λ n behind. so_far.ahead n (omega arith);
    numbers_are = so_far.numbers_are ∙ ap (λ (m : ℕ). drop (1024 * m) (numbers_of pick)) (sym (undecided_before-next state from next within gone));
    count = so_far.count ∙ sym (present_below-next state from next within gone);
  }

  -- the numbers that are left at the next segment
  pub numbers_here : numbers ≡ drop (1024 * undecided_before state next) (numbers_of pick)
  numbers_here = image_passes.numbers_are

  pub image_without : state next ≡ None → ImageUpto pick state left numbers (next + 1)
  image_without none = record {
    done = λ n below. elim (cases_lt n next) [
      | inl earlier ↦ image_passes.done n earlier
      | inr here ↦
          (let same : n ≡ next = omega arith in
          both_none pick (undecided_before state n) (state n) (image_of left n) (ap state same ∙ none) (image_at-none left n (so_far.ahead n (omega arith))))
    ];
    ahead = λ n behind. so_far.ahead n (omega arith);
    numbers_are =
        image_passes.numbers_are ∙ ap (λ (m : ℕ). drop (1024 * m) (numbers_of pick)) (sym (ap (undecided_before state) (add-one next) ∙ ap (λ (s : Option Segment). undecided_before state next + undecided_in s) none ∙ omega arith));
    count = image_passes.count ∙ sym (present_below-next state next (next + 1) (omega arith) (λ k behind below. (let same : k ≡ next = omega arith in ap state same ∙ none)));
  }

  pub image_with : (segment : FirstSegment) (undecided : ℕ) (rest : List ℕ) → segment.number ≡ next
      → IsPickedSegment (choice_of pick) (undecided_before state next) (state next) (Some (left_of segment)) → undecided ≡ undecided_in (state next)
      → rest ≡ drop (1024 * undecided) numbers
      → ImageUpto pick state (left ++ segment ∷ []) rest (next + 1)
  image_with segment undecided rest number picked count is = record {
    done = λ n below. elim (cases_lt n next) [
      | inl earlier ↦
          (let other : segment.number ≢ n = (λ (same : segment.number ≡ n). omega arith) in
          subst (λ (o : Option FirstSegment). IsPickedSegment (choice_of pick) (undecided_before state n) (state n) (image_as_read (λ m. option_map durable_segment o) n)) (sym (first_at-other left segment n other)) (image_passes.done n earlier))
      | inr here ↦
          (let same : n ≡ next = omega arith in
          let found : image_of (left ++ segment ∷ []) next ≡ Some (left_of segment) =
          image_at-some (left ++ segment ∷ []) next segment (subst (λ (m : ℕ). first_at (left ++ segment ∷ []) m ≡ Some segment) number (first_at-new left segment (so_far.ahead segment.number (omega arith)))) in
          subst (λ (m : ℕ). IsPickedSegment (choice_of pick) (undecided_before state m) (state m) (image_of (left ++ segment ∷ []) m)) (sym same)
          (subst (λ (i : Option ImageSegment). IsPickedSegment (choice_of pick) (undecided_before state next) (state next) i) (sym found) picked))
    ];
    ahead = λ n behind. (let other : segment.number ≢ n = (λ (same : segment.number ≡ n). omega arith) in first_at-other left segment n other ∙ so_far.ahead n (omega arith));
    numbers_are =
        (let place : 1024 * undecided_before state next + 1024 * undecided ≡ 1024 * undecided_before state (next + 1) =
        (let more : undecided_before state (next + 1) ≡ undecided_before state next + undecided = ap (undecided_before state) (add-one next) ∙ ap (λ (m : ℕ). undecided_before state next + m) (sym count) in omega (arith, more)) in
        is ∙ ap (drop (1024 * undecided)) image_passes.numbers_are ∙ drop-drop (1024 * undecided) (1024 * undecided_before state next) (numbers_of pick) ∙ ap (λ (m : ℕ). drop m (numbers_of pick)) place);
    count =
        length_push left segment ∙ ap (λ (m : ℕ). m + 1) image_passes.count
        ∙ sym (ap (present_below state) (add-one next) ∙ ap (λ (m : ℕ). present_below state next + m) (there_where_picked (choice_of pick) (undecided_before state next) (state next) (left_of segment) picked));
  }

-- no segment is there any more
pub image_whole : (pick : Pick) (state : DiskState) (left : List FirstSegment) (numbers : List ℕ) (from : ℕ) → ImageUpto pick state left numbers from → ((k : ℕ) → from ≤ k → state k ≡ None)
    → (n : ℕ) → IsPickedSegment (choice_of pick) (undecided_before state n) (state n) (image_of left n)
image_whole pick state left numbers from so_far none n = elim (cases_lt n from) [
  | inl earlier ↦ so_far.done n earlier
  | inr behind ↦ both_none pick (undecided_before state n) (state n) (image_of left n) (none n behind) (image_at-none left n (so_far.ahead n behind))
]

pub image_count : (pick : Pick) (state : DiskState) (left : List FirstSegment) (numbers : List ℕ) (from : ℕ) → ImageUpto pick state left numbers from → ((k : ℕ) → from ≤ k → state k ≡ None) → HasSegments state (length left)
image_count pick state left numbers from so_far none = (from, none, so_far.count)

-- a segment that no list has is not there
pub state_gone : (s : Option Segment) (listed : Bool) → (IsTrue (is_some s) → IsTrue listed) → listed ≡ false → s ≡ None
state_gone None listed has not = refl
state_gone (Some s) true has not = absurd (cc)
state_gone (Some s) false has not = absurd (false≢true (has refl))

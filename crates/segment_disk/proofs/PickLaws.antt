-- An image that a pick names is one that a crash may leave; and which segments it has.
use Rattle.std.proofs.Common.{◌≡◌, ℕ, zero, suc, ◌+◌, ◌<◌, ◌≤◌, ◌⊎◌, Bool, true, false, ◌||◌, IsTrue, List, [], ◌∷◌, ◌++◌, get_or, length, take, drop, Option, Some, None, IfSome, is_some, option_map, map, refl, sym, ap, subst, ◌∙◌, ◌==◌, if◌then◌else◌, inl, inr, arith, take-append-drop}
use Rattle.std.proofs.lemmas.Bool.{ne_eqb, false≢true}
use Rattle.std.proofs.lemmas.Bool.Decides.{eqb_tells}
use Rattle.std.proofs.lemmas.List.{length-take, length_push}
use Rattle.segment_disk.specs.declared.disk.Call.{Call}
use Rattle.segment_disk.specs.declared.disk.CallKind.{CallKind}
use Rattle.segment_disk.specs.declared.disk.CallKind.TheVariants.{Create, Write, Sync}
use Rattle.segment_disk.specs.declared.memory.first.FirstSegment.{FirstSegment}
use Rattle.segment_disk.specs.Failing.{is_listed}
use Rattle.segment_disk.specs.First.{durable_segment, first_at, first_state}
use Rattle.segment_disk.specs.Tape.{Segment, DiskState, segment_after, after_call, after_calls}
use Rattle.segment_disk.specs.DiskImage.{ImageSegment, DiskImage, word_of, IsWritten, MayLeaveSegment, MayLeave}
use Rattle.segment_disk.specs.Picks.{Choice, IsPicked, IsPickedSegment, numbered_page, undecided_before, writes_to}

-- a call takes no segment away
there_after : (kind : CallKind) (size : ℕ) (done : Bool) (s : Option Segment) → IsTrue (is_some s) → IsTrue (is_some (segment_after kind size done s))
there_after (Create true) size done s there = refl
there_after (Create false) size done s there = there
there_after (Write page bytes) size done None there = there
there_after (Write page bytes) size done (Some s) there = refl
there_after Sync size done None there = there
there_after Sync size true (Some s) there = refl
there_after Sync size false (Some s) there = refl

there_behind : (calls : List Call) (state : DiskState) (segment : ℕ) → IsTrue (is_some (state segment)) → IsTrue (is_some (after_calls state calls segment))
there_behind [] state segment there = there
there_behind (call ∷ calls) state segment there = there_behind calls (after_call state call) segment (by_test (segment == call.segment))
  where
    by_test : (b : Bool) → IsTrue (is_some (if b then segment_after call.kind call.geometry call.done (state segment) else state segment))
    by_test true = there_after call.kind call.geometry call.done (state segment) there
    by_test false = there

after_calls-append : (front behind : List Call) (state : DiskState) → after_calls state (front ++ behind) ≡ after_calls (after_calls state front) behind
after_calls-append [] behind state = refl
after_calls-append (call ∷ front) behind state = after_calls-append front behind (after_call state call)

-- what was there is there
pub there_now : (state : DiskState) (calls : List Call) (count segment : ℕ) → IsTrue (is_some (after_calls state (take count calls) segment)) → IsTrue (is_some (after_calls state calls segment))
there_now state calls count segment there =
    subst (λ (cs : List Call). IsTrue (is_some (after_calls state cs segment))) (take-append-drop count calls)
    (subst (λ (s : DiskState). IsTrue (is_some (s segment))) (sym (after_calls-append (take count calls) (drop count calls) state)) (there_behind (drop count calls) (after_calls state (take count calls)) segment there))

-- the numbers of a list of segments
pub present_first : (segments : List FirstSegment) (number : ℕ) → is_listed (map (λ (s : FirstSegment). s.number) segments) number ≡ is_some (first_state segments number)
present_first [] number = refl
present_first (s ∷ segments) number = by_test (s.number == number) (present_first segments number)
  where
    by_test : (b : Bool) → is_listed (map (λ (s : FirstSegment). s.number) segments) number ≡ is_some (first_state segments number)
        → (b || is_listed (map (λ (s : FirstSegment). s.number) segments) number) ≡ is_some (option_map durable_segment (if b then Some s else first_at segments number))
    by_test true others = refl
    by_test false others = others

-- a word that was picked is durable or written
word_found : (writes : List (ℕ × List ℕ)) (page n k : ℕ) (durable word : List ℕ) → word ≡ word_of (get_or (writes_to writes page) n durable) k → (word ≡ word_of durable k) ⊎ IsWritten writes page k word
word_found [] page n k durable word is = inl is
word_found (w ∷ writes) page n k durable word is = elim (eqb_tells w.0 page) [
  | inl same ↦ here n (subst (λ (b : Bool). word ≡ word_of (get_or (if b then w.1 ∷ writes_to writes page else writes_to writes page) n durable) k) same.0 is) (λ m. word_found writes page m k durable word) same.1
  | inr other ↦ further (word_found writes page n k durable word (subst (λ (b : Bool). word ≡ word_of (get_or (if b then w.1 ∷ writes_to writes page else writes_to writes page) n durable) k) other.0 is))
]
  where
    further : (word ≡ word_of durable k) ⊎ IsWritten writes page k word → (word ≡ word_of durable k) ⊎ IsWritten (w ∷ writes) page k word
    further (inl same) = inl same
    further (inr written) = inr (inr written)

    here : (n : ℕ) → word ≡ word_of (get_or (w.1 ∷ writes_to writes page) n durable) k → ((m : ℕ) → word ≡ word_of (get_or (writes_to writes page) m durable) k → (word ≡ word_of durable k) ⊎ IsWritten writes page k word)
        → w.0 ≡ page → (word ≡ word_of durable k) ⊎ IsWritten (w ∷ writes) page k word
    here zero is others same = inr (inl (same, is))
    here (suc m) is others same = further (others m is)

word_picked : (writes : List (ℕ × List ℕ)) (page n k : ℕ) (durable word : List ℕ) → word ≡ word_of (numbered_page (writes_to writes page) durable n) k → (word ≡ word_of durable k) ⊎ IsWritten writes page k word
word_picked writes page zero k durable word is = inl is
word_picked writes page (suc n) k durable word is = word_found writes page n k durable word is

left_segment : (choice : Choice) (before : ℕ) (s : Option Segment) (i : Option ImageSegment) → IsPickedSegment choice before s i → MayLeaveSegment s i
left_segment choice before None None picked = tt
left_segment choice before None (Some i) picked = absurd picked
left_segment choice before (Some s) None picked = absurd picked
left_segment choice before (Some s) (Some i) picked = (
  picked.0,
  λ page below. (let at_page = picked.1 page below in record {
    length = at_page.size;
    words = λ k inside. word_picked s.writes page _ k (s.durable page) (word_of (i.page page) k) (at_page.words k inside);
  }),
)

pub MayLeave-picked : (choice : Choice) (state : DiskState) (image : DiskImage) → IsPicked choice state image → MayLeave state image
MayLeave-picked choice state image picked segment = left_segment choice (undecided_before state segment) (state segment) (image segment) (picked segment)

-- the sum of a list
abbrev pub total : List ℕ → ℕ
total [] = 0
total (n ∷ numbers) = n + total numbers

-- no number above their sum is in a list
not_listed-above : (numbers : List ℕ) (number : ℕ) → total numbers < number → is_listed numbers number ≡ false
not_listed-above [] number above = refl
not_listed-above (n ∷ numbers) number above =
    let other : (n == number) ≡ false = ne_eqb n number (λ (same : n ≡ number). omega arith) in
    let above_others : total numbers < number = omega arith in
    ap (λ (b : Bool). b || is_listed numbers number) other ∙ not_listed-above numbers number above_others

-- so finitely many segments are there
pub gone_above : (state : DiskState) (calls : List Call) (numbers : List ℕ) → ((segment : ℕ) → is_listed numbers segment ≡ is_some (after_calls state calls segment)) → (count segment : ℕ) → total numbers < segment
    → after_calls state (take count calls) segment ≡ None
gone_above state calls numbers present count segment above =
    gone (after_calls state (take count calls) segment) (λ there. there_now state calls count segment there)
  where
    never : is_some (after_calls state calls segment) ≡ false
    never = sym (present segment) ∙ not_listed-above numbers segment above

    gone : (s : Option Segment) → (IsTrue (is_some s) → IsTrue (is_some (after_calls state calls segment))) → s ≡ None
    gone None later = refl
    gone (Some s) later = absurd (false≢true (sym never ∙ later refl))

-- a call adds at most one write to its segment
abbrev pub HasFewWrites : ℕ → Option Segment → Type 0
HasFewWrites most s = IfSome s (λ s. length s.writes ≤ most)

few_after : (kind : CallKind) (size most : ℕ) (done : Bool) (s : Option Segment) → HasFewWrites most s → HasFewWrites (suc most) (segment_after kind size done s)
few_after (Create true) size most done s few = omega arith
few_after (Create false) size most done None few = tt
few_after (Create false) size most done (Some s) few = omega (arith, few)
few_after (Write page bytes) size most done None few = tt
few_after (Write page bytes) size most done (Some s) few = omega (arith, few, length_push s.writes (page, bytes.bytes))
few_after Sync size most done None few = tt
few_after Sync size most true (Some s) few = omega arith
few_after Sync size most false (Some s) few = omega (arith, few)

few_within : (few most : ℕ) (s : Option Segment) → few ≤ most → HasFewWrites few s → HasFewWrites most s
few_within few most None less written = tt
few_within few most (Some s) less written = omega (arith, written)

few_behind : (calls : List Call) (state : DiskState) (most segment : ℕ) → HasFewWrites most (state segment) → HasFewWrites (most + length calls) (after_calls state calls segment)
few_behind [] state most segment few = subst (λ (n : ℕ). HasFewWrites n (state segment)) (omega arith) few
few_behind (call ∷ calls) state most segment few =
    let more : suc most + length calls ≡ most + suc (length calls) = omega arith in
    subst (λ (n : ℕ). HasFewWrites n (after_calls (after_call state call) calls segment)) more (few_behind calls (after_call state call) (suc most) segment (by_test (segment == call.segment)))
  where
    by_test : (b : Bool) → HasFewWrites (suc most) (if b then segment_after call.kind call.geometry call.done (state segment) else state segment)
    by_test true = few_after call.kind call.geometry most call.done (state segment) few
    by_test false = few_within most (suc most) (state segment) (omega arith) few

few_at_first : (segment : Option FirstSegment) → HasFewWrites 0 (option_map durable_segment segment)
few_at_first None = tt
few_at_first (Some segment) = omega arith

-- no segment has more writes since its last sync than calls were counted
pub few_writes : (segments : List FirstSegment) (calls : List Call) (moment segment : ℕ) → HasFewWrites (length calls) (after_calls (first_state segments) (take moment calls) segment)
few_writes segments calls moment segment =
    few_within (0 + length (take moment calls)) (length calls) (after_calls (first_state segments) (take moment calls) segment) (omega (arith, length-take moment calls))
    (few_behind (take moment calls) (first_state segments) 0 segment (few_at_first (first_at segments segment)))

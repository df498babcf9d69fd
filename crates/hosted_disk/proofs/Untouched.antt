-- A page that no queued call may have changed reads as at first.
use Rattle.std.specs.Prelude.{IfSome, List, Option, Some, None, [], ◌∷◌, ◌++◌, ◌==◌, ◌&&◌, nat_lt, not, if◌then◌else◌}
use Rattle.std.proofs.Common.{◌≡◌, ◌≢◌, ◌<◌, ◌⊎◌, inl, inr, ℕ, Bool, true, false, refl, sym, ap, ◌∙◌, subst, arith}
use Rattle.std.proofs.lemmas.Bool.{and_from, and_parts, both_ways, eq-eqb, eqb-true, lt-ltb, ltb-true, ne_eqb, not-true, or_cases, or_left, or_right}
use Rattle.segment_disk.specs.declared.disk.Call.{Call}
use Rattle.segment_disk.specs.declared.disk.CallKind.{CallKind}
use Rattle.segment_disk.specs.declared.disk.CallKind.TheVariants.{Create, Sync, Write}
use Rattle.segment_disk.specs.declared.disk.PageBytes.{PageBytes}
use Rattle.segment_disk.specs.Tape.{DiskState, IsPageRead, Segment, after_call, after_calls, after_writes, page_of_segment, segment_after, state_now}
use Rattle.handed_pages.specs.Handed.{comes_before, page_of_log}
use Rattle.handed_pages.specs.declared.page.PageNumber.{PageNumber}
use Rattle.hosted_disk.specs.HostSegments.{HostSegment, host_state}
use Rattle.hosted_disk.specs.Hosted.{tape_since}
use Rattle.hosted_disk.specs.Untouched.{are_within, is_kind_within, leaves_page}
use Rattle.hosted_disk.specs.declared.touched.Touched.{Touched}
use Rattle.hosted_disk.specs.declared.touched.Touched.TheVariants.{More, Nothing, UpTo}

-- ---- pages in order

abbrev Before : PageNumber → PageNumber → Type 0
Before a b = (a.segment < b.segment) ⊎ ((a.segment ≡ b.segment) × (a.page < b.page))

before_parts : (a b : PageNumber) → comes_before a b ≡ true → Before a b
before_parts a b is = split (or_cases _ _ is) where
  split : (nat_lt a.segment b.segment ≡ true)
      ⊎ (((a.segment == b.segment) && nat_lt a.page b.page) ≡ true) → Before a b
  split (inl low) = inl (ltb-true a.segment b.segment low)
  split (inr same) = let p = and_parts _ _ same in
      inr (eqb-true a.segment b.segment p.0, ltb-true a.page b.page p.1)

before_from : (a b : PageNumber) → Before a b → comes_before a b ≡ true
before_from a b (inl low) = or_left _ _ (lt-ltb a.segment b.segment low)
before_from a b (inr same) = or_right _ _
    (and_from _ _ (eq-eqb a.segment b.segment same.0) (lt-ltb a.page b.page same.1))

before_further : (a b c : PageNumber) → Before a b → Before b c → Before a c
before_further a b c (inl low) (inl next) = inl (omega (arith, low, next))
before_further a b c (inl low) (inr next) = let same = next.0 in inl (omega (arith, low, same))
before_further a b c (inr low) (inl next) = let same = low.0 in inl (omega (arith, same, next))
before_further a b c (inr low) (inr next) =
    let s = low.0 in let t = next.0 in let p = low.1 in let q = next.1 in
    inr (s ∙ t, omega (arith, p, q))

not_before : (b : Bool) → (b ≡ true → ⊥) → not b ≡ true
not_before true none = absurd (none refl)
not_before false none = refl

-- what does not lie behind a page does not lie behind a later one
still_not_behind : (a b c : PageNumber) → comes_before a b ≡ true
    → not (comes_before a c) ≡ true → not (comes_before b c) ≡ true
still_not_behind a b c low none = not_before _ (λ is. both_ways _ (not-true _ none)
    (before_from a c (before_further a b c (before_parts a b low) (before_parts b c is))))

-- ---- what is kept of the calls

pub within_push : (t : Touched) (calls : List Call) (call : Call) → are_within t calls ≡ true
    → is_kind_within t call.segment call.kind ≡ true → are_within t (calls ++ call ∷ []) ≡ true
within_push t [] call all one = and_from _ _ one refl
within_push t (c ∷ calls) call all one = let p = and_parts _ _ all in
    and_from _ _ p.0 (within_push t calls call p.1 one)

within_more : (t u : Touched)
    → ((segment : ℕ) (kind : CallKind) → is_kind_within t segment kind ≡ true
    → is_kind_within u segment kind ≡ true)
    → (calls : List Call) → are_within t calls ≡ true → are_within u calls ≡ true
within_more t u grows [] all = refl
within_more t u grows (c ∷ calls) all = let p = and_parts _ _ all in
    and_from _ _ (grows c.segment c.kind p.0) (within_more t u grows calls p.1)

pub all_within_more : (calls : List Call) → are_within More calls ≡ true
all_within_more [] = refl
all_within_more (c ∷ calls) = all_within_more calls

kind_from_none : (number : PageNumber) (segment : ℕ) (kind : CallKind)
    → is_kind_within Nothing segment kind ≡ true → is_kind_within (UpTo number) segment kind ≡ true
kind_from_none number segment Sync is = refl
kind_from_none number segment (Write page bytes) is = absurd (both_ways _ refl is)
kind_from_none number segment (Create made) is = absurd (both_ways _ refl is)

pub within_from_none : (number : PageNumber) (calls : List Call) → are_within Nothing calls ≡ true
    → are_within (UpTo number) calls ≡ true
within_from_none number = within_more Nothing (UpTo number) (kind_from_none number)

kind_further : (last number : PageNumber) → comes_before last number ≡ true → (segment : ℕ)
    (kind : CallKind) → is_kind_within (UpTo last) segment kind ≡ true
    → is_kind_within (UpTo number) segment kind ≡ true
kind_further last number low segment Sync is = refl
kind_further last number low segment (Write page bytes) is =
    still_not_behind last number (record { segment = segment; page = page }) low is
kind_further last number low segment (Create made) is = absurd (both_ways _ refl is)

pub within_further : (last number : PageNumber) → comes_before last number ≡ true
    → (calls : List Call) → are_within (UpTo last) calls ≡ true
    → are_within (UpTo number) calls ≡ true
within_further last number low = within_more (UpTo last) (UpTo number) (kind_further last number low)

-- a page does not lie behind itself
pub not_behind_itself : (n : PageNumber) → not (comes_before n n) ≡ true
not_behind_itself n = not_before _ (λ is. itself (before_parts n n is)) where
  itself : Before n n → ⊥
  itself (inl low) = omega (arith, low)
  itself (inr low) = let p = low.1 in omega (arith, p)

-- ---- what is read

writes_push : (writes : List (ℕ × List ℕ)) (w : ℕ × List ℕ) (page : ℕ) (bytes : List ℕ)
    → after_writes (writes ++ w ∷ []) page bytes
    ≡ (if w.0 == page then w.1 else after_writes writes page bytes)
writes_push [] w page bytes = refl
writes_push (v ∷ writes) w page bytes =
    writes_push writes w page (if v.0 == page then v.1 else bytes)

other_write : (s : Option Segment) (page other size : ℕ) (bytes : PageBytes) (done : Bool)
    → other ≢ page
    → page_of_segment (segment_after (Write other bytes) size done s) page ≡ page_of_segment s page
other_write None page other size bytes done differ = refl
other_write (Some s) page other size bytes done differ =
    ap (λ (x : List ℕ). if nat_lt page s.pages then Some x else None)
    (writes_push s.writes (other, bytes.bytes) page (s.durable page)
    ∙ rw (ne_eqb other page differ) refl)

synced : (s : Option Segment) (page size : ℕ) (done : Bool)
    → page_of_segment (segment_after Sync size done s) page ≡ page_of_segment s page
synced None page size done = refl
synced (Some s) page size true = refl
synced (Some s) page size false = refl

-- a call of the page's own segment
kept_here : (t : Touched) (n : PageNumber) → leaves_page t n ≡ true → (kind : CallKind)
    → is_kind_within t n.segment kind ≡ true → (size : ℕ) (done : Bool) (s : Option Segment)
    → page_of_segment (segment_after kind size done s) n.page ≡ page_of_segment s n.page
kept_here More n leaves kind within size done s = absurd (both_ways _ refl leaves)
kept_here Nothing n leaves Sync within size done s = synced s n.page size done
kept_here Nothing n leaves (Write page bytes) within size done s =
    absurd (both_ways _ refl within)
kept_here Nothing n leaves (Create made) within size done s = absurd (both_ways _ refl within)
kept_here (UpTo last) n leaves Sync within size done s = synced s n.page size done
kept_here (UpTo last) n leaves (Write page bytes) within size done s =
    other_write s n.page page size bytes done (λ same.
    both_ways _ (not-true _ within) (subst (λ p.
    comes_before last (record { segment = n.segment; page = p }) ≡ true) (sym same) leaves))
kept_here (UpTo last) n leaves (Create made) within size done s = absurd (both_ways _ refl within)

kept_by : (t : Touched) (n : PageNumber) → leaves_page t n ≡ true → (state : DiskState)
    (call : Call) → is_kind_within t call.segment call.kind ≡ true
    → (b : Bool) → (n.segment == call.segment) ≡ b
    → page_of_log (after_call state call) n ≡ page_of_log state n
kept_by t n leaves state call within true here =
    let same = eqb-true n.segment call.segment here in
    let kept : page_of_segment (segment_after call.kind call.geometry call.done (state n.segment))
    n.page ≡ page_of_log state n =
    kept_here t n leaves call.kind
    (subst (λ s. is_kind_within t s call.kind ≡ true) (sym same) within) call.geometry call.done
    (state n.segment) in rw here kept
kept_by t n leaves state call within false here = rw here refl

pub untouched : (t : Touched) (n : PageNumber) → leaves_page t n ≡ true → (calls : List Call)
    → are_within t calls ≡ true → (state : DiskState)
    → page_of_log (after_calls state calls) n ≡ page_of_log state n
untouched t n leaves [] within state = refl
untouched t n leaves (call ∷ calls) within state = let p = and_parts _ _ within in
    untouched t n leaves calls p.1 (after_call state call)
    ∙ kept_by t n leaves state call p.0 (n.segment == call.segment) refl

-- so what was read of the disk as it was at first is what is read of it behind the calls
pub read_since : (first : Option (List HostSegment)) (calls : List Call) (t : Touched)
    (n : PageNumber) (there : Bool) (bytes : List ℕ) → leaves_page t n ≡ true
    → are_within t calls ≡ true
    → IfSome first (λ segments. IsPageRead (page_of_log (host_state segments) n) there bytes)
    → IfSome (tape_since first calls)
    (λ tape. IsPageRead (page_of_log (state_now tape) n) there bytes)
read_since None calls t n there bytes leaves within read = read
read_since (Some segments) calls t n there bytes leaves within read =
    subst (λ (p : Option (List ℕ)). IsPageRead p there bytes)
    (sym (untouched t n leaves calls within (host_state segments))) read

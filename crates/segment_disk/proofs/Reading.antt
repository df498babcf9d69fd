-- A loop over the counted calls keeps of a segment how many pages it has, and which write to a page was the last.
use Rattle.std.proofs.Common.{◌≡◌, ◌≢◌, ℕ, zero, suc, ◌+◌, ◌/◌, ◌<◌, Bool, true, false, List, [], ◌∷◌, ◌++◌, length, get_or, take, Option, Some, None, option_map, refl, sym, ap, ◌∙◌, subst, ◌==◌, nat_lt, if◌then◌else◌, Bor, arith}
use Rattle.std.proofs.lemmas.Bool.{eq-eqb, ne_eqb, le-ltb}
use Rattle.std.proofs.lemmas.List.{take_more}
use Rattle.segment_disk.specs.declared.disk.Call.{Call}
use Rattle.segment_disk.specs.declared.disk.CallKind.TheVariants.{Create, Write, Sync}
use Rattle.segment_disk.specs.declared.disk.PageBytes.{PageBytes}
use Rattle.std.specs.List.{slice_get}
use Rattle.std.specs.Option.{option_copied}
use Rattle.segment_disk.specs.declared.memory.first.FirstSegment.{FirstSegment}
use Rattle.segment_disk.specs.First.{page_at, durable_segment, first_at, first_state}
use Rattle.segment_disk.specs.Tape.{Segment, DiskState, zero_page, after_writes, page_as_read, segment_after, after_call, after_calls, page_of_segment, IsPageRead}

-- the bytes that the last write has, zeros where there is none
abbrev pub bytes_of : Option (Bor PageBytes) → List ℕ
bytes_of None = zero_page
bytes_of (Some written) = written.now.bytes

-- what the loop keeps: 0 pages where the segment is not there
abbrev pub IsKept : Option Segment → ℕ → ℕ → Option (Bor PageBytes) → Type 0
IsKept None page pages last = pages ≡ 0
IsKept (Some s) page pages last = (pages ≡ s.pages) × (page_as_read s page ≡ bytes_of last)

pub after_calls-push : (state : DiskState) (calls : List Call) (call : Call) → after_calls state (calls ++ call ∷ []) ≡ after_call (after_calls state calls) call
after_calls-push state [] call = refl
after_calls-push state (c ∷ calls) call = after_calls-push (after_call state c) calls call

after_writes-push : (writes : List (ℕ × List ℕ)) (w : ℕ × List ℕ) (page : ℕ) (bytes : List ℕ) → after_writes (writes ++ w ∷ []) page bytes ≡ (if w.0 == page then w.1 else after_writes writes page bytes)
after_writes-push [] w page bytes = refl
after_writes-push (v ∷ writes) w page bytes = after_writes-push writes w page (if v.0 == page then v.1 else bytes)

module _ (page pages : ℕ) (last : Option (Bor PageBytes)) where
  -- a segment of zeros
  pub kept_create : (s : Option Segment) (size : ℕ) (done : Bool) → IsKept (segment_after (Create true) size done s) page (size / 8192) None
  kept_create s size done = (refl, refl)

  pub kept_failed_create : (s : Option Segment) (size : ℕ) (done : Bool) → IsKept s page pages last → IsKept (segment_after (Create false) size done s) page pages last
  kept_failed_create s size done kept = kept

  pub kept_write : (s : Option Segment) (size : ℕ) (done : Bool) (bytes : Bor PageBytes) → IsKept s page pages last → IsKept (segment_after (Write page bytes.now) size done s) page pages (Some bytes)
  kept_write None size done bytes kept = kept
  kept_write (Some s) size done bytes kept = (kept.0, after_writes-push s.writes (page, bytes.now.bytes) page (s.durable page) ∙ rw (eq-eqb page page refl) refl)

  pub kept_other_write : (s : Option Segment) (size : ℕ) (done : Bool) (other : ℕ) (bytes : PageBytes) → other ≢ page → IsKept s page pages last → IsKept (segment_after (Write other bytes) size done s) page pages last
  kept_other_write None size done other bytes differ kept = kept
  kept_other_write (Some s) size done other bytes differ kept = (kept.0, after_writes-push s.writes (other, bytes.bytes) page (s.durable page) ∙ rw (ne_eqb other page differ) kept.1)

  pub kept_sync : (s : Option Segment) (size : ℕ) (done : Bool) → IsKept s page pages last → IsKept (segment_after Sync size done s) page pages last
  kept_sync None size done kept = kept
  kept_sync (Some s) size true kept = kept
  kept_sync (Some s) size false kept = kept

-- the state after one call more of the list
state_more : (start : DiskState) (calls : List Call) (i : ℕ) (call : Call) → i < length calls → call ≡ get_or calls i call
    → after_calls start (take (i + 1) calls) ≡ after_call (after_calls start (take i calls)) call
state_more start calls i call within is =
    ap (after_calls start) (take_more calls i call within ∙ ap (λ (c : Call). take i calls ++ c ∷ []) (sym is)) ∙ after_calls-push start (take i calls) call

-- what it leaves of its own segment
state_here : (start : DiskState) (calls : List Call) (i segment : ℕ) (call : Call) → i < length calls → call ≡ get_or calls i call → call.segment ≡ segment
    → after_calls start (take (i + 1) calls) segment ≡ segment_after call.kind call.geometry call.done (after_calls start (take i calls) segment)
state_here start calls i segment call within is here =
    ap (λ (state : DiskState). state segment) (state_more start calls i call within is) ∙ rw (eq-eqb segment call.segment (sym here)) refl

-- and of each other
state_other : (start : DiskState) (calls : List Call) (i segment : ℕ) (call : Call) → i < length calls → call ≡ get_or calls i call → call.segment ≢ segment
    → after_calls start (take (i + 1) calls) segment ≡ after_calls start (take i calls) segment
state_other start calls i segment call within is other =
    ap (λ (state : DiskState). state segment) (state_more start calls i call within is) ∙ rw (ne_eqb segment call.segment (λ same. other (sym same))) refl

-- what is kept after one call more of the list
module _ (start : DiskState) (calls : List Call) (i segment page pages : ℕ) (last : Option (Bor PageBytes)) (call : Call) (within : i < length calls) (is : call ≡ get_or calls i call) where
  pub kept_here : call.segment ≡ segment → IsKept (segment_after call.kind call.geometry call.done (after_calls start (take i calls) segment)) page pages last
      → IsKept (after_calls start (take (i + 1) calls) segment) page pages last
  kept_here here kept = subst (λ (s : Option Segment). IsKept s page pages last) (sym (state_here start calls i segment call within is here)) kept

  pub kept_elsewhere : call.segment ≢ segment → IsKept (after_calls start (take i calls) segment) page pages last
      → IsKept (after_calls start (take (i + 1) calls) segment) page pages last
  kept_elsewhere other kept = subst (λ (s : Option Segment). IsKept s page pages last) (sym (state_other start calls i segment call within is other)) kept

-- what is kept is what a read gives
pub reads_kept : (s : Option Segment) (page pages : ℕ) (last : Option (Bor PageBytes)) (bytes : List ℕ) → IsKept s page pages last → bytes ≡ bytes_of last
    → IsPageRead (page_of_segment s page) (nat_lt page pages) bytes
reads_kept None page pages last bytes kept is = le-ltb page pages (omega arith)
reads_kept (Some s) page pages last bytes kept is = rw kept.0 (by_test (nat_lt page s.pages))
  where
    by_test : (b : Bool) → IsPageRead (if b then Some (page_as_read s page) else None) b bytes
    by_test true = (refl, is ∙ sym kept.1)
    by_test false = refl

-- the bytes of a page, zeros where there is none
bytes_or_zeros : Option PageBytes → List ℕ
bytes_or_zeros None = zero_page
bytes_or_zeros (Some page) = page.bytes

bytes_of-copied : (last : Option (Bor PageBytes)) → bytes_of last ≡ bytes_or_zeros (option_copied last)
unfolding bytes_or_zeros
bytes_of-copied None = refl
bytes_of-copied (Some page) = refl

page_at-got : (pages : List PageBytes) (page : ℕ) → page_at pages page ≡ bytes_or_zeros (slice_get pages page)
unfolding bytes_or_zeros
page_at-got [] page = refl
page_at-got (p ∷ pages) zero = refl
page_at-got (p ∷ pages) (suc page) = page_at-got pages page

-- a segment that was there at first
pub kept_first : (segments : List FirstSegment) (number page pages : ℕ) (last : Option (Bor PageBytes)) (segment : FirstSegment)
    → Some segment ≡ first_at segments number → pages ≡ length segment.pages.items → option_copied last ≡ slice_get segment.pages.items page
    → IsKept (first_state segments number) page pages last
kept_first segments number page pages last segment is count got =
    subst (λ (s : Option FirstSegment). IsKept (option_map durable_segment s) page pages last) is
    (count, page_at-got segment.pages.items page ∙ sym (bytes_of-copied last ∙ ap bytes_or_zeros got))

-- and one that was not
pub kept_none : (segments : List FirstSegment) (number page pages : ℕ) (last : Option (Bor PageBytes))
    → None ≡ first_at segments number → pages ≡ 0 → IsKept (first_state segments number) page pages last
kept_none segments number page pages last is count =
    subst (λ (s : Option FirstSegment). IsKept (option_map durable_segment s) page pages last) is count

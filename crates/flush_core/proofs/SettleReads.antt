-- What is read behind calls that write other pages.
use Rattle.std.proofs.Common.{◌≡◌, ℕ, zero, suc, ◌+◌, ◌<◌, ◌≤◌, inl, inr, Bool, true, false, List, [], ◌∷◌, ◌++◌, drop, Option, Some, None, IfSome, refl, sym, ap, subst, ◌∙◌, ◌==◌, if◌then◌else◌, arith}
use Rattle.std.specs.Prelude.{nat_lt, not}
use Rattle.std.specs.List.{AllByRecursion, flat_map, list_any, range_with_len}
use Rattle.std.proofs.lemmas.Bool.{cases_Bool, ne_eqb}
use Rattle.segment_disk.specs.declared.disk.Call.{Call}
use Rattle.segment_disk.specs.declared.disk.CallKind.{CallKind}
use Rattle.segment_disk.specs.declared.disk.CallKind.TheVariants.{Create, Write, Sync}
use Rattle.segment_disk.specs.Tape.{Segment, DiskState, Tape, after_call, after_calls, after_writes, page_of_segment, segment_after, state_now}
use Rattle.flush_core.specs.Calls.{with_calls}
use Rattle.flush_core.specs.Settled.{clear_calls, clear_from, first_to_clear, kept_of, page_clears, segment_clears, sync_calls}
use Rattle.flush_core.proofs.CallLaws.{holds-with_calls}
use Rattle.flush_core.proofs.StateLaws.{after_each, after_writes-push}

-- a call leaves a page as it is: it makes no segment, and writes another page if any
abbrev pub KindSpares : ℕ → ℕ → ℕ → CallKind → Type 0
KindSpares segment page at (Create made) = ⊥
KindSpares segment page at (Write number bytes) = (segment ≡ at) → (number ≡ page) → ⊥
KindSpares segment page at Sync = Unit {0}

abbrev pub AllSpare : ℕ → ℕ → List Call → Type 0
AllSpare segment page calls = AllByRecursion (λ (c : Call). KindSpares segment page c.segment c.kind) calls

pub spare_both : (segment page : ℕ) (xs ys : List Call) → AllSpare segment page xs → AllSpare segment page ys → AllSpare segment page (xs ++ ys)
spare_both segment page [] ys first second = second
spare_both segment page (x ∷ xs) ys first second = (first.0, spare_both segment page xs ys first.1 second)

-- ---- a page that is spared reads as before

module _ (page : ℕ) where
  spared_here : (kind : CallKind) (size : ℕ) (done : Bool) (s : Option Segment) → ((number : ℕ) (bytes : List ℕ) → KindSpares 0 page 0 kind) → page_of_segment (segment_after kind size done s) page ≡ page_of_segment s page
  spared_here (Create made) size done s spares = absurd (spares 0 [])
  spared_here (Write number bytes) size done None spares = refl
  spared_here (Write number bytes) size done (Some s) spares =
      ap (λ (l : List ℕ). if nat_lt page s.pages then Some l else None)
      (after_writes-push s.writes (number, bytes.bytes) page (s.durable page) ∙ ap (λ b. if b then bytes.bytes else after_writes s.writes page (s.durable page)) (ne_eqb number page (λ same. spares 0 [] refl same)))
  spared_here Sync size done None spares = refl
  spared_here Sync size true (Some s) spares = refl
  spared_here Sync size false (Some s) spares = refl

moved_spare : (segment page at : ℕ) (kind : CallKind) → segment ≡ at → KindSpares segment page at kind → KindSpares 0 page 0 kind
moved_spare segment page at (Create made) same spares = spares
moved_spare segment page at (Write number bytes) same spares = λ _ here. spares same here
moved_spare segment page at Sync same spares = tt

spared_by : (segment page : ℕ) (state : DiskState) (call : Call) → KindSpares segment page call.segment call.kind → page_of_segment (after_call state call segment) page ≡ page_of_segment (state segment) page
spared_by segment page state call spares =
    after_each state call (λ (s : Option Segment). page_of_segment s page ≡ page_of_segment (state segment) page) segment
    (λ same. spared_here page call.kind call.geometry call.done (state segment) (λ _ _. moved_spare segment page call.segment call.kind same spares)) (λ _. refl)

pub reads_spared : (segment page : ℕ) (calls : List Call) (state : DiskState) → AllSpare segment page calls → page_of_segment (after_calls state calls segment) page ≡ page_of_segment (state segment) page
reads_spared segment page [] state spares = refl
reads_spared segment page (call ∷ calls) state spares = reads_spared segment page calls (after_call state call) spares.1 ∙ spared_by segment page state call spares.0

-- ---- which calls spare which pages

pub syncs_spare : (size segment page : ℕ) (xs : List ℕ) → AllSpare segment page (sync_calls size xs)
syncs_spare size segment page [] = tt
syncs_spare size segment page (x ∷ xs) = (tt, syncs_spare size segment page xs)

module _ (size at segment page : ℕ) where
  pub clear_spares : (number from : ℕ) (here : Option (List ℕ)) → ((segment ≡ at) → (number ≡ page) → ⊥) → AllSpare segment page (clear_calls size at number from here)
  clear_spares number from None other = tt
  clear_spares number from (Some bytes) other = elim (cases_Bool (list_any (λ b. not (b == 0)) (drop from bytes))) [
    | inl some ↦ rw some (other, tt)
    | inr none ↦ rw none tt
  ]

  pub pages_spare : (kept : ℕ) (state : DiskState) (from count : ℕ) → ((number : ℕ) → from ≤ number → number < from + count → (segment ≡ at) → (number ≡ page) → ⊥) → AllSpare segment page (page_clears size at kept state from count)
  pages_spare kept state from zero other = tt
  pages_spare kept state from (suc count) other =
      spare_both segment page (clear_calls size at from (clear_from kept from) (page_of_segment (state at) from)) (page_clears size at kept state (from + 1) count)
      (clear_spares from (clear_from kept from) (page_of_segment (state at) from) (other from (omega arith) (omega arith)))
      (pages_spare kept state (from + 1) count (λ number low high. other number (omega arith) (omega arith)))

pub segments_spare : (size end segment page : ℕ) (state : DiskState) (from count : ℕ) → ((number : ℕ) → from ≤ number → number < from + count → segment ≡ number → ⊥) → AllSpare segment page (flat_map (segment_clears size end state) (range_with_len from count))
segments_spare size end segment page state from zero other = tt
segments_spare size end segment page state from (suc count) other =
    spare_both segment page (segment_clears size end state from) (flat_map (segment_clears size end state) (range_with_len (from + 1) count))
    (pages_spare size from segment page (kept_of size end from) state (first_to_clear size (kept_of size end from)) _ (λ number low high same at. other from (omega arith) (omega arith) same))
    (segments_spare size end segment page state (from + 1) count (λ number low high. other number (omega arith) (omega arith)))

-- ---- so the calls that are said of what is read stay the same

page_clears_alike : (size segment kept : ℕ) (one other : DiskState) (from count : ℕ) → ((page : ℕ) → page_of_segment (one segment) page ≡ page_of_segment (other segment) page) → page_clears size segment kept one from count ≡ page_clears size segment kept other from count
page_clears_alike size segment kept one other from zero same = refl
page_clears_alike size segment kept one other from (suc count) same =
    ap (λ (p : Option (List ℕ)). clear_calls size segment from (clear_from kept from) p ++ page_clears size segment kept one (from + 1) count) (same from)
    ∙ ap (λ (l : List Call). clear_calls size segment from (clear_from kept from) (page_of_segment (other segment) from) ++ l) (page_clears_alike size segment kept one other (from + 1) count same)

pub segment_clears_alike : (size end segment : ℕ) (one other : DiskState) → ((page : ℕ) → page_of_segment (one segment) page ≡ page_of_segment (other segment) page) → segment_clears size end one segment ≡ segment_clears size end other segment
segment_clears_alike size end segment one other same = page_clears_alike size segment (kept_of size end segment) one other (first_to_clear size (kept_of size end segment)) _ same

-- what holds behind calls that were made
pub behind_calls : (P : Tape → DiskState → Type 0) (old mid : Option Tape) (said : DiskState → List Call) (calls : List Call) → IfSome old (λ t. calls ≡ said (state_now t)) → mid ≡ with_calls old calls
    → ((t : Tape) → P t (after_calls (state_now t) (said (state_now t)))) → IfSome old (λ t. IfSome mid (λ u. P t (state_now u)))
behind_calls P None mid said calls are made holds = tt
behind_calls P (Some t) mid said calls are made holds =
    subst (λ (m : Option Tape). IfSome m (λ u. P t (state_now u))) (sym made)
    (holds-with_calls (P t) (Some t) calls (subst (λ (l : List Call). P t (after_calls (state_now t) l)) (sym are) (holds t)))

-- Reading pages one behind another: which of them are to be cleared.
use Rattle.std.proofs.Common.{◌≡◌, ℕ, ◌+◌, ◌-◌, ◌<◌, ◌≤◌, inl, inr, All, Bool, true, false, List, [], ◌∷◌, ◌++◌, length, map, Option, Some, None, IfErr, IfSome, Result, Ok, Err, sym, ap, subst, ◌∙◌, if◌then◌else◌, arith}
use Rattle.std.specs.Prelude.{nat_lt}
use Rattle.std.specs.List.{filter, flat_map, range_with_len}
use Rattle.std.proofs.lemmas.Bool.{cases_Bool, lt-ltb, ltb-true}
use Rattle.std.proofs.lemmas.Grind.{flat_map-append}
use Rattle.std.proofs.lemmas.List.{append-nil, append_assoc, length-append, map-append}
use Rattle.std.proofs.lemmas.List.Elements.{All-push, All-same, filter-append}
use Rattle.segment_disk.specs.Tape.{DiskState, Tape, IsNotMade, state_now}
use Rattle.flush_core.specs.declared.planning.PlannedPage.{PlannedPage}
use Rattle.flush_core.specs.declared.settling.SettleFault.{SettleFault}
use Rattle.flush_core.specs.declared.settling.SettleFault.TheVariants.{Memory, Disk}
use Rattle.flush_core.specs.PlannedPages.{HasPlanCause, is_to_clear, page_planned, planned_from, planned_in}
use Rattle.flush_core.specs.Settled.{TellsSettleFault, has_calls, segment_clears, segments_cleared}
use Rattle.flush_core.proofs.PlanLists.{has_calls_planned}
use Rattle.flush_core.proofs.SettleCalls.{range_more}

-- ---- an item that is put, or not

pub all_put : {A : Type 0} (P : A → Type 0) (xs : List A) (y : A) (b : Bool) → All P xs → P y → All P (xs ++ (if b then y ∷ [] else []))
all_put P xs y true all one = All-push P xs y all one
all_put P xs y false all one = All-same P (xs ++ []) xs (append-nil xs) all

-- what is told behind a read is told before it
told_before : (P : Tape → Type 0) (old mid : Option Tape) → mid ≡ old → IfSome mid P → IfSome old P
told_before P old mid same told = subst (λ (o : Option Tape). IfSome o P) same told

-- two facts of a tape give a third
pub both_told : (P Q R : Tape → Type 0) (tape : Option Tape) → ((t : Tape) → P t → Q t → R t) → IfSome tape P → IfSome tape Q → IfSome tape R
both_told P Q R None more one two = tt
both_told P Q R (Some t) more one two = more t one two

-- ---- the pages of a segment

module _ (size segment kept first number : ℕ) (low : first ≤ number) where
  pages_more : (state : DiskState) → planned_from size segment kept state first (number + 1 - first) ≡ planned_from size segment kept state first (number - first) ++ filter (is_to_clear size state) (page_planned segment kept number ∷ [])
  pages_more state =
      let count : number + 1 - first ≡ number - first + 1 = omega (arith, low) in
      let at : first + (number - first) ≡ number = omega (arith, low) in
      let range : range_with_len first (number + 1 - first) ≡ range_with_len first (number - first) ++ number ∷ [] = ap (range_with_len first) count ∙ range_more first (number - first) ∙ ap (λ (x : ℕ). range_with_len first (number - first) ++ x ∷ []) at in
      ap (λ (l : List ℕ). filter (is_to_clear size state) (map (page_planned segment kept) l)) range
      ∙ ap (filter (is_to_clear size state)) (map-append (page_planned segment kept) (range_with_len first (number - first)) (number ∷ []))
      ∙ filter-append (is_to_clear size state) (map (page_planned segment kept) (range_with_len first (number - first))) (page_planned segment kept number ∷ [])

  pub page_read : (old mid : Option Tape) → mid ≡ old → (base items later : List PlannedPage) (page : PlannedPage) → page ≡ page_planned segment kept number → IfSome old (λ t. items ≡ base ++ planned_from size segment kept (state_now t) first (number - first))
      → IfSome mid (λ u. later ≡ items ++ filter (is_to_clear size (state_now u)) (page ∷ [])) → IfSome old (λ t. later ≡ base ++ planned_from size segment kept (state_now t) first (number + 1 - first))
  page_read old mid same base items later page is so_far now =
      both_told (λ t. items ≡ base ++ planned_from size segment kept (state_now t) first (number - first)) (λ t. later ≡ items ++ filter (is_to_clear size (state_now t)) (page ∷ [])) (λ t. later ≡ base ++ planned_from size segment kept (state_now t) first (number + 1 - first)) old
      (λ t before here.
      here ∙ ap (λ (p : PlannedPage). items ++ filter (is_to_clear size (state_now t)) (p ∷ [])) is
      ∙ ap (λ (l : List PlannedPage). l ++ filter (is_to_clear size (state_now t)) (page_planned segment kept number ∷ [])) before
      ∙ append_assoc base (planned_from size segment kept (state_now t) first (number - first)) (filter (is_to_clear size (state_now t)) (page_planned segment kept number ∷ []))
      ∙ ap (λ (l : List PlannedPage). base ++ l) (sym (pages_more (state_now t))))
      so_far (told_before (λ t. later ≡ items ++ filter (is_to_clear size (state_now t)) (page ∷ [])) old mid same now)

-- ---- the segments

module _ (size end n : ℕ) (old mid : Option Tape) (same : mid ≡ old) where
  range_is : range_with_len 1 (n + 1) ≡ range_with_len 1 n ++ (n + 1) ∷ []
  range_is = range_more 1 n ∙ ap (λ (x : ℕ). range_with_len 1 n ++ x ∷ []) (omega arith)

  in_all : (state : DiskState) → flat_map (planned_in size end state) (range_with_len 1 (n + 1)) ≡ flat_map (planned_in size end state) (range_with_len 1 n) ++ planned_in size end state (n + 1)
  in_all state =
      ap (flat_map (planned_in size end state)) range_is ∙ flat_map-append (planned_in size end state) (range_with_len 1 n) ((n + 1) ∷ [])
      ∙ ap (λ (l : List PlannedPage). flat_map (planned_in size end state) (range_with_len 1 n) ++ l) (append-nil (planned_in size end state (n + 1)))

  pub segments_read : (items later : List PlannedPage) → IfSome old (λ t. items ≡ flat_map (planned_in size end (state_now t)) (range_with_len 1 n)) → IfSome mid (λ u. later ≡ items ++ planned_in size end (state_now u) (n + 1))
      → IfSome old (λ t. later ≡ flat_map (planned_in size end (state_now t)) (range_with_len 1 (n + 1)))
  segments_read items later so_far now =
      both_told (λ t. items ≡ flat_map (planned_in size end (state_now t)) (range_with_len 1 n)) (λ t. later ≡ items ++ planned_in size end (state_now t) (n + 1)) (λ t. later ≡ flat_map (planned_in size end (state_now t)) (range_with_len 1 (n + 1))) old
      (λ t before here. here ∙ ap (λ (l : List PlannedPage). l ++ planned_in size end (state_now t) (n + 1)) before ∙ sym (in_all (state_now t)))
      so_far (told_before (λ t. later ≡ items ++ planned_in size end (state_now t) (n + 1)) old mid same now)

  cleared_more : (state : DiskState) → segments_cleared size end state (n + 1) ≡ segments_cleared size end state n ++ (if has_calls (segment_clears size end state (n + 1)) then (n + 1) ∷ [] else [])
  cleared_more state = ap (filter (λ segment. has_calls (segment_clears size end state segment))) range_is ∙ filter-append (λ segment. has_calls (segment_clears size end state segment)) (range_with_len 1 n) ((n + 1) ∷ [])

  -- a segment is listed where pages of it are
  has_more : (items more : List PlannedPage) → nat_lt (length items) (length (items ++ more)) ≡ nat_lt 0 (length more)
  has_more items [] = ap (λ (l : List PlannedPage). nat_lt (length items) (length l)) (append-nil items) ∙ not_less (length items)
    where
      not_less : (n : ℕ) → nat_lt n n ≡ false
      not_less n = elim (cases_Bool (nat_lt n n)) [
        | inl less ↦ absurd (omega (arith, ltb-true n n less))
        | inr none ↦ none
      ]
  has_more items (x ∷ more) =
      let longer : length items < length (items ++ x ∷ more) = omega (arith, length-append items (x ∷ more)) in
      lt-ltb (length items) (length (items ++ x ∷ more)) longer ∙ sym (lt-ltb 0 (length (x ∷ more)) (omega arith))

  pub segments_listed : (items later : List PlannedPage) (listed listed_later : List ℕ) (is_put : Bool) → is_put ≡ nat_lt (length items) (length later) → listed_later ≡ listed ++ (if is_put then (n + 1) ∷ [] else [])
      → IfSome old (λ t. listed ≡ segments_cleared size end (state_now t) n) → IfSome mid (λ u. later ≡ items ++ planned_in size end (state_now u) (n + 1)) → IfSome old (λ t. listed_later ≡ segments_cleared size end (state_now t) (n + 1))
  segments_listed items later listed listed_later is_put put_is put so_far now =
      both_told (λ t. listed ≡ segments_cleared size end (state_now t) n) (λ t. later ≡ items ++ planned_in size end (state_now t) (n + 1)) (λ t. listed_later ≡ segments_cleared size end (state_now t) (n + 1)) old
      (λ t before here.
      put ∙ ap (λ (l : List ℕ). l ++ (if is_put then (n + 1) ∷ [] else [])) before
      ∙ ap (λ (b : Bool). segments_cleared size end (state_now t) n ++ (if b then (n + 1) ∷ [] else [])) (put_is ∙ ap (λ (l : List PlannedPage). nat_lt (length items) (length l)) here ∙ has_more items (planned_in size end (state_now t) (n + 1)) ∙ has_calls_planned size end (state_now t) (n + 1))
      ∙ sym (cleared_more (state_now t)))
      so_far (told_before (λ t. later ≡ items ++ planned_in size end (state_now t) (n + 1)) old mid same now)

-- ---- why it was not planned

pub tells_unplanned : {T : Type 0} (result : Result T SettleFault) (old new : Option Tape) (m0 m1 f0 f1 : ℕ) → IsNotMade old new m0 m1 → HasPlanCause f0 f1 result → IfErr result (TellsSettleFault old new m0 m1 f0 f1)
tells_unplanned (Ok planned) old new m0 m1 f0 f1 same cause = tt
tells_unplanned (Err Memory) old new m0 m1 f0 f1 same cause = (same, cause)
tells_unplanned (Err (Disk faults)) old new m0 m1 f0 f1 same cause = cause

-- Planned pages are cleared one behind another.
use Rattle.std.proofs.Common.{◌≡◌, ℕ, ◌+◌, ◌<◌, inl, inr, Bool, true, false, List, [], ◌∷◌, ◌++◌, length, take, drop, get_or, Option, Some, None, IfSome, Result, MatchResult, OnErr, OnOk, Ok, Err, refl, sym, ap, subst, ◌∙◌, ◌==◌, if◌then◌else◌}
use Rattle.std.specs.Prelude.{not}
use Rattle.std.specs.List.{AllByRecursion, flat_map, list_any}
use Rattle.std.proofs.lemmas.Bool.{cases_Bool, true≢false}
use Rattle.std.proofs.lemmas.List.{drop_more, take-append-drop, take_more}
use Rattle.segment_disk.specs.declared.disk.Call.{Call}
use Rattle.segment_disk.specs.Tape.{DiskState, Tape, IsPageRead, after_calls, page_of_segment, state_now, write_call}
use Rattle.flush_core.specs.declared.planning.PlannedPage.{PlannedPage}
use Rattle.flush_core.specs.Calls.{with_calls}
use Rattle.flush_core.specs.PlannedPages.{AreToClear, Rise, is_to_clear, planned_clears}
use Rattle.flush_core.specs.Settled.{MakesCalls, StopsCalls, clear_calls, cleared, has_calls}
use Rattle.flush_core.proofs.GrowingTapes.{with_calls-none}
use Rattle.flush_core.proofs.PlanLists.{all_at, front_spares}
use Rattle.flush_core.proofs.PlanReads.{both_told}
use Rattle.flush_core.proofs.SettleCalls.{Agree, makes_as, makes_more, stops_among, stops_as}
use Rattle.flush_core.proofs.SettleReads.{behind_calls, reads_spared}

-- a page that is to be cleared is written so
is_cleared : (size segment page from : ℕ) (buffer : List ℕ) (here : Option (List ℕ)) (there : Bool) (bytes : List ℕ) → has_calls (clear_calls size segment page from here) ≡ true → bytes ≡ cleared from buffer → IsPageRead here there buffer
    → write_call size segment page bytes ∷ [] ≡ clear_calls size segment page from here
is_cleared size segment page from buffer None there bytes some same read = absurd (true≢false (sym some))
is_cleared size segment page from buffer (Some old) there bytes some same read = elim (cases_Bool (list_any (λ b. not (b == 0)) (drop from old))) [
  | inl any ↦ (let put : bytes ≡ cleared from old = same ∙ ap (cleared from) read.1 in rw (any, put) refl)
  | inr none ↦ (let nothing : false ≡ true = subst (λ (b : Bool). has_calls (if b then write_call size segment page (cleared from old) ∷ [] else []) ≡ true) none some in absurd (true≢false (sym nothing)))
]

pub told_cleared : (size : ℕ) (planned : PlannedPage) (tape : Option Tape) (buffer : List ℕ) (there : Bool) (bytes : List ℕ) → bytes ≡ cleared planned.from buffer → IfSome tape (λ t. is_to_clear size (state_now t) planned ≡ true)
    → IfSome tape (λ t. IsPageRead (page_of_segment (state_now t planned.segment) planned.page) there buffer) → IfSome tape (λ t. write_call size planned.segment planned.page bytes ∷ [] ≡ planned_clears size (state_now t) planned)
told_cleared size planned tape buffer there bytes same to read =
    both_told (λ t. is_to_clear size (state_now t) planned ≡ true) (λ t. IsPageRead (page_of_segment (state_now t planned.segment) planned.page) there buffer) (λ t. write_call size planned.segment planned.page bytes ∷ [] ≡ planned_clears size (state_now t) planned) tape
    (λ t some here. is_cleared size planned.segment planned.page planned.from buffer (page_of_segment (state_now t planned.segment) planned.page) there bytes some same here) to read

-- ---- by how a call answered

pub on_ok_of : {T E : Type 0} (result : Result T E) (P : T → Type 0) (F : E → Type 0) → MatchResult result P F → (X : Type 0) → ((x : T) → P x → X) → OnOk result X
on_ok_of (Ok x) P F holds X more = more x holds
on_ok_of (Err e) P F holds X more = tt

pub on_err_of : {T E : Type 0} (result : Result T E) (P : T → Type 0) (F : E → Type 0) → MatchResult result P F → (X : Type 0) → ((e : E) → F e → X) → OnErr result X
on_err_of (Ok x) P F holds X more = tt
on_err_of (Err e) P F holds X more = more e holds

-- ---- one page behind another

module _ (size : ℕ) (pages : List PlannedPage) (i : ℕ) (d : PlannedPage) (within : i < length pages) (old mid : Option Tape) (m0 m1 : ℕ) (all : IfSome old (λ t. AreToClear size (state_now t) pages))
    (made : MakesCalls old mid m0 m1 (λ s. flat_map (planned_clears size s) (take i pages))) where
  abbrev here : PlannedPage
  here = get_or pages i d

  abbrev on_page : PlannedPage → DiskState → List Call
  on_page planned state = planned_clears size state planned

  around : pages ≡ take i pages ++ here ∷ drop (i + 1) pages
  around = sym (take-append-drop i pages) ∙ ap (λ (l : List PlannedPage). take i pages ++ l) (drop_more pages i d within)

  -- the pages before it are others
  unchanged : (t : Tape) → AreToClear size (state_now t) pages → on_page here (after_calls (state_now t) (flat_map (planned_clears size (state_now t)) (take i pages))) ≡ on_page here (state_now t)
  unchanged t to =
      ap (clear_calls size here.segment here.page here.from)
      (reads_spared here.segment here.page (flat_map (planned_clears size (state_now t)) (take i pages)) (state_now t)
      (front_spares size (state_now t) 0 (take i pages) here (drop (i + 1) pages) (subst (λ (l : List PlannedPage). Rise size 0 l) around to.rise)))

  given : (before behind : Option Tape) → IfSome before (λ t. AreToClear size (state_now t) pages) → IfSome before (λ t. IfSome behind (λ u. AreToClear size (state_now t) pages → on_page here (state_now u) ≡ on_page here (state_now t))) → Agree before behind (on_page here) (on_page here)
  given None behind to agree = tt
  given (Some t) None to agree = tt
  given (Some t) (Some u) to agree = agree to

  agrees : Agree old mid (on_page here) (on_page here)
  agrees = given old mid all (behind_calls (λ t u. AreToClear size (state_now t) pages → on_page here u ≡ on_page here (state_now t)) old mid (λ s. flat_map (planned_clears size s) (take i pages)) made.calls made.are made.made.tape unchanged)

  still : (before behind : Option Tape) (calls : List Call) → behind ≡ with_calls before calls → IfSome before (λ t. AreToClear size (state_now t) pages) → Agree before behind (on_page here) (on_page here) → IfSome behind (λ u. is_to_clear size (state_now u) here ≡ true)
  still None behind calls grown to agree = subst (λ (o : Option Tape). IfSome o (λ u. is_to_clear size (state_now u) here ≡ true)) (sym (grown ∙ with_calls-none calls)) tt
  still (Some t) None calls grown to agree = tt
  still (Some t) (Some u) calls grown to agree = ap has_calls agree ∙ all_at (λ planned. is_to_clear size (state_now t) planned ≡ true) (take i pages) here (drop (i + 1) pages) (subst (AllByRecursion (λ planned. is_to_clear size (state_now t) planned ≡ true)) around to.each)

  -- it is still to be cleared
  pub page_waits : IfSome mid (λ u. is_to_clear size (state_now u) here ≡ true)
  page_waits = still old mid made.calls made.made.tape all agrees

  module _ (new : Option Tape) (m2 : ℕ) where
    pub pages_more : MakesCalls mid new m1 m2 (λ s. planned_clears size s (get_or pages i d)) → MakesCalls old new m0 m2 (λ s. flat_map (planned_clears size s) (take (i + 1) pages))
    pages_more now =
        makes_as old new m0 m2 (λ s. flat_map (λ j. on_page j s) (take i pages ++ here ∷ [])) (λ s. flat_map (planned_clears size s) (take (i + 1) pages))
        (λ s. ap (flat_map (planned_clears size s)) (sym (take_more pages i d within)))
        (makes_more old mid new m0 m1 m2 on_page (take i pages) here made now agrees)

    pub pages_stop : StopsCalls mid new m1 m2 (λ s. planned_clears size s (get_or pages i d)) → StopsCalls old new m0 m2 (λ s. flat_map (planned_clears size s) pages)
    pages_stop now =
        stops_as old new m0 m2 (λ s. flat_map (λ j. on_page j s) (take i pages ++ here ∷ drop (i + 1) pages)) (λ s. flat_map (planned_clears size s) pages)
        (λ s. ap (flat_map (planned_clears size s)) (sym around))
        (stops_among old mid new m0 m1 m2 on_page (take i pages) here (drop (i + 1) pages) made now agrees)

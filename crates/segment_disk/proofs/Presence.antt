-- The list of the segments that are there follows the calls.
use Rattle.std.proofs.Common.{◌≡◌, ◌≢◌, ℕ, Bool, true, false, ◌||◌, ◌⊎◌, List, [], ◌∷◌, ◌++◌, Option, Some, None, is_some, Result, OnErr, Ok, Err, refl, sym, ap, ◌∙◌, ◌==◌, if◌then◌else◌, inl, inr}
use Rattle.std.proofs.lemmas.List.Folds.{list_any-append}
use Rattle.std.proofs.lemmas.Bool.{eq-eqb, ne_eqb}
use Rattle.std.proofs.lemmas.Bool.Decides.{eqb_tells}
use Rattle.segment_disk.specs.declared.disk.Call.{Call}
use Rattle.segment_disk.specs.declared.disk.CallKind.TheVariants.{Create, Write, Sync}
use Rattle.segment_disk.specs.declared.disk.CallKind.{CallKind}
use Rattle.segment_disk.specs.Tape.{Segment, DiskState, segment_after, after_call, after_calls}
use Rattle.segment_disk.specs.Failing.{is_listed}
use Rattle.segment_disk.specs.Present.{ListsPresent, MakesNone, with_number}
use Rattle.segment_disk.proofs.Reading.{after_calls-push}

-- a call that makes no segment takes none away either
pub is_some-kept : (kind : CallKind) → MakesNone kind → (size : ℕ) (done : Bool) (s : Option Segment) → is_some (segment_after kind size done s) ≡ is_some s
is_some-kept (Create made) makes size done s = absurd makes
is_some-kept (Write page bytes) makes size done None = refl
is_some-kept (Write page bytes) makes size done (Some s) = refl
is_some-kept Sync makes size done None = refl
is_some-kept Sync makes size true (Some s) = refl
is_some-kept Sync makes size false (Some s) = refl

-- a number that is put to a list is listed, and no other is that was not
listed-with_number : (numbers : List ℕ) (number other : ℕ) → is_listed (with_number numbers number) other ≡ (other == number || is_listed numbers other)
listed-with_number numbers number other = by_test (is_listed numbers number) refl (eqb_tells other number)
  where
    here : (b : Bool) → (b || true) ≡ true
    here true = refl
    here false = refl

    elsewhere : (b : Bool) → (b || false) ≡ b
    elsewhere true = refl
    elsewhere false = refl

    by_test : (b : Bool) → is_listed numbers number ≡ b → (((other == number) ≡ true) × (other ≡ number)) ⊎ (((other == number) ≡ false) × (other ≢ number))
        → is_listed (if b then numbers else numbers ++ number ∷ []) other ≡ (other == number || is_listed numbers other)
    by_test true has (inl same) = ap (is_listed numbers) same.1 ∙ has ∙ sym (ap (λ (b : Bool). b || is_listed numbers other) same.0)
    by_test true has (inr differ) = sym (ap (λ (b : Bool). b || is_listed numbers other) differ.0)
    by_test false has (inl same) =
        list_any-append (λ n. n == other) numbers (number ∷ []) ∙ ap (λ (b : Bool). is_listed numbers other || (b || false)) (eq-eqb number other (sym same.1)) ∙ here (is_listed numbers other)
        ∙ sym (ap (λ (b : Bool). b || is_listed numbers other) same.0)
    by_test false has (inr differ) =
        list_any-append (λ n. n == other) numbers (number ∷ []) ∙ ap (λ (b : Bool). is_listed numbers other || (b || false)) (ne_eqb number other (λ same. differ.1 (sym same))) ∙ elsewhere (is_listed numbers other)
        ∙ sym (ap (λ (b : Bool). b || is_listed numbers other) differ.0)

module _ (start : DiskState) (before after : List Call) (call : Call) (is : after ≡ before ++ call ∷ []) where
  state_after : (segment : ℕ) → after_calls start after segment ≡ after_call (after_calls start before) call segment
  state_after segment = ap (λ (calls : List Call). after_calls start calls segment) is ∙ ap (λ (state : DiskState). state segment) (after_calls-push start before call)

  pub present_kept : (numbers : List ℕ) → ((s : Option Segment) → is_some (segment_after call.kind call.geometry call.done s) ≡ is_some s) → ListsPresent numbers start before → ListsPresent numbers start after
  present_kept numbers keeps present segment = present segment ∙ sym (ap is_some (state_after segment) ∙ by_test (segment == call.segment))
    where
      by_test : (b : Bool) → is_some (if b then segment_after call.kind call.geometry call.done (after_calls start before segment) else after_calls start before segment) ≡ is_some (after_calls start before segment)
      by_test true = keeps (after_calls start before segment)
      by_test false = refl

  pub present_created : (numbers later : List ℕ) → call.kind ≡ Create true → later ≡ with_number numbers call.segment → ListsPresent numbers start before → ListsPresent later start after
  present_created numbers later kind adds present segment =
      ap (λ (list : List ℕ). is_listed list segment) adds ∙ listed-with_number numbers call.segment segment ∙ ap (λ (b : Bool). segment == call.segment || b) (present segment)
      ∙ sym (ap is_some (state_after segment) ∙ rw kind (by_test (segment == call.segment)))
    where
      by_test : (b : Bool) → is_some (if b then segment_after (Create true) call.geometry call.done (after_calls start before segment) else after_calls start before segment) ≡ (b || is_some (after_calls start before segment))
      by_test true = refl
      by_test false = refl

  -- a create that is not made leaves each segment as it was
  pub state_unmade : call.kind ≡ Create false → (segment : ℕ) → after_calls start after segment ≡ after_calls start before segment
  state_unmade kind segment = state_after segment ∙ rw kind (by_test (segment == call.segment))
    where
      by_test : (b : Bool) → (if b then after_calls start before segment else after_calls start before segment) ≡ after_calls start before segment
      by_test true = refl
      by_test false = refl

-- what holds holds where a call failed
pub on_err : {T E : Type 0} (result : Result T E) (P : Type 0) → P → OnErr result P
on_err (Ok value) P holds = tt
on_err (Err e) P holds = holds

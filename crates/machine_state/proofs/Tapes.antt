-- The writer's tape behind a call, however the call ended; and what a disk held when the log was
-- opened, which no later call changes.
use Rattle.std.proofs.Common.{◌≡◌, ◌≤◌, ℕ, List, [], ◌∷◌, ◌++◌, length, Option, Some, None, IfSome, refl, sym, subst}
use mathlib.Core.Option.{none, some}
use Rattle.segment_disk.specs.declared.disk.Call.{Call}
use Rattle.segment_disk.specs.Tape.{DiskState, Tape, after_call, after_calls, failed_call, state_now, with_call}
use Rattle.segment_disk.proofs.Reading.{after_calls-push}
use Rattle.segment_disk.proofs.Fronts.{take-before}
use Rattle.machine_state.specs.Words.{Opening}
use Rattle.machine_state.specs.Views.{Plain}
use Rattle.machine_state.specs.Moves.{CallOutcome, Done, Failed, one_call_more, with_outcome}
use Rattle.machine_state.specs.Suited.{BeganSuited, IfSuited, IsSuited, tape_from}

-- ---- tapes that are told

pub told_as : {P : Tape → Type 0} (o : Option Tape) → ((t : Tape) → o ≡ Some t → P t)
    → IfSome o P
told_as None holds = tt
told_as (Some t) holds = holds t refl

pub at_told : (P : Tape → Type 0) (o : Option Tape) (t : Tape) → o ≡ Some t → IfSome o P → P t
at_told P o t is holds = subst (λ (o : Option Tape). IfSome o P) is holds

-- ---- the tape behind a call

abbrev pub tape_behind : CallOutcome → Call → Tape → Tape
tape_behind Done call t = record t { calls = t.calls ++ call ∷ [] }
tape_behind (Failed faults none) call t = t
tape_behind (Failed faults (some made)) call t =
    record t { calls = t.calls ++ failed_call made call ∷ [] }

-- the tape of one call more
pub tape_of_more : (first : DiskState) (calls : Option (List Call)) (call : Call)
    → tape_from first (one_call_more call calls) ≡ with_call (tape_from first calls) call
tape_of_more first None call = refl
tape_of_more first (Some calls) call = refl

-- what is counted is as long as the tape
pub counted_tape : (first : DiskState) (moment : ℕ) (calls : Option (List Call))
    → IfSome calls (λ cs. moment ≡ length cs)
    → IfSome (tape_from first calls) (λ t. moment ≡ length t.calls)
counted_tape first moment None counted = tt
counted_tape first moment (Some calls) counted = counted

pub counted_on : (first : DiskState) (moment : ℕ) (calls : Option (List Call)) (t : Tape)
    → tape_from first calls ≡ Some t → IfSome calls (λ cs. moment ≡ length cs)
    → moment ≡ length t.calls
counted_on first moment calls t is counted =
    let Counts : Tape → Type 0 = λ t. moment ≡ length t.calls in
    at_told Counts (tape_from first calls) t is (counted_tape first moment calls counted)

module _ (first : DiskState) where
  called : (Q : Tape → Type 0) (o : Option (List Call)) (call : Call)
      → ((t : Tape) → tape_from first o ≡ Some t → Q (record t { calls = t.calls ++ call ∷ [] }))
      → IfSome (tape_from first (one_call_more call o)) Q
  called Q None call f = tt
  called Q (Some calls) call f = f (record { at_first = first; calls = calls }) refl

  -- what holds of the tape behind a call holds of the writer's
  pub on_tape : (Q : Tape → Type 0) (call : Call) (outcome : CallOutcome) (w : Plain)
      → ((t : Tape) → tape_from first w.calls ≡ Some t → Q (tape_behind outcome call t))
      → IfSome (tape_from first (with_outcome call outcome w).calls) Q
  on_tape Q call Done w f = called Q w.calls call f
  on_tape Q call (Failed faults none) w f = told_as (tape_from first w.calls) f
  on_tape Q call (Failed faults (some made)) w f = called Q w.calls (failed_call made call) f

  module _ (opening : Opening) where
    pub told_suited : {P : Tape → Type 0} (writer : Plain)
        → ((t : Tape) → tape_from first writer.calls ≡ Some t → BeganSuited opening t → P t)
        → IfSuited first opening writer P
    told_suited writer holds = told_as (tape_from first writer.calls) holds

    pub at_suited : (writer : Plain) (P : Tape → Type 0) (t : Tape)
        → tape_from first writer.calls ≡ Some t → BeganSuited opening t
        → IfSuited first opening writer P → P t
    at_suited writer P t is suited holds =
        at_told (λ t. BeganSuited opening t → P t) (tape_from first writer.calls) t is holds suited

-- the state behind a call that is done, or that failed and was counted
pub state_behind : (t : Tape) (call : Call)
    → state_now (record t { calls = t.calls ++ call ∷ [] }) ≡ after_call (state_now t) call
state_behind t call = after_calls-push t.at_first t.calls call

-- ---- what was there when the log was opened

module _ (opening : Opening) where
  -- no call changes it
  pub began_before : (t : Tape) (call : Call) → opening.moment ≤ length t.calls
      → BeganSuited opening (record t { calls = t.calls ++ call ∷ [] }) → BeganSuited opening t
  began_before t call within suited =
      subst (λ (calls : List Call). IsSuited opening (after_calls t.at_first calls))
      (take-before t.calls (call ∷ []) opening.moment within) suited

  pub began_behind : (call : Call) (outcome : CallOutcome) (t : Tape)
      → opening.moment ≤ length t.calls → BeganSuited opening (tape_behind outcome call t)
      → BeganSuited opening t
  began_behind call Done t within suited = began_before t call within suited
  began_behind call (Failed faults none) t within suited = suited
  began_behind call (Failed faults (some made)) t within suited =
      began_before t (failed_call made call) within suited

  -- nor does it cease to be suited
  began_stays : (t : Tape) (call : Call) → opening.moment ≤ length t.calls → BeganSuited opening t
      → BeganSuited opening (record t { calls = t.calls ++ call ∷ [] })
  began_stays t call within suited =
      subst (λ (calls : List Call). IsSuited opening (after_calls t.at_first calls))
      (sym (take-before t.calls (call ∷ []) opening.moment within)) suited

  pub began_still : (call : Call) (outcome : CallOutcome) (t : Tape)
      → opening.moment ≤ length t.calls → BeganSuited opening t
      → BeganSuited opening (tape_behind outcome call t)
  began_still call Done t within suited = began_stays t call within suited
  began_still call (Failed faults none) t within suited = suited
  began_still call (Failed faults (some made)) t within suited =
      began_stays t (failed_call made call) within suited

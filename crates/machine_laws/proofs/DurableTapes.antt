-- What a tape assures from a later moment on, and behind a call, however the call ended.
use Rattle.std.proofs.Common.{◌≡◌, inl, ℕ, ◌+◌, ◌-◌, ◌≤◌, All, List, [], ◌∷◌, ◌++◌, length, take, drop, Option, Some, None, IfSome, refl, sym, ap, ◌∙◌, arith, length-append}
use Rattle.std.proofs.lemmas.List.{drop-drop}
use Rattle.std.proofs.lemmas.List.Elements.{All-drop, All-same}
use mathlib.Core.Option.{none, some}
use Rattle.segment_disk.specs.declared.disk.Call.{Call}
use Rattle.segment_disk.specs.Tape.{Tape, failed_call, with_call}
use Rattle.segment_disk.specs.Assured.{CallFits, TapeAssures}
use Rattle.segment_disk.proofs.Fronts.{take-before}
use Rattle.flush_core.proofs.LeftLaws.{TapeAssures-with_call, TapeAssures-failed}
use Rattle.wal_page.specs.Order.{Entry}
use Rattle.machine_state.specs.Views.{Plain}
use Rattle.machine_state.specs.Moves.{CallOutcome, Done, Failed, one_call_more, with_outcome}
use Rattle.machine_state.proofs.Tapes.{tape_behind}
use Rattle.machine_state.specs.Durable.{IsUnwritten, PutsNone}

-- what holds behind a place holds behind a later one
pub All-later : {A : Type 0} (P : A → Type 0) (m n : ℕ) (xs : List A) → m ≤ n
    → All P (drop m xs) → All P (drop n xs)
All-later P m n xs low all =
    let at : m + (n - m) ≡ n = omega arith in
    All-same P (drop n xs) (drop (n - m) (drop m xs))
    (sym (drop-drop (n - m) m xs ∙ ap (λ (k : ℕ). drop k xs) at))
    (All-drop P (n - m) (drop m xs) all)

module _ (size : ℕ) (IsThere : ℕ → Type 0) (Fits : ℕ → ℕ → List ℕ → Type 0) where
  pub TapeAssures-later : (moment later : ℕ) (t : Tape) → moment ≤ later
      → TapeAssures size IsThere Fits moment t → TapeAssures size IsThere Fits later t
  TapeAssures-later moment later t low assures = record {
    calls = All-later (CallFits size Fits) moment later t.calls low assures.calls;
    now = assures.now;
    left = λ m from image leaves. assures.left m (omega arith) image leaves;
  }

  pub TapeAssures-behind : (call : Call) (outcome : CallOutcome) (moment : ℕ) (t : Tape)
      → CallFits size Fits call → TapeAssures size IsThere Fits moment t
      → TapeAssures size IsThere Fits moment (tape_behind outcome call t)
  TapeAssures-behind call Done moment t fits assures =
      TapeAssures-with_call size IsThere Fits moment (Some t) call fits assures
  TapeAssures-behind call (Failed faults none) moment t fits assures = assures
  TapeAssures-behind call (Failed faults (some made)) moment t fits assures =
      TapeAssures-failed size IsThere Fits moment (Some t)
      (with_call (Some t) (failed_call made call)) 0 1 call fits
      (inl (made, record { tape = refl; moment = refl })) assures

-- ---- calls that a later one leaves as they were

unwritten_before : (size opened moment : ℕ) (t : Tape) (call : Call) (e : Entry)
    → moment ≤ length t.calls → IsUnwritten size opened t moment e
    → IsUnwritten size opened (record t { calls = t.calls ++ call ∷ [] }) moment e
unwritten_before size opened moment t call e within unwritten =
    All-same (λ (c : Call). PutsNone size e c.segment c.kind)
    (drop opened (take moment (t.calls ++ call ∷ []))) (drop opened (take moment t.calls))
    (ap (λ (calls : List Call). drop opened calls)
    (take-before t.calls (call ∷ []) moment within)) unwritten

pub IsUnwritten-behind : (size opened moment : ℕ) (call : Call) (outcome : CallOutcome) (t : Tape)
    (e : Entry) → moment ≤ length t.calls → IsUnwritten size opened t moment e
    → IsUnwritten size opened (tape_behind outcome call t) moment e
IsUnwritten-behind size opened moment call Done t e within unwritten =
    unwritten_before size opened moment t call e within unwritten
IsUnwritten-behind size opened moment call (Failed faults none) t e within unwritten = unwritten
IsUnwritten-behind size opened moment call (Failed faults (some made)) t e within unwritten =
    unwritten_before size opened moment t (failed_call made call) e within unwritten

-- the moment counts the calls
one_counted : (moment : ℕ) (calls : Option (List Call)) (call : Call)
    → IfSome calls (λ cs. moment ≡ length cs)
    → IfSome (one_call_more call calls) (λ cs. moment + 1 ≡ length cs)
one_counted moment None call count = tt
one_counted moment (Some calls) call count =
    omega (arith, count, length-append calls (call ∷ []))

pub counted_behind : (call : Call) (outcome : CallOutcome) (w : Plain)
    → IfSome w.calls (λ calls. w.moment ≡ length calls)
    → IfSome (with_outcome call outcome w).calls
    (λ calls. (with_outcome call outcome w).moment ≡ length calls)
counted_behind call Done w count = one_counted w.moment w.calls call count
counted_behind call (Failed faults none) w count = count
counted_behind call (Failed faults (some made)) w count =
    one_counted w.moment w.calls (failed_call made call) count

pub moment_rises : (call : Call) (outcome : CallOutcome) (w : Plain)
    → w.moment ≤ (with_outcome call outcome w).moment
moment_rises call Done w = omega arith
moment_rises call (Failed faults none) w = omega arith
moment_rises call (Failed faults (some made)) w = omega arith

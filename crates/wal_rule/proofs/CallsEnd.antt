-- How a device call that failed leaves the writer.
use Rattle.std.proofs.Common.{◌≡◌, ℕ, ◌+◌, ◌≤◌, inl, inr, Bool, List, Err, Some, arith, refl, sym, ap, ◌∙◌, subst}
use mathlib.Core.Option.{Option, none, some}
use Rattle.segment_disk.specs.declared.disk.Call.{Call}
use Rattle.segment_disk.specs.Cause.{Rose, RoseByOne}
use Rattle.segment_disk.specs.Tape.{Fails, Tape, failed_call, with_call}
use Rattle.flush_core.specs.declared.writer.DiskFault.{DiskFault}
use Rattle.machine_state.specs.Views.{Plain}
use Rattle.machine_state.specs.Suited.{tape_from}
use Rattle.machine_state.specs.Moves.{Failed, CallOutcome, with_outcome}
use Rattle.wal_rule.specs.declared.writer.LogWriter.{LogWriter}
use Rattle.wal_rule.specs.Slotted.{CallEnds, calls_of, first_on, slot_plain}
use Rattle.flush_core.specs.Calls.{maybe}
use Rattle.wal_rule.proofs.SlotTapes.{calls_of_more, own_tape, tape_of_call}

rises : (old new : ℕ) → RoseByOne old new → old ≤ new
rises old new (inl more) = omega (arith, more)
rises old new (inr stays) = omega (arith, stays.0)

rose : (old new : ℕ) → RoseByOne old new → Rose old new
rose old new (inl more) = inl (omega (arith, more))
rose old new (inr stays) = inr stays.1

-- the tape behind a call, by its calls
tape_made : (old new : Rattle.std.specs.Prelude.Option Tape) (call : Call)
    → new ≡ with_call old call → new ≡ tape_from (first_on old) (calls_of new)
tape_made old new call made = made ∙ tape_of_call old call
    ∙ ap (λ (t : Rattle.std.specs.Prelude.Option Tape). tape_from (first_on old) (calls_of t))
    (sym made)

tape_same : (old new : Rattle.std.specs.Prelude.Option Tape) → new ≡ old
    → new ≡ tape_from (first_on old) (calls_of new)
tape_same old new same = same ∙ sym (own_tape old)
    ∙ ap (λ (t : Rattle.std.specs.Prelude.Option Tape). tape_from (first_on old) (calls_of t))
    (sym same)

module _ {D : Type 0} (tape : D → Rattle.std.specs.Prelude.Option Tape) (moment faults : D → ℕ)
    (old : LogWriter D) (disk : D) (call : Call) where
  -- the writer on the disk as the call left it, which keeps its fault
  abbrev down : Rattle.std.specs.Prelude.Option ℕ → ℕ → LogWriter D
  down waiting told = record old { disk = disk; waiting = waiting; fault = Some told }

  -- a call that a failed one of which leaves no more than `with_outcome` says, but for what waits
  abbrev LeavesWaiting : (CallOutcome → Plain → Plain) → Option ℕ → ℕ → Option Bool → Type 0
  LeavesWaiting f waiting told counted = f (Failed told counted) (slot_plain tape moment old)
      ≡ record (with_outcome call (Failed told counted) (slot_plain tape moment old))
      { waiting = waiting }

  pub call_failed : (f : CallOutcome → Plain → Plain) (waiting : Rattle.std.specs.Prelude.Option ℕ)
      → (told : DiskFault)
      → ((made : Bool) → moment disk ≡ moment old.disk + 1
      → LeavesWaiting f (maybe waiting) told.faults (some made))
      → (moment disk ≡ moment old.disk
      → LeavesWaiting f (maybe waiting) told.faults none)
      → Fails (tape old.disk) (tape disk) (moment old.disk) (moment disk) call
      → RoseByOne (faults old.disk) (faults disk)
      → (new : LogWriter D) → new ≡ down waiting told.faults → told.faults ≡ faults disk
      → CallEnds tape moment faults old new (Err told) f
  call_failed f waiting told counted not_counted (inl made) more new is told_is =
      subst (λ (w : LogWriter D). CallEnds tape moment faults old w (Err told) f) (sym is)
      (record {
        outcome = Failed told.faults (some made.0);
        ends = ((some made.0), refl);
        plain_is = ap (λ (cs : Rattle.std.specs.Prelude.Option (List Call)).
            record (slot_plain tape moment (down waiting told.faults)) { calls = cs })
            (ap calls_of (made.1).tape ∙ calls_of_more (tape old.disk) (failed_call made.0 call))
            ∙ ap (λ (n : ℕ). record
            (with_outcome call (Failed told.faults (some made.0)) (slot_plain tape moment old))
            { moment = n; waiting = maybe waiting }) (made.1).moment
            ∙ sym (counted made.0 (made.1).moment);
        tape_is = tape_made (tape old.disk) (tape disk) (failed_call made.0 call) (made.1).tape;
        same_size = refl;
        rises = rises (faults old.disk) (faults disk) more;
        counts = told_is;
        fault = subst (λ (n : ℕ). Rose (faults old.disk) n) (sym told_is)
            (rose (faults old.disk) (faults disk) more);
      })
  call_failed f waiting told counted not_counted (inr same) more new is told_is =
      subst (λ (w : LogWriter D). CallEnds tape moment faults old w (Err told) f) (sym is)
      (record {
        outcome = Failed told.faults none;
        ends = (none, refl);
        plain_is = ap (λ (cs : Rattle.std.specs.Prelude.Option (List Call)).
            record (slot_plain tape moment (down waiting told.faults)) { calls = cs })
            (ap calls_of same.same_tape)
            ∙ ap (λ (n : ℕ). record
            (with_outcome call (Failed told.faults none) (slot_plain tape moment old))
            { moment = n; waiting = maybe waiting }) same.same_moment
            ∙ sym (not_counted same.same_moment);
        tape_is = tape_same (tape old.disk) (tape disk) same.same_tape;
        same_size = refl;
        rises = rises (faults old.disk) (faults disk) more;
        counts = told_is;
        fault = subst (λ (n : ℕ). Rose (faults old.disk) n) (sym told_is)
            (rose (faults old.disk) (faults disk) more);
      })

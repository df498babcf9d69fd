-- What a list of calls leaves, and where it breaks off.
use Rattle.std.proofs.Common.{◌≡◌, ℕ, ◌+◌, Bool, true, false, List, [], ◌∷◌, ◌++◌, length, Option, Some, None, IfSome, refl, sym, ap, subst, if◌then◌else◌, arith}
use Rattle.segment_disk.specs.declared.disk.Call.{Call}
use Rattle.segment_disk.specs.Tape.{DiskState, Tape, Fails, after_calls, create_call, state_now, sync_call, with_call, write_call}
use Rattle.segment_disk.proofs.Reading.{after_calls-push}
use Rattle.flush_core.specs.Calls.{store_calls, with_calls, BreaksOff}

-- what holds of the state after the calls holds of the disk with them
pub holds-with_calls : (P : DiskState → Type 0) (tape : Option Tape) (calls : List Call) → IfSome tape (λ t. P (after_calls (state_now t) calls)) → IfSome (with_calls tape calls) (λ t. P (state_now t))
holds-with_calls P tape [] holds = holds
holds-with_calls P None (call ∷ calls) holds = holds-with_calls P None calls tt
holds-with_calls P (Some t) (call ∷ calls) holds =
    holds-with_calls P (Some (record t { calls = t.calls ++ call ∷ [] })) calls (subst (λ (s : DiskState). P (after_calls s calls)) (sym (after_calls-push t.at_first t.calls call)) holds)

-- a front that was made, and a call that failed behind it
pub breaks_off : (old mid new : Option Tape) (old_moment mid_moment new_moment : ℕ) (front : List Call) (next : Call) (others calls : List Call) → calls ≡ front ++ next ∷ others
    → mid ≡ with_calls old front → mid_moment ≡ old_moment + length front → Fails mid new mid_moment new_moment next → BreaksOff old new old_moment new_moment calls
breaks_off old mid new old_moment mid_moment new_moment front next others calls are made moment fails = record {
  front = front;
  next = next;
  others = others;
  are = are;
  fails = subst (λ (m : ℕ). Fails (with_calls old front) new m new_moment next) moment (subst (λ (t : Option Tape). Fails t new mid_moment new_moment next) made fails);
}

module _ (size segment page : ℕ) (is_full : Bool) (bytes : List ℕ) (old new : Option Tape) (old_moment new_moment : ℕ) where
  -- a page is not stored where its segment is not made
  pub breaks_at_create : (is_new : Bool) → is_new ≡ true → Fails old new old_moment new_moment (create_call size segment) → BreaksOff old new old_moment new_moment (store_calls size segment page is_new is_full bytes)
  breaks_at_create is_new new_is fails =
      let others = write_call size segment page bytes ∷ [] ++ (if is_full then sync_call size segment ∷ [] else []) in
      breaks_off old old new old_moment old_moment new_moment [] (create_call size segment) others (store_calls size segment page is_new is_full bytes)
      (ap (λ (b : Bool). store_calls size segment page b is_full bytes) new_is) refl (omega arith) fails

  -- nor where it is not written behind that
  module _ (mid : Option Tape) (mid_moment : ℕ) where
    abbrev others : List Call
    others = if is_full then sync_call size segment ∷ [] else []

    pub breaks_behind_create : (is_new : Bool) → is_new ≡ true → mid ≡ with_call old (create_call size segment) → mid_moment ≡ old_moment + 1 → Fails mid new mid_moment new_moment (write_call size segment page bytes)
        → BreaksOff old new old_moment new_moment (store_calls size segment page is_new is_full bytes)
    breaks_behind_create is_new new_is made moment fails =
        breaks_off old mid new old_moment mid_moment new_moment (create_call size segment ∷ []) (write_call size segment page bytes) others (store_calls size segment page is_new is_full bytes)
        (ap (λ (b : Bool). store_calls size segment page b is_full bytes) new_is) made moment fails

    pub breaks_at_write : (is_new : Bool) → is_new ≡ false → mid ≡ old → mid_moment ≡ old_moment → Fails mid new mid_moment new_moment (write_call size segment page bytes)
        → BreaksOff old new old_moment new_moment (store_calls size segment page is_new is_full bytes)
    breaks_at_write is_new new_is made moment fails =
        breaks_off old mid new old_moment mid_moment new_moment [] (write_call size segment page bytes) others (store_calls size segment page is_new is_full bytes)
        (ap (λ (b : Bool). store_calls size segment page b is_full bytes) new_is) made (omega arith) fails

-- The calls of the device that a writer tells behind others: all of a list, or a front of it and
-- the one that failed.
use Rattle.std.specs.Prelude.{◌≡◌, ◌⊎◌, ℕ, ◌+◌, Bool, List, [], ◌∷◌, ◌++◌, length, Option, None, Some, MatchResult, Result}
use Rattle.segment_disk.specs.declared.disk.Call.{Call}
use Rattle.segment_disk.specs.Tape.{failed_call}
use Rattle.flush_core.specs.Calls.{calls_of_flush, calls_of_writing, page_calls, page_upto}
use Rattle.machine_state.specs.Views.{Plain}

-- calls with these more, where they are told
abbrev pub with_more : List Call → Option (List Call) → Option (List Call)
with_more more None = None
with_more more (Some calls) = Some (calls ++ more)

-- all of these calls were made and counted, and no other
pub record HasCalled (calls : List Call) (old new : Plain) : Type 0 where
  pub made : new.calls ≡ with_more calls old.calls
  pub moment : new.moment ≡ old.moment + length calls

-- what is counted of a call that failed: it, as failed, or nothing
abbrev pub IsCountedFailed : Call → List Call → Type 0
IsCountedFailed call counted =
    ((made : Bool) × (counted ≡ failed_call made call ∷ [])) ⊎ (counted ≡ [])

-- a front of these calls was made, the next one failed, and no other was made
pub record HasBrokenOff (calls : List Call) (old new : Plain) : Type 0 where
  pub front : List Call
  pub next : Call
  pub others : List Call
  pub are : calls ≡ front ++ next ∷ others
  pub counted : List Call
  pub failed : IsCountedFailed next counted
  pub called : HasCalled (front ++ counted) old new

-- where all succeeded all of these calls were made, else they broke off
abbrev pub EndCalls : {A E : Type 0} → List Call → Result A E → (old new : Plain) → Type 0
EndCalls calls result old new =
    MatchResult result (λ _. HasCalled calls old new) (λ _. HasBrokenOff calls old new)

-- the calls by which a writer puts a page, of a log of which all is known below an address
abbrev pub calls_to_put_page : (size known page : ℕ) → List ℕ → Plain → List Call
calls_to_put_page size known page bytes w =
    page_calls size w.made w.waiting page (page_upto known page) bytes

-- the calls by which it writes all up to a known address, and by which it flushes that
abbrev pub calls_to_write : (size known : ℕ) → (ℕ → List ℕ) → Plain → List Call
calls_to_write size known bytes w =
    calls_of_writing size w.made w.waiting w.written known bytes

abbrev pub calls_to_flush : (size known : ℕ) → (ℕ → List ℕ) → Plain → List Call
calls_to_flush size known bytes w = calls_of_flush size w.made w.waiting w.written known bytes

-- A disk that keeps its calls answers as it counts them.
use Rattle.std.proofs.Common.{◌≡◌, ℕ, Bool, true, false, List, [], ◌∷◌, ◌++◌, length, Option, Some, Result, Ok, Err, is_ok, MatchResult, refl, ap, ◌∙◌, inl}
use Rattle.std.proofs.lemmas.List.{length-append}
use Rattle.segment_disk.specs.declared.disk.Call.{Call}
use Rattle.segment_disk.specs.declared.disk.CallKind.{CallKind}
use Rattle.segment_disk.specs.declared.disk.CallKind.TheVariants.{Create, Write, Sync}
use Rattle.segment_disk.specs.Present.{MakesNone}
use Rattle.segment_disk.specs.Tape.{DiskState, Tape, IsMade, Fails, failed_call}

-- a call that makes no segment is counted as it was, not done
pub failed_whole : (size segment : ℕ) (kind : CallKind) → MakesNone kind → (made : Bool)
    → record { geometry = size; segment = segment; kind = kind; done = false }
    ≡ failed_call made (record { geometry = size; segment = segment; kind = kind; done = true })
failed_whole size segment (Create any) makes made = absurd makes
failed_whole size segment (Write page bytes) makes made = refl
failed_whole size segment Sync makes made = refl

module _ (at_first : DiskState) (before after : List Call) where
  abbrev tape : List Call → Option Tape
  tape calls = Some (record { at_first = at_first; calls = calls })

  made_next : (call : Call) → after ≡ before ++ call ∷ []
      → IsMade (tape before) (tape after) (length before) (length after) call
  made_next call is = record {
    tape = ap tape is;
    moment = ap length is ∙ length-append before (call ∷ []);
  }

  -- what was counted, done or not, is the answer
  pub answers_counted : {E : Type 0} (result : Result Unit E) (counted : Bool → Call) (made done : Bool)
      → counted false ≡ failed_call made (counted true) → after ≡ before ++ counted done ∷ []
      → is_ok result ≡ done
      → MatchResult result
      (λ _. IsMade (tape before) (tape after) (length before) (length after) (counted true))
      (λ _. Fails (tape before) (tape after) (length before) (length after) (counted true))
  answers_counted (Ok value) counted made true same is answer = made_next (counted true) is
  answers_counted (Ok value) counted made false same is answer = absurd (cc)
  answers_counted (Err e) counted made true same is answer = absurd (cc)
  answers_counted (Err e) counted made false same is answer =
      inl (made, made_next (failed_call made (counted true)) (is ∙ ap (λ (c : Call). before ++ c ∷ []) same))

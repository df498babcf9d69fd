-- The rule holds of a log that is opened.
use Rattle.std.specs.Prelude.{IfSome}
use Rattle.std.specs.Prelude.{IsSome}
use Rattle.std.proofs.Common.{◌≡◌, ℕ, List, [], ◌∷◌, map, append-nil, arith, refl, sym, ◌∙◌, subst, Some, None}
use mathlib.Core.Option.{some, some-injective, some-ne-none}
use Rattle.segment_disk.specs.Tape.{Tape}
use Rattle.machine_state.specs.Views.{Plain}
use Rattle.machine_state.specs.Words.{Opening}
use Rattle.machine_state.specs.Opened.{AreFirstWords, IsFirstWriter, IsOpenable, first_view}
use Rattle.machine_laws.proofs.OpeningLaws.{logs_begin}
use Rattle.machine_laws.proofs.EveryMoment.{first_rises}
use Rattle.wal_rule.specs.declared.writer.LogWriter.{LogWriter}
use Rattle.wal_rule.specs.Slotted.{GoesOnFrom, IsOfLog, first_on, slot_disk, slot_plain, slot_segment_size}
use Rattle.wal_rule.specs.Ruled.{IsRuled}

on_own : (t : Rattle.std.specs.Prelude.Option Tape)
    → IfSome t (λ (x : Tape). x.at_first ≡ first_on t)
on_own None = tt
on_own (Some t) = refl

from_own : (t : Rattle.std.specs.Prelude.Option Tape) → IfSome t (GoesOnFrom t)
from_own None = tt
from_own (Some t) = ([], sym (append-nil t.calls))

module _ {D : Type 0} (tape : D → Rattle.std.specs.Prelude.Option Tape) (moment faults : D → ℕ)
    (opening : Opening) (disk : D) (words : List ℕ) (writer : LogWriter D) where
  pub is_of_log : disk ≡ slot_disk writer
      → slot_segment_size writer ≡ (opening.setup).seg_size
      → opening.faults ≡ faults (slot_disk writer)
      → IsFirstWriter opening (slot_plain tape moment writer)
      → IsOfLog tape faults (tape disk) opening writer
  is_of_log is size failed begins = record {
    size_is = size;
    on_first = subst (λ (d : D). IfSome (tape (slot_disk writer))
        (λ (t : Tape). t.at_first ≡ first_on (tape d))) (sym is) (on_own (tape (slot_disk writer)));
    goes_on = subst (λ (d : D). IfSome (tape (slot_disk writer)) (GoesOnFrom (tape d))) (sym is)
        (from_own (tape (slot_disk writer)));
    told = subst (λ (d : D). IsSome (tape disk) → IsSome (tape d)) is (λ some. some);
    failed = omega (arith, failed);
    up = λ _. sym failed;
    down = λ f is. absurd (some-ne-none f (sym is ∙ begins.fault));
    waits_low = λ segment waits. absurd (some-ne-none segment (sym waits ∙ begins.waiting));
  }

  pub opens : (items : List (LogWriter D)) → items ≡ writer ∷ []
      → IsOfLog tape faults (tape disk) opening writer
      → IsOpenable opening → AreFirstWords opening words
      → IsFirstWriter opening (slot_plain tape moment writer)
      → IsRuled tape moment faults opening (tape disk) words (map some items)
      (first_view opening ∷ [])
  opens items are of_log new first begins =
      let plain : Plain = slot_plain tape moment writer in
      let sound = logs_begin (first_on (tape disk)) opening words plain new first begins in
      subst
      (λ (xs : List (LogWriter D)). IsRuled tape moment faults opening (tape disk) words
      (map some xs) (first_view opening ∷ []))
      (sym are)
      (record {
        one = refl;
        of_log = λ w at. subst
            (λ (x : LogWriter D). IsOfLog tape faults (tape disk) opening x)
            (some-injective writer w (some-injective (some writer) (some w) at)) of_log;
        sound = sound;
        rises = first_rises opening words (some plain) sound;
      })

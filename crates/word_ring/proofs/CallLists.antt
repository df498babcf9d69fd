-- Calls behind one another: all of them, or broken off.
use Rattle.std.specs.Prelude.{Err, Ok}
use Rattle.std.proofs.Common.{◌≡◌, ◌+◌, Bool, List, [], ◌∷◌, ◌++◌, Option, None, Some, Result, inl, inr, refl, sym, ap, ◌∙◌, subst, append_assoc, arith}
use Rattle.std.proofs.lemmas.List.{append-nil, length-append}
use Rattle.segment_disk.specs.declared.disk.Call.{Call}
use Rattle.segment_disk.specs.Tape.{failed_call}
use Rattle.machine_state.specs.Moves.{one_call_more}
use Rattle.machine_state.specs.Views.{Plain}
use Rattle.word_ring.specs.MadeCalls.{HasBrokenOff, HasCalled, with_more, EndCalls}

more_none : (calls : Option (List Call)) → with_more [] calls ≡ calls
more_none None = refl
more_none (Some calls) = ap (λ (l : List Call). Some l) (append-nil calls)

more_more : (first next : List Call) (calls : Option (List Call))
    → with_more next (with_more first calls) ≡ with_more (first ++ next) calls
more_more first next None = refl
more_more first next (Some calls) = ap (λ (l : List Call). Some l) (append_assoc calls first next)

-- ---- one call

pub one_more_is : (call : Call) (calls : Option (List Call))
    → one_call_more call calls ≡ with_more (call ∷ []) calls
one_more_is call None = refl
one_more_is call (Some calls) = refl

pub not_counted : (call : Call) (old new : Plain) → new.calls ≡ old.calls
    → new.moment ≡ old.moment → HasBrokenOff (call ∷ []) old new
not_counted call old new same still = record {
  front = [];
  next = call;
  others = [];
  are = refl;
  counted = [];
  failed = inr refl;
  called = record {
    made = same ∙ sym (more_none old.calls);
    moment = omega (arith, still);
  };
}

pub counted_failed : (made : Bool) (call : Call) (old new : Plain)
    → new.calls ≡ one_call_more (failed_call made call) old.calls → new.moment ≡ old.moment + 1
    → HasBrokenOff (call ∷ []) old new
counted_failed made call old new one later = record {
  front = [];
  next = call;
  others = [];
  are = refl;
  counted = failed_call made call ∷ [];
  failed = inl (made, refl);
  called = record {
    made = one ∙ one_more_is (failed_call made call) old.calls;
    moment = omega (arith, later);
  };
}

-- ---- calls behind others

-- nothing was called
pub called_none : (w : Plain) → HasCalled [] w w
called_none w = record { made = sym (more_none w.calls); moment = omega arith }

module _ (first next : List Call) (a b c : Plain) (before : HasCalled first a b) where
  -- what was called behind others
  pub called_on : HasCalled next b c → HasCalled (first ++ next) a c
  called_on others = record {
    made = others.made ∙ ap (λ (l : Option (List Call)). with_more next l) before.made
        ∙ more_more first next a.calls;
    moment = (let m = before.moment in let n = others.moment in
        let sum = length-append first next in omega (arith, m, n, sum));
  }

-- what broke off behind others
pub broken_on : (first next : List Call) (a b c : Plain) → HasCalled first a b
    → HasBrokenOff next b c → HasBrokenOff (first ++ next) a c
broken_on first next a b c before broken = record {
  front = first ++ broken.front;
  next = broken.next;
  others = broken.others;
  are = ap (λ (l : List Call). first ++ l) broken.are
      ∙ sym (append_assoc first broken.front (broken.next ∷ broken.others));
  counted = broken.counted;
  failed = broken.failed;
  called = subst (λ (l : List Call). HasCalled l a c)
      (sym (append_assoc first broken.front broken.counted))
      (called_on first (broken.front ++ broken.counted) a b c before broken.called);
}

-- the others were not made
pub broken_before : (first next : List Call) (a b : Plain) → HasBrokenOff first a b
    → HasBrokenOff (first ++ next) a b
broken_before first next a b broken = record {
  front = broken.front;
  next = broken.next;
  others = broken.others ++ next;
  are = ap (λ (l : List Call). l ++ next) broken.are
      ∙ append_assoc broken.front (broken.next ∷ broken.others) next;
  counted = broken.counted;
  failed = broken.failed;
  called = broken.called;
}

-- however they ended
pub ended_on : {A E : Type 0} → (first next : List Call) (a b c : Plain) (result : Result A E)
    → HasCalled first a b → EndCalls next result b c → EndCalls (first ++ next) result a c
ended_on first next a b c (Ok _) before ends = called_on first next a b c before ends
ended_on first next a b c (Err _) before ends = broken_on first next a b c before ends

-- ---- four lists of calls in a row, which are all: a writer that stands so before and behind each

module _ (first second third last all : List Call)
    (are : first ++ (second ++ (third ++ last)) ≡ all) (a b c d : Plain) where
  pub breaks_in_first : HasBrokenOff first a b → HasBrokenOff all a b
  breaks_in_first broken = subst (λ (l : List Call). HasBrokenOff l a b) are
      (broken_before first (second ++ (third ++ last)) a b broken)

  pub breaks_in_second : HasCalled first a b → HasBrokenOff second b c → HasBrokenOff all a c
  breaks_in_second one broken = subst (λ (l : List Call). HasBrokenOff l a c) are
      (broken_on first (second ++ (third ++ last)) a b c one
      (broken_before second (third ++ last) b c broken))

  pub breaks_in_third : HasCalled first a b → HasCalled second b c → HasBrokenOff third c d
      → HasBrokenOff all a d
  breaks_in_third one two broken = subst (λ (l : List Call). HasBrokenOff l a d) are
      (broken_on first (second ++ (third ++ last)) a b d one
      (broken_on second (third ++ last) b c d two (broken_before third last c d broken)))

-- Reading the lines of several backends from the first on.
use Rattle.std.proofs.Common.{◌≡◌, ℕ, ◌+◌, ◌<◌, Bool, true, false, List, [], ◌∷◌, ◌++◌, length, Option, Some, None, Result, Ok, Err, ltb, ltb-true, refl, sym, subst, arith}
use Rattle.std.specs.Global.{Vec}
use Rattle.run_script.specs.declared.line.Action.{Action}
use Rattle.run_script.specs.declared.line.Line.{Line}
use Rattle.run_script.specs.declared.line.Refusal.{Refusal}
use Rattle.run_script.specs.declared.line.ScriptFault.{ScriptFault}
use Rattle.run_script.specs.Asked.{Asked, AskedLine}
use Rattle.run_script.specs.Bodies.{AreLinesOf, IsActionOf}
use Rattle.run_script.specs.Meaning.{LineMeaning, passes, asks, refuses}
use Rattle.run_script.specs.Reading.{JoinsLines}
use Rattle.run_script.specs.Replay.{ScriptLine, of_backend, begins, ends, BackendsMeaning, begin_fault, most_backends, backends_with, backends_from, script_line_of, unless_fault}
use Rattle.run_script.specs.ReplayReading.{AreBackendsOf}
use Rattle.run_script.proofs.Scripts.{AreLinesOf_push}

-- there are as many backends
pub AreBackendsOf-length : (askeds : List (List AskedLine)) (backends : List (Vec Line)) → AreBackendsOf askeds backends → length askeds ≡ length backends
AreBackendsOf-length [] [] are = refl
AreBackendsOf-length [] (lines ∷ backends) are = absurd are
AreBackendsOf-length (asked ∷ askeds) [] are = absurd are
AreBackendsOf-length (asked ∷ askeds) (lines ∷ backends) are = omega (arith, AreBackendsOf-length askeds backends are.1)

-- one backend more at the end
pub AreBackendsOf_push : (askeds : List (List AskedLine)) (backends : List (Vec Line)) (asked : List AskedLine) (lines : Vec Line) → AreBackendsOf askeds backends → AreLinesOf asked lines.items → AreBackendsOf (askeds ++ asked ∷ []) (backends ++ lines ∷ [])
AreBackendsOf_push [] [] asked lines are does = (does, tt)
AreBackendsOf_push [] (other ∷ backends) asked lines are does = absurd are
AreBackendsOf_push (first ∷ askeds) [] asked lines are does = absurd are
AreBackendsOf_push (first ∷ askeds) (other ∷ backends) asked lines are does = (are.0, AreBackendsOf_push askeds backends asked lines are.1 does)

-- where the next backend may begin, there is room for it
room_of : (room is_alone : Bool) → begin_fault room is_alone ≡ None → room ≡ true
room_of true is_alone may = refl
room_of false is_alone may = absurd cc

pub begins_in_room : (backends : ℕ) (is_alone : Bool) → begin_fault (ltb backends most_backends) is_alone ≡ None → backends < most_backends
begins_in_room backends is_alone may = ltb-true backends most_backends (room_of (ltb backends most_backends) is_alone may)

-- the backends and lines so far do what was read, and with the meaning of the texts from a number
-- on it is that of all
pub record AreReadUpto (takes_schedule : Bool) (before : List (Vec Line)) (lines : List Line) (number : ℕ) (texts : List (List ℕ)) (meaning : Result BackendsMeaning Refusal) : Type 0 where
  pub askeds : List (List AskedLine)
  pub asked : List AskedLine
  pub backends_are : AreBackendsOf askeds before
  pub lines_are : AreLinesOf asked lines
  pub whole : backends_from takes_schedule number askeds asked texts ≡ meaning

module _ (takes_schedule : Bool) (before : List (Vec Line)) (lines : List Line) (number : ℕ) (text : List ℕ) (texts : List (List ℕ)) (meaning : Result BackendsMeaning Refusal) (upto : AreReadUpto takes_schedule before lines number (text ∷ texts) meaning) where
  abbrev others : List (List AskedLine) → List AskedLine → Result BackendsMeaning Refusal
  others so_far latest = backends_from takes_schedule (number + 1) so_far latest texts

  by_line : (read : ScriptLine) → script_line_of takes_schedule text ≡ read → backends_with number upto.askeds upto.asked read texts others ≡ meaning
  by_line read is = subst (λ (line : ScriptLine). backends_with number upto.askeds upto.asked line texts others ≡ meaning) is upto.whole

  AreReadUpto-pass : script_line_of takes_schedule text ≡ of_backend passes → AreReadUpto takes_schedule before lines (number + 1) texts meaning
  AreReadUpto-pass is = record {
    askeds = upto.askeds;
    asked = upto.asked;
    backends_are = upto.backends_are;
    lines_are = upto.lines_are;
    whole = by_line (of_backend passes) is;
  }

  AreReadUpto-ask : (action : Action) (asked : Asked) → script_line_of takes_schedule text ≡ of_backend (asks asked) → IsActionOf asked action → AreReadUpto takes_schedule before (lines ++ (record { number = number; action = action }) ∷ []) (number + 1) texts meaning
  AreReadUpto-ask action asked is does =
      let line : AskedLine = record { number = number; asked = asked } in
      record {
        askeds = upto.askeds;
        asked = upto.asked ++ line ∷ [];
        backends_are = upto.backends_are;
        lines_are = AreLinesOf_push upto.asked lines line (record { number = number; action = action }) upto.lines_are refl does;
        whole = by_line (of_backend (asks asked)) is;
      }

  -- a line of the backend under way
  pub AreReadUpto-read : (line : LineMeaning) → script_line_of takes_schedule text ≡ of_backend line → (new : List Line) → JoinsLines number lines new line → AreReadUpto takes_schedule before new (number + 1) texts meaning
  AreReadUpto-read passes is new joins = subst (λ (all : List Line). AreReadUpto takes_schedule before all (number + 1) texts meaning) (sym joins) (AreReadUpto-pass is)
  AreReadUpto-read (asks asked) is new joins = subst (λ (all : List Line). AreReadUpto takes_schedule before all (number + 1) texts meaning) (sym joins.2) (AreReadUpto-ask joins.0 asked is joins.1)
  AreReadUpto-read (refuses fault) is new joins = absurd joins

module _ (takes_schedule : Bool) (before : List (Vec Line)) (lines : Vec Line) (number : ℕ) (text : List ℕ) (texts : List (List ℕ)) (meaning : Result BackendsMeaning Refusal) (upto : AreReadUpto takes_schedule before lines.items number (text ∷ texts) meaning) where
  abbrev next : Result BackendsMeaning Refusal
  next = backends_from takes_schedule (number + 1) (upto.askeds ++ upto.asked ∷ []) [] texts

  abbrev fault_of : Bool → Option ScriptFault
  fault_of = begin_fault (ltb (length before + 1) most_backends)

  at_begin : (is_alone : Bool) → script_line_of takes_schedule text ≡ begins is_alone → unless_fault number (fault_of is_alone) next ≡ meaning
  at_begin is_alone is = subst (λ (n : ℕ). unless_fault number (begin_fault (ltb (n + 1) most_backends) is_alone) next ≡ meaning) (AreBackendsOf-length upto.askeds before upto.backends_are) (by_line takes_schedule before lines.items number text texts meaning upto (begins is_alone) is)

  by_fault : (is_alone : Bool) (fault : Option ScriptFault) → script_line_of takes_schedule text ≡ begins is_alone → fault_of is_alone ≡ fault → unless_fault number fault next ≡ meaning
  by_fault is_alone fault is fault_is = subst (λ (f : Option ScriptFault). unless_fault number f next ≡ meaning) fault_is (at_begin is_alone is)

  pub AreReadUpto-begin : (is_alone : Bool) → script_line_of takes_schedule text ≡ begins is_alone → fault_of is_alone ≡ None → AreReadUpto takes_schedule (before ++ lines ∷ []) [] (number + 1) texts meaning
  AreReadUpto-begin is_alone is room = record {
    askeds = upto.askeds ++ upto.asked ∷ [];
    asked = [];
    backends_are = AreBackendsOf_push upto.askeds before upto.asked lines upto.backends_are upto.lines_are;
    lines_are = tt;
    whole = by_fault is_alone None is room;
  }

  pub refused_begin : (is_alone : Bool) (fault : ScriptFault) → script_line_of takes_schedule text ≡ begins is_alone → fault_of is_alone ≡ Some fault → meaning ≡ Err (record { line = number; fault = fault })
  refused_begin is_alone fault is fault_is = sym (by_fault is_alone (Some fault) is fault_is)

  pub at_end : (read : List (Vec Line)) → script_line_of takes_schedule text ≡ ends → read ≡ before ++ lines ∷ [] → (m : BackendsMeaning) × (meaning ≡ Ok m) × AreBackendsOf m.backends read × (m.schedule ≡ Some (record { number = number; texts = texts }))
  at_end read is backends = (
    record { backends = upto.askeds ++ upto.asked ∷ []; schedule = Some (record { number = number; texts = texts }) },
    sym (by_line takes_schedule before lines.items number text texts meaning upto ends is),
    subst (AreBackendsOf (upto.askeds ++ upto.asked ∷ [])) (sym backends) (AreBackendsOf_push upto.askeds before upto.asked lines upto.backends_are upto.lines_are),
    refl,
  )

-- behind the script's last line
pub behind_last : (takes_schedule : Bool) (before : List (Vec Line)) (lines : Vec Line) (number : ℕ) (meaning : Result BackendsMeaning Refusal) → AreReadUpto takes_schedule before lines.items number [] meaning → (read : List (Vec Line)) → read ≡ before ++ lines ∷ [] → (m : BackendsMeaning) × (meaning ≡ Ok m) × AreBackendsOf m.backends read × (m.schedule ≡ None)
behind_last takes_schedule before lines number meaning upto read backends = (
  record { backends = upto.askeds ++ upto.asked ∷ []; schedule = None },
  sym upto.whole,
  subst (AreBackendsOf (upto.askeds ++ upto.asked ∷ [])) (sym backends) (AreBackendsOf_push upto.askeds before upto.asked lines upto.backends_are upto.lines_are),
  refl,
)

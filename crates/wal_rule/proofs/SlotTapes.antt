-- The tape of a writer's disk, by what the disk held at first and its calls.
use Rattle.std.specs.Prelude.{IfSome}
use Rattle.std.proofs.Common.{◌≡◌, ℕ, ◌+◌, inl, inr, List, [], ◌∷◌, length, refl, sym, ap, ◌∙◌, Option, Some, None}
use Rattle.segment_disk.specs.declared.disk.Call.{Call}
use Rattle.segment_disk.specs.Tape.{DiskState, Fails, Tape, with_call}
use Rattle.flush_core.specs.Calls.{with_calls}
use Rattle.flush_core.specs.Settled.{NextFails, StopsCalls}
use Rattle.machine_state.specs.Moves.{one_call_more}
use Rattle.machine_state.specs.Suited.{tape_from}
use Rattle.wal_rule.specs.Slotted.{calls_of, first_on}

pub own_tape : (t : Option Tape) → tape_from (first_on t) (calls_of t) ≡ t
own_tape None = refl
own_tape (Some t) = refl

-- a disk that held this at first
pub tape_on_first : (first : DiskState) (t : Option Tape)
    → IfSome t (λ (x : Tape). x.at_first ≡ first) → tape_from first (calls_of t) ≡ t
tape_on_first first None is = refl
tape_on_first first (Some t) is =
    ap (λ (d : DiskState). Some (record { at_first = d; calls = t.calls })) (sym is)

pub same_tape : (s t : Option Tape) → first_on s ≡ first_on t → calls_of s ≡ calls_of t → s ≡ t
same_tape s t first calls = sym (own_tape s)
    ∙ ap (λ (d : DiskState). tape_from d (calls_of s)) first
    ∙ ap (λ (c : Option (List Call)). tape_from (first_on t) c) calls ∙ own_tape t

-- ---- one call more

pub calls_of_more : (t : Option Tape) (call : Call)
    → calls_of (with_call t call) ≡ one_call_more call (calls_of t)
calls_of_more None call = refl
calls_of_more (Some t) call = refl

pub tape_of_call : (t : Option Tape) (call : Call)
    → with_call t call ≡ tape_from (first_on t) (calls_of (with_call t call))
tape_of_call None call = refl
tape_of_call (Some t) call = refl

-- ---- what a disk held at first stays as calls are made

first_with_call : (t : Option Tape) (call : Call) → first_on (with_call t call) ≡ first_on t
first_with_call None call = refl
first_with_call (Some t) call = refl

pub first_with_calls : (t : Option Tape) (calls : List Call)
    → first_on (with_calls t calls) ≡ first_on t
first_with_calls t [] = refl
first_with_calls t (call ∷ calls) =
    first_with_calls (with_call t call) calls ∙ first_with_call t call

first_of_failed : (old new : Option Tape) (old_moment new_moment : ℕ) (call : Call)
    → Fails old new old_moment new_moment call → first_on new ≡ first_on old
first_of_failed old new old_moment new_moment call (inl made) =
    ap first_on (made.1).tape ∙ first_with_call old _
first_of_failed old new old_moment new_moment call (inr unmade) = ap first_on unmade.same_tape

first_of_next : (old new : Option Tape) (old_moment new_moment : ℕ) (calls : List Call)
    → NextFails old new old_moment new_moment calls → first_on new ≡ first_on old
first_of_next old new old_moment new_moment [] fails = absurd fails
first_of_next old new old_moment new_moment (call ∷ calls) fails =
    first_of_failed old new old_moment new_moment call fails

pub first_of_stopped : (old new : Option Tape) (old_moment new_moment : ℕ)
    (said : DiskState → List Call) → StopsCalls old new old_moment new_moment said
    → first_on new ≡ first_on old
first_of_stopped old new old_moment new_moment said stops = elim stops.ends [
  | inl made ↦ ap first_on made.tape ∙ first_with_calls old stops.front
  | inr fails ↦ first_of_next (with_calls old stops.front) new
      (old_moment + length stops.front) new_moment stops.others fails
      ∙ first_with_calls old stops.front
]

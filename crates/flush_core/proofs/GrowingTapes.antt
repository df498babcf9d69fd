-- A tape that goes on leaves at earlier moments what it left before.
use Rattle.std.proofs.Common.{◌≡◌, ℕ, zero, suc, ◌<◌, inl, inr, List, [], ◌∷◌, ◌++◌, length, take, Option, Some, None, slice_get, refl, sym, ap, ◌∙◌, arith}
use Rattle.std.proofs.lemmas.List.{append-nil, append_assoc}
use Rattle.segment_disk.specs.declared.disk.Call.{Call}
use Rattle.segment_disk.specs.Tape.{Tape, failed_call, with_call}
use Rattle.segment_disk.specs.DiskImage.{DiskImage, LeftAt}
use Rattle.segment_disk.proofs.Fronts.{take-before}
use Rattle.flush_core.specs.Calls.{AreMade, BreaksOff, with_calls}
use Rattle.flush_core.proofs.LeftLaws.{left_moved}

-- some calls, or none, were made since
abbrev pub GoesOn : Option Tape → Option Tape → Type 0
GoesOn old new = (more : List Call) × (new ≡ with_calls old more)

-- ---- lists of calls

pub with_calls-append : (tape : Option Tape) (xs ys : List Call) → with_calls tape (xs ++ ys) ≡ with_calls (with_calls tape xs) ys
with_calls-append tape [] ys = refl
with_calls-append tape (x ∷ xs) ys = with_calls-append (with_call tape x) xs ys

pub with_calls-some : (t : Tape) (more : List Call) → with_calls (Some t) more ≡ Some (record t { calls = t.calls ++ more })
with_calls-some t [] = ap (λ (calls : List Call). Some (record t { calls = calls })) (sym (append-nil t.calls))
with_calls-some t (call ∷ more) =
    with_calls-some (record t { calls = t.calls ++ call ∷ [] }) more ∙ ap (λ (calls : List Call). Some (record t { calls = calls })) (append_assoc t.calls (call ∷ []) more)

pub with_calls-none : (more : List Call) → with_calls None more ≡ None
with_calls-none [] = refl
with_calls-none (call ∷ more) = with_calls-none more

slice_get-before : (calls more : List Call) (m : ℕ) → m < length calls → slice_get (calls ++ more) m ≡ slice_get calls m
slice_get-before [] more m within = absurd (omega arith)
slice_get-before (c ∷ calls) more zero within = refl
slice_get-before (c ∷ calls) more (suc m) within = slice_get-before calls more m (omega arith)

pub LeftAt-before : (t : Tape) (more : List Call) (moment : ℕ) (image : DiskImage) → moment < length t.calls → LeftAt (record t { calls = t.calls ++ more }) moment image → LeftAt t moment image
LeftAt-before t more moment image within =
    left_moved t.at_first image (take moment (t.calls ++ more)) (take moment t.calls) (slice_get (t.calls ++ more) moment) (slice_get t.calls moment)
    (take-before t.calls more moment (omega arith)) (slice_get-before t.calls more moment within)

-- ---- what goes on

pub GoesOn-same : (tape : Option Tape) → GoesOn tape tape
GoesOn-same tape = ([], refl)

pub GoesOn-made : (old new : Option Tape) (at to : ℕ) (calls : List Call) → AreMade old new at to calls → GoesOn old new
GoesOn-made old new at to calls made = (calls, made.tape)

pub GoesOn-broken : (old new : Option Tape) (at to : ℕ) (calls : List Call) → BreaksOff old new at to calls → GoesOn old new
GoesOn-broken old new at to calls broken = elim broken.fails [
  | inl failed ↦ (let last = failed_call failed.0 broken.next in (broken.front ++ last ∷ [], failed.1.tape ∙ sym (with_calls-append old broken.front (last ∷ []))))
  | inr not_made ↦ (broken.front, not_made.same_tape)
]

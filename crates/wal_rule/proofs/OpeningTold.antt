-- A tape that goes on from the one at the opening tells what the disk held then.
use Rattle.std.specs.Prelude.{IfSome}
use Rattle.std.proofs.Common.{◌≡◌, [], ℕ, ◌≤◌, List, ◌++◌, length, take, sym, ap, ◌∙◌, subst, Some, None, arith}
use Rattle.std.proofs.Math.Seq.{take-append_seam}
use Rattle.segment_disk.specs.declared.disk.Call.{Call}
use Rattle.segment_disk.specs.Assured.{SegmentAssures}
use Rattle.segment_disk.specs.Tape.{DiskState, Tape, after_calls, state_at, state_now}
use Rattle.flush_core.specs.Pages.{HoldsNothing}
use Rattle.machine_state.specs.Suited.{BeganSuited, IsLogAt, IsSuited}
use Rattle.machine_state.specs.Words.{Opening}
use Rattle.wal_rule.specs.Slotted.{GoesOnFrom, first_on}

-- the state at a moment that the earlier tape counted
state_then : (b t : Tape) (moment : ℕ) → moment ≡ length b.calls → t.at_first ≡ b.at_first
    → GoesOnFrom (Some b) t → state_at t moment ≡ state_now b
state_then b t moment counted same goes =
    ap (λ (d : DiskState). after_calls d (take moment t.calls)) same
    ∙ ap (λ (calls : List Call). after_calls b.at_first (take moment calls)) goes.1
    ∙ ap (λ (n : ℕ). after_calls b.at_first (take n (b.calls ++ goes.0))) counted
    ∙ ap (λ (calls : List Call). after_calls b.at_first calls)
    (take-append_seam b.calls goes.0)

-- where no segment was there at the opening, no word is
none_assures : (opening : Opening) → opening.made ≡ 0 → (state : DiskState)
    → ((n : ℕ) → state n ≡ None) → IsSuited opening state
none_assures opening none_made state none_there = λ n. subst
    (SegmentAssures (opening.setup).seg_size
    (λ segment. (1 ≤ segment) × (segment ≤ opening.made)) (IsLogAt opening []) n)
    (sym (none_there n)) (λ made. omega (arith, none_made, made.0, made.1))

-- what a disk held at the opening that a log may go on on
pub found_suited : (opening : Opening) (began now : Rattle.std.specs.Prelude.Option Tape)
    → IfSome began (λ (t : Tape). IsSuited opening (state_now t))
    → IfSome began (λ (t : Tape). opening.moment ≡ length t.calls)
    → IfSome now (λ (t : Tape). t.at_first ≡ first_on began) → IfSome now (GoesOnFrom began)
    → IfSome now (BeganSuited opening)
found_suited opening began None suited counted same goes = tt
found_suited opening None (Some t) suited counted same goes = absurd goes
found_suited opening (Some b) (Some t) suited counted same goes =
    subst (IsSuited opening) (sym (state_then b t opening.moment counted same goes)) suited

none_suited : (opening : Opening) (began : Rattle.std.specs.Prelude.Option Tape)
    → opening.made ≡ 0 → HoldsNothing began
    → IfSome began (λ (t : Tape). IsSuited opening (state_now t))
none_suited opening None none_made none_there = tt
none_suited opening (Some b) none_made none_there =
    none_assures opening none_made (state_now b) none_there

pub began_suited : (opening : Opening) (began now : Rattle.std.specs.Prelude.Option Tape)
    → opening.made ≡ 0 → HoldsNothing began → IfSome began (λ (t : Tape). opening.moment ≡ length t.calls)
    → IfSome now (λ (t : Tape). t.at_first ≡ first_on began) → IfSome now (GoesOnFrom began)
    → IfSome now (BeganSuited opening)
began_suited opening began now none_made none_there counted same goes =
    found_suited opening began now (none_suited opening began none_made none_there) counted same goes

-- The segments that were made behind a call of the device, however it ended.
use Rattle.std.proofs.Common.{◌≡◌, ℕ, ◌+◌, ◌*◌, ◌≤◌, ◌⊎◌, inl, inr, Bool, true, false, List, [], ◌∷◌, ◌++◌, length, drop, Option, Some, None, IfSome, refl, sym, ap, subst, ◌∙◌, arith}
use Rattle.std.proofs.lemmas.List.{drop-append-le, drop_all}
use Rattle.std.proofs.lemmas.Option.{IfSome_then}
use mathlib.Core.Option.{none, some, some-ne-none}
use Rattle.segment_disk.specs.declared.disk.Call.{Call}
use Rattle.segment_disk.specs.declared.disk.CallKind.{CallKind}
use Rattle.segment_disk.specs.declared.disk.CallKind.TheVariants.{Create, Write, Sync}
use Rattle.segment_disk.specs.Present.{MakesNone}
use Rattle.segment_disk.specs.Tape.{create_call, failed_call}
use Rattle.machine_state.specs.Words.{Opening}
use Rattle.machine_state.specs.Views.{Plain}
use Rattle.machine_state.specs.Moves.{CallOutcome, Done, Failed, after_create, one_call_more, with_outcome}
use Rattle.machine_state.specs.Made.{MakeInTurn, MakesNext, last_behind}
use Rattle.machine_state.specs.Durable.{IsMadeInTurn}

-- one call more
in_turn_more : (from last : ℕ) (calls : List Call) (call : Call) → MakeInTurn from calls last
    → MakesNext last call.segment call.kind
    → MakeInTurn from (calls ++ call ∷ []) (last_behind last call.kind)
in_turn_more from last [] call same next = (
  subst (λ (n : ℕ). MakesNext n call.segment call.kind) (sym same) next,
  ap (λ (n : ℕ). last_behind n call.kind) same,
)
in_turn_more from last (c ∷ calls) call turn next =
    (turn.0, in_turn_more (last_behind from c.kind) last calls call turn.1 next)

-- a call that makes no segment
none_next : (kind : CallKind) → MakesNone kind → (last segment : ℕ) → MakesNext last segment kind
none_next (Create made) nothing last segment = absurd nothing
none_next (Write page bytes) nothing last segment = tt
none_next Sync nothing last segment = tt

none_last : (kind : CallKind) → MakesNone kind → (last : ℕ) → last_behind last kind ≡ last
none_last (Create made) nothing last = absurd nothing
none_last (Write page bytes) nothing last = refl
none_last Sync nothing last = refl

-- calls that are told, with one more
call_more : (P Q R : List Call → Type 0) (o : Option (List Call)) (call : Call)
    → ((calls : List Call) → P calls → Q calls → R (calls ++ call ∷ []))
    → IfSome o P → IfSome o Q → IfSome (one_call_more call o) R
call_more P Q R None call f p q = tt
call_more P Q R (Some calls) call f p q = f calls p q

module _ (opening : Opening) where
  -- where no call was made since the opening: those that were found
  pub found_in_turn : (w : Plain) → w.made ≡ opening.made
      → IfSome w.calls (λ calls. opening.moment ≡ length calls)
      → IfSome w.calls (IsMadeInTurn opening w)
  found_in_turn w same counted = IfSome_then w.calls counted (λ calls count. record {
    last = opening.made;
    in_turn = subst (λ (cs : List Call). MakeInTurn opening.made cs opening.made)
        (sym (drop_all opening.moment calls (omega (arith, count)))) refl;
    known = λ _. sym same;
    low = inl refl;
  })

  abbrev size : ℕ
  size = (opening.setup).seg_size

  one_more : (w n : Plain) (calls : List Call) (call : Call) → opening.moment ≤ length calls
      → (m : IsMadeInTurn opening w calls) → MakesNext m.last call.segment call.kind
      → (n.fault ≡ none → last_behind m.last call.kind ≡ n.made)
      → (last_behind m.last call.kind ≡ opening.made)
      ⊎ (last_behind m.last call.kind * (opening.setup).seg_size ≤ n.written)
      → IsMadeInTurn opening n (calls ++ call ∷ [])
  one_more w n calls call within m next known low = record {
    last = last_behind m.last call.kind;
    in_turn = subst
        (λ (cs : List Call). MakeInTurn opening.made cs (last_behind m.last call.kind))
        (sym (drop-append-le opening.moment calls (call ∷ []) within))
        (in_turn_more opening.made m.last (drop opening.moment calls) call m.in_turn next);
    known = known;
    low = low;
  }

  rising : (last a b : ℕ) → a ≤ b → (last ≡ opening.made) ⊎ (last * size ≤ a)
      → (last ≡ opening.made) ⊎ (last * size ≤ b)
  rising last a b rises (inl same) = inl same
  rising last a b rises (inr below) = inr (omega (arith, rises, below))

  module _ (w : Plain) (up : w.fault ≡ none) (begun : opening.moment ≤ w.moment)
      (counted : IfSome w.calls (λ calls. w.moment ≡ length calls))
      (made : IfSome w.calls (IsMadeInTurn opening w)) where
    told_more : (n : Plain) (call : Call) → ((calls : List Call) (m : IsMadeInTurn opening w calls)
        → opening.moment ≤ length calls → IsMadeInTurn opening n (calls ++ call ∷ []))
        → IfSome (one_call_more call w.calls) (IsMadeInTurn opening n)
    told_more n call f =
        call_more (λ calls. w.moment ≡ length calls) (IsMadeInTurn opening w)
        (IsMadeInTurn opening n) w.calls call
        (λ calls count m. f calls m (omega (arith, begun, count))) counted made

    -- ---- a create

    module _ (segment : ℕ) (next : segment ≡ w.made + 1)
        (behind : segment * (opening.setup).seg_size ≤ w.written) where
      abbrev create : Call
      create = create_call size segment

      abbrev created : CallOutcome → Plain
      created outcome = after_create segment create outcome w

      is_last : (calls : List Call) (m : IsMadeInTurn opening w calls) → segment ≡ m.last + 1
      is_last calls m = omega (arith, next, m.known up)

      starts_low : (calls : List Call) (m : IsMadeInTurn opening w calls)
          → (m.last + 1) * (opening.setup).seg_size ≤ w.written
      starts_low calls m =
          subst (λ (n : ℕ). n * size ≤ w.written) (is_last calls m) behind

      is_failed : (faults : ℕ) (counted : _) (last : ℕ)
          → (created (Failed faults counted)).fault ≡ none
          → last ≡ (created (Failed faults counted)).made
      is_failed faults none last is = absurd (some-ne-none faults is)
      is_failed faults (some any) last is = absurd (some-ne-none faults is)

      failed_more : (faults : ℕ) (any : Bool) (calls : List Call) (m : IsMadeInTurn opening w calls)
          → opening.moment ≤ length calls
          → IsMadeInTurn opening (created (Failed faults (some any)))
          (calls ++ failed_call any create ∷ [])
      failed_more faults true calls m within =
          one_more w (created (Failed faults (some true))) calls (failed_call true create) within m
          (is_last calls m) (is_failed faults (some true) (m.last + 1)) (inr (starts_low calls m))
      failed_more faults false calls m within =
          one_more w (created (Failed faults (some false))) calls (failed_call false create) within
          m (is_last calls m) (is_failed faults (some false) m.last) m.low

      pub created_in_turn : (outcome : CallOutcome)
          → (let n = after_create segment (create_call (opening.setup).seg_size segment) outcome
          w in IfSome n.calls (IsMadeInTurn opening n))
      created_in_turn Done = told_more (created Done) create (λ calls m within.
          one_more w (created Done) calls create within m (is_last calls m)
          (λ _. sym (is_last calls m)) (inr (starts_low calls m)))
      created_in_turn (Failed faults none) = IfSome_then w.calls made (λ calls m. record {
        last = m.last;
        in_turn = m.in_turn;
        known = is_failed faults none m.last;
        low = m.low;
      })
      created_in_turn (Failed faults (some any)) =
          told_more (created (Failed faults (some any))) (failed_call any create)
          (failed_more faults any)

    -- ---- a call that makes no segment

    module _ (call : Call) (n : Plain) (same : n.made ≡ w.made) (rises : w.written ≤ n.written)
      where
        still_in_turn : (calls : List Call) → IsMadeInTurn opening w calls
            → IsMadeInTurn opening n calls
        still_in_turn calls m = record {
          last = m.last;
          in_turn = m.in_turn;
          known = λ _. m.known up ∙ sym same;
          low = rising m.last w.written n.written rises m.low;
        }

        other_more : (other : Call) → MakesNone other.kind → (calls : List Call)
            (m : IsMadeInTurn opening w calls) → opening.moment ≤ length calls
            → IsMadeInTurn opening n (calls ++ other ∷ [])
        other_more other nothing calls m within =
            let last = none_last other.kind nothing m.last in
            one_more w n calls other within m (none_next other.kind nothing m.last other.segment)
            (λ _. last ∙ m.known up ∙ sym same)
            (subst (λ (k : ℕ). (k ≡ opening.made) ⊎ (k * size ≤ n.written)) (sym last)
            (rising m.last w.written n.written rises m.low))

        pub others_in_turn : (outcome : CallOutcome)
            → n.calls ≡ (with_outcome call outcome w).calls → MakesNone call.kind
            → ((made : Bool) → MakesNone (failed_call made call).kind)
            → IfSome n.calls (IsMadeInTurn opening n)
        others_in_turn outcome is nothing failed =
            subst (λ (o : Option (List Call)). IfSome o (IsMadeInTurn opening n)) (sym is)
            (behind outcome)
          where
            behind : (outcome : CallOutcome)
                → IfSome (with_outcome call outcome w).calls (IsMadeInTurn opening n)
            behind Done = told_more n call (other_more call nothing)
            behind (Failed faults none) = IfSome_then w.calls made still_in_turn
            behind (Failed faults (some any)) =
                told_more n (failed_call any call) (other_more (failed_call any call) (failed any))

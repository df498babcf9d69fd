-- Who has the turn to write, and who has the writer in hand, through each kind of step that changes
-- the turn's word, what a view has of it, where the writer is, or the views that there are. A
-- writing one is a view's number and what it has of the turn.
use Rattle.std.proofs.Common.{Bool, cond, ◌≡◌, ◌≢◌, ℕ, ◌+◌, List, [], ◌∷◌, ◌++◌, set, sym, refl, ap, ◌∙◌, subst, arith}
use mathlib.Core.Option.{Option, none, some}
use Rattle.atomic_table.proofs.Lists.{at_longer, set_again}
use Rattle.machine_state.specs.Views.{HasAt, Plain, Lent, Hold, Idle, Turned, Out, View, writer_of}
use Rattle.machine_state.specs.Locked.{HasWriteTurn, StandsTo, IsWriteTurn}
use Rattle.machine_state.specs.Moves.{with_hold, after_take_write_turn}
use Rattle.machine_state.specs.Steps.{exchanged}
use Rattle.machine_state.proofs.Lists.{one_set, one_added, at_place}
use Rattle.machine_laws.proofs.LocksKept.{met_cases, two_set_again}

-- who has nothing of the turn stands well to each writer; who has something of it, to one turn
turned_is : (turn holder : ℕ) (home : Option Plain) (writer : Plain) (id number : ℕ) (h : Hold)
    → StandsTo turn holder home writer id number h → HasWriteTurn h
    → (turn ≡ number + 1) × (holder ≡ id)
turned_is turn holder home writer id number Idle stands has = absurd has
turned_is turn holder home writer id number Turned stands has = (stands.0, stands.1)
turned_is turn holder home writer id number (Out l) stands has = (stands.0, stands.1)

pub at_hold : (writers : List (ℕ × Hold)) (id : ℕ) (m : ℕ × Hold) (h : Hold) → HasAt writers id m
    → m.1 ≡ h → HasAt writers id (m.0, h)
at_hold writers id m h here is = subst (λ (x : Hold). HasAt writers id (m.0, x)) is here

-- where a hold is none at all, it stands well to everything
stands_by_turn : (turn holder : ℕ) (home : Option Plain) (writer : Plain) (id number : ℕ) (h : Hold)
    → (HasWriteTurn h → ⊥) → StandsTo turn holder home writer id number h
stands_by_turn turn holder home writer id number Idle not = tt
stands_by_turn turn holder home writer id number Turned not = absurd (not tt)
stands_by_turn turn holder home writer id number (Out l) not = absurd (not tt)

module _ (turn : ℕ) (home : Option Plain) (writer : Plain) (writers : List (ℕ × Hold))
    (k : IsWriteTurn turn home writer writers) where
  abbrev Stands : ℕ → ℕ → Option Plain → Plain → ℕ → ℕ × Hold → Type 0
  Stands turn holder home writer j x = StandsTo turn holder home writer j x.0 x.1

  pub writing_added : (number : ℕ) → IsWriteTurn turn home writer (writers ++ (number, Idle) ∷ [])
  writing_added number = record {
    holder = k.holder;
    each = λ j x at. one_added (Stands turn k.holder home writer) writers (number, Idle) k.each tt
        j x at;
    held = λ taken. let h = k.held taken in
        (h.0, at_longer writers ((number, Idle) ∷ []) k.holder h.0 h.1, h.2);
    free = k.free;
  }

  module _ (id : ℕ) (m : ℕ × Hold) (here : HasAt writers id m) where
    pub writing_taken_in : (other : ℕ) (x : ℕ × Hold) → HasAt writers other x → x.1 ≡ Idle
        → IsWriteTurn turn home writer (set (set writers other (x.0, Idle)) id m)
    writing_taken_in other x there idle =
        let rests : (x.0, Idle) ≡ x = λ t. (x.0, sym idle t) in
        subst (λ (xs : List (ℕ × Hold)). IsWriteTurn turn home writer xs)
        (sym (two_set_again writers id other m x (x.0, Idle) here there rests)) k

    -- a free turn is taken
    pub writing_taken : turn ≡ 0
        → IsWriteTurn (m.0 + 1) home writer (set writers id (m.0, Turned))
    writing_taken free = record {
      holder = id;
      each = λ j x at. one_set (Stands (m.0 + 1) id home writer) writers id (m.0, Turned)
          (λ j x apart at. stands_by_turn (m.0 + 1) id home writer j x.0 x.1 (λ has.
          let t = (turned_is turn k.holder home writer j x.0 x.1 (k.each j x at) has).0 in
          absurd (omega arith)))
          (refl, refl, k.free free) j x at;
      held = λ taken. ((m.0, Turned), at_place writers id m (m.0, Turned) here, tt);
      free = λ none. absurd (omega arith);
    }

    module _ (has : HasWriteTurn m.1) where
      -- the one that has the turn has it alone
      others : (turn' : ℕ) (home' : Option Plain) (writer' : Plain) (j : ℕ) (x : ℕ × Hold) → j ≢ id
          → HasAt writers j x → Stands turn' id home' writer' j x
      others turn' home' writer' j x apart at = stands_by_turn turn' id home' writer' j x.0 x.1
          (λ turned. apart
          (sym (turned_is turn k.holder home writer j x.0 x.1 (k.each j x at) turned).1
          ∙ (turned_is turn k.holder home writer id m.0 m.1 (k.each id m here) has).1))

      -- the turn's holder goes on
      pub writing_goes_on : (home' : Option Plain) (writer' : Plain) (h : Hold) → HasWriteTurn h
          → StandsTo turn id home' writer' id m.0 h
          → IsWriteTurn turn home' writer' (set writers id (m.0, h))
      writing_goes_on home' writer' h turned stands =
          let mine = turned_is turn k.holder home writer id m.0 m.1 (k.each id m here) has in
          record {
            holder = id;
            each = λ j x at. one_set (Stands turn id home' writer') writers id (m.0, h)
                (λ j x apart at. others turn home' writer' j x apart at) stands j x at;
            held = λ taken. ((m.0, h), at_place writers id m (m.0, h) here, turned);
            free = λ none. let is = mine.0 in absurd (omega arith);
          }

  module _ (id number : ℕ) where
    -- the writer is taken from home
    pub writing_slot_out : HasAt writers id (number, Turned) → (l : Lent) → l.writer ≡ writer
        → IsWriteTurn turn none writer (set writers id (number, Out l))
    writing_slot_out here l is =
        let t = k.each id (number, Turned) here in
        writing_goes_on id (number, Turned) here tt none writer (Out l) tt (t.0, refl, refl, is)

    -- the writer is given back home
    pub writing_slot_in : (l : Lent) → HasAt writers id (number, Out l)
        → IsWriteTurn turn (some l.writer) writer (set writers id (number, Turned))
    writing_slot_in l here =
        let t = k.each id (number, Out l) here in
        writing_goes_on id (number, Out l) here tt (some l.writer) writer Turned tt
        (t.0, refl, ap (λ (x : Plain). some x) t.3)

    -- what the one keeps that has the writer in hand changes, and the writer with it
    pub writing_changed : (l l' : Lent) → HasAt writers id (number, Out l)
        → IsWriteTurn turn home l'.writer (set writers id (number, Out l'))
    writing_changed l l' here =
        let t = k.each id (number, Out l) here in
        writing_goes_on id (number, Out l) here tt home l'.writer (Out l') tt (t.0, refl, t.2, refl)

    pub writing_released : HasAt writers id (number, Turned)
        → IsWriteTurn 0 home writer (set writers id (number, Idle))
    writing_released here = record {
      holder = id;
      each = λ j x at. one_set (Stands 0 id home writer) writers id (number, Idle)
          (λ j x apart at. others id (number, Turned) here tt 0 home writer j x apart at) tt j x at;
      held = λ taken. absurd (taken refl);
      free = λ none. (k.each id (number, Turned) here).2;
    }

-- the turn is asked for: it is taken where it is free
pub writing_asked : (turn : ℕ) (home : Option Plain) (writer : Plain) (writers : List (ℕ × Hold))
    (id : ℕ) (v : View) → IsWriteTurn turn home writer writers → HasAt writers id (writer_of v)
    → IsWriteTurn (exchanged v 0 ((v.reserving).number + 1) turn) home writer
    (set writers id (writer_of (after_take_write_turn turn v)))
writing_asked turn home writer writers id v k here = met_cases
    (λ (b : Bool). IsWriteTurn (cond b ((v.reserving).number + 1) turn) home writer
    (set writers id (writer_of (cond b (with_hold Turned v) v)))) turn 0
    (λ free. writing_taken turn home writer writers k id (writer_of v) here free)
    (λ taken. subst (λ (xs : List (ℕ × Hold)). IsWriteTurn turn home writer xs)
    (sym (set_again writers id (writer_of v) here)) k)

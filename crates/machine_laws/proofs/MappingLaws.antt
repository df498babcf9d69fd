-- Who has the turn to map a page, and how far it is, through each kind of step that changes the
-- turn's word, a view's stage, or the views that there are. A mapper is a view's number and stage.
use Rattle.std.proofs.Common.{◌⊎◌, inl, inr, Bool, cond, eqb, ◌≡◌, ◌≢◌, ℕ, ◌+◌, List, [], ◌∷◌, ◌++◌, set, sym, refl, ap, ◌∙◌, subst, arith}
use Rattle.atomic_table.proofs.Lists.{at_longer, set_again}
use Rattle.machine_state.specs.Views.{HasAt, Stage, Away, Taken, Looked, Ready, Zeroing, Published, View, mapper_of}
use Rattle.machine_state.specs.Locked.{HasTurn, IsMappingTurn}
use Rattle.machine_state.specs.Paged.{IsOpen}
use Rattle.machine_state.specs.Moves.{looked, ready, with_stage, after_take_mapping_turn}
use Rattle.machine_state.specs.Steps.{exchanged}
use Rattle.machine_state.proofs.Lists.{one_set, one_added, at_place}
use Rattle.machine_laws.proofs.LocksKept.{met_cases, two_set_again}

pub open_has : (s : Stage) → IsOpen s → HasTurn s
open_has Away is_open = is_open
open_has Taken is_open = tt
open_has (Looked at) is_open = tt
open_has (Ready at written) is_open = tt
open_has (Zeroing at count) is_open = tt
open_has (Published at) is_open = tt

pub has_or_away : (s : Stage) → HasTurn s ⊎ (s ≡ Away)
has_or_away Away = inr refl
has_or_away Taken = inl tt
has_or_away (Looked at) = inl tt
has_or_away (Ready at written) = inl tt
has_or_away (Zeroing at count) = inl tt
has_or_away (Published at) = inl tt

module _ (turn : ℕ) (stage : Stage) (mappers : List (ℕ × Stage))
    (k : IsMappingTurn turn stage mappers) where
  pub mapping_added : (number : ℕ) → IsMappingTurn turn stage (mappers ++ (number, Away) ∷ [])
  mapping_added number = record {
    holder = k.holder;
    each = λ j m at. one_added
        (λ j m. HasTurn m.1 → (k.holder ≡ j) × (stage ≡ m.1) × (turn ≡ m.0 + 1)) mappers
        (number, Away) k.each (λ has. absurd has) j m at;
    held = λ taken. let h = k.held taken in
        (h.0, at_longer mappers ((number, Away) ∷ []) k.holder h.0 h.1, h.2);
    free = k.free;
  }

  module _ (id : ℕ) (m : ℕ × Stage) (here : HasAt mappers id m) where
    pub mapping_taken_in : (other : ℕ) (x : ℕ × Stage) → HasAt mappers other x → x.1 ≡ Away
        → IsMappingTurn turn stage (set (set mappers other (x.0, Away)) id m)
    mapping_taken_in other x there away =
        let rests : (x.0, Away) ≡ x = λ t. (x.0, sym away t) in
        subst (λ (xs : List (ℕ × Stage)). IsMappingTurn turn stage xs)
        (sym (two_set_again mappers id other m x (x.0, Away) here there rests)) k

    -- a free turn is taken
    pub mapping_taken : (s : Stage) → HasTurn s → turn ≡ 0
        → IsMappingTurn (m.0 + 1) s (set mappers id (m.0, s))
    mapping_taken s turned free = record {
      holder = id;
      each = λ j x at. one_set
          (λ j x. HasTurn x.1 → (id ≡ j) × (s ≡ x.1) × (m.0 + 1 ≡ x.0 + 1)) mappers id (m.0, s)
          (λ j x apart at has. let t = (k.each j x at has).2 in absurd (omega arith))
          (λ has. (refl, refl, refl)) j x at;
      held = λ taken. ((m.0, s), at_place mappers id m (m.0, s) here, turned);
      free = λ none. absurd (omega arith);
    }

    module _ (has : HasTurn m.1) where
      -- the one that has the turn has it alone
      apart_from : {A : Type 0} (j : ℕ) (x : ℕ × Stage) → j ≢ id → HasAt mappers j x
          → HasTurn x.1 → A
      apart_from j x apart at turned =
          absurd (apart (sym (k.each j x at turned).0 ∙ (k.each id m here has).0))

      -- the turn's holder goes on
      pub mapping_goes_on : (s : Stage) → HasTurn s → IsMappingTurn turn s (set mappers id (m.0, s))
      mapping_goes_on s turned =
          let mine = k.each id m here has in
          record {
            holder = id;
            each = λ j x at. one_set
                (λ j x. HasTurn x.1 → (id ≡ j) × (s ≡ x.1) × (turn ≡ x.0 + 1)) mappers id (m.0, s)
                (λ j x apart at turned. apart_from j x apart at turned)
                (λ turned. (refl, refl, mine.2)) j x at;
            held = λ taken. ((m.0, s), at_place mappers id m (m.0, s) here, turned);
            free = λ none. let is = mine.2 in absurd (omega arith);
          }

      pub mapping_released : IsMappingTurn 0 Away (set mappers id (m.0, Away))
      mapping_released = record {
        holder = id;
        each = λ j x at. one_set
            (λ j x. HasTurn x.1 → (id ≡ j) × (Away ≡ x.1) × (0 ≡ x.0 + 1)) mappers id (m.0, Away)
            (λ j x apart at turned. apart_from j x apart at turned)
            (λ turned. absurd turned) j x at;
        held = λ taken. absurd (taken refl);
        free = λ none. refl;
      }

    -- each stage but Away is had by the turn's holder; a look and what is met leave Away and keep
    -- the turn
    pub mapping_moved : (f : Stage → Stage) → f Away ≡ Away
        → ((s : Stage) → HasTurn s → HasTurn (f s))
        → ((stage ≡ m.1) × IsMappingTurn turn (f m.1) (set mappers id (m.0, f m.1)))
        ⊎ ((m.1 ≡ Away) × (set mappers id (m.0, f m.1) ≡ mappers))
    mapping_moved f rests keeps = elim (has_or_away m.1) [
      | inl has ↦ inl ((k.each id m here has).1, mapping_goes_on has (f m.1) (keeps m.1 has))
      | inr away ↦ inr (
        away,
        ap (λ (s : Stage). set mappers id (m.0, s)) (ap f away ∙ rests ∙ sym away)
            ∙ set_again mappers id m here,
      )
    ]

-- ---- what a mapper asks for and meets

pub looked_keeps : (met : ℕ) (s : Stage) → HasTurn s → HasTurn (looked met s)
looked_keeps met Away has = has
looked_keeps met Taken has = tt
looked_keeps met (Looked at) has = tt
looked_keeps met (Ready at written) has = tt
looked_keeps met (Zeroing at count) has = tt
looked_keeps met (Published at) has = tt

pub ready_keeps : (met : ℕ) (s : Stage) → HasTurn s → HasTurn (ready met s)
ready_keeps met Away has = has
ready_keeps met Taken has = tt
ready_keeps met (Looked at) has = tt
ready_keeps met (Ready at written) has = tt
ready_keeps met (Zeroing at count) has = tt
ready_keeps met (Published at) has = tt

-- the turn is asked for: it is taken where it is free
pub mapping_asked : (turn : ℕ) (stage : Stage) (mappers : List (ℕ × Stage)) (id : ℕ) (v : View)
    → IsMappingTurn turn stage mappers → HasAt mappers id (mapper_of v)
    → IsMappingTurn (exchanged v 0 ((v.reserving).number + 1) turn) (cond (eqb turn 0) Taken stage)
    (set mappers id (mapper_of (after_take_mapping_turn turn v)))
mapping_asked turn stage mappers id v k here = met_cases
    (λ (b : Bool). IsMappingTurn (cond b ((v.reserving).number + 1) turn) (cond b Taken stage)
    (set mappers id (mapper_of (cond b (with_stage Taken v) v)))) turn 0
    (λ free. mapping_taken turn stage mappers k id (mapper_of v) here Taken tt free)
    (λ taken. subst (λ (xs : List (ℕ × Stage)). IsMappingTurn turn stage xs)
    (sym (set_again mappers id (mapper_of v) here)) k)

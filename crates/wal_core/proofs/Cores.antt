-- A core: its lanes are the machine's backends, its writer is the machine's.
use Rattle.std.proofs.Common.{◌≡◌, inl, inr, ⊎_elim, ℕ, ◌+◌, ◌^◌, ◌<◌, List, [], ◌∷◌, ◌++◌, length, slice_get, slice_index_or, Some, Result, Ok, Err, IfOk, refl, sym, ap, ◌∙◌, subst, arith}
use Rattle.std.proofs.lemmas.Bool.{cases_lt}
use Rattle.std.proofs.lemmas.List.{append_assoc}
use Rattle.std.proofs.lemmas.Option.{slice_get_read}
use mathlib.Core.Option.{some}
use Rattle.machine_state.proofs.Lists.{at_same}
use Rattle.machine_state.specs.Views.{HasAt, Lent, Out, Plain, View}
use Rattle.machine_turns.specs.Doing.{Backend, Machine}
use Rattle.machine_turns.specs.Standing.{HasBackend}
use Rattle.machine_turns.specs.declared.lane.PlainBackend.{PlainBackend}
use Rattle.machine_turns.specs.declared.script.PlainLine.{PlainLine}
use Rattle.wal_core.specs.Cores.{HasWriter, first_lane, first_lanes}
use Rattle.wal_core.specs.PlainData.{plain_view}
use Rattle.wal_core.specs.Playing.{CoreState, PlaysMachine}
use Rattle.wal_core.proofs.Lists.{below_got, got_below}
use Rattle.wal_core.proofs.Ready.{live_is_low}

module _ (core : CoreState) (m : Machine) (k : PlaysMachine core m) where
  -- a lane has answered as many lines as its backend
  pub answered_is : (number : ℕ) (b : Backend) (lane : PlainBackend) → HasBackend m number b
      → slice_get core.lanes number ≡ Some lane → b.answered ≡ lane.answered
  answered_is number b lane there at =
      let found = k.lanes number b there in
      let same : found.0 ≡ lane = cc in
      (found.2.2).answered ∙ ap (λ (l : PlainBackend). l.answered) same

  -- each pass has a number below 65,536
  pub few_lanes : length core.lanes < 65536
  few_lanes = elim (cases_lt (length core.lanes) 65536) [
    | inl few ↦ few
    | inr many ↦ (
        let lane = below_got core.lanes 65535 (omega (arith, many)) in
        let low = got_below core.lanes 65535 lane.0 lane.1 in
        let there = below_got m.backends 65535 (omega (arith, low, k.count)) in
        let b = there.0 in
        let found = k.lanes 65535 b there.1 in
        let run = (k.running).views 65535 b there.1 in
        let same : found.2.0 ≡ run.0 =
        at_same (m.state).views found.2.0 run.0 65536 found.2.1 run.1.0 in
        let number_is : ((run.0).reserving).number ≡ 65536 = subst
        (λ (v : View). (v.reserving).number ≡ 65536) same found.2.3 in
        let below = (live_is_low m k.running 65535 run.0 run.1).number in
        absurd (omega (arith, number_is, below)))
  ]

  -- the machine's writer is the core's
  pub writer_is_core's : (w : Plain) → HasWriter m w → w ≡ (core.writer).plain
  writer_is_core's w has = ⊎_elim
      (λ (home : (m.state).home ≡ some w). (k.writer_is).at_home w home)
      (λ (hand : (id : ℕ) × (v : View) × (l : Lent) × HasAt (m.state).views id v
      × ((v.writing).hold ≡ Out l) × (l.writer ≡ w)).
      sym hand.5 ∙ (k.writer_is).in_hand hand.0 hand.1 hand.2 hand.3 hand.4) has

-- a lane more, and one script fewer left, come to the same lanes
pub lanes_go_on : (size number : ℕ) (old new : List PlainBackend) (lane : PlainBackend) (script : List PlainLine)
    (rest left : List (List PlainLine)) → new ≡ old ++ lane ∷ []
    → lane ≡ first_lane size number script → rest ≡ script ∷ left
    → new ++ first_lanes size (number + 1) left ≡ old ++ first_lanes size number rest
lanes_go_on size number old new lane script rest left more is next =
    ap (λ (x : List PlainBackend). x ++ first_lanes size (number + 1) left) more
    ∙ (append_assoc old (lane ∷ []) (first_lanes size (number + 1) left)
    ∙ ap (λ (x : PlainBackend). old ++ (x ∷ first_lanes size (number + 1) left)) is
    ∙ ap (λ (x : List (List PlainLine)). old ++ first_lanes size number x) (sym next))

module _ (core : CoreState) (m : Machine) (k : PlaysMachine core m) (number : ℕ) (b : Backend) where
  -- the lane that is read is the backend's
  pub lane_read : (lane : PlainBackend) → HasBackend m number b
      → lane ≡ slice_index_or core.lanes number lane → b.answered ≡ lane.answered
  lane_read lane there is =
      let low = got_below m.backends number b there in
      answered_is core m k number b lane there
      (slice_get_read core.lanes (length core.lanes) number lane refl (omega (arith, low, k.count))
      is)

  -- 32 bits count the lines that it has answered
  pub few_answered : (lane : PlainBackend) → HasBackend m number b
      → lane ≡ slice_index_or core.lanes number lane → lane.answered < 2 ^ 32
  few_answered lane there is =
      let low = got_below m.backends number b there in
      let at = slice_get_read core.lanes (length core.lanes) number lane refl
      (omega (arith, low, k.count)) is in
      let found = k.lanes number b there in
      let same : found.0 ≡ lane = cc in
      let counted = (found.2.2).counted in
      subst (λ (l : PlainBackend). l.answered < 2 ^ 32) same (omega (arith, counted.0, counted.1))

  -- and what is read of its view is the view's
  pub view_read : (lane : PlainBackend) (v : View) → HasBackend m number b
      → HasAt (m.state).views (number + 1) v → lane ≡ slice_index_or core.lanes number lane
      → lane.view ≡ plain_view v
  view_read lane v there at is =
      let low = got_below m.backends number b there in
      let lane_at = slice_get_read core.lanes (length core.lanes) number lane refl
      (omega (arith, low, k.count)) is in
      let found = k.lanes number b there in
      let same : found.0 ≡ lane = cc in
      let same_view : found.2.0 ≡ v =
      at_same (m.state).views found.2.0 v (number + 1) found.2.1 at in
      ap (λ (l : PlainBackend). l.view) (sym same) ∙ (found.2.2).view ∙ ap plain_view same_view

  pub none_there : HasBackend m number b → (number < length core.lanes → ⊥) → ⊥
  none_there there none =
      let low = got_below m.backends number b there in none (omega (arith, low, k.count))

-- ---- the disk

pub if_ok : {A E : Type 0} (r : Result A E) (P Q : A → Type 0) → ((x : A) → P x → Q x)
    → IfOk r P → IfOk r Q
if_ok (Ok x) P Q on holds = on x holds
if_ok (Err e) P Q on holds = holds

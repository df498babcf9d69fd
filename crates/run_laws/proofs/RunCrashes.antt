-- What the lines of a run were told survives crashes, and none was told too late.
use Rattle.std.proofs.Common.{ℕ, suc, ◌+◌, ◌≤◌, All, Contains, List, [], ◌∷◌, ◌++◌, inl, inr, refl, subst, arith}
use Rattle.std.proofs.lemmas.List.Elements.{All-cons, All-head, All-nil, All-tail}
use Rattle.byte_position.specs.Geometry.{IsSegmentSize}
use Rattle.segment_disk.specs.Tape.{Tape}
use Rattle.wal_page.specs.Order.{Entry, finish_of}
use Rattle.run_script.specs.Asked.{AskedLine}
use Rattle.machine_state.specs.Words.{Opening, log_limit}
use Rattle.machine_state.specs.Views.{FlushPromise, Joined, View}
use Rattle.machine_state.specs.Moves.{joined_of}
use Rattle.run_laws.specs.declared.told.Told.{Told}
use Rattle.run_laws.specs.Crash.{EachIsTimely, SaysDurable, SurvivesCrashes}
use Rattle.run_laws.specs.Told.{SomeTold}
use Rattle.run_laws.proofs.AnswerLoops.{some_told}
use Rattle.machine_laws.specs.WholeOrders.{LiesBehind}
use Rattle.run_laws.specs.Closed.{IsClosedOn, WasPromised}
use Rattle.run_laws.specs.Timely.{IsTimely}
use Rattle.run_laws.proofs.Fronts.{survive}
use Rattle.run_laws.proofs.Timeliness.{timely}
use Rattle.run_laws.specs.Played.{pass_state_of, state_at_first}
use Rattle.run_laws.specs.Ended.{HasTakenIn, PlayedAll}
use Rattle.run_laws.proofs.LateLines.{none_late}
use Rattle.run_laws.proofs.LinePromises.{lines_promised}
use Rattle.run_laws.proofs.RunOrder.{unmapped}

-- what holds of each that a list contains holds of all
all_contained : {X : Type 0} (P : X → Type 0) (xs : List X)
    → ((x : X) → Contains xs x → P x) → All P xs
all_contained P [] each = All-nil P
all_contained P (x ∷ xs) each =
    All-cons P x xs (each x (0, omega arith, refl))
    (all_contained P xs (λ y c. each y (suc c.0, omega (arith, c.1), c.2)))

-- of each promise of a pass's log this holds
abbrev pub ArePromises : (List Entry → FlushPromise → Type 0) → Joined → Type 0
ArePromises R j = All (R j.entries) j.promises

module _ (R : List Entry → FlushPromise → Type 0) where
  -- what some backend was told is promised
  pub all_promised : (size limit pass moment address : ℕ) (script : List (List AskedLine))
      (lists : List (List Told)) (others : List View)
      → PlayedAll size limit pass script lists others
      → All (λ w. ArePromises R (joined_of w)) others
      → SomeTold (SaysDurable moment address) lists
      → (es : List Entry) × (p : FlushPromise) × R es p × (p.moment ≤ moment)
      × (address ≤ p.upto)
  all_promised size limit pass moment address [] [] others played all says = absurd says
  all_promised size limit pass moment address [] (told ∷ lists) others played all says =
      absurd played
  all_promised size limit pass moment address (lines ∷ script) [] others played all says =
      absurd played
  all_promised size limit pass moment address (lines ∷ script) (told ∷ lists) [] played all says =
      absurd played
  all_promised size limit pass moment address (lines ∷ script) (told ∷ lists) (w ∷ others) played
      all (inl here) =
      let es = (w.reserving).entries in
      let p = lines_promised (R es) size limit pass moment address lines told
      (state_at_first (played.1).seen) (pass_state_of w) (played.1).plays
      (All-head (λ (w : View). ArePromises R (joined_of w)) w others all) here in
      (es, p.0, p.1, p.2, p.3)
  all_promised size limit pass moment address (lines ∷ script) (told ∷ lists) (w ∷ others) played
      all (inr later) =
      all_promised size limit (pass + 1) moment address script lists others played.2
      (All-tail (λ (w : View). ArePromises R (joined_of w)) w others all) later

all_timely : (opening : Opening) (order : List Entry) (t : Tape) (limit : ℕ)
    → IsSegmentSize (opening.setup).seg_size → (pass : ℕ)
    (script : List (List AskedLine)) (lists : List (List Told)) (others : List View)
    → PlayedAll (opening.setup).seg_size limit pass script lists others
    → All (λ w. ArePromises (IsTimely opening order t) (joined_of w)) others
    → EachIsTimely (opening.setup).seg_size opening.moment order t pass script lists
all_timely opening order t limit valid pass [] lists others played all = tt
all_timely opening order t limit valid pass (lines ∷ script) [] others played all = tt
all_timely opening order t limit valid pass (lines ∷ script) (told ∷ lists) [] played all =
    absurd played
all_timely opening order t limit valid pass (lines ∷ script) (told ∷ lists) (w ∷ others) played
    all = (
      none_late opening order t limit pass valid lines told
          (state_at_first (played.1).seen) (pass_state_of w) (played.1).plays
          (All-head (λ (w : View). ArePromises (IsTimely opening order t) (joined_of w)) w others all),
      all_timely opening order t limit valid (pass + 1) script lists others played.2
          (All-tail (λ (w : View). ArePromises (IsTimely opening order t) (joined_of w)) w others all),
    )

module _ (opening : Opening) (order : List Entry) (t : Tape) (v : View)
    (c : IsClosedOn opening order t v) (script : List (List AskedLine))
    (lists : List (List Told)) (taken : HasTakenIn opening v script lists) where
  abbrev size : ℕ
  size = (opening.setup).seg_size

  -- what holds of all that was promised holds of the promises of the passes taken in
  of_others : (R : List Entry → FlushPromise → Type 0)
      → ((es : List Entry) (p : FlushPromise) → WasPromised v es p → R es p)
      → All (λ w. ArePromises R (joined_of w)) taken.others
  of_others R each =
      unmapped (ArePromises R) taken.others
      (subst (All (ArePromises R)) taken.joined
      (all_contained (ArePromises R) (v.reserving).joined
      (λ j there. all_contained (R j.entries) j.promises
      (λ p among. each j.entries p (inr (j, there, refl, among))))))

  pub survive_told : (front : List Entry) → LiesBehind opening front
      → SurvivesCrashes (opening.setup).seg_size opening.moment (front ++ order) lists t
  survive_told front lies moment image since left torn found answer decodes =
      let f = survive opening order t v c front lies moment image since left torn found answer
      decodes in
      record {
        count = f.count;
        front = f.front;
        told = λ n e is says.
            let p = all_promised (WasPromised v) size (log_limit opening.setup) 1 moment
            (finish_of size e) script lists taken.others taken.played
            (of_others (WasPromised v) (λ es p was. was))
            (some_told (SaysDurable moment (finish_of size e)) lists says) in
            f.promised p.0 p.1 p.2 p.3 n e is p.4;
      }

  timely_told : (whole : List Entry)
      → EachIsTimely (opening.setup).seg_size opening.moment whole t 1 script lists
  timely_told whole =
      all_timely opening whole t (log_limit opening.setup) ((c.sound).setup_is).size 1 script lists
      taken.others taken.played
      (of_others (IsTimely opening whole t) (timely opening order t v c whole))

pub told_survive : (opening : Opening) (order : List Entry) (t : Tape) (v : View)
    → IsClosedOn opening order t v → (front : List Entry) → LiesBehind opening front
    → (script : List (List AskedLine)) (lists : List (List Told))
    → HasTakenIn opening v script lists
    → SurvivesCrashes (opening.setup).seg_size opening.moment (front ++ order) lists t
told_survive opening order t v c front lies script lists taken =
    survive_told opening order t v c script lists taken front lies

pub told_timely : (opening : Opening) (order : List Entry) (t : Tape) (v : View)
    → IsClosedOn opening order t v → (whole : List Entry) (script : List (List AskedLine))
    (lists : List (List Told)) → HasTakenIn opening v script lists
    → EachIsTimely (opening.setup).seg_size opening.moment whole t 1 script lists
told_timely opening order t v c whole script lists taken =
    timely_told opening order t v c script lists taken whole

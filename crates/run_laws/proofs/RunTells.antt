-- All lines of a run are told what they may be told.
use Rattle.std.proofs.Common.{◌≡◌, ◌≢◌, ℕ, ◌+◌, ◌≤◌, All, List, [], ◌∷◌, inl, inr, refl, subst, arith}
use Rattle.std.proofs.lemmas.List.Elements.{All-cons, All-head, All-nil, All-tail, All-weaker}
use mathlib.Core.Option.{some}
use Rattle.byte_position.specs.Geometry.{IsSegmentSize}
use Rattle.wal_page.specs.LogPlace.{IsPlace}
use Rattle.wal_page.specs.Order.{Entry}
use Rattle.run_script.specs.Asked.{AskedLine}
use Rattle.machine_state.specs.Words.{GoesOnAtPlace, Opening, down_word, end_form, flushed_word, log_limit, moment_word, order_end}
use Rattle.machine_state.specs.Views.{FlushPromise, Joined, View}
use Rattle.machine_state.specs.Durable.{IsPromised}
use Rattle.machine_state.specs.Moves.{joined_of}
use Rattle.machine_state.specs.Ordered.{FrontEndsAt}
use Rattle.run_laws.proofs.Promises.{told_rightly}
use Rattle.run_laws.specs.declared.told.Told.{Told}
use Rattle.run_laws.specs.Told.{IsFault, Logged, TellsAll}
use Rattle.run_laws.specs.Played.{KnowsFault, state_at_first, pass_state_of}
use Rattle.run_laws.specs.Ended.{HasTakenIn, IsClosedLog, IsKnownTo, PlayedAll, logged_at_end}
use Rattle.run_laws.proofs.RunOrder.{accounted, at_place, unmapped, valid}
use Rattle.run_laws.proofs.TellsLines.{tells}

-- a promise is of what was reserved
abbrev IsWithin : Opening → List Entry → FlushPromise → Type 0
IsWithin opening order p = p.upto ≤ end_form opening.setup (order_end opening order)

-- so is each of a pass that was taken in, and where it found the log full a front ends
abbrev ArePromised : Opening → List Entry → Joined → Type 0
ArePromised opening order j = All (IsWithin opening order) j.promises

abbrev AreFilled : Opening → List Entry → Joined → Type 0
AreFilled opening order j = All (FrontEndsAt opening j.number order j.entries) j.stops

module _ (opening : Opening) (placed : IsPlace (opening.setup).seg_size opening.place)
    (order : List Entry) (last : ℕ) where
  -- a pass of which both hold, which knows faults that the disk told, and saw what was reserved
  record IsRight (w : View) : Type 0 where
    stops : AreFilled opening order (joined_of w)
    promised : ArePromised opening order (joined_of w)
    faulty : (faults : ℕ) → KnowsFault faults (pass_state_of w)
        → IsFault (logged_at_end opening order last) faults
    seen_low : (w.reserving).seen ≤ order_end opening order

  all_tell : IsSegmentSize (opening.setup).seg_size
      → GoesOnAtPlace opening order → (pass : ℕ)
      (script : List (List AskedLine)) (lists : List (List Told)) (others : List View)
      → PlayedAll (opening.setup).seg_size (log_limit opening.setup) pass script lists others
      → All IsRight others
      → TellsAll (logged_at_end opening order last) pass script lists
  all_tell size_is follows pass [] [] [] played right = tt
  all_tell size_is follows pass [] [] (w ∷ others) played right = absurd played
  all_tell size_is follows pass [] (told ∷ lists) others played right = absurd played
  all_tell size_is follows pass (lines ∷ script) [] others played right = absurd played
  all_tell size_is follows pass (lines ∷ script) (told ∷ lists) [] played right =
      absurd played
  all_tell size_is follows pass (lines ∷ script) (told ∷ lists) (w ∷ others) played right =
      let here = All-head IsRight w others right in
      let entries = (w.reserving).entries in (
        tells opening placed order last pass size_is follows entries lines told
            (state_at_first (played.1).seen) (pass_state_of w) (played.1).plays refl (
              subst (λ (n : ℕ). All (FrontEndsAt opening n order entries)
                  (w.reserving).stops) played.0 here.stops,
              here.promised,
            ) here.faulty here.seen_low,
        all_tell size_is follows (pass + 1) script lists others played.2
            (All-tail IsRight w others right),
      )

module _ (opening : Opening) (order : List Entry) (v : View) (c : IsClosedLog opening order v)
    (script : List (List AskedLine)) (lists : List (List Told))
    (taken : HasTakenIn opening v script lists) (last : ℕ)
    (counted : (faults : ℕ) → (c.writer).fault ≡ some faults → faults ≤ last) where
  abbrev size : ℕ
  size = (opening.setup).seg_size

  abbrev logged : Logged
  logged = logged_at_end opening order last

  -- what the first pass knows of faults is the down value, which the writer met
  known_last : (down more : ℕ) → (down ≢ 0 → down ≡ down_word c.words) → more ≢ 0
      → down ≡ more → more ≤ last
  known_last down more is not_none same =
      let is_down = is (λ none. not_none (omega (arith, same, none))) in
      let met = (((c.closed).durable).down).is_met
      (λ none. not_none (omega (arith, same, is_down, none))) in
      omega (arith, same, is_down, counted (down_word c.words) met.0)

  first_knows : (more : ℕ) → KnowsFault more (pass_state_of v) → more ≤ last
  first_knows more knows =
      let right = told_rightly opening c.words (some c.writer) c.views c.sound c.id v c.here in
      elim knows.1 [
        | inl met ↦ known_last (v.writing).down_met more right.down_met knows.0 met
        | inr set ↦ known_last (v.writing).down_set more right.down_set knows.0 set
      ]

  faulty_of : (w : View) → IsKnownTo opening v w → (f : ℕ) → KnowsFault f (pass_state_of w)
      → IsFault logged f
  faulty_of w known f knows =
      let more = known.kept f knows in
      record {
        rose = known.rose f knows;
        upto = omega (arith, more.1, first_knows more.0 more.2);
      }

  promised_of : All (ArePromised opening order) (v.reserving).joined
  promised_of =
      let right = told_rightly opening c.words (some c.writer) c.views c.sound c.id v c.here in
      let positions = (c.closed).positions in
      let Promised = IsPromised (flushed_word c.words) (moment_word c.words) in
      All-weaker (λ (j : Joined). All Promised j.promises) (ArePromised opening order)
      (λ j all. All-weaker Promised (IsWithin opening order)
      (λ p is. omega (
        arith,
        is.upto_low,
        positions.flushed_low,
        positions.written_low,
        positions.reserved,
      )) j.promises all)
      (v.reserving).joined right.joined_promised

  abbrev FilledThere : View → Type 0
  FilledThere w = AreFilled opening order (joined_of w)

  abbrev PromisedThere : View → Type 0
  PromisedThere w = ArePromised opening order (joined_of w)

  abbrev Right : View → Type 0
  Right = IsRight opening (at_place opening order v c script lists taken) order last

  rights : (others : List View) → All (IsKnownTo opening v) others → All FilledThere others
      → All PromisedThere others → All Right others
  rights [] known stops promised = All-nil Right
  rights (w ∷ others) known stops promised =
      All-cons Right w others
      (record {
        stops = All-head FilledThere w others stops;
        promised = All-head PromisedThere w others promised;
        faulty = faulty_of w (All-head (IsKnownTo opening v) w others known);
        seen_low = (let low = ((accounted opening order v c script lists taken).part).seen in
            omega (arith, low, (All-head (IsKnownTo opening v) w others known).seen));
      })
      (rights others (All-tail (IsKnownTo opening v) w others known)
      (All-tail FilledThere w others stops) (All-tail PromisedThere w others promised))

  pub run_tells : TellsAll (logged_at_end opening order last) 1 script lists
  run_tells =
      let part = (accounted opening order v c script lists taken).part in
      let stops = subst (All (AreFilled opening order)) taken.joined part.joined_stops in
      let promised = subst (All (ArePromised opening order)) taken.joined promised_of in
      all_tell opening (at_place opening order v c script lists taken) order last
      (valid opening order v c script lists taken)
      (accounted opening order v c script lists taken).chained 1 script lists taken.others
      taken.played
      (rights taken.others taken.known
      (unmapped (AreFilled opening order) taken.others stops)
      (unmapped (ArePromised opening order) taken.others promised))

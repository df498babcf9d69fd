-- A pass that has all numbers is held up by nobody in the calls that do not wait.
use Rattle.std.specs.Prelude.{Result, Ok, Err}
use Rattle.std.proofs.Common.{◌≡◌, ◌≢◌, inl, inr, ℕ, ◌+◌, ◌%◌, ◌<◌, Contains, List, [], slice_index, refl, sym, ap, ◌∙◌, subst, ⊎_elim, arith}
use Rattle.wal_types.specs.declared.answers.Hard.{Hard}
use Rattle.wal_spelling.specs.Spelling.{Assembled}
use Rattle.wal_page.specs.Placed.{PlacedState}
use Rattle.machine_state.specs.declared.setup.Setup.{Setup}
use Rattle.machine_state.specs.Words.{Opening, lock_number}
use Rattle.machine_state.specs.Failed.{KnowsOfFault}
use Rattle.machine_state.specs.Locked.{HasTurn, HasWriteTurn}
use Rattle.machine_state.specs.Moves.{with_told}
use Rattle.machine_state.specs.Opened.{first_view}
use Rattle.machine_state.specs.Steps.{IsResting, load_position, lock_position}
use Rattle.machine_state.specs.Views.{Away, Free, Idle, View}
use Rattle.machine_laws.specs.LonePasses.{HasAllThatIsHeld, IsLone}
use Rattle.machine_laws.proofs.ClosingNumbers.{first_has_all}
use Rattle.machine_laws.proofs.LoneLaws.{has_all, same_position}
use Rattle.wal_rule.specs.Closing.{KeepsNumbers}
use Rattle.wal_rule.specs.declared.pass.Pass.{Pass}
use Rattle.wal_rule.specs.Passes.{view_of_pass}
use Rattle.wal_rule.specs.Stepping.{Meets, Stands}
use Rattle.wal_log.specs.declared.beginning.TryErr.{TryErr}
use Rattle.wal_log.specs.declared.beginning.TryErr.TheVariants as begins
use Rattle.wal_log.specs.declared.copying.Copied.{Copied}
use Rattle.wal_log.specs.declared.copying.CopyStop.{CopyStop}
use Rattle.wal_log.specs.declared.copying.CopyStop.TheVariants as stops
use Rattle.wal_log.specs.declared.flushing.TryFlushErr.{TryFlushErr}
use Rattle.wal_log.specs.declared.flushing.TryFlushErr.TheVariants as flushes
use Rattle.wal_log.specs.declared.in_flight.Inflight.{Inflight}
use Rattle.wal_log.specs.declared.wal.Wal.{Wal}
use Rattle.insert_locks.specs.Taking.{AreHeldWords, with_lock}
use Rattle.insert_locks.specs.Watching.{with_sight, with_watching}
use Rattle.wal_log.specs.Beginning.{IsFoundBusy, TellsBeginTry}
use Rattle.wal_log.specs.Copying.{CopiesFront, MeetsMapper, TellsStop}
use Rattle.wal_log.specs.Downs.{KnowsNoFault}
use Rattle.wal_log.specs.Flights.{AnswersTryBegin}
use Rattle.wal_log.specs.Flushing.{AnswersFlushTry, MeetsHeldLock, TellsFlushTry}
use Rattle.wal_log.specs.Hands.{MeetsWriteTurn}
use Rattle.wal_log.specs.Logs.{setup_of_log}
use Rattle.wal_log.specs.Standing.{KeepsPass}
use Rattle.wal_log_laws.specs.Unhindered.{BeginsUnhindered, FlushesUnhindered, IsLonePass, IsNotHeldBack, IsNotHeldUp, StopsUnhindered}

-- ---- who is alone

pub first_alone : (opening : Opening) → IsLone opening (first_view opening)
first_alone opening = record { live = refl; numbers = first_has_all opening }

pub still_alone : (old new : View) → KeepsPass old new → KeepsNumbers old new → IsLonePass old
    → IsLonePass new
still_alone old new keeps numbers alone = record {
  live = keeps.live ∙ alone.live;
  numbers = λ n low. numbers n (alone.numbers n
      (subst (λ (o : Opening). n < (o.setup).passes) keeps.opening low));
}

-- ---- what such a pass meets

-- in a state that the rule allows, whatever is held this view has
held_in : (v : View) → IsLonePass v → (s : Stands v) → HasAllThatIsHeld s.words v
held_in v alone s =
    has_all v.opening s.words s.home s.views s.sound s.id v s.here alone

no_fault : (v : View) → KnowsNoFault v → KnowsOfFault v → ⊥
no_fault v up (inl met) = met up.met
no_fault v up (inr set) = set up.set

holds_none : (locks : List ℕ) (lock : ℕ) → locks ≡ [] → Contains locks lock → ⊥
holds_none locks lock none has =
    let low = (subst (λ (l : List ℕ). Contains l lock) none has).1 in omega (arith, low)

-- a lock that it does not hold is free
lock_free : (v : View) → IsLonePass v → KnowsNoFault v → (v.working).locks ≡ [] → (lock : ℕ)
    → lock < 8 → (s : Stands v) → slice_index s.words (lock_number lock) ≢ 0 → ⊥
lock_free v alone up none lock low s taken =
    holds_none (v.working).locks lock none
    ((held_in v alone s).locks (no_fault v up) lock low taken)

module _ (v : View) (alone : IsLonePass v) where
  -- such a pass, with another sight of the order and a lock
  seeing : (lock sight : ℕ) → IsLonePass (with_lock lock (with_sight sight v))
  seeing lock sight = record { live = alone.live; numbers = alone.numbers }

  not_busy : (seen : ℕ) (old : View) → (v.reserving).place ≡ Free → IsFoundBusy seen old v → ⊥
  not_busy seen old free f = ⊎_elim not_locked not_moved (f.busy).found
    where
      before : View
      before = with_lock f.lock (with_sight (old.reserving).seen v)

      after : View
      after = with_lock f.lock v

      loaded : Meets before load_position (f.busy).loaded
      loaded = (f.busy).met

      not_locked : ((f.busy).loaded % 2 ≡ 1) × (seen ≡ (f.busy).loaded) → ⊥
      not_locked odd = (held_in before (seeing f.lock (old.reserving).seen) loaded.before).position
          (ap (λ n. n % 2) (sym loaded.met_is) ∙ odd.0) free

      -- the position of another moment is the same
      not_moved : ((f.busy).loaded % 2 ≡ 0) × (seen ≢ (f.busy).loaded)
          × Meets after (lock_position (f.busy).loaded) seen → ⊥
      not_moved moved =
          let s = loaded.before in
          let t = (moved.2).before in
          moved.1 ((moved.2).met_is
          ∙ same_position v.opening s.words t.words s.home t.home s.views t.views s.sound t.sound
          s.id t.id before after s.here t.here (seeing f.lock (old.reserving).seen)
          (record { live = alone.live; numbers = alone.numbers })
          (record { number = refl; entries = refl; joined = refl }) free free
          ∙ sym loaded.met_is)

  not_all_held : (words : List ℕ) → KnowsNoFault v → (v.working).locks ≡ []
      → AreHeldWords v words → ⊥
  not_all_held words up none held =
      let first = held 0 (omega arith) in
      lock_free v alone up none (((v.reserving).number % 8 + 0) % 8) (omega arith)
      (first.1).before (λ free. first.0 ((first.1).met_is ∙ free))

  not_behind : (asked lock word : ℕ) → KnowsNoFault v → (v.working).locks ≡ []
      → MeetsHeldLock asked lock word v → ⊥
  not_behind asked lock word up none m =
      lock_free (with_watching m.watching v)
      (record { live = alone.live; numbers = alone.numbers })
      (record { met = up.met; set = up.set }) none lock m.lock_low
      (m.met).before (λ free. (m.holds_back).0 ((m.met).met_is ∙ free))

  no_writer : (turn : ℕ) → (v.writing).hold ≡ Idle → MeetsWriteTurn turn v → ⊥
  no_writer turn idle m = subst HasWriteTurn idle
      ((held_in v alone (m.met).before).writing (λ none. m.taken ((m.met).met_is ∙ none)))

  -- ---- what the calls answer, of which this is the view behind

  refused : (setup : Setup) (body : Assembled) (old : View) → IsResting v → (e : TryErr)
      → TellsBeginTry setup body old v e → IsNotHeldUp e
  refused setup body old rests (begins.Busy seen) told = not_busy seen old rests.place told.0
  refused setup body old rests (begins.AllHeld seen) told =
      not_all_held seen (told.1).up rests.locks told.0
  refused setup body old rests (begins.Full free) told = tt
  refused setup body old rests (begins.Down faults) told = tt

  held_back : (asked : ℕ) (old : View) → IsResting v → (e : TryFlushErr)
      → TellsFlushTry asked old v e → IsNotHeldBack e
  held_back asked old rests (flushes.Disk faults) told = tt
  held_back asked old rests (flushes.Down faults) told = tt
  held_back asked old rests (flushes.Unreserved end) told = tt
  held_back asked old rests (flushes.Behind lock word) told =
      not_behind asked lock.0 word (told.1).up rests.locks told.0
  held_back asked old rests (flushes.Turn word) told = no_writer word rests.hold told.0

  stopped : (setup : Setup) (most k told_before : ℕ) (under : List ℕ) (placed : PlacedState)
      (stop : CopyStop)
      → (v.mapping).stage ≡ Away
      → TellsStop setup most k placed (with_told told_before under v) stop
      → StopsUnhindered stop
  stopped setup most k told_before under placed stops.Asked away told = tt
  stopped setup most k told_before under placed stops.Whole away told = tt
  stopped setup most k told_before under placed (stops.Absent page end turn written) away told = ⊎_elim
      (λ taken. absurd (no_mapper_as turn away taken.0))
      (λ old_page. old_page.0) ((told.2).why)
    where
      no_mapper_as : (turn : ℕ) → (v.mapping).stage ≡ Away
          → MeetsMapper turn (with_told told_before under v) → ⊥
      no_mapper_as turn away m = subst HasTurn away
          ((held_in (with_told told_before under v)
          (record { live = alone.live; numbers = alone.numbers }) (m.met).before).mapping
          (λ none. m.taken ((m.met).met_is ∙ none)))

module _ (numbers : (old new : View) → KeepsPass old new → KeepsNumbers old new) (old : View)
    (alone : IsLonePass old) where
  alone_in : (new : View) → KeepsPass old new → IsLonePass new
  alone_in new keeps = still_alone old new keeps (numbers old new keeps) alone

  pub begins_unhindered : {D : Type 0} → (wal : Wal D) (body : Assembled)
      (answer : Result Inflight (TryErr × Pass)) → AnswersTryBegin wal body old answer
      → BeginsUnhindered answer
  begins_unhindered wal body (Ok flight) told = tt
  begins_unhindered wal body (Err refusal) told =
      let new = view_of_pass refusal.1 in
      refused new (alone_in new told.2) (setup_of_log wal) body old (told.0).rests refusal.0
      told.1

  pub flushes_unhindered : (asked : ℕ) (new : View) → KeepsPass old new → IsResting new
      → (answer : Result Hard TryFlushErr) → AnswersFlushTry asked old answer new
      → FlushesUnhindered answer
  flushes_unhindered asked new keeps rests (Ok hard) told = tt
  flushes_unhindered asked new keeps rests (Err e) told =
      held_back new (alone_in new keeps) asked old rests e told.0

  pub stops_unhindered : (setup : Setup) (most : ℕ) (placed next : PlacedState) (new : View)
      (copied : Copied) → KeepsPass old new → (new.mapping).stage ≡ Away
      → CopiesFront setup most placed next old new copied → StopsUnhindered copied.stop
  stops_unhindered setup most placed next new copied keeps away told =
      stopped new (alone_in new keeps) setup most copied.k told.earlier told.earlier_under next
      copied.stop away told.stop

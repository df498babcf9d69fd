-- At the places of an insert: the step that the order names may be made, and the view behind it
-- stands at the next place.
use Rattle.std.proofs.Common.{◌≡◌, inl, ⊎_elim, ℕ, ◌+◌, ◌*◌, ◌/◌, ◌%◌, ◌<◌, ◌≤◌, Bool, true, false, cond, eqb, eqb-true, eq-eqb, List, [], ◌∷◌, slice_index, refl, sym, subst, arith}
use Rattle.std.proofs.lemmas.Bool.{leb-true, leb-false, eqb-false}
use Rattle.byte_position.specs.Geometry.{IsSegmentSize}
use Rattle.machine_state.specs.Words.{position_word, lock_word, log_limit}
use Rattle.machine_state.specs.Views.{Place, Free, Locked, Loaded, Stored, Copy, Flight, Landed, Copying, Stage, Away, Hold, Idle, View}
use Rattle.machine_state.specs.Steps.{MayStep, IsResting, load_prev, store_position, give_position_back, load_buffer_end, take_lock, load_lock, word_of_step, view_behind}
use Rattle.wal_page.specs.EntryWords.{address_of_word, words_owned}
use Rattle.wal_page.specs.Order.{position_behind, room_at}
use Rattle.wal_page.specs.Order.{Entry}
use Rattle.byte_position.proofs.EndAddresses.{end_address_of-mono_lt}
use Rattle.byte_position.proofs.Words.{end_address_of-mod_word}
use Rattle.wal_types.specs.declared.record.Record.{Record}
use Rattle.wal_spelling.specs.Spelling.{IsWritable}
use Rattle.machine_state.specs.Moves.{entry_reserved, is_done}
use Rattle.machine_state.proofs.LocksEnough.{MayStandUnder-inserted}
use Rattle.wal_page.proofs.PaddingLaws.{room_at-whole}
use Rattle.machine_turns.specs.Doing.{Ask, Inserts, Commits, Flushes, Begins, Tries, Reserves, Looks, Copies, Maps, Releases, Machine}
use Rattle.machine_turns.specs.Turned.{can_step, fits, lock_tried, next_of, goes_on, outcome}
use Rattle.machine_state.specs.Failed.{KnowsOfFault}
use Rattle.machine_turns.specs.Standing.{IsPosed, IsRecord, IsUnder, IsLeft, IsMet, IsReserving, StandsToDo}
use Rattle.machine_turns.proofs.Poses.{Goes, StandsNext, bool_cases, of_posed, posed}

pub posed_at_rest : (v : View) → IsResting v → IsPosed Free [] Landed Away Idle v
posed_at_rest v r = record {
  place_is = r.place;
  locks_are = r.locks;
  flight_is = r.flight;
  stage_is = r.stage;
  hold_is = r.hold;
}

pub resting_posed : (v : View) → IsPosed Free [] Landed Away Idle v → IsResting v
resting_posed v p = record {
  place = p.place_is;
  locks = p.locks_are;
  flight = p.flight_is;
  stage = p.stage_is;
  hold = p.hold_is;
}

pub is_posed : (place : Place) (locks : List ℕ) (flight : Flight) (stage : Stage) (hold : Hold)
    (v : View) → IsPosed place locks flight stage hold (posed place locks flight stage hold v)
is_posed place locks flight stage hold v = record {
  place_is = refl;
  locks_are = refl;
  flight_is = refl;
  stage_is = refl;
  hold_is = refl;
}

module _ (m : Machine) (ask : Ask) where
  abbrev words : List ℕ
  words = (m.state).words

  pub begins_goes : (v : View) → (KnowsOfFault v → ⊥) → StandsToDo v Begins ask → Goes m ask Begins v
  begins_goes v up stands = (
    tt,
    ⊎_elim
        (λ (r : IsResting v). (
          record {
            place_is = r.place;
            locks_are = r.locks;
            flight_is = r.flight;
            stage_is = r.stage;
            hold_is = r.hold;
          },
          stands.1,
        ))
        (λ (d : KnowsOfFault v). absurd (up d)) stands.0,
  )

  tries_at : (n : ℕ) (v : View) → IsRecord ask
      → Goes m ask (Tries n) (posed Free [] Landed Away Idle v)
  tries_at n v insert =
      let lock = lock_tried v n in
      let met = lock_word words lock in
      let low : lock < 8 = omega arith in
      let rest = posed Free [] Landed Away Idle v in
      let held = posed Free (lock ∷ []) Landed Away Idle v in
      bool_cases
      (λ (b : Bool).
      let e = cond b (take_lock lock)
      (load_lock lock 0) in
      let w = view_behind rest e (slice_index words (word_of_step rest e)) (m.state).home in
      MayStep rest e × StandsNext (next_of rest w ask (slice_index words (word_of_step rest e))
      (is_done (outcome m rest ask)) (Tries n)) ask w)
      (eqb met 0)
      (λ free. (
        low,
        subst (λ (c : Bool). StandsNext
            (cond c (goes_on (Reserves lock))
            (cond (eqb (n + 1) 8) (goes_on Begins)
            (goes_on (Tries (n + 1))))) ask (cond c held rest))
            (sym free) ((Free, is_posed Free (lock ∷ []) Landed Away Idle v, tt), insert),
      ))
      (λ taken. (
        (low, refl),
        subst (λ (c : Bool). StandsNext
            (cond c (goes_on (Reserves lock))
            (cond (eqb (n + 1) 8) (goes_on Begins)
            (goes_on (Tries (n + 1))))) ask
            (view_behind rest (load_lock lock 0) met (m.state).home))
            (sym taken) (bool_cases (λ (c : Bool). StandsNext
            (cond c (goes_on Begins)
            (goes_on (Tries (n + 1)))) ask
            (view_behind rest (load_lock lock 0) met (m.state).home))
            (eqb (n + 1) 8)
            (λ last. (
              inl (record {
                place = refl;
                locks = refl;
                flight = refl;
                stage = refl;
                hold = refl;
              }),
              insert,
            ))
            (λ more. (
              record {
                place_is = refl;
                locks_are = refl;
                flight_is = refl;
                stage_is = refl;
                hold_is = refl;
              },
              insert,
            ))),
      ))

  pub tries_goes : (n : ℕ) (v : View) → StandsToDo v (Tries n) ask → Goes m ask (Tries n) v
  tries_goes n v stands = of_posed (Goes m ask (Tries n)) Free [] Landed Away Idle v stands.0
      (tries_at n v stands.1)

  -- ---- reserving

  abbrev at_reserving : ℕ → Place → View → View
  at_reserving lock p v = posed p (lock ∷ []) Landed Away Idle v

  stands_reserving : (lock : ℕ) (p : Place) (v : View) → IsReserving v ask p → IsRecord ask
      → StandsToDo (at_reserving lock p v) (Reserves lock) ask
  stands_reserving lock p v so insert =
      ((p, is_posed p (lock ∷ []) Landed Away Idle v, so), insert)

  locks_at : (lock : ℕ) (v : View) → IsRecord ask
      → can_step m (at_reserving lock Free v) ask (Reserves lock) ≡ true
      → Goes m ask (Reserves lock) (at_reserving lock Free v)
  locks_at lock v insert can =
      let u = at_reserving lock Free v in
      let at = position_word words in (
        (refl, eqb-true _ _ can),
        subst
            (λ (c : Bool). StandsToDo (cond c (at_reserving lock (Locked at) v) u)
            (Reserves lock) ask)
            (sym (eq-eqb at at refl)) (stands_reserving lock (Locked at) v tt insert),
      )

  fits_at : (lock at : ℕ) (v : View) → IsRecord ask
      → Goes m ask (Reserves lock) (at_reserving lock (Locked at) v)
  fits_at lock at v insert = by_ask ask insert
    where
      by_record : (a : Ask) (value : Record) → IsRecord a
          → (fits v a at ≡ false
          → log_limit (v.opening).setup < at + room_at ((v.opening).setup).seg_size at value)
          → let u = at_reserving lock (Locked at) v in
          let e = cond (fits v a at) load_prev (give_position_back value) in
          let w = view_behind u e (slice_index words (word_of_step u e)) (m.state).home in
          MayStep u e × StandsNext
          (cond (fits v a at) (goes_on (Reserves lock)) (goes_on (Releases lock true))) a w
      by_record a value insert over =
          let u = at_reserving lock (Locked at) v in
          bool_cases
          (λ (b : Bool).
          let e = cond b load_prev (give_position_back value) in
          let w = view_behind u e (slice_index words (word_of_step u e)) (m.state).home in
          MayStep u e × StandsNext (cond b (goes_on (Reserves lock)) (goes_on (Releases lock true)))
          a w)
          (fits v a at)
          (λ enough. (
            (at, refl),
            (
              (Loaded at _, is_posed _ (lock ∷ []) Landed Away Idle v, enough),
              insert,
            ),
          ))
          (λ few. (
            (at, refl, over few),
            record {
              place_is = refl;
              locks_are = refl;
              flight_is = refl;
              stage_is = refl;
              hold_is = refl;
            },
          ))

      by_ask : (a : Ask) → IsRecord a → Goes m a (Reserves lock) (at_reserving lock (Locked at) v)
      by_ask (Inserts value) writable =
          by_record (Inserts value) value writable (λ few. leb-false _ _ few)
      by_ask (Commits value) writable =
          by_record (Commits value) value writable (λ few. leb-false _ _ few)
      by_ask Flushes never = absurd never

  stores_prev_at : (lock at prev : ℕ) (v : View) → IsRecord ask → fits v ask at ≡ true
      → Goes m ask (Reserves lock) (at_reserving lock (Loaded at prev) v)
  stores_prev_at lock at prev v insert enough =
      ((at, prev, refl), stands_reserving lock (Stored at prev) v enough insert)

  module _ (lock at prev : ℕ) (v : View)
      (valid : IsSegmentSize ((v.opening).setup).seg_size) (whole : at % 8 ≡ 0) where
    abbrev here : View
    here = at_reserving lock (Stored at prev) v

    reserves_now : (value : Record) → IsWritable value
        → at + room_at ((v.opening).setup).seg_size at value ≤ log_limit (v.opening).setup
        → MayStep here (store_position (lock ∷ []) value)
        × ((c : Copy) × IsPosed Free (lock ∷ []) (Copying c) Away Idle
        (view_behind here (store_position (lock ∷ []) value) (position_word words) (m.state).home)
        × IsUnder lock c × IsLeft ((v.opening).setup).seg_size c)
    reserves_now value writable within =
        let size = ((v.opening).setup).seg_size in
        let e : Entry = entry_reserved (v.reserving).number at value in
        let c : Copy = record { entry = e; prev = prev; locks = lock ∷ []; copied = 0 } in
        let rises = end_address_of-mono_lt size valid at (position_behind size e) (omega arith) in
        let first = end_address_of-mod_word size valid at whole in
        let last = end_address_of-mod_word size valid (position_behind size e)
        (omega (arith, whole, room_at-whole size valid at value whole)) in
        let stands = MayStandUnder-inserted (lock ∷ []) value writable in
        let left : 0 < words_owned size e = omega arith in (
          (at, prev, refl, stands, within, ((omega arith, λ i held. held)), refl),
          (
            c,
            record {
              place_is = refl;
              locks_are = refl;
              flight_is = refl;
              stage_is = refl;
              hold_is = refl;
            },
            record { locks_are = refl; whole = whole },
            left,
          ),
        )

  stores_position_at : (lock at prev : ℕ) (v : View)
      → IsSegmentSize ((v.opening).setup).seg_size → at % 8 ≡ 0 → IsRecord ask
      → fits v ask at ≡ true → Goes m ask (Reserves lock) (at_reserving lock (Stored at prev) v)
  stores_position_at lock at prev v valid whole insert enough = by_ask ask insert enough
    where
      by_ask : (a : Ask) → IsRecord a → fits v a at ≡ true
          → Goes m a (Reserves lock) (at_reserving lock (Stored at prev) v)
      by_ask (Inserts value) writable within =
          let now = reserves_now lock at prev v valid whole value writable (leb-true _ _ within) in
          (now.0, (now.1, writable))
      by_ask (Commits value) writable within =
          let now = reserves_now lock at prev v valid whole value writable (leb-true _ _ within) in
          (now.0, (now.1, writable))
      by_ask Flushes none within = absurd none

  -- where the position is locked it is at a whole word
  abbrev pub IsPlaceWhole : Place → Type 0
  IsPlaceWhole Free = Unit {0}
  IsPlaceWhole (Locked at) = at % 8 ≡ 0
  IsPlaceWhole (Loaded at prev) = at % 8 ≡ 0
  IsPlaceWhole (Stored at prev) = at % 8 ≡ 0

  reserves_at : (lock : ℕ) (p : Place) (v : View)
      → IsSegmentSize ((v.opening).setup).seg_size → IsPlaceWhole p → IsRecord ask
      → IsReserving v ask p → can_step m (at_reserving lock p v) ask (Reserves lock) ≡ true
      → Goes m ask (Reserves lock) (at_reserving lock p v)
  reserves_at lock Free v valid whole insert so can = locks_at lock v insert can
  reserves_at lock (Locked at) v valid whole insert so can = fits_at lock at v insert
  reserves_at lock (Loaded at prev) v valid whole insert so can =
      stores_prev_at lock at prev v insert so
  reserves_at lock (Stored at prev) v valid whole insert so can =
      stores_position_at lock at prev v valid whole insert so

  pub reserves_goes : (lock : ℕ) (v : View) → IsSegmentSize ((v.opening).setup).seg_size
      → IsPlaceWhole (v.reserving).place → StandsToDo v (Reserves lock) ask
      → can_step m v ask (Reserves lock) ≡ true → Goes m ask (Reserves lock) v
  reserves_goes lock v valid whole stands can =
      let p = stands.0.0 in
      let pose = stands.0.1 in
      of_posed (λ (u : View). can_step m u ask (Reserves lock) ≡ true
      → Goes m ask (Reserves lock) u)
      p (lock ∷ []) Landed Away Idle v pose
      (reserves_at lock p v valid (subst IsPlaceWhole pose.place_is whole) stands.1 stands.0.2) can

  -- ---- copying

  abbrev at_copy : ℕ → Copy → Stage → View → View
  at_copy lock c s v = posed Free (lock ∷ []) (Copying c) s Idle v

  looks_at : (lock : ℕ) (c : Copy) (v : View) → 0 < ((v.opening).setup).ring_pages
      → IsUnder lock c → IsLeft ((v.opening).setup).seg_size c → IsRecord ask
      → Goes m ask (Looks lock) (at_copy lock c Away v)
  looks_at lock c v some_page under left insert =
      let u = at_copy lock c Away v in
      let address = address_of_word ((v.opening).setup).seg_size c.entry c.copied in
      let e = load_buffer_end (address / 8192 % ((v.opening).setup).ring_pages) in
      let met = slice_index words (word_of_step u e) in
      let w = view_behind u e met (m.state).home in
      let pose : IsPosed Free (lock ∷ []) (Copying c) Away Idle w = record {
        place_is = refl;
        locks_are = refl;
        flight_is = refl;
        stage_is = refl;
        hold_is = refl;
      } in (
        omega arith,
        bool_cases
            (λ (b : Bool). StandsNext (cond b (goes_on (Copies lock)) (goes_on (Maps lock))) ask w)
            (eqb met ((address / 8192 + 1) * 8192))
            (λ own. let same = eqb-true _ _ own in ((c, pose, under, (left, omega arith)), insert))
            (λ other. ((Away, (c, pose, under, left), tt), insert)),
      )

  pub looks_goes : (lock : ℕ) (v : View) → 0 < ((v.opening).setup).ring_pages
      → StandsToDo v (Looks lock) ask → Goes m ask (Looks lock) v
  looks_goes lock v some_page stands =
      let c = stands.0.0 in
      of_posed (Goes m ask (Looks lock)) Free (lock ∷ []) (Copying c) Away Idle v stands.0.1
      (looks_at lock c v some_page stands.0.2 stands.0.3 stands.1)

  copies_at : (lock : ℕ) (c : Copy) (v : View) → IsSegmentSize ((v.opening).setup).seg_size
      → IsUnder lock c → IsLeft ((v.opening).setup).seg_size c
      → IsMet ((v.opening).setup).seg_size (v.mapping).confirmed c → IsRecord ask
      → Goes m ask (Copies lock) (at_copy lock c Away v)
  copies_at lock c v valid under left met insert =
      let size = ((v.opening).setup).seg_size in
      let first = end_address_of-mod_word size valid (c.entry).start under.whole in
      let address = address_of_word size c.entry c.copied in
      let d : Copy = record c { copied = c.copied + 1 } in
      let w = at_copy lock d Away v in
      let pose = is_posed Free (lock ∷ []) (Copying d) Away Idle v in
      let under_still : IsUnder lock d = record {
        locks_are = under.locks_are;
        whole = under.whole;
      } in (
        (c, refl, record { left = left; met = omega arith }),
        bool_cases
            (λ (b : Bool). StandsNext (cond b (goes_on (Releases lock false))
            (cond (eqb (address_of_word size c.entry (c.copied + 1) % 8192) 0) (goes_on
            (Looks lock))
            (goes_on (Copies lock)))) ask w)
            (eqb (c.copied + 1) (words_owned size c.entry))
            (λ whole. ((d, pose, under_still, eqb-true _ _ whole), insert))
            (λ more. let apart = eqb-false _ _ more in
            let left_still : IsLeft size d = omega arith in bool_cases
            (λ (b : Bool). StandsNext (cond b (goes_on (Looks lock)) (goes_on (Copies lock))) ask w)
            (eqb (address_of_word size c.entry (c.copied + 1) % 8192) 0)
            (λ page. ((d, pose, under_still, left_still), insert))
            (λ inside. let within = eqb-false _ _ inside in
            ((d, pose, under_still, (left_still, omega arith)), insert))),
      )

  pub copies_goes : (lock : ℕ) (v : View) → IsSegmentSize ((v.opening).setup).seg_size
      → StandsToDo v (Copies lock) ask → Goes m ask (Copies lock) v
  copies_goes lock v valid stands =
      let c = stands.0.0 in
      of_posed (Goes m ask (Copies lock)) Free (lock ∷ []) (Copying c) Away Idle v stands.0.1
      (copies_at lock c v valid stands.0.2 (stands.0.3).0 (stands.0.3).1 stands.1)

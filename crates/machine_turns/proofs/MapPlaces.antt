-- At the places of mapping, and where an insert tells its progress and releases its lock: the step
-- that the order names may be made, and the view behind it stands at the next place.
use Rattle.std.proofs.Common.{◌≡◌, inl, ℕ, ◌+◌, ◌<◌, ◌-◌, ◌*◌, ◌≤◌, Bool, true, false, cond, eqb, eq-eqb, not, ◌||◌, List, [], ◌∷◌, Contains, filter, slice_index, refl, sym, ap, subst, arith}
use Rattle.std.proofs.Math.Dec.{ltb, leb}
use Rattle.std.proofs.lemmas.Bool.{leb-false, ltb-true}
use mathlib.Core.Option.{Option, none, some}
use Rattle.byte_position.specs.Geometry.{IsSegmentSize}
use Rattle.byte_position.proofs.Words.{end_address_of-mod_word}
use Rattle.machine_state.specs.Views.{Free, Copy, Flight, Landed, Copying, Stage, Away, Taken, Looked, Ready, Zeroing, Published, Idle, View, is_among}
use Rattle.machine_state.specs.Moves.{after_advance, landed, standing, without_lock}
use Rattle.wal_page.specs.EntryWords.{address_of_word}
use Rattle.machine_state.specs.Words.{end_form, written_number, lock_number}
use Rattle.machine_state.proofs.Landing.{among_cases}
use Rattle.machine_state.specs.Paged.{IsOpen}
use Rattle.machine_state.specs.Steps.{MayStep, IsResting, load_written, zero_ring_word, publish_end, release, word_of_step, view_behind}
use Rattle.machine_turns.specs.Doing.{Ask, Inserts, Commits, Flushes, Maps, GivesTurn, Tells, Releases, Machine}
use Rattle.machine_turns.specs.Turned.{can_step, next_page_end, goes_on, behind_insert}
use Rattle.machine_turns.specs.Standing.{IsPosed, IsRecord, IsUnder, IsLeft, IsAllCopied, MapsOn, StandsToDo}
use Rattle.machine_turns.proofs.Poses.{Goes, StandsNext, bool_cases, of_posed, posed}
use Rattle.machine_turns.proofs.InsertPlaces.{is_posed}

pub ltb-false : (a b : ℕ) → ltb a b ≡ false → b ≤ a
ltb-false a b off = let h = leb-false _ _ off in omega arith

module _ (m : Machine) (ask : Ask) where
  abbrev words : List ℕ
  words = (m.state).words

  abbrev at_map : ℕ → Copy → Stage → View → View
  at_map lock c s v = posed Free (lock ∷ []) (Copying c) s Idle v

  module _ (lock : ℕ) (c : Copy) (v : View) (under : IsUnder lock c)
      (left : IsLeft ((v.opening).setup).seg_size c) (insert : IsRecord ask) where
    stands_mapping : (s : Stage) → MapsOn v s → StandsToDo (at_map lock c s v) (Maps lock) ask
    stands_mapping s so =
        ((s, (c, is_posed Free (lock ∷ []) (Copying c) s Idle v, under, left), so), insert)

    takes_turn_at : can_step m (at_map lock c Away v) ask (Maps lock) ≡ true
        → Goes m ask (Maps lock) (at_map lock c Away v)
    takes_turn_at can = (
      refl,
      subst
          (λ (b : Bool). StandsToDo (cond b (at_map lock c Taken v) (at_map lock c Away v))
          (Maps lock)
          ask) (sym can) (stands_mapping Taken tt),
    )

    -- behind the load of written
    looks_at_written : (at : ℕ) → Goes m ask (Maps lock) (at_map lock c (Looked at) v)
    looks_at_written at =
        let u = at_map lock c (Looked at) v in
        let met = slice_index words written_number in
        let pages = ((v.opening).setup).ring_pages in
        let w = view_behind u load_written met (m.state).home in
        let pose : IsPosed Free (lock ∷ []) (Copying c) (Ready at met) Idle w = record {
          place_is = refl;
          locks_are = refl;
          flight_is = refl;
          stage_is = refl;
          hold_is = refl;
        } in (
          tt,
          bool_cases
              (λ (b : Bool). StandsNext (cond b (goes_on (GivesTurn lock none))
              (cond (ltb (met + pages * 8192) (at + 8192))
              (goes_on (GivesTurn lock (some (at + 8192 - pages * 8192)))) (goes_on
              (Maps lock)))) ask w)
              (leb (next_page_end u) at)
              (λ own. ((Ready at met, (c, pose, under, left), tt), insert))
              (λ ahead. bool_cases
              (λ (b : Bool). StandsNext
              (cond b (goes_on (GivesTurn lock (some (at + 8192 - pages * 8192)))) (goes_on
              (Maps lock)))
              ask w)
              (ltb (met + pages * 8192) (at + 8192))
              (λ old. ((Ready at met, (c, pose, under, left), tt), insert))
              (λ written. ((Ready at met, (c, pose, under, left), ltb-false _ _ written), insert))),
        )

    zeroes_at : (at count : ℕ) → count ≤ 1024
        → Goes m ask (Maps lock) (at_map lock c (Zeroing at count) v)
    zeroes_at at count within =
        let u = at_map lock c (Zeroing at count) v in
        bool_cases
        (λ (b : Bool).
        let e = cond b zero_ring_word publish_end in
        MayStep u e × StandsToDo (view_behind u e (slice_index words (word_of_step u e))
        (m.state).home)
        (Maps lock) ask)
        (ltb count 1024)
        (λ more. let below = ltb-true count 1024 more in
        ((at, count, refl, below), stands_mapping (Zeroing at (count + 1)) (omega arith)))
        (λ all. let above = ltb-false count 1024 all in
        let full : count ≡ 1024 = omega arith in
        ((at, ap (λ (n : ℕ). Zeroing at n) full), stands_mapping (Published at) tt))

    maps_at : (s : Stage) → MapsOn v s → can_step m (at_map lock c s v) ask (Maps lock) ≡ true
        → Goes m ask (Maps lock) (at_map lock c s v)
    maps_at Away so can = takes_turn_at can
    maps_at Taken so can = (
      tt,
      (
        (
          Looked _,
          (
            c,
            record {
              place_is = refl;
              locks_are = refl;
              flight_is = refl;
              stage_is = refl;
              hold_is = refl;
            },
            under,
            left,
          ),
          tt,
        ),
        insert,
      ),
    )
    maps_at (Looked at) so can = looks_at_written at
    maps_at (Ready at written) so can =
        ((at, written, refl, so), stands_mapping (Zeroing at 0) (omega arith))
    maps_at (Zeroing at count) so can = zeroes_at at count so
    maps_at (Published at) so can = (
      (at, refl),
      (
        (
          Taken,
          (
            c,
            record {
              place_is = refl;
              locks_are = refl;
              flight_is = refl;
              stage_is = refl;
              hold_is = refl;
            },
            under,
            left,
          ),
          tt,
        ),
        insert,
      ),
    )

    gives_turn_at : (s : Stage) (end : Option ℕ) → IsOpen s
        → Goes m ask (GivesTurn lock end) (at_map lock c s v)
    gives_turn_at s none may =
        (may, ((c, is_posed Free (lock ∷ []) (Copying c) Away Idle v, under, left), insert))
    gives_turn_at s (some end) may =
        (may, ((c, is_posed Free (lock ∷ []) (Copying c) Away Idle v, under, left), insert))

    tells_at : IsSegmentSize ((v.opening).setup).seg_size → (end : ℕ)
        → Goes m ask (Tells lock end) (at_map lock c Away v)
    tells_at valid end = (
      (
        (0, omega arith, refl),
        among_cases (λ (b : Bool). next
            < cond b (next + 1) (end_form (v.opening).setup (v.reserving).seen + 1)) c.locks lock
            (λ has. omega arith)
            (λ none. absurd (none (subst (λ (ls : List ℕ). Contains ls lock) (sym under.locks_are)
            (0, omega arith, refl)))),
        omega (
          arith,
          end_address_of-mod_word ((v.opening).setup).seg_size valid (c.entry).start
              under.whole,
        ),
      ),
      (
        (
          (
            c,
            is_posed Free (lock ∷ []) (Copying c) Away Idle (after_advance lock next v),
            under,
            left,
          ),
          insert,
        ),
        omega arith,
      ),
    )
      where
        next : ℕ
        next = address_of_word ((v.opening).setup).seg_size c.entry c.copied

  pub maps_goes : (lock : ℕ) (v : View) → StandsToDo v (Maps lock) ask
      → can_step m v ask (Maps lock) ≡ true → Goes m ask (Maps lock) v
  maps_goes lock v stands can =
      let s = stands.0.0 in
      let copies = stands.0.1 in
      let c = copies.0 in
      of_posed (λ (u : View). can_step m u ask (Maps lock) ≡ true → Goes m ask (Maps lock) u)
      Free (lock ∷ []) (Copying c) s Idle v copies.1
      (maps_at lock c v copies.2 copies.3 stands.1 s stands.0.2) can

  pub gives_turn_goes : (lock : ℕ) (end : Option ℕ) (v : View) → StandsToDo v (GivesTurn lock end) ask
      → Goes m ask (GivesTurn lock end) v
  gives_turn_goes lock end v stands =
      let s = stands.0.0 in
      let copies = stands.0.1 in
      let c = copies.0 in
      of_posed (Goes m ask (GivesTurn lock end)) Free (lock ∷ []) (Copying c) s Idle v copies.1
      (gives_turn_at lock c v copies.2 copies.3 stands.1 s end stands.0.2)

  pub tells_goes : (lock end : ℕ) (v : View) → IsSegmentSize ((v.opening).setup).seg_size
      → StandsToDo v (Tells lock end) ask → Goes m ask (Tells lock end) v
  tells_goes lock end v valid stands =
      let c = stands.0.0 in
      of_posed (Goes m ask (Tells lock end)) Free (lock ∷ []) (Copying c) Away Idle v stands.0.1
      (tells_at lock c v stands.0.2 stands.0.3 stands.1 valid end)

  -- ---- the release

  none_left : (lock : ℕ) → filter (λ (held : ℕ). not (eqb held lock)) (lock ∷ []) ≡ []
  none_left lock = ap (λ (b : Bool). cond (not b) (lock ∷ []) []) (eq-eqb lock lock refl)

  -- about nothing, behind the release
  at_rest : (lock : ℕ) (f : Flight) (v : View)
      → landed lock f ≡ Landed → IsResting
      (view_behind (posed Free (lock ∷ []) f Away Idle v) (release lock)
      (slice_index words (lock_number lock)) (m.state).home)
  at_rest lock f v lands = record {
    place = refl;
    locks = none_left lock;
    flight = lands;
    stage = refl;
    hold = refl;
  }

  answered : (a : Ask) → IsRecord a → (w : View) → IsResting w
      → StandsNext (behind_insert w w a 0 true a) a w
  answered (Inserts value) writable w rests = inl rests
  answered (Commits value) writable w rests = inl rests
  answered Flushes never w rests = absurd never

  releases_full_at : (lock : ℕ) (v : View)
      → Goes m ask (Releases lock true) (posed Free (lock ∷ []) Landed Away Idle v)
  releases_full_at lock v = (
    (
      (0, omega arith, refl),
      λ (c : Copy) (is : Landed ≡ Copying c). absurd (cc),
    ),
    inl (at_rest lock Landed v refl),
  )

  releases_at : (lock : ℕ) (c : Copy) (v : View) → IsUnder lock c
      → IsAllCopied ((v.opening).setup).seg_size c → IsRecord ask
      → Goes m ask (Releases lock false) (at_map lock c Away v)
  releases_at lock c v under whole insert =
      let lands : landed lock (Copying c) ≡ Landed =
      subst (λ (ls : List ℕ). cond (is_among ls lock) (standing c (without_lock lock ls))
      (Copying c)
      ≡ Landed) (sym under.locks_are)
      (ap (λ (b : Bool). cond (b || false) (standing c (cond (not b) (lock ∷ []) [])) (Copying c))
      (eq-eqb lock lock refl)) in (
        (
          (0, omega arith, refl),
          λ (d : Copy) (is : Copying c ≡ Copying d) (same : Contains d.locks lock).
              let copy : c ≡ d = cc in
              subst (IsAllCopied ((v.opening).setup).seg_size) copy whole,
        ),
        answered ask insert
            (view_behind (at_map lock c Away v) (release lock) (slice_index words (lock_number lock))
            (m.state).home) (at_rest lock (Copying c) v lands),
      )

  pub releases_goes : (lock : ℕ) (full : Bool) (v : View) → StandsToDo v (Releases lock full) ask
      → Goes m ask (Releases lock full) v
  releases_goes lock true v stands =
      of_posed (Goes m ask (Releases lock true)) Free (lock ∷ []) Landed Away Idle v stands
      (releases_full_at lock v)
  releases_goes lock false v stands =
      let c = stands.0.0 in
      of_posed (Goes m ask (Releases lock false)) Free (lock ∷ [])
      (Copying c) Away Idle v stands.0.1
      (releases_at lock c v stands.0.2 stands.0.3 stands.1)

-- At the places of a flush but for the calls of the device: the step that the order names may be
-- made, and the view behind it stands at the next place.
use Rattle.std.proofs.Common.{◌≡◌, inl, inr, ⊎_elim, ℕ, suc, ◌+◌, ◌*◌, ◌/◌, ◌%◌, ◌<◌, Bool, true, false, cond, eqb, eqb-true, List, [], ◌∷◌, slice_index, refl, sym, ap, ◌∙◌, subst, arith, ◌≢◌, max}
use Rattle.std.proofs.lemmas.Bool.{cases_eq}
use Rattle.std.proofs.Math.Dec.{ltb, leb}
use Rattle.std.proofs.lemmas.Bool.{ltb-true, eqb-false}
use mathlib.Core.Option.{Option, none, some}
use Rattle.byte_position.specs.Geometry.{IsSegmentSize}
use Rattle.byte_position.proofs.Words.{end_address_of-mod_word}
use Rattle.machine_state.specs.Words.{Opening, end_form, write_turn_number, flushed_number, lock_number}
use Rattle.machine_state.specs.Views.{Free, Flight, Landed, Copying, Away, Plain, Lent, Hold, Idle, Turned as HasTurned, Out, View, Working}
use Rattle.machine_state.specs.Moves.{with_hold, after_set_down, hardened, lent, is_done, after_load_down, fault_number}
use Rattle.machine_state.specs.Steps.{IsResting, word_of_step, view_behind, load_flushed, load_lock, load_ring_word, slot_out}
use Rattle.machine_turns.specs.Doing.{Ask, Purpose, ForLine, ForPage, FlushBegins, LoadsPosition, LoadsFlushed, LoadsMoment, Visits, TakesTurn, LoadsDown, TakesOut, LoadsPage, Creates, Writes, SyncsLast, StoresWritten, StoresMoment, StoresFlushed, SetsDown, PutsBack, GivesWriteTurn, Machine}
use Rattle.machine_turns.specs.Turned.{can_step, goes_on, page_or_end, is_some_segment, asked_end, is_segment_new, outcome}
use Rattle.machine_state.specs.Failed.{KnowsOfFault}
use Rattle.machine_turns.specs.Standing.{IsPosed, IsLeft, IsWriterUp, LoadsOn, IsSyncedFor, IsFailed, AreLoaded, WritesFor, StandsToDo}
use Rattle.machine_turns.proofs.Poses.{Goes, StandsNext, bool_cases}
use Rattle.machine_turns.proofs.InsertPlaces.{resting_posed}
use Rattle.machine_turns.proofs.MapPlaces.{ltb-false}

-- a view is as another one, but for what it read and its hold on the writer
abbrev pub IsLike : View → View → Type 0
IsLike v w = (w.opening ≡ v.opening) × ((w.reserving).place ≡ (v.reserving).place)
    × (w.working ≡ v.working) × ((w.mapping).stage ≡ (v.mapping).stage)

posed_on : (locks : List ℕ) (f : Flight) (h g : Hold) (v w : View)
    → IsPosed Free locks f Away h v → IsLike v w → (w.writing).hold ≡ g
    → IsPosed Free locks f Away g w
posed_on locks f h g v w p like hold = record {
  place_is = like.1 ∙ p.place_is;
  locks_are = ap (λ (x : Working). x.locks) like.2 ∙ p.locks_are;
  flight_is = ap (λ (x : Working). x.flight) like.2 ∙ p.flight_is;
  stage_is = like.3 ∙ p.stage_is;
  hold_is = hold;
}

pub writes_on : (purpose : Purpose) (ask : Ask) (h g : Hold) (v w : View)
    → WritesFor v purpose ask h → IsLike v w → (w.writing).hold ≡ g → WritesFor w purpose ask g
writes_on ForLine ask h g v w p like hold = posed_on [] Landed h g v w p like hold
writes_on (ForPage lock end) ask h g v w p like hold =
    let c = p.0.0 in (
      (
        c,
        posed_on (lock ∷ []) (Copying c) h g v w p.0.1 like hold,
        p.0.2,
        subst (λ (o : Opening). IsLeft (o.setup).seg_size c)
            (sym like.0) p.0.3,
      ),
      p.1,
    )

-- the view's own hold, as it is known
pub of_hold : (P : View → Type 0) (h : Hold) (v : View) → (v.writing).hold ≡ h
    → P (with_hold h v) → P v
of_hold P h v is holds = subst (λ (g : Hold). P (with_hold g v)) (sym is) holds

pub hold_of : (purpose : Purpose) (ask : Ask) (h : Hold) (v : View) → WritesFor v purpose ask h
    → (v.writing).hold ≡ h
hold_of ForLine ask h v p = p.hold_is
hold_of (ForPage lock end) ask h v p = (p.0.1).hold_is

none_known : (n : ℕ) → (n ≢ 0 → ⊥) → n ≡ 0
none_known n known = elim (cases_eq n 0) [ inl zeros ↦ zeros | inr apart ↦ absurd (known apart) ]

module _ (m : Machine) (ask : Ask) where
  abbrev words : List ℕ
  words = (m.state).words

  pub flush_begins_goes : (v : View) → (KnowsOfFault v → ⊥) → StandsToDo v FlushBegins ask
      → Goes m ask FlushBegins v
  flush_begins_goes v up stands = (
    tt,
    ⊎_elim
        (λ (r : IsResting v). record {
          place_is = r.place;
          locks_are = r.locks;
          flight_is = r.flight;
          stage_is = r.stage;
          hold_is = r.hold;
        })
        (λ (d : KnowsOfFault v). absurd (up d)) stands,
  )

  at_rest_on : (v w : View) → IsPosed Free [] Landed Away Idle v → IsLike v w
      → (w.writing).hold ≡ (v.writing).hold → IsPosed Free [] Landed Away Idle w
  at_rest_on v w p like hold = posed_on [] Landed Idle Idle v w p like (hold ∙ p.hold_is)

  pub loads_position_goes : (v : View) → StandsToDo v LoadsPosition ask → Goes m ask LoadsPosition v
  loads_position_goes v stands = (tt, at_rest_on v _ stands (refl, refl, refl, refl) refl)

  pub loads_flushed_goes : (v : View) → StandsToDo v LoadsFlushed ask → Goes m ask LoadsFlushed v
  loads_flushed_goes v stands =
      let met = slice_index words flushed_number in
      let w = view_behind v load_flushed met (m.state).home in
      let rest = at_rest_on v w stands (refl, refl, refl, refl) refl in (
        tt,
        bool_cases
            (λ (b : Bool). StandsNext (cond b (goes_on LoadsMoment)
            (goes_on (Visits ForLine 0))) ask w)
            (leb (asked_end v) met) (λ reached. rest) (λ before. (rest, omega arith)),
      )

  pub loads_moment_goes : (v : View) → StandsToDo v LoadsMoment ask → Goes m ask LoadsMoment v
  loads_moment_goes v stands =
      (tt, inl (resting_posed _ (at_rest_on v _ stands (refl, refl, refl, refl) refl)))

  pub visits_goes : (purpose : Purpose) (lock : ℕ) (v : View)
      → IsSegmentSize ((v.opening).setup).seg_size → (v.reserving).seen % 8 ≡ 0
      → StandsToDo v (Visits purpose lock) ask → Goes m ask (Visits purpose lock) v
  visits_goes purpose lock v valid whole stands =
      let e = load_lock lock
      (end_form (v.opening).setup (v.reserving).seen) in
      let w = view_behind v e (slice_index words (lock_number lock)) (m.state).home in
      let still = writes_on purpose ask Idle Idle v w stands.0 (refl, refl, refl, refl)
      (hold_of purpose ask Idle v stands.0) in (
        (
          stands.1,
          end_address_of-mod_word ((v.opening).setup).seg_size valid (v.reserving).seen whole,
        ),
        bool_cases
            (λ (b : Bool). StandsNext (cond b (goes_on (TakesTurn purpose))
            (goes_on (Visits purpose (lock + 1)))) ask w)
            (eqb (lock + 1) 8) (λ last. still)
            (λ more. let apart = eqb-false _ _ more in let low = stands.1 in (still, omega arith)),
      )

  pub takes_turn_goes : (purpose : Purpose) (v : View) → StandsToDo v (TakesTurn purpose) ask
      → can_step m v ask (TakesTurn purpose) ≡ true → Goes m ask (TakesTurn purpose) v
  takes_turn_goes purpose v stands can = (
    hold_of purpose ask Idle v stands,
    subst
        (λ (b : Bool). WritesFor (cond b (with_hold HasTurned v) v) purpose ask HasTurned) (sym can)
        (writes_on purpose ask Idle HasTurned v (with_hold HasTurned v) stands
        (refl, refl, refl, refl)
        refl),
  )

  pub loads_down_goes : (purpose : Purpose) (v : View) → StandsToDo v (LoadsDown purpose) ask
      → Goes m ask (LoadsDown purpose) v
  loads_down_goes purpose v stands = (
    tt,
    writes_on purpose ask HasTurned HasTurned v _ stands
        (refl, refl, refl, refl) (hold_of purpose ask HasTurned v stands),
  )

  -- ---- with the writer in hand

  abbrev pub in_hand : Lent → View → View
  in_hand l v = with_hold (Out l) v

  pub page_or_end_stands : (purpose : Purpose) (l : Lent) (u v : View) (met : ℕ) (done : Bool)
      → IsWriterUp ((v.opening).setup).seg_size l.writer
      → WritesFor (in_hand l v) purpose ask (Out l)
      → StandsToDo (in_hand l v) (page_or_end u (in_hand l v) ask met done purpose) ask
  page_or_end_stands ForLine l u v met done up base = bool_cases
      (λ (b : Bool). StandsToDo w (cond b (LoadsPage ForLine 0) (cond
      (is_some_segment w (l.writer).waiting) SyncsLast (StoresWritten ForLine))) ask)
      (ltb (l.writer).written l.known)
      (λ left. (
        (
          l,
          base,
          record {
            writer_up = up;
            left = ltb-true _ _ left;
            loaded = tt;
          },
        ),
        omega arith,
      ))
      (λ all. by_waiting (l.writer).waiting refl)
    where
      w : View
      w = in_hand l v

      by_waiting : (x : Option ℕ) → (l.writer).waiting ≡ x → StandsToDo (in_hand l v)
          (cond (is_some_segment (in_hand l v) x) SyncsLast (StoresWritten ForLine)) ask
      by_waiting none is = (l, base, (up.up, is))
      by_waiting (some segment) is = (l, base, (up.up, (segment, is)))
  page_or_end_stands (ForPage lock end) l u v met done up base = bool_cases
      (λ (b : Bool). StandsToDo (in_hand l v) (cond b (LoadsPage (ForPage lock end) 0)
      (StoresWritten (ForPage lock end))) ask)
      (ltb (l.writer).written l.known)
      (λ left. (
        (
          l,
          base,
          record {
            writer_up = up;
            left = ltb-true _ _ left;
            loaded = tt;
          },
        ),
        omega arith,
      ))
      (λ all. (l, base, up))

  pub takes_out_goes : (purpose : Purpose) (v : View) (writer : Plain)
      → (m.state).home ≡ some writer → IsWriterUp ((v.opening).setup).seg_size writer
      → StandsToDo v (TakesOut purpose) ask → Goes m ask (TakesOut purpose) v
  takes_out_goes purpose v writer at_home up stands =
      let l = lent writer v in
      let met : ℕ = max (v.writing).down_met (fault_number writer.fault) in
      let knows : View = after_load_down met v in (
        hold_of purpose ask HasTurned v stands,
        subst
            (λ (home : Option Plain). let w = view_behind v slot_out
            (slice_index words write_turn_number) home in
            StandsToDo w (page_or_end v w ask (slice_index words write_turn_number)
            (is_done (outcome m v ask)) purpose)
            ask) (sym at_home)
            (page_or_end_stands purpose l v knows (slice_index words write_turn_number)
            (is_done (outcome m v ask)) up
            (writes_on purpose ask HasTurned (Out l) v (in_hand l knows) stands
            (refl, refl, refl, refl) refl)),
      )

  module _ (purpose : Purpose) (l : Lent) (v : View)
      (base : WritesFor (in_hand l v) purpose ask (Out l)) where
    -- as it was, but for the lent writer
    pub writes_still : (k : Lent) → WritesFor (in_hand k v) purpose ask (Out k)
    writes_still k =
        writes_on purpose ask (Out l) (Out k) (in_hand l v) (in_hand k v) base
        (refl, refl, refl, refl)
        refl

    loads_page_at : (k : ℕ) → LoadsOn ((v.opening).setup).seg_size k l → k < 1024
        → Goes m ask (LoadsPage purpose k) (in_hand l v)
    loads_page_at k on low =
        let page = (l.writer).written / 8192 in
        let number = page * 1024 + k in
        let left = on.left in
        let e = load_ring_word number in
        let met = slice_index words (word_of_step (in_hand l v) e) in
        let d : Lent = record l { staged = (number, met) ∷ l.staged } in
        let loaded : AreLoaded page (suc k) d.staged = (refl, on.loaded) in
        let next : suc k ≡ k + 1 = omega arith in
        let still = writes_still d in
        let further : LoadsOn ((v.opening).setup).seg_size (suc k) d = record {
          writer_up = on.writer_up;
          left = left;
          loaded = loaded;
        } in
        let more = subst (λ (n : ℕ). LoadsOn ((v.opening).setup).seg_size n d) next further in (
          (l, refl, record { unwritten = omega arith; copied = omega arith }),
          bool_cases
              (λ (b : Bool). StandsNext (cond b
              (cond (is_segment_new (in_hand l v)) (goes_on (Creates purpose)) (goes_on
              (Writes purpose)))
              (goes_on (LoadsPage purpose (k + 1)))) ask (in_hand d v))
              (eqb (k + 1) 1024)
              (λ last.
              let all = subst (λ (n : ℕ). LoadsOn ((v.opening).setup).seg_size n d)
              (eqb-true _ _ last) more in
              bool_cases
              (λ (b : Bool). StandsNext (cond b (goes_on (Creates purpose))
              (goes_on (Writes purpose))) ask
              (in_hand d v))
              (is_segment_new (in_hand l v))
              (λ fresh. (d, still, (all, ltb-true _ _ fresh)))
              (λ made. (d, still, (all, ltb-false _ _ made))))
              (λ some_left. let apart = eqb-false _ _ some_left in ((d, still, more), omega arith)),
        )

    sets_down_at : IsFailed l → (v.writing).down_met ≡ 0 → (v.writing).down_set ≡ 0
        → Goes m ask (SetsDown purpose) (in_hand l v)
    sets_down_at failed none_met none_put =
        let number = fault_number (l.writer).fault in
        let is : number ≡ suc failed.0 = ap fault_number failed.1 in (
          (l, refl, (suc failed.0, failed.1, none_met, none_put)),
          (
            (
              l,
              writes_on purpose ask (Out l) (Out l) (in_hand l v)
                  (after_set_down number (in_hand l v)) base (refl, refl, refl, refl)
                  refl,
              failed,
            ),
            λ (none_set : number ≡ 0). omega (arith, is, none_set),
          ),
        )

    stores_written_at : IsSyncedFor v purpose l → Goes m ask (StoresWritten purpose) (in_hand l v)
    stores_written_at synced = by_purpose purpose synced
        (writes_still (record l { stored = (l.writer).written }))
      where
        by_purpose : (p : Purpose) → IsSyncedFor v p l
            → WritesFor (in_hand (record l { stored = (l.writer).written }) v) p ask
            (Out (record l { stored = (l.writer).written }))
            → Goes m ask (StoresWritten p) (in_hand l v)
        by_purpose ForLine done still = ((l, refl, tt), (_, still, (done, refl)))
        by_purpose (ForPage lock end) done still = ((l, refl, tt), (_, still, (done, refl)))

  pub loads_page_goes : (purpose : Purpose) (k : ℕ) (v : View)
      → StandsToDo v (LoadsPage purpose k) ask
      → Goes m ask (LoadsPage purpose k) v
  loads_page_goes purpose k v stands =
      let l = stands.0.0 in
      let base = stands.0.1 in
      let is = hold_of purpose ask (Out l) v base in
      of_hold (Goes m ask (LoadsPage purpose k)) (Out l) v is
      (loads_page_at purpose l v (writes_on purpose ask (Out l) (Out l) v (in_hand l v) base
      (refl, refl, refl, refl) refl) k stands.0.2 stands.1)

  pub sets_down_goes : (purpose : Purpose) (v : View) → (KnowsOfFault v → ⊥)
      → StandsToDo v (SetsDown purpose) ask → Goes m ask (SetsDown purpose) v
  sets_down_goes purpose v up stands =
      let l = stands.0 in
      let is = hold_of purpose ask (Out l) v stands.1 in
      of_hold (Goes m ask (SetsDown purpose)) (Out l) v is
      (sets_down_at purpose l v (writes_on purpose ask (Out l) (Out l) v (in_hand l v) stands.1
      (refl, refl, refl, refl) refl) stands.2
      (none_known (v.writing).down_met (λ met. up (inl met)))
      (none_known (v.writing).down_set (λ put. up (inr put))))

  pub stores_written_goes : (purpose : Purpose) (v : View) → StandsToDo v (StoresWritten purpose) ask
      → Goes m ask (StoresWritten purpose) v
  stores_written_goes purpose v stands =
      let l = stands.0 in
      let is = hold_of purpose ask (Out l) v stands.1 in
      of_hold (Goes m ask (StoresWritten purpose)) (Out l) v is
      (stores_written_at purpose l v (writes_on purpose ask (Out l) (Out l) v (in_hand l v) stands.1
      (refl, refl, refl, refl) refl) (synced_too purpose v l stands.2))
    where
      synced_too : (p : Purpose) (u : View) (k : Lent) → IsSyncedFor u p k → IsSyncedFor u p k
      synced_too p u k is = is

  pub stores_moment_goes : (v : View) → StandsToDo v StoresMoment ask → Goes m ask StoresMoment v
  stores_moment_goes v stands =
      let l = stands.0 in
      let d : Lent = hardened l in
      of_hold (Goes m ask StoresMoment) (Out l) v (hold_of ForLine ask (Out l) v stands.1) (
        (l, refl, stands.2.0),
        (
          d,
          writes_on ForLine ask (Out l) (Out d) v (in_hand d v) stands.1
              (refl, refl, refl, refl) refl,
          (stands.2.0, stands.2.1, refl),
        ),
      )

  pub stores_flushed_goes : (v : View) → StandsToDo v StoresFlushed ask → Goes m ask StoresFlushed v
  stores_flushed_goes v stands =
      let l = stands.0 in
      of_hold (Goes m ask StoresFlushed) (Out l) v (hold_of ForLine ask (Out l) v stands.1) (
        (l, refl, (stands.2.2, stands.2.1)),
        (
          l,
          writes_on ForLine ask (Out l) (Out l) v _
              stands.1 (refl, refl, refl, refl) refl,
          (
            record { up = (stands.2.0).0; awaits = inl (stands.2.0).1 },
            stands.2.1,
          ),
        ),
      )

  pub puts_back_goes : (purpose : Purpose) (failed : Bool) (v : View)
      → StandsToDo v (PutsBack purpose failed) ask → Goes m ask (PutsBack purpose failed) v
  puts_back_goes purpose false v stands =
      let l = stands.0 in (
        (l, hold_of purpose ask (Out l) v stands.1, inl ((stands.2.0).up, stands.2.1)),
        writes_on purpose ask (Out l) HasTurned v (with_hold HasTurned v) stands.1
            (refl, refl, refl, refl) refl,
      )
  puts_back_goes purpose true v stands =
      let l = stands.0.0 in (
        (l, hold_of purpose ask (Out l) v stands.0.1, inr (inr stands.1)),
        (
          writes_on purpose ask (Out l) HasTurned v (with_hold HasTurned v) stands.0.1
              (refl, refl, refl, refl) refl,
          stands.1,
        ),
      )

  pub gives_write_turn_goes : (purpose : Purpose) (failed : Bool) (v : View)
      → StandsToDo v (GivesWriteTurn purpose failed) ask
      → Goes m ask (GivesWriteTurn purpose failed) v
  gives_write_turn_goes ForLine false v stands = (
    hold_of ForLine ask HasTurned v stands,
    inl (resting_posed _ (writes_on ForLine ask HasTurned Idle v (with_hold Idle v) stands
        (refl, refl, refl, refl) refl)),
  )
  gives_write_turn_goes (ForPage lock end) false v stands = (
    hold_of (ForPage lock end) ask HasTurned v stands,
    writes_on (ForPage lock end) ask HasTurned Idle v (with_hold Idle v) stands
        (refl, refl, refl, refl) refl,
  )
  gives_write_turn_goes ForLine true v stands =
      (hold_of ForLine ask HasTurned v stands.0, inr (inr stands.1))
  gives_write_turn_goes (ForPage lock end) true v stands =
      (hold_of (ForPage lock end) ask HasTurned v stands.0, inr (inr stands.1))

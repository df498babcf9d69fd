-- At the places of a flush that take the writer out, load a page and store what was done a turn on
-- plain data follows the machine's.
use Rattle.std.proofs.Common.{◌≡◌, ℕ, ◌+◌, Bool, cond, eqb, List, Option, set, slice_index, refl, sym, ap, ◌∙◌, subst, max}
use Rattle.std.proofs.Math.Dec.{ltb}
use mathlib.Core.Option.{none, some}
use Rattle.machine_state.specs.Words.{write_turn_number, flushed_number, down_number}
use Rattle.machine_state.specs.Views.{Turned as HasTurned, Out, Lent, Plain, View}
use Rattle.machine_state.specs.Moves.{after_load_down, after_store_flushed, fault_number, is_done, lent, with_hold}
use Rattle.machine_state.specs.Steps.{slot_out, view_behind}
use Rattle.machine_state.proofs.WordLists.{word_again}
use Rattle.machine_turns.specs.Doing.{Ask, Machine, ForLine, ForPage, Creates, LoadsPage, StoresWritten, SyncsLast, Writes}
use Rattle.machine_turns.specs.Turned.{goes_on, is_some_segment, outcome, page_or_end as machine_page_or_end}
use Rattle.machine_turns.proofs.AtView.{sound, to_writer_of}
use Rattle.machine_turns.proofs.FlushPlaces.{hold_of, of_hold}
use Rattle.machine_turns.proofs.Poses.{bool_cases}
use Rattle.machine_turns.specs.declared.doing.PlainDoing.{PlainDoing}
use Rattle.machine_turns.specs.declared.doing.PlainDoing.TheVariants as doings
use Rattle.machine_turns.specs.declared.doing.PlainNext.TheVariants as nexts
use Rattle.machine_turns.specs.declared.doing.PlainPurpose.{PlainPurpose}
use Rattle.machine_turns.specs.declared.doing.PlainPurpose.TheVariants as purposes
use Rattle.machine_turns.specs.declared.script.PlainLine.{PlainLine}
use Rattle.machine_turns.specs.Writer.{WriterState, segment_at}
use Rattle.machine_turns.specs.Writing.{is_some_waiting, number_or_0, page_or_end}
use Rattle.wal_core.specs.Following.{Follows, StandsPlain, plain_step}
use Rattle.wal_core.specs.PlainData.{doing_of, next_of_plain, plain_view, purpose_of}

-- this writer in hand, as it is known
abbrev pub lent_as : Plain → Lent → Lent
lent_as writer l = record l { writer = writer }

-- ---- behind the page written last

pub page_or_end_alike : (purpose : PlainPurpose) (w : WriterState) (l : Lent) (u v : View)
    (ask : Ask) (met : ℕ) (done : Bool)
    → doing_of (page_or_end purpose l.known w)
    ≡ machine_page_or_end u (with_hold (Out (lent_as w.plain l)) v) ask met done
    (purpose_of purpose)
page_or_end_alike purposes.Line w l u v ask met done = bool_cases
    (λ (b : Bool). doing_of (cond b (doings.LoadsPage purposes.Line 0) (cond
    (is_some_waiting (w.plain).waiting) doings.SyncsLast (doings.StoresWritten purposes.Line)))
    ≡ cond b (LoadsPage ForLine 0) (cond (is_some_segment x (w.plain).waiting) SyncsLast
    (StoresWritten ForLine)))
    (ltb (w.plain).written l.known) (λ left. refl) (λ all. by_waiting (w.plain).waiting)
  where
    x : View
    x = with_hold (Out (lent_as w.plain l)) v

    by_waiting : (a : mathlib.Core.Option.Option ℕ)
        → doing_of (cond (is_some_waiting a) doings.SyncsLast (doings.StoresWritten purposes.Line))
        ≡ cond (is_some_segment (with_hold (Out (lent_as w.plain l)) v) a) SyncsLast
        (StoresWritten ForLine)
    by_waiting none = refl
    by_waiting (some segment) = refl
page_or_end_alike (purposes.Page lock end) w l u v ask met done = bool_cases
    (λ (b : Bool). doing_of (cond b (doings.LoadsPage (purposes.Page lock end) 0)
    (doings.StoresWritten (purposes.Page lock end)))
    ≡ cond b (LoadsPage (ForPage lock end) 0) (StoresWritten (ForPage lock end)))
    (ltb (w.plain).written l.known) (λ left. refl) (λ all. refl)

fault_alike : (fault : mathlib.Core.Option.Option ℕ) → number_or_0 fault ≡ fault_number fault
fault_alike none = refl
fault_alike (some faults) = refl

module _ (m : Machine) (number : ℕ) (v : View) (ask : Ask) (line : PlainLine) (copied : Option PlainLine)
    (w : WriterState) where
  abbrev words : List ℕ
  words = (m.state).words

  abbrev Stands : PlainDoing → Type 0
  Stands d = StandsPlain m number v ask line copied w d

  abbrev FollowsTo : PlainDoing → Type 0
  FollowsTo d = Follows m v ask d (plain_step m v line copied w d).left

  -- the writer, of segments of the view's size, with the calls that fail as the machine has them
  abbrev pub writer_as : WriterState
  writer_as = record w { size = ((v.opening).setup).seg_size; failing = m.failing }

  abbrev FollowsAs : PlainDoing → View → Type 0
  FollowsAs d u = Follows m u ask d (plain_step m u line copied writer_as d).left

  -- the writer in hand is the one of plain data
  pub writer_in_hand : (d : PlainDoing) → Stands d → (l : Lent) → (v.writing).hold ≡ Out l
      → l.writer ≡ w.plain
  writer_in_hand d s l is = (s.writer_is).in_hand (number + 1) v l (s.live).0 is

  pub by_hand : (d : PlainDoing) → Stands d → (l : Lent) → (v.writing).hold ≡ Out l
      → FollowsAs d (with_hold (Out (lent_as w.plain l)) v) → FollowsTo d
  by_hand d s l is follows = subst
      (λ (y : ℕ × List ℕ). Follows m v ask d
      (plain_step m v line copied (record w { size = y.0; failing = y.1 }) d).left)
      (λ i. (sym s.size_is i, s.failing_is i))
      (of_hold (FollowsAs d) (Out (lent_as w.plain l)) v
      (is ∙ ap (λ (p : Plain). Out (lent_as p l)) (writer_in_hand d s l is)) follows)

  -- at home it is that one too
  pub writer_at_home : (purpose : PlainPurpose) → Stands (doings.TakesOut purpose)
      → (m.state).home ≡ some w.plain
  writer_at_home purpose s =
      let k = sound m s.running number v s.live ask in
      let home_is = (to_writer_of m s.running number v s.live ask v.opening k HasTurned
      (hold_of (purpose_of purpose) ask HasTurned v s.stands)).2 in
      home_is ∙ ap (λ (p : Plain). some p) ((s.writer_is).at_home k.writer home_is)

  pub takes_out_follow : (purpose : PlainPurpose) → Stands (doings.TakesOut purpose)
      → FollowsTo (doings.TakesOut purpose)
  takes_out_follow purpose s = record {
    event = refl;
    next = subst (λ (home : mathlib.Core.Option.Option Plain).
        next_of_plain (nexts.GoesOn (page_or_end purpose (lent w.plain v).known w))
        ≡ goes_on (machine_page_or_end v (view_behind v slot_out met home) ask met
        (is_done (outcome m v ask)) (purpose_of purpose))) (sym (writer_at_home purpose s))
        (ap (λ d. goes_on d) (page_or_end_alike purpose w (lent w.plain v) v knows ask met
        (is_done (outcome m v ask))));
    words = sym (word_again words write_turn_number);
    view = subst (λ (home : mathlib.Core.Option.Option Plain).
        plain_view (with_hold (Out (lent w.plain v)) v)
        ≡ plain_view (view_behind v slot_out met home)) (sym (writer_at_home purpose s)) refl;
  }
    where
      met : ℕ
      met = slice_index words write_turn_number

      knows : View
      knows = after_load_down (max (v.writing).down_met (fault_number (w.plain).fault)) v

  -- ---- with the writer in hand

  pub loads_page_follow : (purpose : PlainPurpose) (k : ℕ) → Stands (doings.LoadsPage purpose k)
      → FollowsTo (doings.LoadsPage purpose k)
  loads_page_follow purpose k s =
      let l = (s.stands).0.0 in
      by_hand (doings.LoadsPage purpose k) s l
      (hold_of (purpose_of purpose) ask (Out l) v (s.stands).0.1) (record {
        event = refl;
        next = bool_cases
            (λ (b : Bool). next_of_plain (nexts.GoesOn (cond b (cond fresh (doings.Creates purpose)
            (doings.Writes purpose)) (doings.LoadsPage purpose (k + 1))))
            ≡ cond b (cond fresh (goes_on (Creates (purpose_of purpose)))
            (goes_on (Writes (purpose_of purpose))))
            (goes_on (LoadsPage (purpose_of purpose) (k + 1))))
            (eqb (k + 1) 1024)
            (λ last. bool_cases
            (λ (b : Bool). next_of_plain (nexts.GoesOn (cond b (doings.Creates purpose)
            (doings.Writes purpose)))
            ≡ cond b (goes_on (Creates (purpose_of purpose)))
            (goes_on (Writes (purpose_of purpose))))
            fresh (λ is_new. refl) (λ made. refl))
            (λ more. refl);
        words = sym (word_again words _);
        view = refl;
      })
    where
      fresh : Bool
      fresh = ltb (w.plain).made (segment_at writer_as)

  pub stores_written_follow : (purpose : PlainPurpose) → Stands (doings.StoresWritten purpose)
      → FollowsTo (doings.StoresWritten purpose)
  stores_written_follow purposes.Line s =
      let l = (s.stands).0 in
      by_hand (doings.StoresWritten purposes.Line) s l (hold_of ForLine ask (Out l) v (s.stands).1)
      (record { event = refl; next = refl; words = refl; view = refl })
  stores_written_follow (purposes.Page lock end) s =
      let l = (s.stands).0 in
      by_hand (doings.StoresWritten (purposes.Page lock end)) s l
      (hold_of (ForPage lock end) ask (Out l) v (s.stands).1)
      (record { event = refl; next = refl; words = refl; view = refl })

  pub stores_moment_follow : Stands doings.StoresMoment → FollowsTo doings.StoresMoment
  stores_moment_follow s =
      let l = (s.stands).0 in
      by_hand doings.StoresMoment s l (hold_of ForLine ask (Out l) v (s.stands).1)
      (record { event = refl; next = refl; words = refl; view = refl })

  pub stores_flushed_follow : Stands doings.StoresFlushed → FollowsTo doings.StoresFlushed
  stores_flushed_follow s =
      let l = (s.stands).0 in
      let is = hold_of ForLine ask (Out l) v (s.stands).1 in
      let hard_is = (s.stands).2.2 ∙ ap (λ (p : Plain). p.written)
      (writer_in_hand doings.StoresFlushed s l is) in
      by_hand doings.StoresFlushed s l is (record {
        event = refl;
        next = refl;
        words = ap (set words flushed_number) (sym hard_is);
        view = ap (λ (n : ℕ). plain_view (after_store_flushed n l.hard_moment
            (with_hold (Out (lent_as w.plain l)) v))) (sym hard_is);
      })

  pub sets_down_follow : (purpose : PlainPurpose) → Stands (doings.SetsDown purpose)
      → FollowsTo (doings.SetsDown purpose)
  sets_down_follow purpose s =
      let l = (s.stands).0 in
      by_hand (doings.SetsDown purpose) s l
      (hold_of (purpose_of purpose) ask (Out l) v (s.stands).1) (record {
        event = refl;
        next = refl;
        words = ap (set words down_number) (fault_alike (w.plain).fault);
        view = refl;
      })

-- At the places of a flush the writer of plain data stays the machine's, at home or in hand, and
-- its page has the words that were loaded for the step that comes next.
use Rattle.std.proofs.Common.{◌≡◌, ℕ, suc, ◌+◌, ◌*◌, ◌/◌, ◌%◌, ◌<◌, Bool, true, false, cond, eqb, eqb-true, List, [], ◌∷◌, ◌++◌, length, take, drop, Option, min, slice_index, refl, sym, ap, ◌∙◌, subst, arith}
use Rattle.std.proofs.Math.Dec.{leb, ltb}
use Rattle.std.proofs.Math.Seq.{take-append_seam}
use Rattle.std.proofs.lemmas.List.{length-append, length-drop, length-take-le, take_all}
use Rattle.std.specs.Int.{w64, to_le_bytes}
use mathlib.Core.Option.{none, some}
use Rattle.byte_position.specs.Geometry.{pages_of}
use Rattle.segment_disk.specs.Failing.{is_listed}
use Rattle.segment_disk.specs.Tape.{create_call, sync_call, write_call}
use Rattle.machine_state.specs.Words.{flushed_word, write_turn_number}
use Rattle.machine_state.specs.Views.{Hold, Idle, Turned as HasTurned, Out, Lent, Plain, View}
use Rattle.machine_state.specs.Moves.{CallOutcome, Done, Failed, after_create, after_sync, after_write, hardened, with_hold, with_lent}
use Rattle.machine_state.specs.Steps.{home_behind, returned, slot_out, view_behind}
use Rattle.machine_turns.specs.Doing.{Ask, Machine, ForLine}
use Rattle.machine_turns.specs.Turned.{asked_end, bytes_staged, page_staged, segment_or}
use Rattle.machine_turns.proofs.AtView.{sound, to_writer_of}
use Rattle.machine_turns.proofs.FlushPlaces.{hold_of, of_hold}
use Rattle.machine_turns.proofs.Loads.{bytes-length}
use Rattle.machine_turns.proofs.Poses.{bool_cases}
use Rattle.machine_turns.specs.declared.doing.PlainDoing.{PlainDoing}
use Rattle.machine_turns.specs.declared.doing.PlainDoing.TheVariants as doings
use Rattle.machine_turns.specs.declared.doing.PlainNext.{PlainNext}
use Rattle.machine_turns.specs.declared.doing.PlainNext.TheVariants as nexts
use Rattle.machine_turns.specs.declared.doing.PlainPurpose.{PlainPurpose}
use Rattle.machine_turns.specs.declared.doing.PlainPurpose.TheVariants as purposes
use Rattle.machine_turns.specs.declared.script.PlainLine.{PlainLine}
use Rattle.machine_turns.specs.Writer.{WriterState, page_at, page_written, segment_at, succeeds, synced}
use Rattle.machine_turns.specs.Writing.{is_some_waiting, page_or_end, segment_waiting, word_to_load}
use Rattle.machine_turns.specs.Lanes.{Stepped}
use Rattle.wal_core.specs.Following.{StandsPlain, plain_step, step_made, view_left}
use Rattle.wal_core.specs.PlainData.{plain_view, purpose_of}
use Rattle.wal_core.specs.Playing.{HasLoaded, HoldsPageFor}
use Rattle.wal_core.proofs.DeviceFollows.{segment_alike}
use Rattle.wal_core.proofs.WritingFollows.{lent_as, writer_as, writer_at_home, writer_in_hand}

-- what is at home, and what is in hand, is this writer
abbrev pub IsHomeOf : Plain → mathlib.Core.Option.Option Plain → Type 0
IsHomeOf w none = Unit {0}
IsHomeOf w (some p) = p ≡ w

abbrev pub IsHeldOf : Plain → Hold → Type 0
IsHeldOf w Idle = Unit {0}
IsHeldOf w HasTurned = Unit {0}
IsHeldOf w (Out l) = l.writer ≡ w

-- the page is the one for what comes next
abbrev pub HoldsNext : List ℕ → View → PlainNext → Type 0
HoldsNext page v (nexts.GoesOn d) = HoldsPageFor page v d
HoldsNext page v (nexts.Answers full) = Unit {0}

-- behind a step of a view the writer of plain data is the machine's
abbrev pub Keeps : Machine → View → Ask → PlainDoing → Stepped → Type 0
Keeps m v ask d s =
    IsHomeOf (s.writer).plain (home_behind v (step_made m v ask d) (m.state).home)
    × IsHeldOf (s.writer).plain ((view_left m v ask d).writing).hold
    × HoldsNext (s.writer).page (view_left m v ask d) ((s.left).made).next

-- the same, as it is used
pub record KeepsWriter (m : Machine) (v : View) (ask : Ask) (d : PlainDoing) (s : Stepped) : Type 0
  where
    pub at_home : (p : Plain) → home_behind v (step_made m v ask d) (m.state).home ≡ some p
        → p ≡ (s.writer).plain
    pub in_hand : (l : Lent) → ((view_left m v ask d).writing).hold ≡ Out l
        → l.writer ≡ (s.writer).plain
    pub page : (next : PlainDoing) → ((s.left).made).next ≡ nexts.GoesOn next
        → HoldsPageFor (s.writer).page (view_left m v ask d) next

pub keeps_writer : (m : Machine) (v : View) (ask : Ask) (d : PlainDoing) (s : Stepped)
    → Keeps m v ask d s → KeepsWriter m v ask d s
keeps_writer m v ask d s k = record {
  at_home = λ p is. subst (IsHomeOf (s.writer).plain) is k.0;
  in_hand = λ l is. subst (IsHeldOf (s.writer).plain) is k.1;
  page = λ next is. subst (HoldsNext (s.writer).page (view_left m v ask d)) is k.2;
}

-- ---- what a page holds

none_loaded : (page : List ℕ) (v : View) → HasLoaded page 0 v
none_loaded page v = λ l is. refl

-- behind a page the next one is begun, or the writing ends
page_or_end_held : (purpose : PlainPurpose) (known : ℕ) (w : WriterState) (page : List ℕ) (v : View)
    → HoldsPageFor page v (page_or_end purpose known w)
page_or_end_held purposes.Line known w page v = bool_cases
    (λ (b : Bool). HoldsPageFor page v (cond b (doings.LoadsPage purposes.Line 0) (cond
    (is_some_waiting (w.plain).waiting) doings.SyncsLast (doings.StoresWritten purposes.Line))))
    (ltb (w.plain).written known) (λ left. none_loaded page v)
    (λ all. bool_cases
    (λ (b : Bool). HoldsPageFor page v (cond b doings.SyncsLast
    (doings.StoresWritten purposes.Line)))
    (is_some_waiting (w.plain).waiting) (λ waits. tt) (λ synced. tt))
page_or_end_held (purposes.Page lock end) known w page v = bool_cases
    (λ (b : Bool). HoldsPageFor page v (cond b (doings.LoadsPage (purposes.Page lock end) 0)
    (doings.StoresWritten (purposes.Page lock end))))
    (ltb (w.plain).written known) (λ left. none_loaded page v) (λ all. tt)

-- the words that a hold has loaded
abbrev staged_in : Hold → List (ℕ × ℕ)
staged_in Idle = []
staged_in HasTurned = []
staged_in (Out l) = l.staged

-- a page has so many of these words
loaded_as : (page : List ℕ) (k : ℕ) (v : View) (l : Lent) → (v.writing).hold ≡ Out l
    → take (8 * k) page ≡ bytes_staged v (take k l.staged) → HasLoaded page k v
loaded_as page k v l is has = λ other held.
    has ∙ ap (λ (h : Hold). bytes_staged v (take k (staged_in h))) (sym is ∙ held)

-- one more word is loaded into the page
one_more_loaded : (v : View) (page : List ℕ) (k number word : ℕ) (staged : List (ℕ × ℕ))
    → length (bytes_staged v (take k staged)) ≡ 8 * k
    → take (8 * k) page ≡ bytes_staged v (take k staged)
    → take (8 * (k + 1))
    (take (8 * k) page ++ to_le_bytes w64 word ++ drop (8 * k + 8) page)
    ≡ bytes_staged v (take (k + 1) ((number, word) ∷ staged))
one_more_loaded v page k number word staged long has =
    let front = bytes_staged v (take k staged) in
    let last = to_le_bytes w64 word in
    let rest = drop (8 * k + 8) page in
    let all = length-append front last in
    let eight : length last ≡ 8 = refl in
    let whole : length (front ++ last) ≡ 8 * (k + 1) = omega (arith, all, eight, long) in
    let next : suc k ≡ k + 1 = omega arith in
    ap (λ (xs : List ℕ). take (8 * (k + 1)) (xs ++ last ++ rest)) has
    ∙ (ap (λ (n : ℕ). take n (front ++ last ++ rest)) (sym whole)
    ∙ (take-append_seam (front ++ last) rest
    ∙ ap (λ (n : ℕ). bytes_staged v (take n ((number, word) ∷ staged))) next))

-- and the page is as long as before
page_still_whole : (page : List ℕ) (k word : ℕ) → length page ≡ 8192 → k < 1024
    → length (take (8 * k) page ++ to_le_bytes w64 word ++ drop (8 * k + 8) page) ≡ 8192
page_still_whole page k word whole low =
    let front = take (8 * k) page in
    let last = to_le_bytes w64 word in
    let rest = drop (8 * k + 8) page in
    let first = length-take-le (8 * k) page (omega (arith, whole, low)) in
    let eight : length last ≡ 8 = refl in
    let left = length-drop (8 * k + 8) page in
    let two = length-append front last in
    let three = length-append (front ++ last) rest in
    omega (arith, whole, low, first, eight, left, two, three)

module _ (m : Machine) (number : ℕ) (v : View) (ask : Ask) (line : PlainLine) (copied : Option PlainLine)
    (w : WriterState) where
  abbrev words : List ℕ
  words = (m.state).words

  abbrev Stands : PlainDoing → Type 0
  Stands d = StandsPlain m number v ask line copied w d

  abbrev Kept : PlainDoing → Type 0
  Kept d = KeepsWriter m v ask d (plain_step m v line copied w d)

  abbrev writer : WriterState
  writer = writer_as m number v ask line copied w

  -- the view with the writer in hand
  abbrev with_it : Lent → View
  with_it l = with_hold (Out (lent_as w.plain l)) v

  pub kept_by : (d : PlainDoing) → Keeps m v ask d (plain_step m v line copied w d) → Kept d
  kept_by d k = keeps_writer m v ask d (plain_step m v line copied w d) k

  -- ---- where the writer was before

  pub home_before : (d : PlainDoing) → Stands d → IsHomeOf w.plain (m.state).home
  home_before d s = of_home (m.state).home refl
    where
      of_home : (h : mathlib.Core.Option.Option Plain) → (m.state).home ≡ h → IsHomeOf w.plain h
      of_home none is = tt
      of_home (some p) is = (s.writer_is).at_home p is

  pub held_before : (d : PlainDoing) → Stands d → IsHeldOf w.plain (v.writing).hold
  held_before d s = of_hold_known (v.writing).hold refl
    where
      of_hold_known : (h : Hold) → (v.writing).hold ≡ h → IsHeldOf w.plain h
      of_hold_known Idle is = tt
      of_hold_known HasTurned is = tt
      of_hold_known (Out l) is = writer_in_hand m number v ask line copied w d s l is

  -- ---- a flush

  pub flush_begins_keeps : Stands doings.FlushBegins → Kept doings.FlushBegins
  flush_begins_keeps s = kept_by doings.FlushBegins
      (home_before doings.FlushBegins s, held_before doings.FlushBegins s, tt)

  pub loads_position_keeps : Stands doings.LoadsPosition → Kept doings.LoadsPosition
  loads_position_keeps s = kept_by doings.LoadsPosition
      (home_before doings.LoadsPosition s, held_before doings.LoadsPosition s, tt)

  pub loads_flushed_keeps : Stands doings.LoadsFlushed → Kept doings.LoadsFlushed
  loads_flushed_keeps s = kept_by doings.LoadsFlushed (
    home_before doings.LoadsFlushed s,
    held_before doings.LoadsFlushed s,
    bool_cases
        (λ (b : Bool). HoldsPageFor w.page v
        (cond b doings.LoadsMoment (doings.Visits purposes.Line 0)))
        (leb (asked_end v) (flushed_word words)) (λ reached. tt) (λ before. tt),
  )

  pub loads_moment_keeps : Stands doings.LoadsMoment → Kept doings.LoadsMoment
  loads_moment_keeps s = kept_by doings.LoadsMoment
      (home_before doings.LoadsMoment s, held_before doings.LoadsMoment s, tt)

  pub visits_keeps : (purpose : PlainPurpose) (lock : ℕ) → Stands (doings.Visits purpose lock)
      → Kept (doings.Visits purpose lock)
  visits_keeps purpose lock s = kept_by (doings.Visits purpose lock) (
    home_before (doings.Visits purpose lock) s,
    held_before (doings.Visits purpose lock) s,
    bool_cases
        (λ (b : Bool). HoldsPageFor w.page v
        (cond b (doings.TakesTurn purpose) (doings.Visits purpose (lock + 1))))
        (eqb (lock + 1) 8) (λ last. tt) (λ more. tt),
  )

  pub takes_turn_keeps : (purpose : PlainPurpose) → Stands (doings.TakesTurn purpose)
      → Kept (doings.TakesTurn purpose)
  takes_turn_keeps purpose s = kept_by (doings.TakesTurn purpose) (
    home_before (doings.TakesTurn purpose) s,
    subst (λ (b : Bool). IsHeldOf w.plain ((cond b (with_hold HasTurned v) v).writing).hold)
        (sym s.can) tt,
    tt,
  )

  pub loads_down_keeps : (purpose : PlainPurpose) → Stands (doings.LoadsDown purpose)
      → Kept (doings.LoadsDown purpose)
  loads_down_keeps purpose s = kept_by (doings.LoadsDown purpose)
      (home_before (doings.LoadsDown purpose) s, held_before (doings.LoadsDown purpose) s, tt)

  pub takes_out_keeps : (purpose : PlainPurpose) → Stands (doings.TakesOut purpose)
      → Kept (doings.TakesOut purpose)
  takes_out_keeps purpose s = kept_by (doings.TakesOut purpose) (
    tt,
    subst (λ (h : mathlib.Core.Option.Option Plain).
        IsHeldOf w.plain ((view_behind v slot_out (slice_index words write_turn_number) h).writing).hold)
        (sym (writer_at_home m number v ask line copied w purpose s)) refl,
    page_or_end_held purpose _ w w.page (view_left m v ask (doings.TakesOut purpose)),
  )

  pub puts_back_keeps : (purpose : PlainPurpose) (failed : Bool)
      → Stands (doings.PutsBack purpose failed) → Kept (doings.PutsBack purpose failed)
  puts_back_keeps purpose failed s = kept_by (doings.PutsBack purpose failed)
      (returned_home (v.writing).hold (held_before (doings.PutsBack purpose failed) s), tt, tt)
    where
      returned_home : (h : Hold) → IsHeldOf w.plain h
          → IsHomeOf w.plain (returned v h (m.state).home)
      returned_home Idle is = home_before (doings.PutsBack purpose failed) s
      returned_home HasTurned is = home_before (doings.PutsBack purpose failed) s
      returned_home (Out l) is = is

  pub gives_write_turn_keeps : (purpose : PlainPurpose) (failed : Bool)
      → Stands (doings.GivesWriteTurn purpose failed)
      → Kept (doings.GivesWriteTurn purpose failed)
  gives_write_turn_keeps purposes.Line failed s =
      kept_by (doings.GivesWriteTurn purposes.Line failed)
      (home_before (doings.GivesWriteTurn purposes.Line failed) s, tt, tt)
  gives_write_turn_keeps (purposes.Page lock end) true s =
      kept_by (doings.GivesWriteTurn (purposes.Page lock end) true)
      (home_before (doings.GivesWriteTurn (purposes.Page lock end) true) s, tt, tt)
  gives_write_turn_keeps (purposes.Page lock end) false s =
      kept_by (doings.GivesWriteTurn (purposes.Page lock end) false)
      (home_before (doings.GivesWriteTurn (purposes.Page lock end) false) s, tt, tt)

  -- ---- with the writer in hand

  -- a hold with the writer in hand changed otherwise
  same_writer : (f : Lent → Lent) → ((l : Lent) → (f l).writer ≡ l.writer) → (h : Hold)
      → IsHeldOf w.plain h → IsHeldOf w.plain (with_lent f h)
  same_writer f same Idle is = tt
  same_writer f same HasTurned is = tt
  same_writer f same (Out l) is = same l ∙ is

  pub stores_written_keeps : (purpose : PlainPurpose) → Stands (doings.StoresWritten purpose)
      → Kept (doings.StoresWritten purpose)
  stores_written_keeps purposes.Line s = kept_by (doings.StoresWritten purposes.Line) (
    home_before (doings.StoresWritten purposes.Line) s,
    same_writer (λ l. record l { stored = (l.writer).written }) (λ l. refl)
        (v.writing).hold (held_before (doings.StoresWritten purposes.Line) s),
    tt,
  )
  stores_written_keeps (purposes.Page lock end) s =
      kept_by (doings.StoresWritten (purposes.Page lock end)) (
        home_before (doings.StoresWritten (purposes.Page lock end)) s,
        same_writer (λ l. record l { stored = (l.writer).written }) (λ l. refl)
            (v.writing).hold (held_before (doings.StoresWritten (purposes.Page lock end)) s),
        tt,
      )

  pub stores_moment_keeps : Stands doings.StoresMoment → Kept doings.StoresMoment
  stores_moment_keeps s = kept_by doings.StoresMoment (
    home_before doings.StoresMoment s,
    same_writer hardened (λ l. refl) (v.writing).hold (held_before doings.StoresMoment s),
    tt,
  )

  pub stores_flushed_keeps : Stands doings.StoresFlushed → Kept doings.StoresFlushed
  stores_flushed_keeps s = kept_by doings.StoresFlushed
      (home_before doings.StoresFlushed s, held_before doings.StoresFlushed s, tt)

  pub sets_down_keeps : (purpose : PlainPurpose) → Stands (doings.SetsDown purpose)
      → Kept (doings.SetsDown purpose)
  sets_down_keeps purpose s = kept_by (doings.SetsDown purpose)
      (home_before (doings.SetsDown purpose) s, held_before (doings.SetsDown purpose) s, tt)

  abbrev KeepsAs : PlainDoing → View → Type 0
  KeepsAs d u = Keeps m u ask d (plain_step m u line copied writer d)

  by_hand : (d : PlainDoing) → Stands d → (l : Lent) → (v.writing).hold ≡ Out l
      → KeepsAs d (with_it l) → Kept d
  by_hand d s l is k = kept_by d (subst
      (λ (y : ℕ × List ℕ). Keeps m v ask d
      (plain_step m v line copied (record w { size = y.0; failing = y.1 }) d))
      (λ i. (sym s.size_is i, s.failing_is i))
      (of_hold (KeepsAs d) (Out (lent_as w.plain l)) v
      (is ∙ ap (λ (p : Plain). Out (lent_as p l))
      (writer_in_hand m number v ask line copied w d s l is)) k))

  pub loads_page_keeps : (purpose : PlainPurpose) (k : ℕ) → Stands (doings.LoadsPage purpose k)
      → Kept (doings.LoadsPage purpose k)
  loads_page_keeps purpose k s = by_hand here s l is (
    home_before here s,
    refl,
    bool_cases
        (λ (b : Bool). HoldsPageFor page x (cond b
        (cond fresh (doings.Creates purpose) (doings.Writes purpose))
        (doings.LoadsPage purpose (k + 1))))
        (eqb (k + 1) 1024)
        (λ last. let all = subst (λ (n : ℕ). HasLoaded page n x) (eqb-true _ _ last) one_more in
        bool_cases
        (λ (b : Bool). HoldsPageFor page x (cond b (doings.Creates purpose)
        (doings.Writes purpose))) fresh (λ is_new. all) (λ made. all))
        (λ some_left. one_more),
  )
    where
      here : PlainDoing
      here = doings.LoadsPage purpose k

      l : Lent
      l = (s.stands).0.0

      is : (v.writing).hold ≡ Out ((s.stands).0.0)
      is = hold_of (purpose_of purpose) ask (Out l) v (s.stands).0.1

      n : ℕ
      n = page_at writer * 1024 + k

      word : ℕ
      word = word_to_load (v.opening).setup words (plain_view v) writer k

      page : List ℕ
      page = take (8 * k) w.page ++ to_le_bytes w64 word ++ drop (8 * k + 8) w.page

      x : View
      x = view_left m (with_it l) ask here

      fresh : Bool
      fresh = ltb (w.plain).made (segment_at writer)

      one_more : HasLoaded page (k + 1) x
      one_more = loaded_as page (k + 1) x
          (record l { writer = w.plain; staged = (n, word) ∷ l.staged }) refl
          (one_more_loaded x w.page k n word l.staged
          (bytes-length v ((l.writer).written / 8192) k l.staged ((s.stands).0.2).loaded)
          (s.loaded l is))

  -- no other step changes the page
  pub loads_page_whole : (purpose : PlainPurpose) (k : ℕ) → Stands (doings.LoadsPage purpose k)
      → length ((plain_step m v line copied w (doings.LoadsPage purpose k)).writer).page ≡ 8192
  loads_page_whole purpose k s = page_still_whole w.page k _ s.whole (s.stands).1

  -- ---- calls of the device

  abbrev size : ℕ
  size = ((v.opening).setup).seg_size

  -- how the call ends, with so many faults before it
  abbrev outcome_by : ℕ → CallOutcome
  outcome_by n =
      cond (is_listed m.failing ((w.plain).moment + 1)) (Failed (n + 1) (some false)) Done

  -- none is at home while it is in hand
  none_home : (d : PlainDoing) → Stands d → (l : Lent) → (v.writing).hold ≡ Out l → (p : Plain)
      → IsHomeOf p (m.state).home
  none_home d s l is p =
      let k = sound m s.running number v s.live ask in
      let gone = (to_writer_of m s.running number v s.live ask v.opening k (Out l) is).2 in
      subst (IsHomeOf p) (sym gone) tt

  synced_alike : (l : Lent) → (m.opening).faults ≡ 0
      → after_sync (sync_call size (segment_or (with_it l) 0 (w.plain).waiting))
      (outcome_by (m.opening).faults) w.plain
      ≡ after_sync (sync_call size (segment_waiting (w.plain).waiting)) (outcome_by 0) w.plain
  synced_alike l unfailed = λ i.
      after_sync (sync_call size (sym (segment_alike (with_it l) (w.plain).waiting) i))
      (outcome_by (unfailed i)) w.plain

  pub creates_keeps : (purpose : PlainPurpose) → Stands (doings.Creates purpose)
      → Kept (doings.Creates purpose)
  creates_keeps purpose s =
      let here = doings.Creates purpose in
      let l = (s.stands).0 in
      let is = hold_of (purpose_of purpose) ask (Out l) v (s.stands).1 in
      let x = view_left m (with_it l) ask here in
      let segment = (w.plain).made + 1 in
      let behind : ℕ → Plain = λ (n : ℕ).
      after_create segment (create_call size segment) (outcome_by n) w.plain in
      by_hand here s l is (
        none_home here s l is _,
        ap behind s.unfailed,
        bool_cases
            (λ (b : Bool). HoldsPageFor w.page x
            (cond b (doings.Writes purpose) (doings.SetsDown purpose)))
            (succeeds writer)
            (λ done. loaded_as w.page 1024 x
            (record l { writer = behind (m.opening).faults }) refl (s.loaded l is))
            (λ fails. tt),
      )

  pub writes_keeps : (purpose : PlainPurpose) → Stands (doings.Writes purpose)
      → Kept (doings.Writes purpose)
  writes_keeps purpose s =
      let here = doings.Writes purpose in
      let l = (s.stands).0 in
      let is = hold_of (purpose_of purpose) ask (Out l) v (s.stands).1 in
      let x = view_left m (with_it l) ask here in
      let whole = s.whole in
      let bytes : page_staged (with_it l) ≡ w.page =
      sym (s.loaded l is) ∙ take_all (8 * 1024) w.page (omega (arith, whole)) in
      let upto = min l.known ((w.plain).written / 8192 * 8192 + 8192) in
      let number_on : ℕ = (w.plain).written / 8192 % pages_of size in
      by_hand here s l is (
        none_home here s l is _,
        (λ i. after_write (segment_at writer) upto
            (write_call size (segment_at writer) number_on (bytes i)) (outcome_by (s.unfailed i))
            w.plain),
        bool_cases
            (λ (b : Bool). HoldsPageFor w.page x (cond b (cond (eqb (upto % size) 0)
            (doings.SyncsFull purpose) (page_or_end purpose l.known (page_written writer upto)))
            (doings.SetsDown purpose)))
            (succeeds writer)
            (λ done. bool_cases
            (λ (b : Bool). HoldsPageFor w.page x (cond b (doings.SyncsFull purpose)
            (page_or_end purpose l.known (page_written writer upto))))
            (eqb (upto % size) 0) (λ full. tt)
            (λ inside. page_or_end_held purpose l.known (page_written writer upto) w.page x))
            (λ fails. tt),
      )

  pub syncs_full_keeps : (purpose : PlainPurpose) → Stands (doings.SyncsFull purpose)
      → Kept (doings.SyncsFull purpose)
  syncs_full_keeps purpose s =
      let here = doings.SyncsFull purpose in
      let l = (s.stands).0 in
      let is = hold_of (purpose_of purpose) ask (Out l) v (s.stands).1 in
      let x = view_left m (with_it l) ask here in
      let segment = segment_waiting (w.plain).waiting in
      by_hand here s l is (
        none_home here s l is _,
        synced_alike l s.unfailed,
        bool_cases
            (λ (b : Bool). HoldsPageFor w.page x (cond b
            (page_or_end purpose l.known (synced writer segment)) (doings.SetsDown purpose)))
            (succeeds writer)
            (λ done. page_or_end_held purpose l.known (synced writer segment) w.page x)
            (λ fails. tt),
      )

  pub syncs_last_keeps : Stands doings.SyncsLast → Kept doings.SyncsLast
  syncs_last_keeps s =
      let here = doings.SyncsLast in
      let l = (s.stands).0 in
      let is = hold_of ForLine ask (Out l) v (s.stands).1 in
      let x = view_left m (with_it l) ask here in
      by_hand here s l is (
        none_home here s l is _,
        synced_alike l s.unfailed,
        bool_cases
            (λ (b : Bool). HoldsPageFor w.page x
            (cond b (doings.StoresWritten purposes.Line) (doings.SetsDown purposes.Line)))
            (succeeds writer) (λ done. tt) (λ fails. tt),
      )

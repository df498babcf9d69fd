-- A machine that runs: each turn leaves its state or makes a step, and it runs on.
use Rattle.std.proofs.Common.{◌≡◌, ◌≢◌, ◌⊎◌, inl, inr, ⊎_elim, ℕ, zero, suc, ◌+◌, Bool, true, false, cond, eqb, eqb-true, not, ◌&&◌, ◌||◌, All, List, [], ◌∷◌, set, slice_index, slice_get, Some, refl, sym, ap, ◌∙◌, subst, arith}
use Rattle.std.specs.Option.{unwrap_or}
use Rattle.std.proofs.lemmas.Option.{slice_get_within, unwrap_or-slice_get}
use mathlib.Core.Option.{none, some}
use Rattle.machine_state.specs.Words.{down_word, write_turn_number, down_number}
use Rattle.machine_state.specs.Locked.{HasWriteTurn, StandsTo}
use Rattle.machine_state.specs.Views.{Plain, Lent, Hold, Idle, Out, Turned as HasTurned, View, working_of}
use Rattle.machine_state.specs.Steps.{StepKind, MayStep, Makes, State, Moves, IsLive, load_down, word_of_step, view_behind}
use Rattle.machine_state.proofs.Lists.{at_else, at_place, part_at}
use Rattle.machine_state.proofs.WordLists.{word_again, word_else}
use Rattle.machine_laws.proofs.EveryStep.{step_keeps}
use Rattle.machine_state.specs.Moves.{is_done}
use Rattle.machine_turns.specs.Doing.{Ask, Inserts, Commits, Flushes, Doing, Begins, Tries, Reserves, Looks, Copies, Maps, GivesTurn, Tells, Releases, FlushBegins, LoadsPosition, LoadsFlushed, LoadsMoment, Visits, TakesTurn, LoadsDown, TakesOut, LoadsPage, Creates, Writes, SyncsFull, SyncsLast, StoresWritten, StoresMoment, StoresFlushed, SetsDown, PutsBack, GivesWriteTurn, Backend, Machine}
use Rattle.machine_turns.specs.Turned.{TurnMade, Waits, Next, goes_on, answers, can_step, looks_down, event_named, next_of, outcome, with_answer, with_next, tells_full, line_start, state_stepped, moved_on, fallen, word_waited, turned_by}
use Rattle.machine_turns.specs.Standing.{IsRunning, HasBackend, HasLeft, IsLine, IsTurnTold, MayBegin, StandsToDo, StandsFor, UpFor}
use Rattle.machine_turns.proofs.Poses.{StandsNext, bool_cases}
use Rattle.machine_turns.proofs.FlushPlaces.{hold_of}
use Rattle.machine_turns.proofs.NextUp.{Calls, UpNext, next_up, up_start}
use Rattle.machine_turns.proofs.DownStays.{down_still}
use Rattle.machine_turns.proofs.LiveStays.{live_stays}
use Rattle.machine_turns.proofs.AtView.{HomeBy, calls_up, goes, homes, to_writer_of, up_by}

-- ---- lists

set_cases : {A : Type 0} (xs : List A) (i j : ℕ) (x y : A) → slice_get (set xs i x) j ≡ Some y
    → ((j ≡ i) × (x ≡ y)) ⊎ ((j ≢ i) × (slice_get xs j ≡ Some y))
set_cases [] i j x y e = absurd (cc)
set_cases (z ∷ zs) zero zero x y e = inl (refl, cc)
set_cases (z ∷ zs) zero (suc j) x y e = inr (λ is. omega (arith, is), e)
set_cases (z ∷ zs) (suc i) zero x y e = inr (λ is. omega (arith, is), e)
set_cases (z ∷ zs) (suc i) (suc j) x y e = ⊎_elim
    (λ (h : (j ≡ i) × (x ≡ y)). inl (ap suc h.0, h.1))
    (λ (h : (j ≢ i) × (slice_get zs j ≡ Some y)). inr (λ is. h.0 (omega (arith, is)), h.1))
    (set_cases zs i j x y e)

pub all_got : {A : Type 0} (P : A → Type 0) (xs : List A) (i : ℕ) (x : A) → All P xs
    → slice_get xs i ≡ Some x → P x
all_got P xs i x all e = subst P
    (sym (unwrap_or-slice_get xs i x) ∙ ap (λ
    (o : Rattle.std.specs.Prelude.Option _). unwrap_or o x) e)
    (all i x (slice_get_within xs i x e))

-- ---- a backend behind its step

pub begin_stands : (a : Ask) (w : View) → IsLine a → MayBegin w → StandsToDo w (line_start (Some a)) a
begin_stands (Inserts value) w writable may = (may, writable)
begin_stands (Commits value) w writable may = (may, writable)
begin_stands Flushes w writable may = may

answer_stands : (b : Backend) (w : View) → All IsLine b.asks → MayBegin w
    → StandsFor (with_answer b) w
answer_stands b w lines may ask left = subst
    (λ (x : Rattle.std.specs.Prelude.Option Ask). StandsToDo w (line_start x) ask) (sym left)
    (begin_stands ask w (all_got IsLine b.asks (b.answered + 1) ask lines left) may)

next_stands : (b : Backend) (ask : Ask) (w : View) → All IsLine b.asks → HasLeft b ask
    → (next : Next) → StandsNext next ask w → StandsFor (with_next next b) w
next_stands b ask w lines left (goes_on doing) stands other is =
    let same : ask ≡ other = cc in subst (StandsToDo w doing) same stands
next_stands b ask w lines left (answers full) stands other is =
    answer_stands b w lines stands other is

next_lines : (b : Backend) (next : Next) → All IsLine b.asks → All IsLine (with_next next b).asks
next_lines b (goes_on doing) lines = lines
next_lines b (answers full) lines = lines

next_up_for : (b : Backend) (next : Next) (d : ℕ) → UpNext next d
    → UpFor (with_next next b).doing d
next_up_for b (goes_on doing) d up = up
next_up_for b (answers full) d up = up_start (slice_get b.asks (b.answered + 1)) d

-- ---- a turn

-- a view that has the turn to write, or the writer, is the turn's holder
turn_held : (turn holder : ℕ) (home : mathlib.Core.Option.Option Plain) (writer : Plain)
    (id number : ℕ) (h : Hold) → HasWriteTurn h → StandsTo turn holder home writer id number h
    → holder ≡ id
turn_held turn holder home writer id number Idle has stands = absurd has
turn_held turn holder home writer id number HasTurned has stands = stands.1
turn_held turn holder home writer id number (Out l) has stands = stands.1

abbrev pub Good : Machine → ℕ → TurnMade × Machine → Type 0
Good m number x = IsTurnTold m number x.0 x.1 × IsRunning x.1

module _ (m : Machine) (run : IsRunning m) (number : ℕ) (b : Backend) (here : HasBackend m number b)
    (v : View) (live : IsLive m.state (number + 1) v) (ask : Ask) (left : HasLeft b ask)
    (stands : StandsToDo v b.doing ask) where
  abbrev words : List ℕ
  words = (m.state).words

  abbrev home : mathlib.Core.Option.Option Plain
  home = (m.state).home

  abbrev views : List View
  views = (m.state).views

  abbrev id : ℕ
  id = number + 1

  abbrev later : StepKind → State
  later e = state_stepped id v e m.state

  abbrev behind : StepKind → View
  behind e = view_behind v e (slice_index words (word_of_step v e)) home

  makes : (e : StepKind) → MayStep v e
      → Makes id e (slice_index words (word_of_step v e)) m.state (later e)
  makes e may = record {
    view = v;
    live = live;
    may = may;
    met_is = refl;
    words = refl;
    home = refl;
    views = refl;
  }

  still_live : (e : StepKind) → MayStep v e → ((behind e).reserving).live ≡ true
  still_live e may = live_stays v _ home e ∙ live.1

  -- who is to take the writer out, or to set the down word, has the turn: so no other one sets it
  down_kept : (e : StepKind) → MayStep v e → (j : ℕ) (u : View) → j ≢ number
      → IsLive m.state (j + 1) u → (h : Hold) → HasWriteTurn h → (u.writing).hold ≡ h
      → down_word (later e).words ≡ down_word words
  down_kept e may j u apart alive h has turned_there =
      let k = run.sound in
      ⊎_elim
      (λ (same : down_word (later e).words ≡ down_word words). same)
      (λ (out : (l : Lent) × ((v.writing).hold ≡ Out l)).
      let mine = (to_writer_of m run number v live ask m.opening k (Out out.0) out.1).1 in
      let theirs = turn_held _ _ _ _ _ _ h has
      (to_writer_of m run j u alive ask m.opening k h turned_there) in
      absurd (apart (omega (arith, mine, theirs))))
      (down_still words v (λ i held. (((k.locks).locks).each id i (working_of v)
      (part_at working_of views id v live.0) held).0) e may)

  abbrev with_backend : StepKind → Backend → Bool → Machine
  with_backend e c full = record m {
    state = later e;
    backends = set m.backends number c;
    full = full;
  }

  runs_on : (e : StepKind) → MayStep v e → (c : Backend) (full : Bool) → All IsLine c.asks
      → StandsFor c (behind e) → HomeBy m run number v live ask e
      → UpFor c.doing (down_word (later e).words) → IsRunning (with_backend e c full)
  runs_on e may c full lines mine at_home up = record {
    sound = step_keeps m.first m.opening m.state (later e) run.sound
        (Moves id e (slice_index words (word_of_step v e)) (makes e may));
    lines = λ j d is. ⊎_elim
        (λ (h : (j ≡ number) × (c ≡ d)). subst (λ (x : Backend). All IsLine x.asks) h.1 lines)
        (λ (h : (j ≢ number) × HasBackend m j d). run.lines j d h.1)
        (set_cases m.backends number j c d is);
    views = λ j d is. ⊎_elim
        (λ (h : (j ≡ number) × (c ≡ d)). subst
        (λ (y : ℕ × Backend). (u : View) × IsLive (later e) (y.0 + 1) u × StandsFor y.1 u)
        (λ i. (sym h.0 i, h.1 i))
        (behind e, (at_place views id v (behind e) live.0, still_live e may), mine))
        (λ (h : (j ≢ number) × HasBackend m j d).
        let old = run.views j d h.1 in (
          old.0,
          (
            at_else views id (j + 1) (behind e) old.0 (λ same. h.0 (omega (arith, same)))
                old.1.0,
            old.1.1,
          ),
          old.2,
        ))
        (set_cases m.backends number j c d is);
    at_home = at_home;
    up = λ j d a is has. ⊎_elim
        (λ (h : (j ≡ number) × (c ≡ d)).
        subst (λ (x : Backend). UpFor x.doing (down_word (later e).words)) h.1 up)
        (λ (h : (j ≢ number) × HasBackend m j d).
        let old = run.views j d h.1 in
        let up_there = run.up j d a h.1 has in
        up_by d.doing (down_word (later e).words) (λ purpose takes.
        down_kept e may j old.0 h.0 old.1 HasTurned tt
        (hold_of purpose a HasTurned old.0
        (subst (λ (x : Doing). StandsToDo old.0 x a) takes (old.2 a has)))
        ∙ subst (λ (x : Doing). UpFor x (down_word words)) takes up_there)
        (λ purpose puts.
        let there = subst (λ (x : Doing). StandsToDo old.0 x a) puts (old.2 a has) in
        down_kept e may j old.0 h.0 old.1 (Out there.0) tt
        (hold_of purpose a (Out there.0) old.0 there.1)
        ∙ subst (λ (x : Doing). UpFor x (down_word words)) puts up_there))
        (set_cases m.backends number j c d is);
  }

  falls : down_word words ≢ 0 → Good m number (fallen m number b v ask)
  falls down = (
    (down, refl, (slice_index words down_number, makes load_down tt)),
    runs_on load_down tt (with_answer b) m.full (run.lines number b here)
        (answer_stands b (behind load_down) (run.lines number b here) (inr (inl down)))
        run.at_home (up_start (slice_get b.asks (b.answered + 1)) _),
  )

  -- a call of the device leaves the down word
  down_not_called : (d : Doing) → Calls d
      → down_word (later (event_named m v ask d)).words ≡ down_word words
  down_not_called Begins c = absurd c
  down_not_called (Tries n) c = absurd c
  down_not_called (Reserves lock) c = absurd c
  down_not_called (Looks lock) c = absurd c
  down_not_called (Copies lock) c = absurd c
  down_not_called (Maps lock) c = absurd c
  down_not_called (GivesTurn lock end) c = absurd c
  down_not_called (Tells lock end) c = absurd c
  down_not_called (Releases lock full) c = absurd c
  down_not_called FlushBegins c = absurd c
  down_not_called LoadsPosition c = absurd c
  down_not_called LoadsFlushed c = absurd c
  down_not_called LoadsMoment c = absurd c
  down_not_called (Visits purpose lock) c = absurd c
  down_not_called (TakesTurn purpose) c = absurd c
  down_not_called (LoadsDown purpose) c = absurd c
  down_not_called (TakesOut purpose) c = absurd c
  down_not_called (LoadsPage purpose k) c = absurd c
  down_not_called (Creates purpose) c =
      word_else words write_turn_number _ down_number (λ e. omega arith)
  down_not_called (Writes purpose) c =
      word_else words write_turn_number _ down_number (λ e. omega arith)
  down_not_called (SyncsFull purpose) c =
      word_else words write_turn_number _ down_number (λ e. omega arith)
  down_not_called SyncsLast c =
      word_else words write_turn_number _ down_number (λ e. omega arith)
  down_not_called (StoresWritten purpose) c = absurd c
  down_not_called StoresMoment c = absurd c
  down_not_called StoresFlushed c = absurd c
  down_not_called (SetsDown purpose) c = absurd c
  down_not_called (PutsBack purpose failed) c = absurd c
  down_not_called (GivesWriteTurn purpose failed) c = absurd c

  moves : can_step m v ask b.doing ≡ true
      → (looks_down m v ask b.doing ≡ true → down_word words ≡ 0)
      → Good m number (moved_on m number b v ask (event_named m v ask b.doing))
  moves can up =
      let e = event_named m v ask b.doing in
      let met = slice_index words (word_of_step v e) in
      let done = is_done (outcome m v ask) in
      let next = next_of v (behind e) ask met done b.doing in
      let lines = run.lines number b here in
      let g = goes m run number v live ask b.doing
      (run.up number b ask here left) stands can up in (
        (met, makes e g.0),
        runs_on e g.0 (with_next next b) (m.full || tells_full next) (next_lines b next lines)
            (next_stands b ask (behind e) lines left next g.1)
            (homes m run number v live ask b.doing stands)
            (next_up_for b next _ (next_up v (behind e) ask met done _ b.doing (record {
              loads = λ purpose is.
                  let loaded : down_word (later e).words ≡ down_word words = subst
                  (λ (d : Doing). down_word (later (event_named m v ask d)).words ≡ down_word words)
                  (sym is)
                  (ap (λ (ws : List ℕ). down_word ws) (word_again words down_number)) in
                  loaded ∙ up (ap (λ (d : Doing). looks_down m v ask d) is);
              calls = λ device.
                  down_not_called b.doing device
                  ∙ calls_up m run number v live ask b.doing stands device;
            }))),
      )

  and_left : (s t : Bool) → s && t ≡ true → s ≡ true
  and_left true t is = refl
  and_left false t is = absurd (cc)

  off_by : (n : ℕ) (s : Bool) → not (eqb n 0) && s ≡ false → s ≡ true → n ≡ 0
  off_by n true off on = eqb-true n 0 (by_test (eqb n 0) off)
    where
      by_test : (x : Bool) → not x && true ≡ false → x ≡ true
      by_test true is = refl
      by_test false is = absurd (cc)
  off_by n false off on = absurd (cc)

  right_on : (s t : Bool) → t ≡ true → s || t ≡ true
  right_on true t on = refl
  right_on false t on = on

  down_by : (n : ℕ) → not (eqb n 0) ≡ true → n ≢ 0
  down_by n is zero_now =
      let same = subst (λ (k : ℕ). not (eqb k 0) ≡ true) zero_now is in absurd (cc)

  pub turn_good : Good m number (turned_by m number b v ask)
  turn_good =
      let down = down_word words in
      let can = can_step m v ask b.doing in
      let looks = looks_down m v ask b.doing in
      let waits : TurnMade × Machine = (
        Waits (word_waited m v ask b.doing)
            (slice_index words (word_waited m v ask b.doing)),
        m,
      ) in
      let moved = moved_on m number b v ask (event_named m v ask b.doing) in
      bool_cases
      (λ (t : Bool). Good m number (cond t (fallen m number b v ask) (cond can moved waits)))
      (not (eqb down 0) && (looks || not can))
      (λ on. falls (down_by down (and_left _ _ on)))
      (λ off. bool_cases (λ (c : Bool). Good m number (cond c moved waits)) can
      (λ may. moves may (λ on. off_by down (looks || not can) off
      (ap (λ (s : Bool). s || not can) on)))
      (λ waiting. (
        (
          refl,
          refl,
          off_by down (looks || not can) off
              (right_on looks (not can) (ap not waiting)),
        ),
        run,
      )))

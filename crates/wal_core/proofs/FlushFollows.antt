-- At the places of a flush but for those with the writer in hand a turn on plain data follows the
-- machine's.
use Rattle.std.proofs.Common.{◌≡◌, ℕ, ◌+◌, ◌-◌, ◌≤◌, Bool, true, false, ◌&&◌, not, cond, eqb, List, Option, min, set, slice_index, refl, sym, ap, ◌∙◌, arith}
use Rattle.std.proofs.Math.Bool.{and-false}
use Rattle.std.proofs.Math.Dec.{leb}
use Rattle.std.proofs.Math.Nat.{le-min, min-le_left}
use Rattle.machine_state.specs.Words.{end_form, flushed_word, lock_word, write_turn_number, flushed_number, moment_number, down_number, lock_number}
use Rattle.machine_state.specs.Views.{Flight, Hold, Idle, Turned as HasTurned, View, Watching, is_among}
use Rattle.machine_state.specs.Moves.{is_done, is_landed, is_own, visited_on, with_hold}
use Rattle.machine_state.proofs.WordLists.{word_again}
use Rattle.machine_turns.specs.Doing.{Ask, Machine, ForLine, LoadsMoment, Visits, TakesTurn}
use Rattle.machine_turns.specs.Turned.{asked_end, behind_writing as machine_behind, goes_on, outcome}
use Rattle.machine_turns.specs.Standing.{WritesFor}
use Rattle.machine_turns.proofs.Poses.{bool_cases}
use Rattle.machine_turns.specs.declared.doing.PlainDoing.{PlainDoing}
use Rattle.machine_turns.specs.declared.doing.PlainDoing.TheVariants as doings
use Rattle.machine_turns.specs.declared.doing.PlainNext.TheVariants as nexts
use Rattle.machine_turns.specs.declared.doing.PlainPurpose.{PlainPurpose}
use Rattle.machine_turns.specs.declared.doing.PlainPurpose.TheVariants as purposes
use Rattle.machine_turns.specs.declared.script.PlainLine.{PlainLine}
use Rattle.machine_turns.specs.declared.view.PlainWatching.{PlainWatching}
use Rattle.machine_turns.specs.Flushing.{behind_writing}
use Rattle.machine_turns.specs.Inserting.{watch_begun, watch_visited}
use Rattle.machine_turns.specs.Writer.{WriterState}
use Rattle.wal_core.specs.Following.{Follows, StandsPlain, plain_step}
use Rattle.wal_core.specs.PlainData.{next_of_plain, plain_view, plain_watching, purpose_of}

-- ---- a lock is visited

same_begin : (lock end : ℕ) (x : Watching) → watch_begun lock end (plain_watching x)
    ≡ plain_watching (cond (eqb lock 0) (record { end = end; visited = 0; bound = end }) x)
same_begin lock end x = bool_cases
    (λ (b : Bool). cond b (record { end = end; visited = 0; bound = end }) (plain_watching x)
    ≡ plain_watching (cond b (record { end = end; visited = 0; bound = end }) x))
    (eqb lock 0) (λ first. refl) (λ later. refl)

-- of a lock that is not the watcher's own
same_visit : (lock met : ℕ) (x : Watching)
    → watch_visited lock met (plain_watching x) ≡ plain_watching (visited_on false lock met x)
same_visit lock met x = bool_cases
    (λ (b : Bool). cond b (record (plain_watching x) { visited = x.visited + 1; bound = bound })
    (plain_watching x)
    ≡ plain_watching (cond b (record { end = x.end; visited = x.visited + 1; bound = bound }) x))
    (eqb lock x.visited && not (eqb met 1)) (λ next. refl) (λ stays. refl)
  where
    bound : ℕ
    bound = cond (eqb met 0) x.bound (min x.bound (met - 1))

min-self : (n : ℕ) → min n n ≡ n
min-self n =
    let all : n ≤ n = omega arith in
    let below = min-le_left n n in
    let above = le-min all all in
    omega (arith, below, above)

-- a view that is to write holds no lock under which nothing is copied
none_own : (v : View) (purpose : PlainPurpose) (ask : Ask) (h : Hold) (lock : ℕ)
    → WritesFor v (purpose_of purpose) ask h → is_own lock v.working ≡ false
none_own v purposes.Line ask h lock p =
    ap (λ (locks : List ℕ). is_among locks lock && is_landed (v.working).flight) p.locks_are
none_own v (purposes.Page other end) ask h lock p =
    ap (λ (f : Flight). is_among (v.working).locks lock && is_landed f) (p.0.1).flight_is
    ∙ and-false (is_among (v.working).locks lock)

module _ (m : Machine) (number : ℕ) (v : View) (ask : Ask) (line : PlainLine) (copied : Option PlainLine)
    (w : WriterState) where
  abbrev words : List ℕ
  words = (m.state).words

  abbrev Stands : PlainDoing → Type 0
  Stands d = StandsPlain m number v ask line copied w d

  abbrev FollowsTo : PlainDoing → Type 0
  FollowsTo d = Follows m v ask d (plain_step m v line copied w d).left

  pub flush_begins_follow : Stands doings.FlushBegins → FollowsTo doings.FlushBegins
  flush_begins_follow s = record {
    event = refl;
    next = refl;
    words = sym (word_again words down_number);
    view = refl;
  }

  pub loads_position_follow : Stands doings.LoadsPosition → FollowsTo doings.LoadsPosition
  loads_position_follow s = record {
    event = refl;
    next = refl;
    words = sym (word_again words 0);
    view = refl;
  }

  pub loads_flushed_follow : Stands doings.LoadsFlushed → FollowsTo doings.LoadsFlushed
  loads_flushed_follow s = record {
    event = refl;
    next = bool_cases
        (λ (b : Bool). next_of_plain (nexts.GoesOn (cond b doings.LoadsMoment
        (doings.Visits purposes.Line 0)))
        ≡ cond b (goes_on LoadsMoment) (goes_on (Visits ForLine 0)))
        (leb (asked_end v) (flushed_word words)) (λ reached. refl) (λ before. refl);
    words = sym (word_again words flushed_number);
    view = refl;
  }

  pub loads_moment_follow : Stands doings.LoadsMoment → FollowsTo doings.LoadsMoment
  loads_moment_follow s = record {
    event = refl;
    next = refl;
    words = sym (word_again words moment_number);
    view = refl;
  }

  pub visits_follow : (purpose : PlainPurpose) (lock : ℕ) → Stands (doings.Visits purpose lock)
      → FollowsTo (doings.Visits purpose lock)
  visits_follow purpose lock s = record {
    event = refl;
    next = bool_cases
        (λ (b : Bool). next_of_plain (nexts.GoesOn (cond b (doings.TakesTurn purpose)
        (doings.Visits purpose (lock + 1))))
        ≡ cond b (goes_on (TakesTurn (purpose_of purpose)))
        (goes_on (Visits (purpose_of purpose) (lock + 1))))
        (eqb (lock + 1) 8) (λ last. refl) (λ more. refl);
    words = sym (word_again words (lock_number lock));
    view = ap (λ (x : PlainWatching). record (plain_view v) { watching = x }) watched_alike;
  }
    where
      met : ℕ
      met = lock_word words lock

      end : ℕ
      end = end_form (v.opening).setup (v.reserving).seen

      started : ℕ → Watching
      started e = cond (eqb lock 0) (record { end = e; visited = 0; bound = e }) v.watching

      watched_alike : watch_visited lock met (watch_begun lock end (plain_watching v.watching))
          ≡ plain_watching (visited_on (is_own lock v.working) lock met (started (min end end)))
      watched_alike = ap (watch_visited lock met) (same_begin lock end v.watching)
          ∙ same_visit lock met (started end)
          ∙ ap (λ (own : Bool). plain_watching (visited_on own lock met (started end)))
          (sym (none_own v purpose ask Idle lock (s.stands).0))
          ∙ ap (λ (e : ℕ). plain_watching (visited_on (is_own lock v.working) lock met (started e)))
          (sym (min-self end))

  pub takes_turn_follow : (purpose : PlainPurpose) → Stands (doings.TakesTurn purpose)
      → FollowsTo (doings.TakesTurn purpose)
  takes_turn_follow purpose s = record {
    event = refl;
    next = refl;
    words = ap
        (λ (b : Bool). set words write_turn_number (cond b ((v.reserving).number + 1) (slice_index words write_turn_number)))
        (sym s.can);
    view = ap (λ (b : Bool). plain_view (cond b (with_hold HasTurned v) v)) (sym s.can);
  }

  pub loads_down_follow : (purpose : PlainPurpose) → Stands (doings.LoadsDown purpose)
      → FollowsTo (doings.LoadsDown purpose)
  loads_down_follow purpose s = record {
    event = refl;
    next = refl;
    words = sym (word_again words down_number);
    view = refl;
  }

  pub puts_back_follow : (purpose : PlainPurpose) (failed : Bool)
      → Stands (doings.PutsBack purpose failed)
      → FollowsTo (doings.PutsBack purpose failed)
  puts_back_follow purpose failed s = record {
    event = refl;
    next = refl;
    words = sym (word_again words write_turn_number);
    view = refl;
  }

  pub gives_write_turn_follow : (purpose : PlainPurpose) (failed : Bool)
      → Stands (doings.GivesWriteTurn purpose failed)
      → FollowsTo (doings.GivesWriteTurn purpose failed)
  gives_write_turn_follow purpose failed s = record {
    event = refl;
    next = behind purpose failed;
    words = refl;
    view = refl;
  }
    where
      met : ℕ
      met = slice_index words write_turn_number

      behind : (p : PlainPurpose) (f : Bool) → next_of_plain (behind_writing p f)
          ≡ machine_behind v (with_hold Idle v) ask met (is_done (outcome m v ask))
          (purpose_of p) f
      behind purposes.Line f = refl
      behind (purposes.Page lock end) true = refl
      behind (purposes.Page lock end) false = refl

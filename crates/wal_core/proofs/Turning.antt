-- A turn on plain data tells what the machine's turn tells, and leaves the plain data of the
-- machine behind it.
use Rattle.std.proofs.Common.{◌≡◌, inl, ⊎_elim, ℕ, ◌+◌, Bool, true, false, cond, eqb, not, ◌&&◌, ◌||◌, List, length, set, slice_get, slice_index, Option, Some, None, is_some, refl, sym, ap, ◌∙◌, subst, arith}
use Rattle.wal_types.specs.declared.record.Record.{Record}
use Rattle.byte_position.specs.Geometry.{IsSegmentSize}
use Rattle.wal_page.specs.Order.{Entry}
use Rattle.machine_state.specs.declared.setup.Setup.{Setup}
use Rattle.machine_state.specs.Words.{Opening, down_word, position_word, down_number}
use Rattle.machine_state.proofs.Lists.{at_same}
use Rattle.machine_state.specs.Moves.{is_done, unlocked}
use Rattle.machine_state.specs.Views.{Copy, Copying, View}
use Rattle.machine_state.specs.Steps.{IsLive, load_down, word_of_step, view_behind}
use Rattle.machine_state.proofs.WordLists.{word_again}
use Rattle.machine_turns.specs.Doing.{Ask, Inserts, Commits, Backend, Machine}
use Rattle.machine_turns.specs.Turned.{TurnMade, Waits, Next, can_step, event_named, looks_down, word_waited, fallen, moved_on, next_of, outcome, state_stepped, tells_full, turned, turned_by, turned_for, turned_of, with_answer, with_next}
use Rattle.machine_turns.specs.Standing.{HasBackend, IsRunning, StandsFor}
use Rattle.machine_turns.proofs.Poses.{bool_cases}
use Rattle.machine_turns.proofs.Schedules.{turned_good}
use Rattle.machine_turns.specs.declared.doing.PlainDoing.{PlainDoing}
use Rattle.machine_turns.specs.declared.doing.PlainDoing.TheVariants as doings
use Rattle.machine_turns.specs.declared.doing.PlainNext.{PlainNext}
use Rattle.machine_turns.specs.declared.doing.PlainNext.TheVariants.{GoesOn, Answers}
use Rattle.machine_turns.specs.declared.event.Turn.{Turn as PlainTurn}
use Rattle.machine_turns.specs.declared.event.Turn.TheVariants as turns
use Rattle.machine_turns.specs.declared.lane.PlainBackend.{PlainBackend}
use Rattle.machine_turns.specs.declared.script.PlainLine.{PlainLine}
use Rattle.machine_turns.specs.declared.script.PlainLine.TheVariants.{Insert, Commit, Flush}
use Rattle.machine_turns.specs.Lanes.{IsReadyFor, PlayedTurn, Stepped, by_line, by_wait, copied_behind, finds_full, lane_answered, loads_down, moved_to, played, unmoved, word_awaited}
use Rattle.machine_turns.specs.Writer.{WriterState}
use Rattle.wal_core.specs.Following.{Follows, StandsPlain, plain_step, step_made, view_left}
use Rattle.wal_core.proofs.Keeping.{IsLikeWriter, Keeps}
use Rattle.wal_core.proofs.InsertKeeps.{AsksFor, IsCopyBehind, IsCopyOf}
use Rattle.wal_core.specs.Lines.{HasRecord, InsertsRecord, IsLineFor}
use Rattle.wal_core.specs.PlainData.{doing_of, next_of_plain, plain_view, turn_of}
use Rattle.wal_core.specs.Playing.{CoreState, HasCallRoom, HasRoomFor, IsLaneOf, PlaysMachine, core_behind}
use Rattle.wal_core.proofs.EachPlace.{step_follows, step_keeps}
use Rattle.wal_core.proofs.Lists.{below_got, got_below, lines_agree, set_same}
use Rattle.wal_core.proofs.NextLanes.{lane_answers, lane_follows}
use Rattle.wal_core.proofs.Onward.{plays_on}
use Rattle.wal_core.proofs.Rooms.{answered_needs_none, lane_keeps_room, lanes_keep_room, step_moves_room}
use Rattle.wal_core.proofs.CallRoom.{answers_calls, keeps_calls, moves_calls}
use Rattle.machine_turns.specs.Writing.{upto_next}
use Rattle.wal_core.proofs.Marks.{step_moves_marks}
use Rattle.wal_core.proofs.Syncs.{takes_syncs}
use Rattle.wal_core.proofs.Playable.{may_play}
use Rattle.wal_core.proofs.Waiting.{WaitsAlike, looks_alike, waits_alike}

-- ---- what is left of a turn, by what comes next

full_alike : (next : PlainNext) → tells_full (next_of_plain next) ≡ finds_full next
full_alike (GoesOn later) = refl
full_alike (Answers full) = refl

-- a line that asks for a record has it
inserts_it : (value : Record) (line : PlainLine) → IsLineFor (Inserts value) line
    → InsertsRecord value line
inserts_it value (Insert body) is = is
inserts_it value (Commit body) is = absurd is
inserts_it value Flush is = absurd is

commits_it : (value : Record) (line : PlainLine) → IsLineFor (Commits value) line
    → InsertsRecord value line
commits_it value (Insert body) is = absurd is
commits_it value (Commit body) is = is
commits_it value Flush is = absurd is

line_record : (ask : Ask) (line : PlainLine) (value : Record) → IsLineFor ask line → AsksFor ask value
    → InsertsRecord value line
line_record ask line value is asked = ⊎_elim
    (λ (insert : ask ≡ Inserts value).
    inserts_it value line (subst (λ (a : Ask). IsLineFor a line) insert is))
    (λ (commit : ask ≡ Commits value).
    commits_it value line (subst (λ (a : Ask). IsLineFor a line) commit is)) asked

-- the turn and the plain data behind it are the machine's
abbrev pub IsTurnOf : CoreState → ℕ → PlayedTurn → TurnMade × Machine → Type 0
IsTurnOf core number p t = (p.turn ≡ turn_of t.0) × PlaysMachine (core_behind core number p) t.1

module _ (m : Machine) (number : ℕ) (v : View) (live : IsLive m.state (number + 1) v)
    (own : v.opening ≡ m.opening) (number_is : (v.reserving).number ≡ number + 1)
    (script : List PlainLine) (copied answered : ℕ) (d : PlainDoing) (asks : List Ask) where
  abbrev backend : Backend
  backend = record { asks = asks; answered = answered; doing = doing_of d }

  abbrev lane : PlainBackend
  lane = record {
    view = plain_view v;
    script = script;
    copied = copied;
    answered = answered;
    doing = d;
  }

  module _ (core : CoreState) (k : PlaysMachine core m) (here : HasBackend m number backend)
      (at : slice_get core.lanes number ≡ Some lane)
      (of : IsLaneOf (core.writer).page lane backend v)
      (line : PlainLine) (line_left : slice_get script answered ≡ Some line)
      (ask : Ask) (left : slice_get asks answered ≡ Some ask) (line_is : IsLineFor ask line) where
    abbrev words : List ℕ
    words = (m.state).words

    abbrev w : WriterState
    w = core.writer

    same_words : (core.words).words ≡ words
    same_words = sym k.words_are

    off : (x : Bool) → x || false ≡ x
    off true = refl
    off false = refl

    -- ---- nothing changed

    unchanged : (turn : PlainTurn)
        → core_behind core number (unmoved (v.opening).setup words w lane turn lane) ≡ core
    unchanged turn = λ i. record {
      setup = core.setup;
      words = record { pages = (core.words).pages; words = k.words_are i };
      writer = core.writer;
      lanes = set_same core.lanes number lane at i;
      full = off core.full i;
    }

    same_writer : length (core.writer).page ≡ 8192 → IsLikeWriter core.writer core.writer
    same_writer whole = record {
      failing_kept = refl;
      size_kept = refl;
      end_kept = refl;
      first_kept = refl;
      whole = whole;
    }

    -- ---- the disk has failed

    abbrev fell : PlayedTurn
    fell = unmoved (v.opening).setup words w lane (turns.Down (down_word words)) (lane_answered lane)

    old_position : unlocked (position_word (core.words).words) ≡ unlocked (position_word words)
    old_position = ap (λ (ws : List ℕ). unlocked (position_word ws)) same_words

    room_fallen : HasRoomFor (core_behind core number fell)
    room_fallen =
        let kept_room = lanes_keep_room core.lanes number (unlocked (position_word words))
        (unlocked (position_word words)) lane (lane_answered lane) at
        (omega (arith, answered_needs_none lane)) in
        let before = (k.room).left in record {
          position = (k.room).position;
          end_is = (k.room).end_is;
          left = omega (arith, kept_room, before, old_position);
        }

    -- the log's setup as the view knows it
    own_setup : (v.opening).setup ≡ core.setup
    own_setup = ap (λ (o : Opening). o.setup) own ∙ k.setup_is

    abbrev size : ℕ
    size = ((v.opening).setup).seg_size

    calls_here : HasCallRoom size words w core.lanes
    calls_here = subst
        (λ (y : Setup × List ℕ). HasCallRoom (y.0).seg_size y.1 w core.lanes)
        (λ i. (sym own_setup i, same_words i)) k.calls

    calls_fallen : HasCallRoom core.setup.seg_size fell.words fell.writer
        (set core.lanes number fell.lane)
    calls_fallen = subst
        (λ (s : Setup). HasCallRoom s.seg_size words w (set core.lanes number fell.lane))
        own_setup (answers_calls size words w core.lanes calls_here number lane at)

    falls : IsRunning (fallen m number backend v ask).1
        → IsTurnOf core number fell (fallen m number backend v ask)
    falls running = (
      refl,
      plays_on core m k number backend here lane at v live fell
          (state_stepped (number + 1) v load_down m.state)
          (view_behind v load_down (slice_index words down_number) (m.state).home) (with_answer backend)
          m.full (word_again words down_number) refl (inl refl) (k.writer_is).at_home
          (λ l is. (k.writer_is).in_hand (number + 1) v l live.0 is)
          (lane_answers (core.writer).page (plain_view v) script copied answered d asks
          (view_behind v load_down (slice_index words down_number) (m.state).home) of.lines refl of.copies of.counted
          line line_left)
          refl number_is (same_writer k.page_whole) (k.full_is ∙ sym (off core.full)) room_fallen calls_fallen running,
    )

    -- ---- a step is made

    module _ (can : can_step m v ask (doing_of d) ≡ true) (s : StandsPlain m number v ask line
        (slice_get script copied) w d) where
      abbrev st : Stepped
      st = plain_step m v line (slice_get script copied) w d

      abbrev moved : PlayedTurn
      moved = moved_to (v.opening).setup words w lane st

      follows : Follows m v ask d st.left
      follows = step_follows m number v ask line (slice_get script copied) w d s

      keeps : Keeps m v ask line w d st
      keeps = step_keeps m number v ask line (slice_get script copied) w d s of.few

      abbrev next : PlainNext
      next = ((st.left).made).next

      -- an entry that is copied on has its line still
      same_line : (c : Copy) → IsCopyOf v c → HasRecord script copied (c.entry).value
      same_line c old = subst (λ (e : Entry). HasRecord script copied e.value) (sym old.2)
          (of.copies old.0 old.1)

      line_of : (c : Copy) (e : PlainDoing) → IsCopyBehind v ask e c
          → HasRecord script (copied_behind e lane) (c.entry).value
      line_of c (doings.Reserves lock) now =
          (line, line_left, line_record ask line (c.entry).value line_is now)
      line_of c doings.Begins old = same_line c old
      line_of c (doings.Tries taken) old = same_line c old
      line_of c (doings.Looks lock) old = same_line c old
      line_of c (doings.Copies lock) old = same_line c old
      line_of c (doings.Maps lock) old = same_line c old
      line_of c (doings.GivesTurn lock end) old = same_line c old
      line_of c (doings.Tells lock end) old = same_line c old
      line_of c (doings.Releases lock full) old = same_line c old
      line_of c doings.FlushBegins old = same_line c old
      line_of c doings.LoadsPosition old = same_line c old
      line_of c doings.LoadsFlushed old = same_line c old
      line_of c doings.LoadsMoment old = same_line c old
      line_of c (doings.Visits purpose lock) old = same_line c old
      line_of c (doings.TakesTurn purpose) old = same_line c old
      line_of c (doings.LoadsDown purpose) old = same_line c old
      line_of c (doings.TakesOut purpose) old = same_line c old
      line_of c (doings.LoadsPage purpose loaded) old = same_line c old
      line_of c (doings.Creates purpose) old = same_line c old
      line_of c (doings.Writes purpose) old = same_line c old
      line_of c (doings.SyncsFull purpose) old = same_line c old
      line_of c doings.SyncsLast old = same_line c old
      line_of c (doings.StoresWritten purpose) old = same_line c old
      line_of c doings.StoresMoment old = same_line c old
      line_of c doings.StoresFlushed old = same_line c old
      line_of c (doings.SetsDown purpose) old = same_line c old
      line_of c (doings.PutsBack purpose failed) old = same_line c old
      line_of c (doings.GivesWriteTurn purpose failed) old = same_line c old

      copies_on : (c : Copy) → ((view_left m v ask d).working).flight ≡ Copying c
          → HasRecord script (copied_behind d lane) (c.entry).value
      copies_on c flies = line_of c d (keeps.copies c flies)

      room_moved : HasRoomFor (core_behind core number moved)
      room_moved =
          let moves_room =
          step_moves_room m number v ask line (slice_get script copied) w d s in
          let kept_room = lanes_keep_room core.lanes number (unlocked (position_word words))
          (unlocked (position_word (st.left).words)) lane moved.lane at
          (lane_keeps_room lane (st.left).view (copied_behind d lane) line line_left words st.left
          moves_room) in
          let before = (k.room).left in record {
            position = (k.room).position;
            end_is = (keeps.like).end_kept ∙ (k.room).end_is;
            left = omega (arith, kept_room, before, old_position);
          }

      ready : IsReadyFor (v.opening).setup words w (plain_view v) (slice_get script copied) d
      ready = subst (λ (y : Setup × List ℕ). IsReadyFor y.0 y.1 w (plain_view v)
          (slice_get script copied) d) (λ i. (sym own_setup i, same_words i))
          (may_play core m k number lane at).ready

      calls_moved : HasCallRoom core.setup.seg_size moved.words moved.writer
          (set core.lanes number moved.lane)
      calls_moved =
          let goes = calls_here.go number lane at in
          let marks = step_moves_marks m number v ask line (slice_get script copied) w
          calls_here.ends calls_here.tell calls_here.written d s ready goes in
          let valid = subst (λ (o : Opening). IsSegmentSize (o.setup).seg_size) (sym own)
          ((((k.running).sound).setup_is).size) in
          let calls = keeps_calls (v.opening).setup valid calls_here.ends words w (plain_view v) line
          (slice_get script copied) (k.size_is ∙ ap (λ (x : Setup). x.seg_size) (sym own_setup))
          calls_here.written (goes.0).known d ready in
          subst (λ (x : Setup). HasCallRoom x.seg_size moved.words moved.writer
          (set core.lanes number moved.lane)) own_setup
          (moves_calls size words w core.lanes calls_here number lane at st.left
          (copied_behind d lane) st.writer (keeps.like).end_kept line line_left calls.at_mark
          (upto_next (v.opening).setup words (plain_view v) w) calls.has
          (takes_syncs (v.opening).setup words w (plain_view v) line (slice_get script copied) d)
          marks)

      moves : IsRunning (moved_on m number backend v ask (event_named m v ask (doing_of d))).1
          → IsTurnOf core number moved
          (moved_on m number backend v ask (event_named m v ask (doing_of d)))
      moves running = (
        ap turns.Moved follows.event,
        plays_on core m k number backend here lane at v live moved
            (state_stepped (number + 1) v (step_made m v ask d) m.state) (view_left m v ask d) _
            (m.full || tells_full (next_of v (view_left m v ask d) ask
            (slice_index words (word_of_step v (step_made m v ask d)))
            (is_done (outcome m v ask)) (doing_of d)))
            (sym follows.words) refl keeps.writes keeps.at_home keeps.in_hand
            (subst (λ (n : Next). IsLaneOf (st.writer).page moved.lane (with_next n backend)
            (view_left m v ask d)) follows.next
            (lane_follows (st.writer).page (st.left).view script (copied_behind d lane) answered d
            asks (view_left m v ask d) of.lines follows.view copies_on of.counted line line_left next
            keeps.few keeps.page))
            keeps.number_kept number_is keeps.like
            (full_on (sym follows.next))
            room_moved calls_moved running,
      )
        where
          full_on : {n : Next} → n ≡ next_of_plain next
              → m.full || tells_full n ≡ core.full || finds_full next
          full_on {n} is = (λ i. k.full_is i || tells_full (is i))
              ∙ ap (λ (b : Bool). core.full || b) (full_alike next)

    -- ---- it waits

    waits : (awaited : Option ℕ) (on : ℕ) → awaited ≡ Some on
        → IsTurnOf core number
        (by_wait (v.opening).setup words w lane line awaited) (Waits on (slice_index words on), m)
    waits None on is = absurd (cc)
    waits (Some other) on is =
        let same : other ≡ on = cc in (
          ap (λ (n : ℕ). turns.Waits n (slice_index words n)) same,
          subst (λ (c : CoreState). PlaysMachine c m)
              (sym (unchanged (turns.Waits other (slice_index words other)))) k,
        )

    -- ---- by what the words say

    abbrev down_now : Bool
    down_now = not (eqb (down_word words) 0)

    abbrev plain_turn : Option ℕ → PlayedTurn
    plain_turn awaited = cond (down_now && (loads_down d || is_some awaited)) fell
        (by_wait (v.opening).setup words w lane line awaited)

    abbrev machine_turn : Bool → TurnMade × Machine
    machine_turn can = cond (down_now && (looks_down m v ask (doing_of d) || not can))
        (fallen m number backend v ask)
        (cond can (moved_on m number backend v ask (event_named m v ask (doing_of d))) (
          Waits (word_waited m v ask (doing_of d))
              (slice_index words (word_waited m v ask (doing_of d))),
          m,
        ))

    module _ (stands : can_step m v ask (doing_of d) ≡ true
        → StandsPlain m number v ask line (slice_get script copied) w d) where
      alike : (can : Bool) → can_step m v ask (doing_of d) ≡ can → (awaited : Option ℕ)
          → word_awaited words (plain_view v) d ≡ awaited
          → WaitsAlike can (word_waited m v ask (doing_of d)) awaited
          → IsRunning (machine_turn can).1
          → IsTurnOf core number (plain_turn awaited) (machine_turn can)
      alike true is None awaited_is waits_so = subst
          (λ (looks : Bool). IsRunning (cond (down_now && (looks || false))
          (fallen m number backend v ask)
          (moved_on m number backend v ask (event_named m v ask (doing_of d)))).1
          → IsTurnOf core number (plain_turn None) (cond (down_now && (looks || false))
          (fallen m number backend v ask)
          (moved_on m number backend v ask (event_named m v ask (doing_of d)))))
          (sym (looks_alike m v ask d))
          (bool_cases (λ (x : Bool). IsRunning (cond x (fallen m number backend v ask)
          (moved_on m number backend v ask (event_named m v ask (doing_of d)))).1
          → IsTurnOf core number (cond x fell
          (by_wait (v.opening).setup words w lane line None))
          (cond x (fallen m number backend v ask)
          (moved_on m number backend v ask (event_named m v ask (doing_of d)))))
          (down_now && (loads_down d || false)) (λ hit. falls) (λ miss. moves is (stands is)))
      alike true is (Some on) awaited_is waits_so = absurd (cc)
      alike false is None awaited_is waits_so = absurd (cc)
      alike false is (Some on) awaited_is waits_so = subst
          (λ (looks : Bool). IsRunning (cond (down_now && (looks || true))
          (fallen m number backend v ask) (
            Waits (word_waited m v ask (doing_of d))
                (slice_index words (word_waited m v ask (doing_of d))),
            m,
          )).1
          → IsTurnOf core number (plain_turn (Some on)) (cond (down_now && (looks || true))
          (fallen m number backend v ask) (
            Waits (word_waited m v ask (doing_of d))
                (slice_index words (word_waited m v ask (doing_of d))),
            m,
          )))
          (sym (looks_alike m v ask d))
          (bool_cases (λ (x : Bool). IsRunning (cond x (fallen m number backend v ask) (
            Waits (word_waited m v ask (doing_of d))
                (slice_index words (word_waited m v ask (doing_of d))),
            m,
          )).1
          → IsTurnOf core number (cond x fell
          (by_wait (v.opening).setup words w lane line (Some on)))
          (cond x (fallen m number backend v ask) (
            Waits (word_waited m v ask (doing_of d))
                (slice_index words (word_waited m v ask (doing_of d))),
            m,
          )))
          (down_now && (loads_down d || true)) (λ hit. falls)
          (λ miss running. waits (Some on) (word_waited m v ask (doing_of d)) waits_so))

      pub line_turns : IsRunning (turned_by m number backend v ask).1
          → IsTurnOf core number
          (plain_turn (word_awaited words (plain_view v) d)) (turned_by m number backend v ask)
      line_turns = alike (can_step m v ask (doing_of d)) refl
          (word_awaited words (plain_view v) d) refl (waits_alike m v ask d)

-- ---- the lane and its backend as they stand

module _ (core : CoreState) (m : Machine) (k : PlaysMachine core m) (number : ℕ) where
  module _ (b : Backend) (here : HasBackend m number b) (lane : PlainBackend)
      (at : slice_get core.lanes number ≡ Some lane) (v : View)
      (live : IsLive m.state (number + 1) v) (stands : StandsFor b v)
      (of : IsLaneOf (core.writer).page lane b v) (number_is : (v.reserving).number ≡ number + 1)
    where
      abbrev words_now : List ℕ
      words_now = (m.state).words

      own : v.opening ≡ m.opening
      own = (((k.running).sound).grounded (number + 1) v live.0).opening_is live.1

      setup_own : (v.opening).setup ≡ core.setup
      setup_own = ap (λ (o : Opening). o.setup) own ∙ k.setup_is

      abbrev plain_lane : PlainBackend
      plain_lane = record {
        view = plain_view v;
        script = lane.script;
        copied = lane.copied;
        answered = lane.answered;
        doing = lane.doing;
      }

      abbrev plain_backend : Backend
      plain_backend = record {
        asks = b.asks;
        answered = lane.answered;
        doing = doing_of lane.doing;
      }

      lane_is : lane ≡ plain_lane
      lane_is = λ i. record {
        view = of.view i;
        script = lane.script;
        copied = lane.copied;
        answered = lane.answered;
        doing = lane.doing;
      }

      backend_is : b ≡ plain_backend
      backend_is = λ i. record { asks = b.asks; answered = of.answered i; doing = of.doing i }

      here_plain : HasBackend m number plain_backend
      here_plain = subst (HasBackend m number) backend_is here

      at_plain : slice_get core.lanes number ≡ Some plain_lane
      at_plain = at ∙ ap (λ (l : PlainBackend). Some l) lane_is

      of_plain : IsLaneOf (core.writer).page plain_lane plain_backend v
      of_plain = subst (λ (y : PlainBackend × Backend). IsLaneOf (core.writer).page y.0 y.1 v)
          (λ i. (lane_is i, backend_is i)) of

      stands_plain : StandsFor plain_backend v
      stands_plain = subst (λ (c : Backend). StandsFor c v) backend_is stands

      -- the plain turn over the machine's own setup and words
      played_is : played core.setup (core.words).words core.writer lane
          ≡ played (v.opening).setup words_now core.writer plain_lane
      played_is = λ i. played (sym setup_own i) (sym k.words_are i) core.writer (lane_is i)

      turned_is : turned m number ≡ turned_for m number plain_backend v
          (slice_get b.asks lane.answered)
      turned_is = λ i. turned_of m number (here_plain i) (live.0 i)

      with_line : (ask : Ask) (line : PlainLine) → slice_get b.asks lane.answered ≡ Some ask
          → slice_get lane.script lane.answered ≡ Some line → IsLineFor ask line
          → IsTurnOf core number (played (v.opening).setup words_now core.writer plain_lane)
          (turned_for m number plain_backend v (slice_get b.asks lane.answered))
      with_line ask line left line_left line_is = subst
          (λ (y : Option PlainLine × Option Ask). IsTurnOf core number
          (by_line (v.opening).setup words_now core.writer plain_lane y.0)
          (turned_for m number plain_backend v y.1))
          (λ i. (sym line_left i, sym left i))
          (line_turns m number v live own number_is lane.script lane.copied lane.answered
          lane.doing b.asks core k here_plain at_plain of_plain line line_left ask left line_is
          (λ can. record {
            running = k.running;
            live = live;
            own = own;
            number_is = number_is;
            stands = stands_plain ask left;
            up = (k.running).up number plain_backend ask here_plain left;
            can = can;
            line_is = line_is;
            copies = of.copies;
            writer_is = k.writer_is;
            size_is = k.size_is ∙ ap (λ (s : Setup). s.seg_size) (sym setup_own);
            failing_is = k.failing_are;
            unfailed = k.unfailed;
            whole = k.page_whole;
            loaded = of_plain.loaded ask left;
          })
          (subst (λ (t : TurnMade × Machine). IsRunning t.1)
          (turned_is ∙ ap (turned_for m number plain_backend v) left)
          (turned_good m k.running number).1))

      without : slice_get b.asks lane.answered ≡ None → slice_get lane.script lane.answered ≡ None
          → IsTurnOf core number (played (v.opening).setup words_now core.writer plain_lane)
          (turned_for m number plain_backend v (slice_get b.asks lane.answered))
      without none_asked none_left = subst
          (λ (y : Option PlainLine × Option Ask). IsTurnOf core number
          (by_line (v.opening).setup words_now core.writer plain_lane y.0)
          (turned_for m number plain_backend v y.1))
          (λ i. (sym none_left i, sym none_asked i)) (
            refl,
            subst (λ (c : CoreState). PlaysMachine c m) (sym (same_core at_plain)) k,
          )
        where
          off : (x : Bool) → x || false ≡ x
          off true = refl
          off false = refl

          same_core : slice_get core.lanes number ≡ Some plain_lane
              → core_behind core number
              (unmoved (v.opening).setup words_now core.writer plain_lane turns.Done plain_lane) ≡ core
          same_core there = λ i. record {
            setup = core.setup;
            words = record { pages = (core.words).pages; words = k.words_are i };
            writer = core.writer;
            lanes = set_same core.lanes number plain_lane there i;
            full = off core.full i;
          }

      turns_here : IsTurnOf core number (played core.setup (core.words).words core.writer lane)
          (turned m number)
      turns_here = subst (λ (y : PlayedTurn × (TurnMade × Machine)). IsTurnOf core number y.0 y.1)
          (λ i. (sym played_is i, sym turned_is i))
          (⊎_elim
          (λ (x : (slice_get b.asks lane.answered ≡ None)
          × (slice_get lane.script lane.answered ≡ None)). without x.0 x.1)
          (λ (x : (ask : Ask) × (line : PlainLine) × (slice_get b.asks lane.answered ≡ Some ask)
          × (slice_get lane.script lane.answered ≡ Some line) × IsLineFor ask line).
          with_line x.0 x.1 x.2 x.3 x.4)
          (lines_agree b.asks lane.script of.lines lane.answered))

  pub plain_turn_is : (lane : PlainBackend) → slice_get core.lanes number ≡ Some lane
      → IsTurnOf core number (played core.setup (core.words).words core.writer lane)
      (turned m number)
  plain_turn_is lane at =
      let low = got_below core.lanes number lane at in
      let there = below_got m.backends number (omega (arith, low, k.count)) in
      let b = there.0 in
      let found = k.lanes number b there.1 in
      let same : found.0 ≡ lane = cc in
      let run = (k.running).views number b there.1 in
      let v = run.0 in
      let same_view : found.2.0 ≡ v =
      at_same (m.state).views found.2.0 v (number + 1) found.2.1 run.1.0 in
      let of = subst (λ (y : PlainBackend × View). IsLaneOf (core.writer).page y.0 b y.1
      × ((y.1.reserving).number ≡ number + 1)) (λ i. (same i, same_view i))
      (found.2.2, found.2.3) in
      turns_here b there.1 lane at v run.1 run.2 of.0 of.1

-- A whole turn of one backend, on plain data.
use Rattle.std.specs.Prelude.{◌≡◌, ℕ, ◌+◌, ◌%◌, ◌^◌, ◌<◌, ◌≤◌, Bool, true, false, ◌&&◌, ◌||◌, not, List, slice_get, slice_index, Option, Some, None, is_some, option_map, ◌==◌, nat_le, if◌then◌else◌}
use Rattle.std.specs.Borrow.{Bor}
use Rattle.byte_position.specs.Position.{end_address_of}
use Rattle.wal_spelling.specs.Spelling.{Assembled}
use Rattle.wal_page.specs.Order.{assembled_room_at}
use Rattle.wal_page.specs.Placed.{entry_word}
use Rattle.machine_state.specs.declared.setup.Setup.{Setup}
use Rattle.machine_state.specs.Numbers.{WordsState}
use Rattle.machine_state.specs.Words.{down_word, lock_word, mapping_turn, position_word, write_turn, mapping_turn_number, write_turn_number, written_number, lock_number}
use Rattle.machine_turns.specs.declared.doing.PlainDoing.{PlainDoing}
use Rattle.machine_turns.specs.declared.doing.PlainDoing.TheVariants as doings
use Rattle.machine_turns.specs.declared.doing.Made.{Made}
use Rattle.machine_turns.specs.declared.doing.PlainNext.{PlainNext}
use Rattle.machine_turns.specs.declared.doing.PlainNext.TheVariants.{GoesOn, Answers}
use Rattle.machine_turns.specs.declared.doing.PlainPurpose.{PlainPurpose}
use Rattle.machine_turns.specs.declared.doing.PlainPurpose.TheVariants.{Line, Page}
use Rattle.machine_turns.specs.declared.event.Turn.{Turn}
use Rattle.machine_turns.specs.declared.event.Turn.TheVariants.{Moved, Waits, Done, Down}
use Rattle.machine_turns.specs.declared.lane.PlainBackend.{PlainBackend}
use Rattle.machine_turns.specs.declared.script.PlainLine.{PlainLine as ScriptLine}
use Rattle.machine_turns.specs.declared.script.PlainLine.TheVariants.{Insert, Commit, Flush}
use Rattle.machine_turns.specs.declared.view.PlainFlight.{PlainFlight}
use Rattle.machine_turns.specs.declared.view.PlainFlight.TheVariants as flights
use Rattle.machine_turns.specs.declared.view.PlainPlace.{PlainPlace}
use Rattle.machine_turns.specs.declared.view.PlainPlace.TheVariants as places
use Rattle.machine_turns.specs.declared.view.PlainStage.{PlainStage}
use Rattle.machine_turns.specs.declared.view.PlainStage.TheVariants as stages
use Rattle.machine_turns.specs.declared.view.PlainView.{PlainView}
use Rattle.machine_turns.specs.Left.{Left, next_in}
use Rattle.machine_turns.specs.Scripts.{room_of_line}
use Rattle.machine_turns.specs.Inserting.{at_begins, at_tries, at_reserves, at_looks, at_copies, at_releases}
use Rattle.machine_turns.specs.Mapping.{at_maps, at_gives_turn, at_tells}
use Rattle.machine_turns.specs.Flushing.{at_flush_begins, at_loads_position, at_loads_flushed, at_loads_moment, at_visits, at_takes_turn, at_loads_down, at_puts_back, at_gives_write_turn}
use Rattle.machine_turns.specs.Writer.{WriterState, IsCreateDue, IsSyncDue, IsWriteDue, created, page_written, synced}
use Rattle.machine_turns.specs.Writing.{at_takes_out, at_loads_page, at_creates, at_writes, at_syncs_full, at_syncs_last, at_stores_written, at_stores_moment, at_stores_flushed, at_sets_down, segment_waiting, upto_next, writer_at_loads_page}

-- ---- what a turn may wait for

-- no position is locked
abbrev pub is_free : PlainPlace → Bool
is_free places.Free = true
is_free (places.Locked at) = false
is_free (places.Loaded at prev) = false
is_free (places.Stored at prev) = false

-- no page is being mapped
abbrev pub is_away : PlainStage → Bool
is_away stages.Away = true
is_away stages.Taken = false
is_away (stages.Looked at) = false
is_away (stages.Ready at) = false
is_away (stages.Zeroing at count) = false
is_away (stages.Published at) = false

-- the address that a watcher asks for
abbrev pub asked_by : PlainPurpose → PlainView → ℕ
asked_by Line view = view.last_end
asked_by (Page lock end) view = end

-- a lock holds a watcher back that tells nothing, or less than the address asked for: its word is
-- one more than what it tells
abbrev pub holds_back : (asked met : ℕ) → Bool
holds_back asked met = not (met == 0) && nat_le met asked

-- a word by its number, if this is so
abbrev pub waits_if : Bool → ℕ → Option ℕ
waits_if true on = Some on
waits_if false on = None

-- the number of the word that holds the step up
abbrev pub word_awaited : List ℕ → PlainView → PlainDoing → Option ℕ
word_awaited words view (doings.Reserves lock) =
    waits_if (is_free view.place && not (position_word words % 2 == 0)) 0
word_awaited words view (doings.Maps lock) =
    waits_if (is_away view.stage && not (mapping_turn words == 0)) mapping_turn_number
word_awaited words view (doings.TakesTurn purpose) =
    waits_if (not (write_turn words == 0)) write_turn_number
word_awaited words view (doings.Visits purpose lock) =
    waits_if (holds_back (asked_by purpose view) (lock_word words lock)) (lock_number lock)
word_awaited words view other = None

-- whether the step itself looks at the down word
abbrev pub loads_down : PlainDoing → Bool
loads_down doings.Begins = true
loads_down doings.FlushBegins = true
loads_down (doings.LoadsDown purpose) = true
loads_down other = false

-- ---- the step

-- what a step leaves of view and words, and of the writer
pub record Stepped : Type 0 where
  pub left : Left
  pub writer : WriterState

-- the writer is as it was
abbrev pub with_same : WriterState → Left → Stepped
with_same writer left = record { left = left; writer = writer }

-- the line behind a reference
abbrev pub line_behind : Option (Bor ScriptLine) → Option ScriptLine
line_behind = option_map (λ line. line.now)

abbrev pub is_commit : ScriptLine → Bool
is_commit (Insert body) = false
is_commit (Commit body) = true
is_commit Flush = false

-- the next word of the record that a line inserts
abbrev pub word_of_body : Setup → Assembled → PlainFlight → ℕ
word_of_body setup body flights.Landed = 0
word_of_body setup body (flights.Copying start prev next end) =
    entry_word setup.seg_size setup.sysid body start prev next

abbrev pub word_to_copy : Setup → Option ScriptLine → PlainFlight → ℕ
word_to_copy setup None flight = 0
word_to_copy setup (Some (Insert body)) flight = word_of_body setup body flight
word_to_copy setup (Some (Commit body)) flight = word_of_body setup body flight
word_to_copy setup (Some Flush) flight = 0

-- `line` is the line under way, `copied` the one whose record is copied
module _ (setup : Setup) (words : List ℕ) (writer : WriterState) (view : PlainView)
    (line : ScriptLine) (copied : Option ScriptLine) where
  abbrev same : Left → Stepped
  same left = with_same writer left

  abbrev pub stepped : PlainDoing → Stepped
  stepped doings.Begins = same (at_begins setup words view)
  stepped (doings.Tries taken) = same (at_tries setup words view taken)
  stepped (doings.Reserves lock) = same (at_reserves setup words view lock (room_of_line line))
  stepped (doings.Looks lock) = same (at_looks setup words view lock)
  stepped (doings.Copies lock) =
      same (at_copies setup words view lock (word_to_copy setup copied view.flight))
  stepped (doings.Maps lock) = same (at_maps setup words view lock)
  stepped (doings.GivesTurn lock end) = same (at_gives_turn setup words view lock end)
  stepped (doings.Tells lock end) = same (at_tells setup words view lock end)
  stepped (doings.Releases lock full) =
      same (at_releases setup words view lock full (is_commit line))
  stepped doings.FlushBegins = same (at_flush_begins setup words view)
  stepped doings.LoadsPosition = same (at_loads_position setup words view)
  stepped doings.LoadsFlushed = same (at_loads_flushed setup words view)
  stepped doings.LoadsMoment = same (at_loads_moment setup words view)
  stepped (doings.Visits purpose lock) = same (at_visits setup words view purpose lock)
  stepped (doings.TakesTurn purpose) = same (at_takes_turn setup words view purpose)
  stepped (doings.LoadsDown purpose) = same (at_loads_down setup words view purpose)
  stepped (doings.TakesOut purpose) = same (at_takes_out setup words view writer purpose)
  stepped (doings.LoadsPage purpose loaded) = record {
    left = at_loads_page setup words view writer purpose loaded;
    writer = writer_at_loads_page setup words view writer loaded;
  }
  stepped (doings.Creates purpose) =
      record { left = at_creates setup words view writer purpose; writer = created writer }
  stepped (doings.Writes purpose) = record {
    left = at_writes setup words view writer purpose;
    writer = page_written writer (upto_next setup words view writer);
  }
  stepped (doings.SyncsFull purpose) = record {
    left = at_syncs_full setup words view writer purpose;
    writer = synced writer (segment_waiting (writer.plain).waiting);
  }
  stepped doings.SyncsLast = record {
    left = at_syncs_last setup words view writer;
    writer = synced writer (segment_waiting (writer.plain).waiting);
  }
  stepped (doings.StoresWritten purpose) =
      same (at_stores_written setup words view writer purpose)
  stepped doings.StoresMoment = same (at_stores_moment setup words view writer)
  stepped doings.StoresFlushed = same (at_stores_flushed setup words view writer)
  stepped (doings.SetsDown purpose) = same (at_sets_down setup words view writer purpose)
  stepped (doings.PutsBack purpose failed) = same (at_puts_back setup words view purpose failed)
  stepped (doings.GivesWriteTurn purpose failed) =
      same (at_gives_write_turn setup words view purpose failed)

-- the places of a flush, the writer's among them; the others are an insert's
abbrev pub IsOfFlush : PlainDoing → Type 0
IsOfFlush doings.Begins = ⊥
IsOfFlush (doings.Tries taken) = ⊥
IsOfFlush (doings.Reserves lock) = ⊥
IsOfFlush (doings.Looks lock) = ⊥
IsOfFlush (doings.Copies lock) = ⊥
IsOfFlush (doings.Maps lock) = ⊥
IsOfFlush (doings.GivesTurn lock end) = ⊥
IsOfFlush (doings.Tells lock end) = ⊥
IsOfFlush (doings.Releases lock full) = ⊥
IsOfFlush other = Unit {0}

-- the line whose record is copied: from a reservation on the one under way
abbrev pub copied_behind : PlainDoing → PlainBackend → ℕ
copied_behind (doings.Reserves lock) lane = lane.answered
copied_behind other lane = lane.copied

-- a step, a lane, words and a writer are what is left
pub record LeavesLane (made : Made) (old new : PlainBackend) (words words_now : WordsState)
    (writer : WriterState) (s : Stepped) : Type 0 where
  pub made_is : made ≡ (s.left).made
  pub lane_is : new
      ≡ record old { view = (s.left).view; copied = copied_behind old.doing old }
  pub words_are : words_now ≡ record words { words = (s.left).words }
  pub writer_is : writer ≡ s.writer

-- ---- the turn

-- where a line begins
abbrev pub start_of_line : Option ScriptLine → PlainDoing
start_of_line None = doings.Begins
start_of_line (Some (Insert body)) = doings.Begins
start_of_line (Some (Commit body)) = doings.Begins
start_of_line (Some Flush) = doings.FlushBegins

-- a lane whose line is answered
abbrev pub lane_answered : PlainBackend → PlainBackend
lane_answered lane = record lane {
  answered = lane.answered + 1;
  doing = start_of_line (slice_get lane.script (lane.answered + 1));
}

abbrev pub lane_behind : PlainNext → PlainBackend → PlainBackend
lane_behind (GoesOn doing) lane = record lane { doing = doing }
lane_behind (Answers full) lane = lane_answered lane

abbrev pub finds_full : PlainNext → Bool
finds_full (GoesOn doing) = false
finds_full (Answers full) = full

-- what a turn tells and leaves, and whether its line was answered that the log is full
pub record PlayedTurn : Type 0 where
  pub turn : Turn
  pub lane : PlainBackend
  pub words : List ℕ
  pub writer : WriterState
  pub full : Bool

module _ (setup : Setup) (words : List ℕ) (writer : WriterState) (lane : PlainBackend) where
  abbrev pub unmoved : Turn → PlainBackend → PlayedTurn
  unmoved turn lane_now = record {
    turn = turn;
    lane = lane_now;
    words = words;
    writer = writer;
    full = false;
  }

  abbrev pub moved_to : Stepped → PlayedTurn
  moved_to s = record {
    turn = Moved ((s.left).made).event;
    lane = lane_behind ((s.left).made).next
        (record lane { view = (s.left).view; copied = copied_behind lane.doing lane });
    words = (s.left).words;
    writer = s.writer;
    full = finds_full ((s.left).made).next;
  }

  abbrev pub by_wait : ScriptLine → Option ℕ → PlayedTurn
  by_wait line None = moved_to
      (stepped setup words writer lane.view line (slice_get lane.script lane.copied) lane.doing)
  by_wait line (Some on) = unmoved (Waits on (slice_index words on)) lane

  abbrev pub by_line : Option ScriptLine → PlayedTurn
  by_line None = unmoved Done lane
  by_line (Some line) =
      let awaited = word_awaited words lane.view lane.doing in
      if not (down_word words == 0) && (loads_down lane.doing || is_some awaited)
      then unmoved (Down (down_word words)) (lane_answered lane)
      else by_wait line awaited

  abbrev pub played : PlayedTurn
  played = by_line (slice_get lane.script lane.answered)

-- ---- when it may be played

-- positions and addresses are far below the last of 64 bits
abbrev pub IsLowPlace : PlainPlace → Type 0
IsLowPlace places.Free = Unit {0}
IsLowPlace (places.Locked at) = at < 2 ^ 59
IsLowPlace (places.Loaded at prev) = at < 2 ^ 59
IsLowPlace (places.Stored at prev) = at < 2 ^ 59

abbrev pub IsLowStage : PlainStage → Type 0
IsLowStage stages.Away = Unit {0}
IsLowStage stages.Taken = Unit {0}
IsLowStage (stages.Looked at) = at < 2 ^ 60
IsLowStage (stages.Ready at) = at < 2 ^ 60
IsLowStage (stages.Zeroing at count) = (at < 2 ^ 60) × (count ≤ 1024)
IsLowStage (stages.Published at) = at < 2 ^ 60

-- all of them, and the number is a pass's
pub record IsLow (words : List ℕ) (view : PlainView) : Type 0 where
  pub number : view.number < 65536
  pub position : position_word words < 2 ^ 59
  pub written : slice_index words written_number < 2 ^ 60
  pub place : IsLowPlace view.place
  pub seen : view.seen < 2 ^ 60
  pub next : next_in view.flight < 2 ^ 60
  pub stage : IsLowStage view.stage

-- a record is copied, and it has a next word
abbrev pub HasNextOf : Setup → Assembled → PlainFlight → Type 0
HasNextOf setup body flights.Landed = ⊥
HasNextOf setup body (flights.Copying start prev next end) =
    (start % 8 ≡ 0) × (start + assembled_room_at setup.seg_size start body < 2 ^ 60)
    × (next % 8 ≡ 0) × (end_address_of setup.seg_size start ≤ next)
    × (next < end_address_of setup.seg_size
    (start + assembled_room_at setup.seg_size start body))

abbrev pub HasNextWord : Setup → Option ScriptLine → PlainFlight → Type 0
HasNextWord setup None flight = ⊥
HasNextWord setup (Some (Insert body)) flight = HasNextOf setup body flight
HasNextWord setup (Some (Commit body)) flight = HasNextOf setup body flight
HasNextWord setup (Some Flush) flight = ⊥

-- at each place what its step rests on
abbrev pub IsReadyFor : Setup → List ℕ → WriterState → PlainView → Option ScriptLine → PlainDoing
    → Type 0
IsReadyFor setup words w view copied (doings.Copies lock) = HasNextWord setup copied view.flight
IsReadyFor setup words w view copied (doings.Tries taken) = taken < 8
IsReadyFor setup words w view copied (doings.Tells lock end) = lock < 8
IsReadyFor setup words w view copied (doings.Releases lock full) = lock < 8
IsReadyFor setup words w view copied (doings.Visits purpose lock) = lock < 8
IsReadyFor setup words w view copied (doings.LoadsPage purpose loaded) = loaded < 1024
IsReadyFor setup words w view copied (doings.Creates purpose) = IsCreateDue w
IsReadyFor setup words w view copied (doings.Writes purpose) =
    IsWriteDue w (upto_next setup words view w)
IsReadyFor setup words w view copied (doings.SyncsFull purpose) =
    IsSyncDue w (segment_waiting (w.plain).waiting)
IsReadyFor setup words w view copied doings.SyncsLast =
    IsSyncDue w (segment_waiting (w.plain).waiting)
IsReadyFor setup words w view copied other = Unit {0}

-- a watcher visits one of the eight locks
abbrev pub IsLockAwaited : PlainDoing → Type 0
IsLockAwaited (doings.Visits purpose lock) = lock < 8
IsLockAwaited other = Unit {0}

pub record MayPlay (setup : Setup) (words : List ℕ) (writer : WriterState)
    (lane : PlainBackend) : Type 0
  where
    pub size_is : writer.size ≡ setup.seg_size
    pub low : IsLow words lane.view
    pub ready : IsReadyFor setup words writer lane.view (slice_get lane.script lane.copied)
        lane.doing

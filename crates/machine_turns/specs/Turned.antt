-- A backend's turn: the step that the order names, or what the backend waits for. The order is that
-- of docs/COMMIT.md: down, a lock, the place, the copy with its pages, the release; down, the end,
-- the locks, the turn, the pages, the sync, written, moment, flushed. A turn makes one step where
-- its word allows that now (the position not locked, a turn free, a lock that tells enough), and
-- else changes nothing. Once the down word is not 0, a line ends where it looks at that word or
-- would wait.
use Rattle.std.specs.Prelude.{ℕ, ◌+◌, ◌-◌, ◌*◌, ◌/◌, ◌%◌, Bool, true, false, ◌&&◌, ◌||◌, not, List, [], ◌∷◌, ◌++◌, set, take, slice_index, Option, Some, None, slice_get, min, ◌==◌, nat_lt, nat_le, if◌then◌else◌}
use Rattle.std.specs.Int.{w64, to_le_bytes}
use mathlib.Core.Option.{none, some}
use lib.ListN.{get_elem?}
use Rattle.byte_position.specs.Geometry.{pages_of}
use Rattle.segment_disk.specs.Failing.{is_listed}
use Rattle.wal_page.specs.Order.{Entry, finish_of, room_at}
use Rattle.wal_page.specs.EntryWords.{address_of_word, words_owned}
use Rattle.machine_state.specs.declared.setup.Setup.{Setup}
use Rattle.machine_state.specs.Words.{position_word, lock_word, mapping_turn, write_turn, down_word, log_limit, end_form, mapping_turn_number, write_turn_number, lock_number}
use Rattle.machine_state.specs.Views.{Place, Free, Locked, Loaded, Stored, Flight, Landed, Copying, Stage, Away, Taken, Looked, Ready, Zeroing, Published, Lent, Hold, Idle, Turned as HasTurned, Out, View}
use Rattle.machine_state.specs.Moves.{CallOutcome, Done as CallDone, Failed, is_done}
use Rattle.machine_state.specs.Steps.{StepKind, State, load_position, take_write_turn, slot_out, slot_in, release_write_turn, lock_position, load_prev, store_prev, store_position, give_position_back, load_lock, take_lock, advance, release, load_buffer_end, store_ring_word, load_ring_word, load_written, load_flushed, load_moment, load_down, store_written, store_moment, store_flushed, set_down, take_mapping_turn, load_initialised_end, clear_end, zero_ring_word, publish_end, publish_initialised_end, release_mapping_turn, create, write, sync, buffer_of, number_lent, word_of_step, value_behind, view_behind, home_behind}
use Rattle.machine_turns.specs.Doing.{Ask, Inserts, Commits, Flushes, Purpose, ForLine, ForPage, Doing, Begins, Tries, Reserves, Looks, Copies, Maps, GivesTurn, Tells, Releases, FlushBegins, LoadsPosition, LoadsFlushed, LoadsMoment, Visits, TakesTurn, LoadsDown, TakesOut, LoadsPage, Creates, Writes, SyncsFull, SyncsLast, StoresWritten, StoresMoment, StoresFlushed, SetsDown, PutsBack, GivesWriteTurn, Backend, Machine}

-- what a turn tells: the step that was made; the word that holds it up, with its value; that all
-- lines are answered; that the disk has failed
pub data TurnMade : Type 0 where
  Moved : StepKind → TurnMade
  Waits : (on value : ℕ) → TurnMade
  AllDone : TurnMade
  IsDown : (faults : ℕ) → TurnMade

-- ---- what a backend's view says of its next step

module _ (v : View) where
  abbrev setup : Setup
  setup = (v.opening).setup

  abbrev size : ℕ
  size = setup.seg_size

  -- the address of its copy's next word, and whether none is left
  abbrev pub next_address : ℕ
  next_address = address_in (v.working).flight
    where
      address_in : Flight → ℕ
      address_in Landed = 0
      address_in (Copying c) = address_of_word size c.entry c.copied

  abbrev pub is_whole : Bool
  is_whole = whole_in (v.working).flight
    where
      whole_in : Flight → Bool
      whole_in Landed = true
      whole_in (Copying c) = c.copied == words_owned size c.entry

  -- where the page of its next word ends
  abbrev pub next_page_end : ℕ
  next_page_end = (next_address / 8192 + 1) * 8192

  -- up to where it asks for: the end of its last record, or the log's start
  abbrev pub asked_end : ℕ
  asked_end = last_end (v.reserving).entries size
    where
      last_end : List Entry → ℕ → ℕ
      last_end [] end = end
      last_end (e ∷ es) end = last_end es (finish_of size e)

  abbrev pub asked_for : Purpose → ℕ
  asked_for ForLine = asked_end
  asked_for (ForPage lock end) = end

  -- of the writer in hand
  abbrev pub of_lent : (Lent → ℕ) → ℕ
  of_lent f = number_lent v f (v.writing).hold

  -- the page under way, its segment and its number there, and up to where it is written
  abbrev pub page_under_way : ℕ
  page_under_way = of_lent (λ l. (l.writer).written / 8192)

  abbrev pub segment_under_way : ℕ
  segment_under_way = page_under_way / pages_of size

  abbrev pub written_upto : ℕ
  written_upto = of_lent (λ l. min l.known ((l.writer).written / 8192 * 8192 + 8192))

  -- the bytes of the words that were loaded last, a page's
  abbrev pub bytes_staged : List (ℕ × ℕ) → List ℕ
  bytes_staged [] = []
  bytes_staged (s ∷ ss) = bytes_staged ss ++ to_le_bytes w64 s.1

  abbrev pub page_staged : List ℕ
  page_staged = page_in (v.writing).hold
    where
      page_in : Hold → List ℕ
      page_in Idle = []
      page_in HasTurned = []
      page_in (Out l) = bytes_staged (take 1024 l.staged)

  -- whether a page is still to be written, a segment to be made, a sync waited for
  abbrev pub has_page_left : Bool
  has_page_left = nat_lt (of_lent (λ l. (l.writer).written)) (of_lent (λ l. l.known))

  abbrev pub is_segment_new : Bool
  is_segment_new = nat_lt (of_lent (λ l. (l.writer).made)) segment_under_way

  abbrev pub waiting_segment : Hold → mathlib.Core.Option.Option ℕ
  waiting_segment Idle = none
  waiting_segment HasTurned = none
  waiting_segment (Out l) = (l.writer).waiting

  abbrev pub segment_or : ℕ → mathlib.Core.Option.Option ℕ → ℕ
  segment_or other none = other
  segment_or other (some segment) = segment

  abbrev pub is_some_segment : mathlib.Core.Option.Option ℕ → Bool
  is_some_segment none = false
  is_some_segment (some segment) = true

  -- ---- the record that a line inserts

  abbrev pub fits : Ask → ℕ → Bool
  fits Flushes at = true
  fits (Inserts value) at = nat_le (at + room_at size at value) (log_limit setup)
  fits (Commits value) at = nat_le (at + room_at size at value) (log_limit setup)

  abbrev pub reserve_event : List ℕ → Ask → ℕ → Place → StepKind
  reserve_event words ask lock Free = lock_position (position_word words)
  reserve_event words Flushes lock (Locked at) = load_prev
  reserve_event words (Inserts value) lock (Locked at) =
      if fits (Inserts value) at then load_prev else give_position_back value
  reserve_event words (Commits value) lock (Locked at) =
      if fits (Commits value) at then load_prev else give_position_back value
  reserve_event words ask lock (Loaded at prev) = store_prev
  reserve_event words (Inserts value) lock (Stored at prev) = store_position (lock ∷ []) value
  reserve_event words (Commits value) lock (Stored at prev) = store_position (lock ∷ []) value
  reserve_event words Flushes lock (Stored at prev) = load_down

  abbrev pub map_event : Stage → StepKind
  map_event Away = take_mapping_turn
  map_event Taken = load_initialised_end
  map_event (Looked at) = load_written
  map_event (Ready at written) = clear_end
  map_event (Zeroing at count) = if nat_lt count 1024 then zero_ring_word else publish_end
  map_event (Published at) = publish_initialised_end

  -- the lock that it tries when so many were found taken: the first is its number's
  abbrev pub lock_tried : ℕ → ℕ
  lock_tried n = ((v.reserving).number + n) % 8

-- how a call of the device ends: it fails where its number, counted from 1, is listed; a create
-- that fails makes nothing
abbrev pub call_outcome : List ℕ → ℕ → ℕ → CallOutcome
call_outcome failing faults moment =
    if is_listed failing (moment + 1) then Failed (faults + 1) (some false) else CallDone

-- ---- the step that the order names

module _ (m : Machine) (v : View) (ask : Ask) where
  abbrev words : List ℕ
  words = (m.state).words

  abbrev pub outcome : CallOutcome
  outcome = call_outcome m.failing (m.opening).faults (of_lent v (λ l. (l.writer).moment))

  abbrev pub event_named : Doing → StepKind
  event_named Begins = load_down
  event_named (Tries n) =
      if lock_word words (lock_tried v n) == 0 then take_lock (lock_tried v n)
      else load_lock (lock_tried v n) 0
  event_named (Reserves lock) = reserve_event v words ask lock (v.reserving).place
  event_named (Looks lock) = load_buffer_end (buffer_of (setup v) (next_address v))
  event_named (Copies lock) = store_ring_word
  event_named (Maps lock) = map_event v (v.mapping).stage
  event_named (GivesTurn lock end) = release_mapping_turn
  event_named (Tells lock end) = advance lock (next_address v)
  event_named (Releases lock full) = release lock
  event_named FlushBegins = load_down
  event_named LoadsPosition = load_position
  event_named LoadsFlushed = load_flushed
  event_named LoadsMoment = load_moment
  event_named (Visits purpose lock) = load_lock lock (end_form (setup v) (v.reserving).seen)
  event_named (TakesTurn purpose) = take_write_turn
  event_named (LoadsDown purpose) = load_down
  event_named (TakesOut purpose) = slot_out
  event_named (LoadsPage purpose k) = load_ring_word (page_under_way v * 1024 + k)
  event_named (Creates purpose) = create (of_lent v (λ l. (l.writer).made) + 1) outcome
  event_named (Writes purpose) = write (segment_under_way v)
      (page_under_way v % pages_of (size v)) (written_upto v) (page_staged v) outcome
  event_named (SyncsFull purpose) =
      sync (segment_or v 0 (waiting_segment v (v.writing).hold)) outcome
  event_named SyncsLast = sync (segment_or v 0 (waiting_segment v (v.writing).hold)) outcome
  event_named (StoresWritten purpose) = store_written
  event_named StoresMoment = store_moment
  event_named StoresFlushed = store_flushed
  event_named (SetsDown purpose) = set_down
  event_named (PutsBack purpose failed) = slot_in
  event_named (GivesWriteTurn purpose failed) = release_write_turn

  -- ---- whether it can be made now, and the word that holds it up

  abbrev pub is_free : Place → Bool
  is_free Free = true
  is_free (Locked at) = false
  is_free (Loaded at prev) = false
  is_free (Stored at prev) = false

  abbrev pub is_away : Stage → Bool
  is_away Away = true
  is_away Taken = false
  is_away (Looked at) = false
  is_away (Ready at written) = false
  is_away (Zeroing at count) = false
  is_away (Published at) = false

  -- a lock holds a watcher back where it tells nothing, or less than what is asked for
  abbrev pub holds_back : ℕ → ℕ → Bool
  holds_back asked word = not (word == 0) && nat_le word asked

  abbrev pub can_step : Doing → Bool
  can_step (Reserves lock) =
      not (is_free (v.reserving).place) || position_word words % 2 == 0
  can_step (Maps lock) = not (is_away (v.mapping).stage) || mapping_turn words == 0
  can_step (TakesTurn purpose) = write_turn words == 0
  can_step (Visits purpose lock) = not (holds_back (asked_for v purpose) (lock_word words lock))
  can_step other = true

  abbrev pub word_waited : Doing → ℕ
  word_waited (Maps lock) = mapping_turn_number
  word_waited (TakesTurn purpose) = write_turn_number
  word_waited (Visits purpose lock) = lock_number lock
  word_waited other = 0

  -- whether the step itself looks at the down word
  abbrev pub looks_down : Doing → Bool
  looks_down Begins = true
  looks_down FlushBegins = true
  looks_down (LoadsDown purpose) = true
  looks_down other = false

-- ---- what comes behind it

-- another step, or the line is answered, the log being full or not
pub data Next : Type 0 where
  goes_on : Doing → Next
  answers : (full : Bool) → Next

module _ (v w : View) (ask : Ask) (met : ℕ) (done : Bool) where
  -- behind the page written last: the next one, or the end of the writing
  abbrev pub page_or_end : Purpose → Doing
  page_or_end ForLine = if has_page_left w then LoadsPage ForLine 0
      else (if is_some_segment w (waiting_segment w (w.writing).hold) then SyncsLast
      else StoresWritten ForLine)
  page_or_end (ForPage lock end) = if has_page_left w then LoadsPage (ForPage lock end) 0
      else StoresWritten (ForPage lock end)

  abbrev pub behind_reserving : ℕ → Place → Next
  behind_reserving lock Free = goes_on (Reserves lock)
  behind_reserving lock (Locked at) =
      if fits v ask at then goes_on (Reserves lock) else goes_on (Releases lock true)
  behind_reserving lock (Loaded at prev) = goes_on (Reserves lock)
  behind_reserving lock (Stored at prev) = goes_on (Looks lock)

  -- the page that its buffer holds ends above written, and is to be written first
  abbrev pub behind_written : ℕ → ℕ → Next
  behind_written lock at =
      if nat_le (next_page_end v) at then goes_on (GivesTurn lock none)
      else (if nat_lt (met + (setup v).ring_pages * 8192) (at + 8192)
      then goes_on (GivesTurn lock (some (at + 8192 - (setup v).ring_pages * 8192)))
      else goes_on (Maps lock))

  abbrev pub behind_mapping : ℕ → Stage → Next
  behind_mapping lock Away = goes_on (Maps lock)
  behind_mapping lock Taken = goes_on (Maps lock)
  behind_mapping lock (Looked at) = behind_written lock at
  behind_mapping lock (Ready at written) = goes_on (Maps lock)
  behind_mapping lock (Zeroing at count) = goes_on (Maps lock)
  behind_mapping lock (Published at) = goes_on (GivesTurn lock none)

  abbrev pub behind_turn : ℕ → mathlib.Core.Option.Option ℕ → Next
  behind_turn lock none = goes_on (Looks lock)
  behind_turn lock (some end) = goes_on (Tells lock end)

  abbrev pub behind_insert : Ask → Next
  behind_insert (Inserts value) = answers false
  behind_insert (Commits value) = goes_on FlushBegins
  behind_insert Flushes = answers false

  abbrev pub behind_call : Purpose → Doing → Next
  behind_call purpose next = if done then goes_on next else goes_on (SetsDown purpose)

  abbrev pub behind_writing : Purpose → Bool → Next
  behind_writing ForLine failed = answers false
  behind_writing (ForPage lock end) true = answers false
  behind_writing (ForPage lock end) false = goes_on (Looks lock)

  abbrev pub next_of : Doing → Next
  next_of Begins = goes_on (Tries 0)
  next_of (Tries n) = if met == 0 then goes_on (Reserves (lock_tried v n))
      else (if n + 1 == 8 then goes_on Begins else goes_on (Tries (n + 1)))
  next_of (Reserves lock) = behind_reserving lock (v.reserving).place
  next_of (Looks lock) =
      if met == next_page_end v then goes_on (Copies lock) else goes_on (Maps lock)
  next_of (Copies lock) = if is_whole w then goes_on (Releases lock false)
      else (if next_address w % 8192 == 0 then goes_on (Looks lock) else goes_on (Copies lock))
  next_of (Maps lock) = behind_mapping lock (v.mapping).stage
  next_of (GivesTurn lock end) = behind_turn lock end
  next_of (Tells lock end) = goes_on (Visits (ForPage lock end) 0)
  next_of (Releases lock full) = if full then answers true else behind_insert ask
  next_of FlushBegins = goes_on LoadsPosition
  next_of LoadsPosition = goes_on LoadsFlushed
  next_of LoadsFlushed =
      if nat_le (asked_end v) met then goes_on LoadsMoment else goes_on (Visits ForLine 0)
  next_of LoadsMoment = answers false
  next_of (Visits purpose lock) =
      if lock + 1 == 8 then goes_on (TakesTurn purpose) else goes_on (Visits purpose (lock + 1))
  next_of (TakesTurn purpose) = goes_on (LoadsDown purpose)
  next_of (LoadsDown purpose) = goes_on (TakesOut purpose)
  next_of (TakesOut purpose) = goes_on (page_or_end purpose)
  next_of (LoadsPage purpose k) = if k + 1 == 1024
      then (if is_segment_new v then goes_on (Creates purpose) else goes_on (Writes purpose))
      else goes_on (LoadsPage purpose (k + 1))
  next_of (Creates purpose) = behind_call purpose (Writes purpose)
  next_of (Writes purpose) = behind_call purpose
      (if of_lent w (λ l. (l.writer).written) % size v == 0 then SyncsFull purpose
      else page_or_end purpose)
  next_of (SyncsFull purpose) = behind_call purpose (page_or_end purpose)
  next_of SyncsLast = behind_call ForLine (StoresWritten ForLine)
  next_of (StoresWritten ForLine) = goes_on StoresMoment
  next_of (StoresWritten (ForPage lock end)) = goes_on (PutsBack (ForPage lock end) false)
  next_of StoresMoment = goes_on StoresFlushed
  next_of StoresFlushed = goes_on (PutsBack ForLine false)
  next_of (SetsDown purpose) = goes_on (PutsBack purpose true)
  next_of (PutsBack purpose failed) = goes_on (GivesWriteTurn purpose failed)
  next_of (GivesWriteTurn purpose failed) = behind_writing purpose failed

-- ---- a turn

-- where a line begins
abbrev pub line_start : Option Ask → Doing
line_start None = Begins
line_start (Some (Inserts value)) = Begins
line_start (Some (Commits value)) = Begins
line_start (Some Flushes) = FlushBegins

-- a backend whose line is answered
abbrev pub with_answer : Backend → Backend
with_answer b = record b {
  answered = b.answered + 1;
  doing = line_start (slice_get b.asks (b.answered + 1));
}

abbrev pub with_next : Next → Backend → Backend
with_next (goes_on doing) b = record b { doing = doing }
with_next (answers full) b = with_answer b

abbrev pub tells_full : Next → Bool
tells_full (goes_on doing) = false
tells_full (answers full) = full

-- the state behind a step by the view with this number
abbrev pub state_stepped : ℕ → View → StepKind → State → State
state_stepped id v e s =
    let met = slice_index s.words (word_of_step v e) in
    record {
      words = set s.words (word_of_step v e) (value_behind v e met);
      home = home_behind v e s.home;
      views = set s.views id (view_behind v e met s.home);
    }

module _ (m : Machine) (number : ℕ) (b : Backend) (v : View) (ask : Ask) where
  -- the step is made, and what comes behind it
  abbrev pub moved_on : StepKind → TurnMade × Machine
  moved_on e =
      let met = slice_index (m.state).words (word_of_step v e) in
      let next = next_of v (view_behind v e met (m.state).home) ask met
      (is_done (outcome m v ask)) b.doing in (
        Moved e,
        record m {
          state = state_stepped (number + 1) v e m.state;
          backends = set m.backends number (with_next next b);
          full = m.full || tells_full next;
        },
      )

  -- the down word says that the disk has failed: the line is answered by it. A lock, an entry and
  -- the turn to write that the backend has stay with it, since from then on every line ends so
  abbrev pub fallen : TurnMade × Machine
  fallen = (
    IsDown (down_word (m.state).words),
    record m {
      state = state_stepped (number + 1) v load_down m.state;
      backends = set m.backends number (with_answer b);
    },
  )

  abbrev pub turned_by : TurnMade × Machine
  turned_by =
      let down = down_word (m.state).words in
      let can = can_step m v ask b.doing in
      if not (down == 0) && (looks_down m v ask b.doing || not can) then fallen
      else (if can then moved_on (event_named m v ask b.doing)
      else (
        Waits (word_waited m v ask b.doing)
            (slice_index (m.state).words (word_waited m v ask b.doing)),
        m,
      ))

module _ (m : Machine) (number : ℕ) where
  abbrev pub turned_for : Backend → View → Option Ask → TurnMade × Machine
  turned_for b v None = (AllDone, m)
  turned_for b v (Some ask) = turned_by m number b v ask

  abbrev pub turned_of : Option Backend → mathlib.Core.Option.Option View → TurnMade × Machine
  turned_of None view = (AllDone, m)
  turned_of (Some b) none = (AllDone, m)
  turned_of (Some b) (some v) = turned_for b v (slice_get b.asks b.answered)

abbrev pub turned : Machine → ℕ → TurnMade × Machine
turned m number =
    turned_of m number (slice_get m.backends number) (get_elem? (m.state).views (number + 1))

-- the machine behind the turns of a schedule, one after another
abbrev pub machine_behind : Machine → List ℕ → Machine
machine_behind m [] = m
machine_behind m (number ∷ schedule) = machine_behind (turned m number).1 schedule

-- When plain data are those of a machine that runs.
use Rattle.std.specs.Prelude.{◌≡◌, ℕ, ◌+◌, ◌-◌, ◌*◌, ◌/◌, ◌<◌, ◌≤◌, ◌^◌, Bool, ◌||◌, List, [], ◌∷◌, length, take, drop, min, set, slice_get, Some, None}
use mathlib.Core.Option.{Option, none, some}
use Rattle.byte_position.specs.Position.{end_address_of}
use Rattle.machine_state.specs.declared.setup.Setup.{Setup}
use Rattle.machine_state.specs.Words.{log_limit, position_word}
use Rattle.machine_state.specs.Moves.{unlocked}
use Rattle.machine_state.specs.Views.{HasAt, Copy, Copying, Plain, Lent, Out, View}
use Rattle.machine_turns.specs.Doing.{Ask, Backend, Machine}
use Rattle.machine_turns.specs.Turned.{bytes_staged}
use Rattle.machine_turns.specs.Standing.{HasBackend, HasLeft, IsRunning}
use Rattle.machine_state.specs.Numbers.{WordsState}
use Rattle.machine_turns.specs.declared.doing.PlainDoing.{PlainDoing}
use Rattle.machine_turns.specs.declared.doing.PlainDoing.TheVariants as doings
use Rattle.machine_turns.specs.declared.doing.PlainPurpose.{PlainPurpose}
use Rattle.machine_turns.specs.declared.doing.PlainPurpose.TheVariants as purposes
use Rattle.machine_turns.specs.declared.script.PlainLine.{PlainLine}
use Rattle.machine_turns.specs.declared.lane.PlainBackend.{PlainBackend}
use Rattle.machine_turns.specs.Lanes.{PlayedTurn}
use Rattle.machine_turns.specs.Scripts.{flushes_of_line, flushes_of_lines, rooms_of_lines}
use Rattle.machine_turns.specs.Writer.{WriterState}
use Rattle.wal_core.specs.Lines.{AreLinesFor, HasRecord}
use Rattle.wal_core.specs.Marks.{GoesByMarks, IsMark, TellMarks, ends_above}
use Rattle.wal_core.specs.PlainData.{doing_of, plain_view}

-- the plain data: the log's setup, the words, the writer, a lane for each backend, and whether a
-- line was answered that the log is full
pub record CoreState : Type 0 where
  pub setup : Setup
  pub words : WordsState
  pub writer : WriterState
  pub lanes : List PlainBackend
  pub full : Bool

-- ---- the writer and its page

-- so many words of the page are those that were loaded last
abbrev pub HasLoaded : List ℕ → ℕ → View → Type 0
HasLoaded page k v = (l : Lent) → (v.writing).hold ≡ Out l
    → take (8 * k) page ≡ bytes_staged v (take k l.staged)

-- the page has the words that a lane loaded for its write
abbrev pub HoldsPageFor : List ℕ → View → PlainDoing → Type 0
HoldsPageFor page v (doings.LoadsPage purpose loaded) = HasLoaded page loaded v
HoldsPageFor page v (doings.Creates purpose) = HasLoaded page 1024 v
HoldsPageFor page v (doings.Writes purpose) = HasLoaded page 1024 v
HoldsPageFor page v other = Unit {0}

-- the writer is this one, at home or in a view's hand
pub record IsWriterOf (w : Plain) (home : Option Plain) (views : List View) : Type 0 where
  pub at_home : (p : Plain) → home ≡ some p → p ≡ w
  pub in_hand : (id : ℕ) (v : View) (l : Lent) → HasAt views id v → (v.writing).hold ≡ Out l
      → l.writer ≡ w

-- ---- a backend

-- eight locks are tried at most
abbrev pub TriesFew : PlainDoing → Type 0
TriesFew (doings.Tries taken) = taken < 8
TriesFew other = Unit {0}

-- a lane has its backend's lines, which a number of 32 bits counts, since the disk has room for a
-- call for each; it knows what the view knows; the record that it copies is that of one of its
-- lines; a backend whose lines are all answered begins nothing
pub record IsLaneOf (page : List ℕ) (lane : PlainBackend) (b : Backend) (v : View) : Type 0 where
  pub lines : AreLinesFor b.asks lane.script
  pub answered : b.answered ≡ lane.answered
  pub counted : (lane.answered ≤ length lane.script) × (length lane.script < 2 ^ 32)
  pub doing : b.doing ≡ doing_of lane.doing
  pub view : lane.view ≡ plain_view v
  pub copies : (c : Copy) → (v.working).flight ≡ Copying c
      → HasRecord lane.script lane.copied (c.entry).value
  pub loaded : (ask : Ask) → HasLeft b ask → HoldsPageFor page v lane.doing
  pub few : TriesFew lane.doing
  pub ended : slice_get lane.script lane.answered ≡ None → lane.doing ≡ doings.Begins

-- backend number b steps with the view at b + 1, whose pass has that number
abbrev pub HasLaneOf : CoreState → Machine → ℕ → Backend → Type 0
HasLaneOf core m number b = (lane : PlainBackend) × (slice_get core.lanes number ≡ Some lane)
    × ((v : View) × HasAt (m.state).views (number + 1) v
    × IsLaneOf (core.writer).page lane b v × ((v.reserving).number ≡ number + 1))

-- ---- room

-- whether the record of the line under way is reserved, or the line reserves none
abbrev pub lines_reserved : PlainDoing → ℕ
lines_reserved doings.Begins = 0
lines_reserved (doings.Tries taken) = 0
lines_reserved (doings.Reserves lock) = 0
lines_reserved other = 1

-- how many bytes the records take up that a backend is still to reserve, and all of them
abbrev pub rooms_left : PlainBackend → ℕ
rooms_left lane = rooms_of_lines (drop (lane.answered + lines_reserved lane.doing) lane.script)

abbrev pub all_rooms_left : List PlainBackend → ℕ
all_rooms_left [] = 0
all_rooms_left (lane ∷ lanes) = rooms_left lane + all_rooms_left lanes

-- no record is reserved behind the writer's end: behind all records, if not the log's limit
pub record HasRoomFor (core : CoreState) : Type 0 where
  pub position : ℕ
  pub end_is : (core.writer).end
      ≡ end_address_of core.setup.seg_size (min position (log_limit core.setup))
  pub left : unlocked (position_word (core.words).words) + all_rooms_left core.lanes ≤ position

-- ---- calls of the disk

-- for how many lines a backend is still to reserve a record at most, and all of them
abbrev pub lines_left : PlainBackend → ℕ
lines_left lane = length lane.script - (lane.answered + lines_reserved lane.doing)

abbrev pub all_lines_left : List PlainBackend → ℕ
all_lines_left [] = 0
all_lines_left (lane ∷ lanes) = lines_left lane + all_lines_left lanes

-- how many flushes are to come where pages are written for this: a line's own, or that of the line
-- that needs a page
abbrev pub syncs_for : PlainPurpose → (flushes : ℕ) → ℕ
syncs_for purposes.Line flushes = 1
syncs_for (purposes.Page lock end) flushes = flushes

-- and behind that writing
abbrev pub syncs_behind : PlainPurpose → (flushes : ℕ) → ℕ
syncs_behind purposes.Line flushes = 0
syncs_behind (purposes.Page lock end) flushes = flushes

-- how many syncs the line under way can still need, which flushes so often: that of a segment that
-- is full, and that of its flush
abbrev pub syncs_ahead : PlainDoing → (flushes : ℕ) → ℕ
syncs_ahead doings.FlushBegins flushes = 1
syncs_ahead doings.LoadsPosition flushes = 1
syncs_ahead doings.LoadsFlushed flushes = 1
syncs_ahead doings.LoadsMoment flushes = 0
syncs_ahead (doings.Visits purpose lock) flushes = syncs_for purpose flushes
syncs_ahead (doings.TakesTurn purpose) flushes = syncs_for purpose flushes
syncs_ahead (doings.LoadsDown purpose) flushes = syncs_for purpose flushes
syncs_ahead (doings.TakesOut purpose) flushes = syncs_for purpose flushes
syncs_ahead (doings.LoadsPage purpose loaded) flushes = syncs_for purpose flushes
syncs_ahead (doings.Creates purpose) flushes = syncs_for purpose flushes
syncs_ahead (doings.Writes purpose) flushes = syncs_for purpose flushes
syncs_ahead (doings.SyncsFull purpose) flushes = syncs_for purpose flushes + 1
syncs_ahead doings.SyncsLast flushes = 1
syncs_ahead (doings.StoresWritten purpose) flushes = syncs_behind purpose flushes
syncs_ahead doings.StoresMoment flushes = 0
syncs_ahead doings.StoresFlushed flushes = 0
syncs_ahead (doings.SetsDown purpose) flushes = syncs_behind purpose flushes
syncs_ahead (doings.PutsBack purpose failed) flushes = syncs_behind purpose flushes
syncs_ahead (doings.GivesWriteTurn purpose failed) flushes = syncs_behind purpose flushes
syncs_ahead other flushes = flushes

-- with those of the lines behind it, and of all backends
abbrev pub syncs_under_way : PlainDoing → Rattle.std.specs.Prelude.Option PlainLine → ℕ
syncs_under_way doing None = 0
syncs_under_way doing (Some line) = syncs_ahead doing (flushes_of_line line)

abbrev pub syncs_left : PlainBackend → ℕ
syncs_left lane = syncs_under_way lane.doing (slice_get lane.script lane.answered)
    + flushes_of_lines (drop (lane.answered + 1) lane.script)

abbrev pub all_syncs_left : List PlainBackend → ℕ
all_syncs_left [] = 0
all_syncs_left (lane ∷ lanes) = syncs_left lane + all_syncs_left lanes

-- how many calls a log that ends at an address can still need, with records that are reserved up to
-- these byte positions: for the segments that are not made and those that are not full, for the
-- pages and the records that are not written, for so many lines, each of which may still reserve a
-- record, and for so many syncs
abbrev pub calls_needed : (size end : ℕ) → List ℕ → Plain → (lines syncs : ℕ) → ℕ
calls_needed size end ends w lines syncs = end / size - w.made + (end / size - w.written / size)
    + (end / 8192 - w.written / 8192 + ends_above size ends w.written + lines) + syncs

-- all goes by marks, and until a call fails the disk has room for the calls that are left
pub record HasCallRoom (size : ℕ) (words : List ℕ) (w : WriterState) (lanes : List PlainBackend)
    : Type 0 where
  pub ends : List ℕ
  pub tell : TellMarks size ends words
  pub go : (number : ℕ) (lane : PlainBackend) → slice_get lanes number ≡ Some lane
      → GoesByMarks size ends lane.view lane.doing
  pub written : IsMark size ends (w.plain).written
  pub room : (w.plain).fault ≡ none
      → calls_needed size w.end ends w.plain (all_lines_left lanes) (all_syncs_left lanes) ≤ w.room

-- ---- a turn

-- the plain data behind a turn of backend number b
abbrev pub core_behind : CoreState → ℕ → PlayedTurn → CoreState
core_behind core number p = record core {
  words = record core.words { words = p.words };
  writer = p.writer;
  lanes = set core.lanes number p.lane;
  full = core.full || p.full;
}

-- ---- all of it

-- the plain data are those of a machine that runs, over a log that held nothing when it was opened
pub record PlaysMachine (core : CoreState) (m : Machine) : Type 0 where
  pub running : IsRunning m
  pub first_is : m.first ≡ (core.writer).first
  pub setup_is : (m.opening).setup ≡ core.setup
  pub since : (m.opening).moment ≡ 0
  pub unfailed : (m.opening).faults ≡ 0
  pub words_are : (m.state).words ≡ (core.words).words
  pub pages_are : (core.words).pages ≡ core.setup.ring_pages
  pub size_is : (core.writer).size ≡ core.setup.seg_size
  pub failing_are : m.failing ≡ (core.writer).failing
  pub page_whole : length (core.writer).page ≡ 8192
  pub writer_is : IsWriterOf (core.writer).plain (m.state).home (m.state).views
  pub lanes : (number : ℕ) (b : Backend) → HasBackend m number b → HasLaneOf core m number b
  pub count : length core.lanes ≡ length m.backends
  pub full_is : m.full ≡ core.full
  pub room : HasRoomFor core
  pub calls : HasCallRoom core.setup.seg_size (core.words).words core.writer core.lanes

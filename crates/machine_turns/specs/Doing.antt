-- What a backend of the machine is about: its lines, and its place in the order of its steps
-- (PostgreSQL's xlog.c, XLogInsertRecord and XLogFlush). An insert holds its lock from `Reserves`
-- to `Releases`, and its record is in flight from the last of its reservation on. It has the turn
-- to map only from `Maps` to `GivesTurn`, and gives it back before it writes pages itself. Who
-- writes has the turn to write from `LoadsDown` to `GivesWriteTurn`, and between the writer. So a
-- backend that waits has at most its lock and its record.
use Rattle.std.specs.Prelude.{ℕ, Bool, List}
use mathlib.Core.Option.{Option}
use Rattle.wal_types.specs.declared.record.Record.{Record}
use Rattle.segment_disk.specs.Tape.{DiskState}
use Rattle.machine_state.specs.Words.{Opening}
use Rattle.machine_state.specs.Steps.{State}

-- what a line asks for
pub data Ask : Type 0 where
  Inserts : Record → Ask
  Commits : Record → Ask
  Flushes : Ask

-- what pages are written for: a line that flushes; or an insert that holds this lock, and needs the
-- buffer of a page that ends at this address
pub data Purpose : Type 0 where
  ForLine : Purpose
  ForPage : (lock end : ℕ) → Purpose

-- a backend's next step. An insert, under the lock that it holds:
pub data Doing : Type 0 where
  -- it loads down; so many locks were found taken; it reserves, as far as its view says
  Begins : Doing
  Tries : ℕ → Doing
  Reserves : (lock : ℕ) → Doing
  -- it loads the end of its next word's page; stores the word; maps a page, as far as its view
  -- says; gives the turn back, and then writes up to the end of a page, if one is named
  Looks : (lock : ℕ) → Doing
  Copies : (lock : ℕ) → Doing
  Maps : (lock : ℕ) → Doing
  GivesTurn : (lock : ℕ) → Option ℕ → Doing
  -- it tells how far it is; it releases its lock, the log being full or not
  Tells : (lock end : ℕ) → Doing
  Releases : (lock : ℕ) → Bool → Doing
  -- A flush: it loads down, the position, the flushed address, and the moment where this suffices
  FlushBegins : Doing
  LoadsPosition : Doing
  LoadsFlushed : Doing
  LoadsMoment : Doing
  -- it visits the locks, takes the turn to write, loads down again, takes the writer out
  Visits : Purpose → ℕ → Doing
  TakesTurn : Purpose → Doing
  LoadsDown : Purpose → Doing
  TakesOut : Purpose → Doing
  -- page by page it loads the words; makes the segment; writes the page; syncs a segment that is
  -- full; and at the end the one under way
  LoadsPage : Purpose → ℕ → Doing
  Creates : Purpose → Doing
  Writes : Purpose → Doing
  SyncsFull : Purpose → Doing
  SyncsLast : Doing
  -- it stores what it did, or that the disk failed; puts the writer back, and gives the turn back
  StoresWritten : Purpose → Doing
  StoresMoment : Doing
  StoresFlushed : Doing
  SetsDown : Purpose → Doing
  PutsBack : Purpose → Bool → Doing
  GivesWriteTurn : Purpose → Bool → Doing

-- a backend: its lines, how many are answered, and its next step
pub record Backend : Type 0 where
  pub asks : List Ask
  pub answered : ℕ
  pub doing : Doing

-- the machine with its backends, of which number b steps with view b + 1: what its disk held at
-- first, the counted calls that fail, by their numbers from 1, and whether a line was answered that
-- the log is full
pub record Machine : Type 0 where
  pub first : DiskState
  pub opening : Opening
  pub state : State
  pub failing : List ℕ
  pub backends : List Backend
  pub full : Bool

-- The insertion locks, the two turns, and what a lock's word tells of its holder's copy
-- (PostgreSQL's xlog.c, WALInsertLockAcquire, WALInsertLockRelease and
-- WALInsertLockUpdateInsertingAt; WALBufMappingLock and WALWriteLock). A lock or a turn is taken by
-- one exchange of a word that is 0, and only its holder stores into the word: so none has two
-- holders. A lock's word may tell less than is copied, and never more, and of a holder that has no
-- record yet an address that its record will not begin below: on that a watcher rests. A segment
-- switch is copied under all eight, so no other record comes in flight beside it. The writer is at
-- home, or in the hand of the one that has the turn to write.
use Rattle.std.specs.Prelude.{◌≡◌, ◌≢◌, ℕ, ◌+◌, ◌<◌, ◌≤◌, IsTrue, List, Contains, if◌then◌else◌}
use mathlib.Core.Option.{Option, none, some}
use Rattle.wal_spelling.specs.Record.{is_switch}
use Rattle.wal_page.specs.EntryWords.{address_of_word, words_owned}
use Rattle.machine_state.specs.Views.{HasAt, Copy, Flight, Landed, Copying, Working, is_among, AreSomeOf, Stage, Away, Taken, Looked, Ready, Zeroing, Published, Plain, Hold, Idle, Turned, Out}

-- ---- the insertion locks

-- A lock's word is not 0 exactly where one view holds the lock, and no two hold it: `holder` says
-- which. An entry in flight stands under locks that its view holds, at least one
pub record AreHeld (lock : ℕ → ℕ) (parts : List Working) : Type 0 where
  pub holder : ℕ → ℕ
  pub each : (id i : ℕ) (w : Working) → HasAt parts id w → Contains w.locks i
      → (i < 8) × (holder i ≡ id) × (lock i ≢ 0)
  pub held : (i : ℕ) → i < 8 → lock i ≢ 0
      → (w : Working) × HasAt parts (holder i) w × Contains w.locks i
  pub under : (id : ℕ) (w : Working) (c : Copy) → HasAt parts id w → w.flight ≡ Copying c
      → AreSomeOf c.locks w.locks

-- the most that a held lock's word may be. Of an entry that stands under it: one more than the
-- address of its next word to copy, behind the last one where none is left. Where none does: one
-- more than the reserved end, since any entry that comes under it starts there or above
abbrev pub most_told : (size end lock : ℕ) → Flight → ℕ
most_told size end lock Landed = end + 1
most_told size end lock (Copying c) =
    if is_among c.locks lock then address_of_word size c.entry c.copied + 1 else end + 1

-- no lock's word tells more than is copied; `end` is the order's end, as an address
abbrev pub ProgressHolds : (size end : ℕ) → (ℕ → ℕ) → List Working → Type 0
ProgressHolds size end lock parts =
    (id i : ℕ) (w : Working) → HasAt parts id w → Contains w.locks i
    → lock i ≤ most_told size end i w.flight

-- a segment switch of which a word is still to be copied stands under all eight locks
abbrev pub StandsAlone : (size : ℕ) → Flight → Type 0
StandsAlone size flight = (c : Copy) → flight ≡ Copying c → IsTrue (is_switch (c.entry).value)
    → c.copied < words_owned size c.entry → (lock : ℕ) → lock < 8 → Contains c.locks lock

abbrev pub SwitchesStandAlone : (size : ℕ) → List Working → Type 0
SwitchesStandAlone size parts = (id : ℕ) (w : Working) → HasAt parts id w
    → StandsAlone size w.flight

-- ---- the turn to map a page

abbrev pub HasTurn : Stage → Type 0
HasTurn Away = ⊥
HasTurn Taken = Unit {0}
HasTurn (Looked at) = Unit {0}
HasTurn (Ready at written) = Unit {0}
HasTurn (Zeroing at count) = Unit {0}
HasTurn (Published at) = Unit {0}

-- The turn's word is 0, or one more than the number of the one view that has the turn. `stage` is
-- how far that one is. A mapper is a view's number and its stage
pub record IsMappingTurn (turn : ℕ) (stage : Stage) (mappers : List (ℕ × Stage)) : Type 0 where
  pub holder : ℕ
  pub each : (id : ℕ) (m : ℕ × Stage) → HasAt mappers id m → HasTurn m.1
      → (holder ≡ id) × (stage ≡ m.1) × (turn ≡ m.0 + 1)
  pub held : turn ≢ 0 → (m : ℕ × Stage) × HasAt mappers holder m × HasTurn m.1
  pub free : turn ≡ 0 → stage ≡ Away

-- ---- the turn to write

-- how a view stands to the writer: at home it is as it is, and with the turn's holder it is as this
-- one keeps it
module _ (turn holder : ℕ) (home : Option Plain) (writer : Plain) (id number : ℕ) where
  abbrev pub StandsTo : Hold → Type 0
  StandsTo Idle = Unit {0}
  StandsTo Turned = (turn ≡ number + 1) × (holder ≡ id) × (home ≡ some writer)
  StandsTo (Out l) =
      (turn ≡ number + 1) × (holder ≡ id) × (home ≡ none) × (l.writer ≡ writer)

abbrev pub HasWriteTurn : Hold → Type 0
HasWriteTurn Idle = ⊥
HasWriteTurn Turned = Unit {0}
HasWriteTurn (Out l) = Unit {0}

-- The turn's word is 0, or one more than the number of the one view that has the turn; only that
-- one has the writer in hand. `writer` is the writer, wherever it is
pub record IsWriteTurn (turn : ℕ) (home : Option Plain) (writer : Plain)
    (writers : List (ℕ × Hold)) : Type 0 where
  pub holder : ℕ
  pub each : (id : ℕ) (w : ℕ × Hold) → HasAt writers id w
      → StandsTo turn holder home writer id w.0 w.1
  pub held : turn ≢ 0 → (w : ℕ × Hold) × HasAt writers holder w × HasWriteTurn w.1
  pub free : turn ≡ 0 → home ≡ some writer

-- ---- all of them

pub record LocksHold (lock : ℕ → ℕ) (parts : List Working)
    (map_turn : ℕ) (stage : Stage) (mappers : List (ℕ × Stage))
    (write_turn : ℕ) (home : Option Plain) (writer : Plain) (writers : List (ℕ × Hold)) : Type 0
  where
    pub locks : AreHeld lock parts
    pub mapping : IsMappingTurn map_turn stage mappers
    pub writing : IsWriteTurn write_turn home writer writers

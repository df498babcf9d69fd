-- How a backend's view stands at its place in the order of steps, and a machine that runs. What
-- `StandsToDo` says of a view at a place gives what the step of that place rests on (`MayStep` of
-- machine_state), and each step leaves it for the place behind: so in a machine that runs the order
-- never names a step that a view does not let its pass make.
use Rattle.std.specs.Prelude.{◌≡◌, ◌≢◌, ◌⊎◌, ℕ, zero, suc, ◌+◌, ◌*◌, ◌/◌, ◌%◌, ◌<◌, ◌≤◌, Bool, true, false, All, List, [], ◌∷◌, length, slice_get, slice_index, Some}
use mathlib.Core.Option.{none, some}
use Rattle.byte_position.specs.Geometry.{pages_of}
use Rattle.wal_spelling.specs.Spelling.{IsWritable}
use Rattle.wal_page.specs.EntryWords.{address_of_word, words_owned}
use Rattle.machine_state.specs.declared.setup.Setup.{Setup}
use Rattle.machine_state.specs.Words.{down_word}
use Rattle.machine_state.specs.Views.{Place, Free, Locked, Loaded, Stored, Copy, Flight, Landed, Copying, Stage, Away, Taken, Looked, Ready, Zeroing, Published, Plain, Lent, Hold, Idle, Turned as HasTurned, Out, View}
use Rattle.machine_state.specs.Failed.{KnowsOfFault}
use Rattle.machine_state.specs.Paged.{IsOpen}
use Rattle.machine_state.specs.Steps.{IsLive, IsResting, Makes, load_down}
use Rattle.machine_state.specs.Sound.{IsSound}
use Rattle.machine_turns.specs.Doing.{Ask, Inserts, Commits, Flushes, Purpose, ForLine, ForPage, Doing, Begins, Tries, Reserves, Looks, Copies, Maps, GivesTurn, Tells, Releases, FlushBegins, LoadsPosition, LoadsFlushed, LoadsMoment, Visits, TakesTurn, LoadsDown, TakesOut, LoadsPage, Creates, Writes, SyncsFull, SyncsLast, StoresWritten, StoresMoment, StoresFlushed, SetsDown, PutsBack, GivesWriteTurn, Backend, Machine}
use Rattle.machine_laws.specs.Runs.{Runs}
use Rattle.machine_turns.specs.Turned.{TurnMade, Moved, Waits, AllDone, IsDown, fits, machine_behind}

-- ---- what a line asks for

-- the record that a line inserts can be written; a flush has none
abbrev pub IsRecord : Ask → Type 0
IsRecord (Inserts value) = IsWritable value
IsRecord (Commits value) = IsWritable value
IsRecord Flushes = ⊥

abbrev pub IsLine : Ask → Type 0
IsLine Flushes = Unit {0}
IsLine other = IsRecord other

-- ---- the writer

-- the segment that is written next
abbrev pub segment_next : ℕ → Plain → ℕ
segment_next size w = w.written / 8192 / pages_of size

-- nothing waits for a sync but writes to that segment, which is made
abbrev pub AwaitsOne : ℕ → Plain → Type 0
AwaitsOne size w = (w.waiting ≡ none)
    ⊎ ((w.waiting ≡ some (segment_next size w)) × (segment_next size w ≤ w.made))

-- no call failed
pub record IsWriterUp (size : ℕ) (w : Plain) : Type 0 where
  pub up : w.fault ≡ none
  pub awaits : AwaitsOne size w

-- the words that were loaded last, the latest first, are so many first words of a page
abbrev pub AreLoaded : ℕ → ℕ → List (ℕ × ℕ) → Type 0
AreLoaded page zero staged = Unit {0}
AreLoaded page (suc k) [] = ⊥
AreLoaded page (suc k) (s ∷ ss) = (s.0 ≡ page * 1024 + k) × AreLoaded page k ss

-- a page is left to write, and so many of its words are loaded
pub record LoadsOn (size k : ℕ) (l : Lent) : Type 0 where
  pub writer_up : IsWriterUp size l.writer
  pub left : (l.writer).written < l.known
  pub loaded : AreLoaded ((l.writer).written / 8192) k l.staged

-- a call failed, by a count of faults that is not 0
abbrev pub IsFailed : Lent → Type 0
IsFailed l = (f : ℕ) × ((l.writer).fault ≡ some (suc f))

abbrev pub IsSynced : Lent → Type 0
IsSynced l = ((l.writer).fault ≡ none) × ((l.writer).waiting ≡ none)

abbrev pub AwaitsSync : Lent → Type 0
AwaitsSync l = ((l.writer).fault ≡ none)
    × ((segment : ℕ) × ((l.writer).waiting ≡ some segment))

abbrev pub IsStored : Lent → Type 0
IsStored l = l.stored ≡ (l.writer).written

-- ---- a view

-- where a view is with a reservation, with its locks and its copy, with mapping and with the turn
-- to write
pub record IsPosed (place : Place) (locks : List ℕ) (flight : Flight) (stage : Stage) (hold : Hold)
    (v : View) : Type 0 where
  pub place_is : (v.reserving).place ≡ place
  pub locks_are : (v.working).locks ≡ locks
  pub flight_is : (v.working).flight ≡ flight
  pub stage_is : (v.mapping).stage ≡ stage
  pub hold_is : (v.writing).hold ≡ hold

-- an entry, which starts at a whole word, is copied under this one lock
pub record IsUnder (lock : ℕ) (c : Copy) : Type 0 where
  pub locks_are : c.locks ≡ lock ∷ []
  pub whole : (c.entry).start % 8 ≡ 0

-- one that is copied on, on a page whose end was met
abbrev pub IsLeft : ℕ → Copy → Type 0
IsLeft size c = c.copied < words_owned size c.entry

abbrev pub IsMet : ℕ → ℕ → Copy → Type 0
IsMet size confirmed c =
    (address_of_word size c.entry c.copied / 8192 + 1) * 8192 ≤ confirmed

abbrev pub IsAllCopied : ℕ → Copy → Type 0
IsAllCopied size c = c.copied ≡ words_owned size c.entry

module _ (v : View) where
  abbrev setup : Setup
  setup = (v.opening).setup

  abbrev size : ℕ
  size = setup.seg_size

  -- at a line's begin: about nothing, or at a failed disk
  abbrev pub MayBegin : Type 0
  MayBegin = IsResting v ⊎ KnowsOfFault v

  -- behind a position that it locked the record fits
  abbrev pub IsReserving : Ask → Place → Type 0
  IsReserving ask Free = Unit {0}
  IsReserving ask (Locked at) = Unit {0}
  IsReserving ask (Loaded at prev) = fits v ask at ≡ true
  IsReserving ask (Stored at prev) = fits v ask at ≡ true

  -- it copies an entry under this lock
  abbrev pub CopiesUnder : ℕ → Stage → Hold → (Copy → Type 0) → Type 0
  CopiesUnder lock stage hold P = (c : Copy) × IsPosed Free (lock ∷ []) (Copying c) stage hold v
      × IsUnder lock c × P c

  -- with the page that it maps: the one that the buffer held is written; not too much is zeroed
  abbrev pub MapsOn : Stage → Type 0
  MapsOn Away = Unit {0}
  MapsOn Taken = Unit {0}
  MapsOn (Looked at) = Unit {0}
  MapsOn (Ready at written) = at + 8192 ≤ written + setup.ring_pages * 8192
  MapsOn (Zeroing at count) = count ≤ 1024
  MapsOn (Published at) = Unit {0}

  -- it writes, for a line that flushes or for an insert
  abbrev pub WritesFor : Purpose → Ask → Hold → Type 0
  WritesFor ForLine ask hold = IsPosed Free [] Landed Away hold v
  WritesFor (ForPage lock end) ask hold =
      CopiesUnder lock Away hold (IsLeft size) × IsRecord ask

  -- with the writer in hand
  abbrev pub HasWriter : Purpose → Ask → (Lent → Type 0) → Type 0
  HasWriter purpose ask P = (l : Lent) × WritesFor purpose ask (Out l) × P l

  -- ---- at each place

  abbrev pub IsSyncedFor : Purpose → Lent → Type 0
  IsSyncedFor ForLine l = IsSynced l
  IsSyncedFor (ForPage lock end) l = IsWriterUp size l.writer

  abbrev pub StandsToRelease : ℕ → Ask → Bool → Type 0
  StandsToRelease lock ask true = IsPosed Free (lock ∷ []) Landed Away Idle v
  StandsToRelease lock ask false = CopiesUnder lock Away Idle (IsAllCopied size) × IsRecord ask

  abbrev pub StandsToPut : Purpose → Ask → Bool → Type 0
  StandsToPut purpose ask false =
      HasWriter purpose ask (λ l. IsWriterUp size l.writer × IsStored l)
  StandsToPut purpose ask true = HasWriter purpose ask IsFailed × ((v.writing).down_set ≢ 0)

  abbrev pub StandsToGive : Purpose → Ask → Bool → Type 0
  StandsToGive purpose ask false = WritesFor purpose ask HasTurned
  StandsToGive purpose ask true =
      WritesFor purpose ask HasTurned × ((v.writing).down_set ≢ 0)

  abbrev pub StandsToDo : Doing → Ask → Type 0
  StandsToDo Begins ask = MayBegin × IsRecord ask
  StandsToDo (Tries n) ask = IsPosed Free [] Landed Away Idle v × IsRecord ask
  StandsToDo (Reserves lock) ask = ((p : Place) × IsPosed p (lock ∷ []) Landed Away Idle v
      × IsReserving ask p) × IsRecord ask
  StandsToDo (Looks lock) ask = CopiesUnder lock Away Idle (IsLeft size) × IsRecord ask
  StandsToDo (Copies lock) ask = CopiesUnder lock Away Idle (λ c.
      IsLeft size c × IsMet size (v.mapping).confirmed c) × IsRecord ask
  StandsToDo (Maps lock) ask = ((s : Stage) × CopiesUnder lock s Idle (IsLeft size) × MapsOn s)
      × IsRecord ask
  StandsToDo (GivesTurn lock end) ask = ((s : Stage) × CopiesUnder lock s Idle (IsLeft size)
      × IsOpen s) × IsRecord ask
  StandsToDo (Tells lock end) ask = CopiesUnder lock Away Idle (IsLeft size) × IsRecord ask
  StandsToDo (Releases lock full) ask = StandsToRelease lock ask full
  StandsToDo FlushBegins ask = MayBegin
  StandsToDo LoadsPosition ask = IsPosed Free [] Landed Away Idle v
  StandsToDo LoadsFlushed ask = IsPosed Free [] Landed Away Idle v
  StandsToDo LoadsMoment ask = IsPosed Free [] Landed Away Idle v
  StandsToDo (Visits purpose lock) ask = WritesFor purpose ask Idle × (lock < 8)
  StandsToDo (TakesTurn purpose) ask = WritesFor purpose ask Idle
  StandsToDo (LoadsDown purpose) ask = WritesFor purpose ask HasTurned
  StandsToDo (TakesOut purpose) ask = WritesFor purpose ask HasTurned
  StandsToDo (LoadsPage purpose k) ask = HasWriter purpose ask (LoadsOn size k) × (k < 1024)
  StandsToDo (Creates purpose) ask = HasWriter purpose ask (λ l.
      LoadsOn size 1024 l × ((l.writer).made < segment_next size l.writer))
  StandsToDo (Writes purpose) ask = HasWriter purpose ask (λ l.
      LoadsOn size 1024 l × (segment_next size l.writer ≤ (l.writer).made))
  StandsToDo (SyncsFull purpose) ask = HasWriter purpose ask AwaitsSync
  StandsToDo SyncsLast ask = HasWriter ForLine ask AwaitsSync
  StandsToDo (StoresWritten purpose) ask = HasWriter purpose ask (IsSyncedFor purpose)
  StandsToDo StoresMoment ask = HasWriter ForLine ask (λ l. IsSynced l × IsStored l)
  StandsToDo StoresFlushed ask = HasWriter ForLine ask (λ l.
      IsSynced l × IsStored l × (l.hard ≡ (l.writer).written))
  StandsToDo (SetsDown purpose) ask = HasWriter purpose ask IsFailed
  StandsToDo (PutsBack purpose failed) ask = StandsToPut purpose ask failed
  StandsToDo (GivesWriteTurn purpose failed) ask = StandsToGive purpose ask failed

-- ---- a machine that runs

-- a backend with a line left, which is this one, stands where it is
abbrev pub HasLeft : Backend → Ask → Type 0
HasLeft b ask = slice_get b.asks b.answered ≡ Some ask

abbrev pub StandsFor : Backend → View → Type 0
StandsFor b v = (ask : Ask) → HasLeft b ask → StandsToDo v b.doing ask

-- who is to take the writer out knows of no failed disk, and who is to set the down word is the
-- first one to do so: the down word is 0
abbrev pub UpFor : Doing → ℕ → Type 0
UpFor (TakesOut purpose) down = down ≡ 0
UpFor (SetsDown purpose) down = down ≡ 0
UpFor other down = Unit {0}

abbrev pub HasBackend : Machine → ℕ → Backend → Type 0
HasBackend m number b = slice_get m.backends number ≡ Some b

-- Its state keeps the invariant; each backend's lines can be written, and its view, number b's at
-- b + 1, is live and stands at its place. The writer at home, unless a call failed, awaits a sync
-- of one segment at most, and who is to take it out has met no failed disk; and who is to set the
-- down word is the first one
pub record IsRunning (m : Machine) : Type 0 where
  pub sound : IsSound m.first m.opening (m.state).words (m.state).home (m.state).views
  pub lines : (number : ℕ) (b : Backend) → HasBackend m number b → All IsLine b.asks
  pub views : (number : ℕ) (b : Backend) → HasBackend m number b
      → (v : View) × IsLive m.state (number + 1) v × StandsFor b v
  pub at_home : (w : Plain) → (m.state).home ≡ some w → w.fault ≡ none
      → AwaitsOne ((m.opening).setup).seg_size w
  pub up : (number : ℕ) (b : Backend) (ask : Ask) → HasBackend m number b → HasLeft b ask
      → UpFor b.doing (down_word (m.state).words)

-- what a turn of a backend tells is so: its view made a step of this kind; it waits for this word,
-- which holds this value, and no disk has failed; all its lines are answered; or the disk has
-- failed, as the load of the down word shows. A backend that waits or is done changes nothing
abbrev pub IsTurnTold : Machine → ℕ → TurnMade → Machine → Type 0
IsTurnTold m number (Moved e) n = (met : ℕ) × Makes (number + 1) e met m.state n.state
IsTurnTold m number (Waits on value) n =
    (n ≡ m) × (value ≡ slice_index (m.state).words on) × (down_word (m.state).words ≡ 0)
IsTurnTold m number AllDone n =
    (n ≡ m) × ((b : Backend) (ask : Ask) → HasBackend m number b → HasLeft b ask → ⊥)
IsTurnTold m number (IsDown faults) n = (faults ≢ 0) × (faults ≡ down_word (m.state).words)
    × ((met : ℕ) × Makes (number + 1) load_down met m.state n.state)

-- behind a schedule the state is that of a run of at most as many steps
abbrev pub RunsOn : Machine → List ℕ → Type 0
RunsOn m schedule =
    (n : ℕ) × (n ≤ length schedule) × Runs n m.state (machine_behind m schedule).state

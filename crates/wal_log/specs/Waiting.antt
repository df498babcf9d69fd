-- What a call that waits has looked at and asked for, in each turn of its loop.
use Rattle.std.specs.Prelude.{◌≡◌, ◌≢◌, ◌⊎◌, ℕ, ◌/◌, ◌<◌, ◌≤◌, Contains, List, Option}
use Rattle.segment_disk.specs.Tape.{Tape}
use Rattle.wal_page.specs.Placed.{PlacedState}
use Rattle.machine_state.specs.declared.setup.Setup.{Setup}
use Rattle.machine_state.specs.Steps.{load_down}
use Rattle.machine_state.specs.Views.{View}
use Rattle.machine_state.specs.Words.{end_form}
use Rattle.wal_rule.specs.declared.seated.SeatedPass.{SeatedPass}
use Rattle.wal_rule.specs.SeatedPasses.{view_of}
use Rattle.wal_rule.specs.Stepping.{Meets}
use Rattle.word_ring.specs.Ring.{end_of_page}
use Rattle.wal_log.specs.declared.copying.Absent.{Absent}
use Rattle.wal_log.specs.Copying.{TellsAbsent}
use Rattle.wal_log.specs.Standing.{KeepsPass}
use Rattle.wal_log.specs.Writing.{IsHeldUp, WritesCopied}

-- in a call before which its pass had this view, and behind which it has that one, it looked
-- whether the disk has failed, and met 0 as the down value
pub record FindsUp (old new : View) : Type 0 where
  pub view : View
  pub since : KeepsPass old view
  pub until : KeepsPass view new
  pub met : Meets view load_down 0

-- ---- for a page

-- a copy that needs a page's buffer asks to write up to this address: to the end, at least, of the
-- page on which the written address lies, which is the next one to be replaced; and to no more than
-- the copy has told, since its own lock would hold it back there
pub record AsksForRoom (absent : Absent) (placed : PlacedState) (upto : ℕ) : Type 0 where
  pub replaced : end_of_page (absent.written / 8192) ≤ upto
  pub told : upto ≤ placed.next

-- a page was absent. Somebody had the turn to map, and the disk was looked at. Or the copy asked to
-- write: that is done, or the turn to write or a lock was in the way, and the disk was looked at
-- behind that
abbrev pub WaitsForPage : {D : Type 0} → (D → Option Tape) → (moment faults : D → ℕ)
    → PlacedState → Absent → View → SeatedPass D → Type 0
WaitsForPage tape moment faults placed absent old p =
    ((absent.turn ≢ 0) × FindsUp old (view_of p))
    ⊎ ((absent.turn ≡ 0) × (upto : ℕ) × AsksForRoom absent placed upto
    × (WritesCopied tape moment faults upto old p
    ⊎ ((held : View) × KeepsPass old held × IsHeldUp upto held × FindsUp held (view_of p))))

-- a turn of a copy that has words left: some were copied, or the page of the next one was met
-- absent, and it waited for that
abbrev pub CopiesOrWaits : {D : Type 0} → (D → Option Tape) → (moment faults : D → ℕ) → Setup
    → (before after : PlacedState) → View → SeatedPass D → Type 0
CopiesOrWaits tape moment faults setup before after old p = (before.next < after.next)
    ⊎ ((absent : Absent) × (met asked : View) × TellsAbsent setup (after.next / 8192) met absent
    × KeepsPass old asked × WaitsForPage tape moment faults after absent asked p)

-- ---- for locks

-- the end of what the view has seen reserved was told under each of these locks
pub record IsSeenTold (locks : List ℕ) (v : View) : Type 0 where
  pub told : v.told ≡ end_form (v.opening).setup (v.reserving).seen
  pub each : (lock : ℕ) → Contains locks lock → Contains v.told_under lock

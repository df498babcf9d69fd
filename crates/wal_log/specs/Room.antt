-- Whether room is made ahead, and what making it leaves.
use Rattle.std.specs.Prelude.{◌⊎◌, ℕ, ◌+◌, ◌-◌, ◌*◌, ◌/◌, ◌%◌, ◌<◌, ◌≤◌, Option}
use Rattle.segment_disk.specs.Tape.{Tape}
use Rattle.machine_state.specs.declared.setup.Setup.{Setup}
use Rattle.machine_state.specs.Steps.{load_buffer_end}
use Rattle.machine_state.specs.Views.{View}
use Rattle.wal_rule.specs.declared.seated.SeatedPass.{SeatedPass}
use Rattle.wal_rule.specs.SeatedPasses.{setup_of, view_of}
use Rattle.wal_rule.specs.Stepping.{Meets}
use Rattle.word_ring.specs.Mapped.{MapsAhead}
use Rattle.wal_log.specs.Copying.{MapsPage}
use Rattle.wal_log.specs.Hands.{MeetsFreeWriteTurn, MeetsWriteTurn}
use Rattle.wal_log.specs.Standing.{ComesToRest}
use Rattle.wal_log.specs.Writing.{IsHeldUp, WritesCopied}

-- ---- whether it is

-- a page was mapped: the end word of its buffer was met, and lies behind the page's start. So it is
-- the page's own end, or that of a later page
pub record MeetsMapped (setup : Setup) (page : ℕ) (v : View) : Type 0 where
  pub end : ℕ
  pub met : Meets v (load_buffer_end (page % setup.ring_pages)) end
  pub behind : page * 8192 < end

-- it was not: what was met does not lie behind its start
pub record MeetsUnmapped (setup : Setup) (page : ℕ) (v : View) : Type 0 where
  pub end : ℕ
  pub met : Meets v (load_buffer_end (page % setup.ring_pages)) end
  pub before : end ≤ page * 8192

-- nothing is to be done for a page: it was met mapped; or not, and then the turn to write was
-- somebody's
abbrev pub IsSeenTo : Setup → (page : ℕ) → (old new : View) → Type 0
IsSeenTo setup page old new = MeetsMapped setup page old
    ⊎ (MeetsUnmapped setup page old × ((turn : ℕ) × MeetsWriteTurn turn new))

-- something is: it was met not mapped, and then the turn to write was nobody's
abbrev pub IsToBeSeenTo : Setup → (page : ℕ) → (old new : View) → Type 0
IsToBeSeenTo setup page old new = MeetsUnmapped setup page old × MeetsFreeWriteTurn new

-- ---- making it

-- half a ring behind a page
abbrev pub page_ahead : Setup → ℕ → ℕ
page_ahead setup page = page + setup.ring_pages / 2

-- where the page ends that is in the way of another one: the one of its buffer, a ring before it
abbrev pub end_in_the_way : Setup → ℕ → ℕ
end_in_the_way setup page = (page + 1 - setup.ring_pages) * 8192

-- so many pages are mapped ahead at most
abbrev pub most_ahead : ℕ
most_ahead = 32

-- all that a pass knew to be copied was written, behind which it is `written`; and then pages were
-- mapped, as many as may be at most, unless the turn to map was somebody's, or a page that had to
-- go from its buffer was not all written. No more has changed since than what that changes
pub record WritesAndMaps {D : Type 0} (tape : D → Option Tape) (moment faults : D → ℕ) (upto : ℕ)
    (old new : SeatedPass D) : Type 0 where
  pub written : SeatedPass D
  pub writes : WritesCopied tape moment faults upto (view_of old) written
  pub maps : MapsPage written new
  pub ahead : MapsAhead (setup_of written) most_ahead (view_of written) (view_of new)

-- room was made for a page: it was met mapped; or not, and then the turn to write was taken, or a
-- lock's holder had not copied up to the end of the page in the way, or all that was known to be
-- copied was written, and pages were mapped
abbrev pub MakesRoom : {D : Type 0} → (D → Option Tape) → (moment faults : D → ℕ) → (page : ℕ)
    → (old new : SeatedPass D) → Type 0
MakesRoom tape moment faults page old new = MeetsMapped (setup_of old) page (view_of old)
    ⊎ (MeetsUnmapped (setup_of old) page (view_of old)
    × (IsHeldUp (end_in_the_way (setup_of old) page) (view_of new)
    ⊎ WritesAndMaps tape moment faults (end_in_the_way (setup_of old) page) old new))

-- and so it was behind a record, once that was whole and its locks given back
pub record MakesRoomBehind {D : Type 0} (tape : D → Option Tape) (moment faults : D → ℕ) (page : ℕ)
    (old new : SeatedPass D) : Type 0 where
  pub landed : SeatedPass D
  pub rests : ComesToRest old landed
  pub makes : MakesRoom tape moment faults page landed new

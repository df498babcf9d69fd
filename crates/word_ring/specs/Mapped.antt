-- A try to map the next page, or several: what it leaves of its pass's view, and when it maps none.
use Rattle.std.specs.Prelude.{◌≡◌, ◌≢◌, ◌⊎◌, ℕ, ◌+◌, ◌*◌, ◌<◌, ◌≤◌, zero, suc}
use mathlib.Core.Option.{none}
use Rattle.machine_state.specs.declared.setup.Setup.{Setup}
use Rattle.machine_state.specs.Views.{Stage, View}
use Rattle.machine_state.specs.Views as stages
use Rattle.machine_state.specs.Steps.{load_initialised_end, load_written, take_mapping_turn, view_behind}
use Rattle.wal_rule.specs.Stepping.{Meets}
use Rattle.word_ring.specs.Ring.{confirmed_view, end_of_page}
use Rattle.word_ring.specs.declared.mapping.MapTry.{MapTry}
use Rattle.word_ring.specs.declared.mapping.MapTry.TheVariants.{Mapped, There, Taken, Unwritten}

-- ---- a pass's view behind steps: all that is not named is as it was

-- it is so far with mapping a page
abbrev pub staged_view : Stage → View → View
staged_view stage v = record v { mapping = record v.mapping { stage = stage } }

-- it loaded this address as written
abbrev pub written_view : ℕ → View → View
written_view written v = record v { writing = record v.writing { written = written } }

-- it loaded the initialised end `at` and the written address
abbrev pub looked_view : (at written : ℕ) → View → View
looked_view at written v = written_view written (confirmed_view at v)

-- it met this as the highest end of a page, and as written
abbrev pub further_view : (confirmed written : ℕ) → View → View
further_view confirmed written v = record v {
  mapping = record v.mapping { confirmed = confirmed };
  writing = record v.writing { written = written };
}

-- of a view at most the highest end met, which is no less, and the written address changed
pub record MapsOn (old new : View) : Type 0 where
  pub confirmed : ℕ
  pub written : ℕ
  pub rises : (old.mapping).confirmed ≤ confirmed
  pub view_is : new ≡ further_view confirmed written old

-- ---- a try

-- the buffer of the page at an address holds a page that is not all written
abbrev pub IsOldPageUnwritten : Setup → (at written : ℕ) → Type 0
IsOldPageUnwritten setup at written = written + setup.ring_pages * 8192 < at + 8192

-- with the turn to map had, these were met as the initialised end and then as written; no end of a
-- page that was met before is above the initialised one
pub record LooksAt (v : View) (at written : ℕ) : Type 0 where
  pub end_met : Meets v load_initialised_end at
  pub written_met : Meets (view_behind v load_initialised_end at none) load_written written
  pub rises : (v.mapping).confirmed ≤ at

-- what a try tells, and what it leaves of the view, which is not mapping: somebody else had the
-- turn, whose word was met; or it had the turn, and met the initialised end `at` and the written
-- address
abbrev pub TriesMapping : Setup → (page : ℕ) → (old new : View) → MapTry → Type 0
TriesMapping setup page old new (Taken turn) = (turn ≢ 0) × (new ≡ old)
    × Meets old take_mapping_turn turn
TriesMapping setup page old new There = (at written : ℕ) × (end_of_page page ≤ at)
    × (new ≡ looked_view at written old) × LooksAt (staged_view stages.Taken old) at written
TriesMapping setup page old new (Unwritten told) = (at : ℕ) × (at < end_of_page page)
    × IsOldPageUnwritten setup at told × (new ≡ looked_view at told old)
    × LooksAt (staged_view stages.Taken old) at told
TriesMapping setup page old new Mapped = (at written : ℕ) × (at < end_of_page page)
    × (new ≡ confirmed_view (at + 8192) (looked_view at written old))
    × LooksAt (staged_view stages.Taken old) at written
    × (IsOldPageUnwritten setup at written → ⊥)

-- ---- several pages under one turn

-- with the turn to map had, a page was mapped: the initialised end and the written address were
-- met, and the page in its buffer was all written
pub record MapsOne (setup : Setup) (old new : View) : Type 0 where
  pub at : ℕ
  pub written : ℕ
  pub looks : LooksAt old at written
  pub may : IsOldPageUnwritten setup at written → ⊥
  pub view_is : new ≡ confirmed_view (at + 8192) (looked_view at written old)

-- so many were, one behind another
abbrev pub MapsPages : Setup → (count : ℕ) → (old new : View) → Type 0
MapsPages setup zero old new = new ≡ old
MapsPages setup (suc n) old new = (mid : View) × MapsPages setup n old mid × MapsOne setup mid new

-- none was, since the page in its buffer was met not all written
pub record MeetsOldPage (setup : Setup) (old new : View) : Type 0 where
  pub at : ℕ
  pub written : ℕ
  pub looks : LooksAt old at written
  pub old_page : IsOldPageUnwritten setup at written
  pub view_is : new ≡ looked_view at written old

-- pages were mapped: as many as were asked for, or fewer, and then an old page was met that was
-- not all written
pub record MapsMany (setup : Setup) (most : ℕ) (old new : View) : Type 0 where
  pub count : ℕ
  pub last : View
  pub pages : MapsPages setup count old last
  pub ends : ((count ≡ most) × (new ≡ last)) ⊎ ((count < most) × MeetsOldPage setup last new)

-- the turn to map was met somebody's; or it was taken, so pages mapped, and it was given back
abbrev pub MapsAhead : Setup → (most : ℕ) → (old new : View) → Type 0
MapsAhead setup most old new =
    ((turn : ℕ) × (turn ≢ 0) × Meets old take_mapping_turn turn × (new ≡ old))
    ⊎ (Meets old take_mapping_turn 0 × ((last : View)
    × MapsMany setup most (staged_view stages.Taken old) last
    × (new ≡ staged_view stages.Away last)))

-- What a watch of all insertion locks leaves (PostgreSQL's xlog.c, WaitXLogInsertionsToFinish).
use Rattle.std.specs.Prelude.{◌≡◌, ◌≢◌, ◌⊎◌, ℕ, ◌-◌, ◌<◌, ◌≤◌, min, ◌==◌, if◌then◌else◌}
use Rattle.machine_state.specs.declared.setup.Setup.{Setup}
use Rattle.machine_state.specs.Words.{end_form}
use Rattle.machine_state.specs.Views.{Watching, View}
use Rattle.machine_state.specs.Moves.{is_own, unlocked, visited_on}
use Rattle.machine_state.specs.Steps.{load_lock, load_position}
use Rattle.wal_rule.specs.Stepping.{Meets}

-- the view that has seen so much reserved, and is else as it was
abbrev pub with_sight : ℕ → View → View
with_sight seen v = record v { reserving = record v.reserving { seen = seen } }

-- the view that knows this of the locks, and is else as it was
abbrev pub with_watching : Watching → View → View
with_watching watching v = record v { watching = watching }

-- so many of the locks are visited, in order: below the bound all is copied of what they guard that
-- was reserved below the end
abbrev pub watched_to : (end visited bound : ℕ) → Watching
watched_to end visited bound = record { end = end; visited = visited; bound = bound }

-- a lock lets a watch for an address pass: it is free, or its holder tells so far
abbrev pub LetsPass : (asked word : ℕ) → Type 0
LetsPass asked word = (word ≡ 0) ⊎ ((word ≢ 1) × (asked < word))

-- a lock holds it back: it is held, and its holder tells nothing, or that all is copied below a
-- lesser address
abbrev pub HoldsBack : (asked word : ℕ) → Type 0
HoldsBack asked word = (word ≢ 0) × ((word ≡ 1) ⊎ (word - 1 < asked))

-- what a held lock tells lowers the bound, where it tells less
abbrev pub bound_behind : (word bound : ℕ) → ℕ
bound_behind word bound = if word == 0 then bound else min bound (word - 1)

-- what is seen reserved is a position that a load of a pass with this view met
pub record SeesPosition (v : View) (seen : ℕ) : Type 0 where
  pub word : ℕ
  pub met : Meets v load_position word
  pub seen_is : seen ≡ unlocked word

-- `end` is how far a watch for an address can tell: that address, where all below it is seen
-- reserved, else the end of what is. What is seen is the position met, and no less than before
pub record SeesTo (setup : Setup) (upto end seen : ℕ) (old : View) : Type 0 where
  pub rises : (old.reserving).seen ≤ seen
  pub end_is : end ≡ min upto (end_form setup seen)

-- all eight locks were visited: below the bound all is copied of what was reserved below the end,
-- which is the position met; the bound is no less than what was asked for, where that was reserved
pub record HasFinished (upto bound : ℕ) (old new : View) : Type 0 where
  pub end : ℕ
  pub rises : (old.reserving).seen ≤ (new.reserving).seen
  pub end_is : end ≡ end_form (old.opening).setup (new.reserving).seen
  pub reaches : min upto end ≤ bound
  pub within : bound ≤ end
  pub new_is : new ≡ with_watching (watched_to end 8 bound) (with_sight (new.reserving).seen old)

-- the locks before this one let the watch pass, and this one, of which the word was met behind
-- them, holds it back
pub record IsHeldBack (upto lock word : ℕ) (old new : View) : Type 0 where
  pub end : ℕ
  pub bound : ℕ
  pub rises : (old.reserving).seen ≤ (new.reserving).seen
  pub end_is : end ≡ end_form (old.opening).setup (new.reserving).seen
  pub reaches : min upto end ≤ bound
  pub within : bound ≤ end
  pub lock_low : lock < 8
  pub before : View
  pub before_is : before ≡ with_watching before.watching (with_sight (new.reserving).seen old)
  pub met : Meets before (load_lock lock end) word
  pub holds_back : HoldsBack (min upto end) word
  pub new_is : new ≡ with_watching
      (visited_on (is_own lock old.working) lock word (watched_to end lock bound))
      (with_sight (new.reserving).seen old)

-- What a turn on plain data waits for is what the machine's waits for.
use Rattle.std.proofs.Common.{◌≡◌, ℕ, ◌+◌, ◌%◌, Bool, true, false, eqb, List, not, ◌&&◌, ◌||◌, Option, Some, None, refl}
use Rattle.machine_state.specs.Words.{lock_word, mapping_turn, position_word, write_turn, mapping_turn_number, write_turn_number, lock_number}
use Rattle.machine_state.specs.Views.{Place, Free, Locked, Loaded, Stored, Stage, Away, Taken, Looked, Ready, Zeroing, Published, View}
use Rattle.machine_turns.specs.Doing.{Ask, Machine}
use Rattle.machine_turns.specs.Turned.{asked_for, can_step, holds_back, is_away, is_free, looks_down, word_waited}
use Rattle.machine_turns.specs.declared.doing.PlainDoing.{PlainDoing}
use Rattle.machine_turns.specs.declared.doing.PlainDoing.TheVariants as doings
use Rattle.machine_turns.specs.declared.doing.PlainPurpose.{PlainPurpose}
use Rattle.machine_turns.specs.declared.doing.PlainPurpose.TheVariants as purposes
use Rattle.machine_turns.specs.Lanes.{asked_by, loads_down, waits_if, word_awaited}
use Rattle.machine_turns.specs.Lanes as lanes
use Rattle.wal_core.specs.PlainData.{doing_of, plain_place, plain_stage, plain_view, purpose_of}

-- it waits just where the step cannot be made, and for the same word
abbrev pub WaitsAlike : Bool → ℕ → Option ℕ → Type 0
WaitsAlike true on awaited = awaited ≡ None
WaitsAlike false on awaited = awaited ≡ Some on

module _ (m : Machine) (v : View) (ask : Ask) where
  abbrev words : List ℕ
  words = (m.state).words

  pub looks_alike : (d : PlainDoing) → looks_down m v ask (doing_of d) ≡ loads_down d
  looks_alike doings.Begins = refl
  looks_alike (doings.Tries taken) = refl
  looks_alike (doings.Reserves lock) = refl
  looks_alike (doings.Looks lock) = refl
  looks_alike (doings.Copies lock) = refl
  looks_alike (doings.Maps lock) = refl
  looks_alike (doings.GivesTurn lock end) = refl
  looks_alike (doings.Tells lock end) = refl
  looks_alike (doings.Releases lock full) = refl
  looks_alike doings.FlushBegins = refl
  looks_alike doings.LoadsPosition = refl
  looks_alike doings.LoadsFlushed = refl
  looks_alike doings.LoadsMoment = refl
  looks_alike (doings.Visits purpose lock) = refl
  looks_alike (doings.TakesTurn purpose) = refl
  looks_alike (doings.LoadsDown purpose) = refl
  looks_alike (doings.TakesOut purpose) = refl
  looks_alike (doings.LoadsPage purpose loaded) = refl
  looks_alike (doings.Creates purpose) = refl
  looks_alike (doings.Writes purpose) = refl
  looks_alike (doings.SyncsFull purpose) = refl
  looks_alike doings.SyncsLast = refl
  looks_alike (doings.StoresWritten purpose) = refl
  looks_alike doings.StoresMoment = refl
  looks_alike doings.StoresFlushed = refl
  looks_alike (doings.SetsDown purpose) = refl
  looks_alike (doings.PutsBack purpose failed) = refl
  looks_alike (doings.GivesWriteTurn purpose failed) = refl

  at_place : (p : Place) (even : Bool)
      → WaitsAlike (not (is_free m v ask p) || even) 0
      (waits_if (lanes.is_free (plain_place p) && not even) 0)
  at_place Free true = refl
  at_place Free false = refl
  at_place (Locked at) even = refl
  at_place (Loaded at prev) even = refl
  at_place (Stored at prev) even = refl

  at_stage : (s : Stage) (free : Bool)
      → WaitsAlike (not (is_away m v ask s) || free) mapping_turn_number
      (waits_if (lanes.is_away (plain_stage s) && not free) mapping_turn_number)
  at_stage Away true = refl
  at_stage Away false = refl
  at_stage Taken free = refl
  at_stage (Looked at) free = refl
  at_stage (Ready at written) free = refl
  at_stage (Zeroing at count) free = refl
  at_stage (Published at) free = refl

  if_free : (on : ℕ) (free : Bool) → WaitsAlike free on (waits_if (not free) on)
  if_free on true = refl
  if_free on false = refl

  if_back : (on : ℕ) (back : Bool) → WaitsAlike (not back) on (waits_if back on)
  if_back on true = refl
  if_back on false = refl

  at_lock : (purpose : PlainPurpose) (lock : ℕ)
      → WaitsAlike (not (holds_back m v ask (asked_for v (purpose_of purpose))
      (lock_word words lock))) (lock_number lock)
      (waits_if (lanes.holds_back (asked_by purpose (plain_view v)) (lock_word words lock))
      (lock_number lock))
  at_lock purposes.Line lock = if_back (lock_number lock) _
  at_lock (purposes.Page held end) lock = if_back (lock_number lock) _

  pub waits_alike : (d : PlainDoing) → WaitsAlike (can_step m v ask (doing_of d))
      (word_waited m v ask (doing_of d)) (word_awaited words (plain_view v) d)
  waits_alike doings.Begins = refl
  waits_alike (doings.Tries taken) = refl
  waits_alike (doings.Reserves lock) =
      at_place (v.reserving).place (eqb (position_word words % 2) 0)
  waits_alike (doings.Looks lock) = refl
  waits_alike (doings.Copies lock) = refl
  waits_alike (doings.Maps lock) = at_stage (v.mapping).stage (eqb (mapping_turn words) 0)
  waits_alike (doings.GivesTurn lock end) = refl
  waits_alike (doings.Tells lock end) = refl
  waits_alike (doings.Releases lock full) = refl
  waits_alike doings.FlushBegins = refl
  waits_alike doings.LoadsPosition = refl
  waits_alike doings.LoadsFlushed = refl
  waits_alike doings.LoadsMoment = refl
  waits_alike (doings.Visits purpose lock) = at_lock purpose lock
  waits_alike (doings.TakesTurn purpose) = if_free write_turn_number (eqb (write_turn words) 0)
  waits_alike (doings.LoadsDown purpose) = refl
  waits_alike (doings.TakesOut purpose) = refl
  waits_alike (doings.LoadsPage purpose loaded) = refl
  waits_alike (doings.Creates purpose) = refl
  waits_alike (doings.Writes purpose) = refl
  waits_alike (doings.SyncsFull purpose) = refl
  waits_alike doings.SyncsLast = refl
  waits_alike (doings.StoresWritten purpose) = refl
  waits_alike doings.StoresMoment = refl
  waits_alike doings.StoresFlushed = refl
  waits_alike (doings.SetsDown purpose) = refl
  waits_alike (doings.PutsBack purpose failed) = refl
  waits_alike (doings.GivesWriteTurn purpose failed) = refl

-- The turns that map a page, and those before pages are written for it, on plain data.
use Rattle.std.specs.Prelude.{ℕ, ◌+◌, ◌-◌, ◌*◌, ◌/◌, ◌%◌, List, set, Option, Some, None, nat_lt, nat_le, if◌then◌else◌}
use Rattle.machine_state.specs.declared.setup.Setup.{Setup}
use Rattle.machine_state.specs.Words.{initialised_word, written_word, mapping_turn_number, initialised_number, ends_number, lock_number}
use Rattle.machine_turns.specs.declared.doing.PlainDoing.{PlainDoing}
use Rattle.machine_turns.specs.declared.doing.PlainDoing.TheVariants.{Looks, Maps, GivesTurn, Tells, Visits}
use Rattle.machine_turns.specs.declared.doing.PlainPurpose.TheVariants.{Page}
use Rattle.machine_turns.specs.declared.event.Event.TheVariants.{Advance, LoadWritten, TakeMappingTurn, LoadInitialisedEnd, ClearEnd, ZeroRingWord, PublishEnd, PublishInitialisedEnd, ReleaseMappingTurn}
use Rattle.machine_turns.specs.declared.view.PlainView.{PlainView}
use Rattle.machine_turns.specs.declared.view.PlainStage.{PlainStage}
use Rattle.machine_turns.specs.declared.view.PlainStage.TheVariants.{Away, Taken, Looked, Ready, Zeroing, Published}
use Rattle.machine_turns.specs.Left.{Left, left_going_on, at_stage, next_in, page_end_in}

-- the page at an address is to be mapped, and this is written: the view's page is mapped already;
-- the page that the buffer holds is to be written first; or it is mapped now
abbrev pub behind_written : Setup → PlainView → (lock at written : ℕ) → PlainDoing
behind_written setup view lock at written =
    if nat_le (page_end_in view.flight) at then GivesTurn lock None
    else (if nat_lt (written + setup.ring_pages * 8192) (at + 8192)
    then GivesTurn lock (Some (at + 8192 - setup.ring_pages * 8192)) else Maps lock)

-- behind the turn: the page's end is loaded again, or the copy's progress is told first
abbrev pub behind_turn : ℕ → Option ℕ → PlainDoing
behind_turn lock None = Looks lock
behind_turn lock (Some end) = Tells lock end

module _ (setup : Setup) (words : List ℕ) (view : PlainView) where
  abbrev buffer_at : ℕ → ℕ
  buffer_at at = at / 8192 % setup.ring_pages

  -- the page at the initialised end is mapped, step by step
  abbrev pub at_maps : ℕ → Left
  at_maps lock = by_stage view.stage
    where
      by_stage : PlainStage → Left
      by_stage Away = left_going_on TakeMappingTurn (at_stage Taken view)
          (set words mapping_turn_number (view.number + 1)) (Maps lock)
      by_stage Taken = left_going_on LoadInitialisedEnd
          (at_stage (Looked (initialised_word words)) view) words (Maps lock)
      by_stage (Looked at) = left_going_on LoadWritten (at_stage (Ready at) view) words
          (behind_written setup view lock at (written_word words))
      by_stage (Ready at) = left_going_on ClearEnd (at_stage (Zeroing at 0) view)
          (set words (ends_number + buffer_at at) 0) (Maps lock)
      by_stage (Zeroing at count) = if nat_lt count 1024
          then left_going_on ZeroRingWord (at_stage (Zeroing at (count + 1)) view)
          (set words (ends_number + setup.ring_pages + (buffer_at at * 1024 + count)) 0) (Maps lock)
          else left_going_on PublishEnd (at_stage (Published at) view)
          (set words (ends_number + buffer_at at) (at + 8192)) (Maps lock)
      by_stage (Published at) = left_going_on PublishInitialisedEnd (at_stage Taken view)
          (set words initialised_number (at + 8192)) (GivesTurn lock None)

  -- the turn to map is given back
  abbrev pub at_gives_turn : ℕ → Option ℕ → Left
  at_gives_turn lock end =
      left_going_on ReleaseMappingTurn (at_stage Away view)
      (set words mapping_turn_number 0) (behind_turn lock end)

  -- the copy tells that all below its next word is copied
  abbrev pub at_tells : (lock end : ℕ) → Left
  at_tells lock end = left_going_on (Advance lock (next_in view.flight)) view
      (set words (lock_number lock) (next_in view.flight + 1)) (Visits (Page lock end) 0)

-- The turns of a flush but for those with the writer in hand, on plain data.
use Rattle.std.specs.Prelude.{ℕ, ◌+◌, ◌-◌, ◌%◌, Bool, true, false, List, set, max, ◌==◌, nat_le, if◌then◌else◌}
use Rattle.byte_position.specs.Position.{position_of}
use Rattle.machine_state.specs.declared.setup.Setup.{Setup}
use Rattle.machine_state.specs.Words.{end_form, flushed_word, lock_word, position_word, write_turn_number}
use Rattle.machine_turns.specs.declared.doing.PlainDoing.TheVariants.{Looks, LoadsPosition, LoadsFlushed, LoadsMoment, Visits, TakesTurn, LoadsDown, TakesOut, GivesWriteTurn}
use Rattle.machine_turns.specs.declared.doing.PlainNext.{PlainNext}
use Rattle.machine_turns.specs.declared.doing.PlainNext.TheVariants.{GoesOn, Answers}
use Rattle.machine_turns.specs.declared.doing.PlainPurpose.{PlainPurpose}
use Rattle.machine_turns.specs.declared.doing.PlainPurpose.TheVariants.{Line, Page}
use Rattle.machine_turns.specs.declared.event.Event.TheVariants.{LoadPosition, TakeWriteTurn, PutWriterBack, ReleaseWriteTurn, LoadLock, LoadFlushed, LoadMoment, LoadDown}
use Rattle.machine_turns.specs.declared.view.PlainHold.TheVariants.{Idle, Turned}
use Rattle.machine_turns.specs.declared.view.PlainView.{PlainView}
use Rattle.machine_turns.specs.Left.{Left, left_going_on, left_answered}
use Rattle.machine_turns.specs.Inserting.{watched}

-- a byte position is seen reserved
abbrev pub seen_too : ℕ → PlainView → PlainView
seen_too position view = record view { seen = max view.seen position }

-- behind the writing the line is answered, or an insert goes on with its page
abbrev pub behind_writing : PlainPurpose → Bool → PlainNext
behind_writing Line failed = Answers false
behind_writing (Page lock end) true = Answers false
behind_writing (Page lock end) false = GoesOn (Looks lock)

module _ (setup : Setup) (words : List ℕ) (view : PlainView) where
  -- it loads down
  abbrev pub at_flush_begins : Left
  at_flush_begins = left_going_on LoadDown view words LoadsPosition

  -- without the lock bit
  abbrev pub at_loads_position : Left
  at_loads_position = left_going_on LoadPosition
      (seen_too (position_word words - position_word words % 2) view) words LoadsFlushed

  -- the flushed address is loaded; where it suffices the moment is, and else the locks are visited
  abbrev pub at_loads_flushed : Left
  at_loads_flushed =
      let met = flushed_word words in
      left_going_on LoadFlushed (seen_too (position_of setup.seg_size met) view) words
      (if nat_le view.last_end met then LoadsMoment else Visits Line 0)

  -- with the moment the line is answered
  abbrev pub at_loads_moment : Left
  at_loads_moment = left_answered LoadMoment view words

  -- a lock is loaded, to learn how far its holder is
  abbrev pub at_visits : PlainPurpose → ℕ → Left
  at_visits purpose lock = left_going_on (LoadLock lock)
      (watched lock (end_form setup view.seen) (lock_word words lock) view) words
      (if lock + 1 == 8 then TakesTurn purpose else Visits purpose (lock + 1))

  -- the turn to write is taken; down is loaded again; the writer is put back, and the turn given
  -- back
  abbrev pub at_takes_turn : PlainPurpose → Left
  at_takes_turn purpose = left_going_on TakeWriteTurn (record view { hold = Turned })
      (set words write_turn_number (view.number + 1)) (LoadsDown purpose)

  abbrev pub at_loads_down : PlainPurpose → Left
  at_loads_down purpose = left_going_on LoadDown view words (TakesOut purpose)

  abbrev pub at_puts_back : PlainPurpose → Bool → Left
  at_puts_back purpose failed =
      left_going_on PutWriterBack (record view { hold = Turned }) words
      (GivesWriteTurn purpose failed)

  abbrev pub at_gives_write_turn : PlainPurpose → Bool → Left
  at_gives_write_turn purpose failed = record {
    made = record { event = ReleaseWriteTurn; next = behind_writing purpose failed };
    view = record view { hold = Idle };
    words = set words write_turn_number 0;
  }

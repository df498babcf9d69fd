-- A view of the machine, a step and a turn, as plain data.
use Rattle.std.specs.Prelude.{ℕ}
use Rattle.wal_page.specs.Order.{finish_of}
use Rattle.wal_page.specs.EntryWords.{address_of_word}
use Rattle.machine_state.specs.Views.{Place, Free, Locked, Loaded, Stored, Flight, Landed, Copying, Watching, Stage, Away, Taken, Looked, Ready, Zeroing, Published, Hold, Idle, Turned as HasTurned, Out, View}
use Rattle.machine_state.specs.Moves.{is_done}
use Rattle.machine_state.specs.Steps.{StepKind, load_position, take_write_turn, slot_out, slot_in, release_write_turn, lock_position, load_prev, store_prev, store_position, give_position_back, stay, load_lock, take_lock, advance, release, load_buffer_end, store_ring_word, load_ring_word, load_written, load_flushed, load_moment, load_down, store_written, store_moment, store_flushed, set_down, load_async, raise_async, take_mapping_turn, load_initialised_end, clear_end, zero_ring_word, publish_end, publish_initialised_end, release_mapping_turn, create, write, sync}
use Rattle.machine_turns.specs.Doing.{Purpose, ForLine, ForPage, Doing, Begins, Tries, Reserves, Looks, Copies, Maps, GivesTurn, Tells, Releases, FlushBegins, LoadsPosition, LoadsFlushed, LoadsMoment, Visits, TakesTurn, LoadsDown, TakesOut, LoadsPage, Creates, Writes, SyncsFull, SyncsLast, StoresWritten, StoresMoment, StoresFlushed, SetsDown, PutsBack, GivesWriteTurn}
use Rattle.machine_turns.specs.Turned.{TurnMade, Moved, Waits, AllDone, IsDown, Next, goes_on, answers, asked_end}
use Rattle.machine_turns.specs.declared.doing.PlainDoing.{PlainDoing}
use Rattle.machine_turns.specs.declared.doing.PlainDoing.TheVariants as doings
use Rattle.machine_turns.specs.declared.doing.PlainNext.{PlainNext}
use Rattle.machine_turns.specs.declared.doing.PlainNext.TheVariants as nexts
use Rattle.machine_turns.specs.declared.doing.PlainPurpose.{PlainPurpose}
use Rattle.machine_turns.specs.declared.doing.PlainPurpose.TheVariants as purposes
use Rattle.machine_turns.specs.declared.event.Event.{Event}
use Rattle.machine_turns.specs.declared.event.Event.TheVariants as events
use Rattle.machine_turns.specs.declared.event.Turn.{Turn as PlainTurn}
use Rattle.machine_turns.specs.declared.event.Turn.TheVariants as turns
use Rattle.machine_turns.specs.declared.view.PlainFlight.{PlainFlight}
use Rattle.machine_turns.specs.declared.view.PlainFlight.TheVariants as flights
use Rattle.machine_turns.specs.declared.view.PlainHold.{PlainHold}
use Rattle.machine_turns.specs.declared.view.PlainHold.TheVariants as holds
use Rattle.machine_turns.specs.declared.view.PlainPlace.{PlainPlace}
use Rattle.machine_turns.specs.declared.view.PlainPlace.TheVariants as places
use Rattle.machine_turns.specs.declared.view.PlainView.{PlainView}
use Rattle.machine_turns.specs.declared.view.PlainStage.{PlainStage}
use Rattle.machine_turns.specs.declared.view.PlainStage.TheVariants as stages
use Rattle.machine_turns.specs.declared.view.PlainWatching.{PlainWatching}
use Rattle.flush_core.specs.Calls.{maybe}

-- ---- a view

-- each part of a view, as plain data
abbrev pub plain_place : Place → PlainPlace
plain_place Free = places.Free
plain_place (Locked at) = places.Locked at
plain_place (Loaded at prev) = places.Loaded at prev
plain_place (Stored at prev) = places.Stored at prev

abbrev pub plain_flight : ℕ → Flight → PlainFlight
plain_flight size Landed = flights.Landed
plain_flight size (Copying c) = flights.Copying (c.entry).start c.prev
    (address_of_word size c.entry c.copied) (finish_of size c.entry)

abbrev pub plain_watching : Watching → PlainWatching
plain_watching x = record { end = x.end; visited = x.visited; bound = x.bound }

abbrev pub plain_stage : Stage → PlainStage
plain_stage Away = stages.Away
plain_stage Taken = stages.Taken
plain_stage (Looked at) = stages.Looked at
plain_stage (Ready at written) = stages.Ready at
plain_stage (Zeroing at count) = stages.Zeroing at count
plain_stage (Published at) = stages.Published at

abbrev pub plain_hold : Hold → PlainHold
plain_hold Idle = holds.Idle
plain_hold HasTurned = holds.Turned
plain_hold (Out l) = holds.Out l.known

-- what a view knows, as plain data
abbrev pub plain_view : View → PlainView
plain_view v = record {
  number = (v.reserving).number;
  place = plain_place (v.reserving).place;
  seen = (v.reserving).seen;
  last_end = asked_end v;
  flight = plain_flight ((v.opening).setup).seg_size (v.working).flight;
  watching = plain_watching v.watching;
  stage = plain_stage (v.mapping).stage;
  hold = plain_hold (v.writing).hold;
}

-- ---- a place in the order of steps

-- what pages are written for, and the place, as the machine names them
abbrev pub purpose_of : PlainPurpose → Purpose
purpose_of purposes.Line = ForLine
purpose_of (purposes.Page lock end) = ForPage lock end

abbrev pub doing_of : PlainDoing → Doing
doing_of doings.Begins = Begins
doing_of (doings.Tries taken) = Tries taken
doing_of (doings.Reserves lock) = Reserves lock
doing_of (doings.Looks lock) = Looks lock
doing_of (doings.Copies lock) = Copies lock
doing_of (doings.Maps lock) = Maps lock
doing_of (doings.GivesTurn lock end) = GivesTurn lock (maybe end)
doing_of (doings.Tells lock end) = Tells lock end
doing_of (doings.Releases lock full) = Releases lock full
doing_of doings.FlushBegins = FlushBegins
doing_of doings.LoadsPosition = LoadsPosition
doing_of doings.LoadsFlushed = LoadsFlushed
doing_of doings.LoadsMoment = LoadsMoment
doing_of (doings.Visits purpose lock) = Visits (purpose_of purpose) lock
doing_of (doings.TakesTurn purpose) = TakesTurn (purpose_of purpose)
doing_of (doings.LoadsDown purpose) = LoadsDown (purpose_of purpose)
doing_of (doings.TakesOut purpose) = TakesOut (purpose_of purpose)
doing_of (doings.LoadsPage purpose loaded) = LoadsPage (purpose_of purpose) loaded
doing_of (doings.Creates purpose) = Creates (purpose_of purpose)
doing_of (doings.Writes purpose) = Writes (purpose_of purpose)
doing_of (doings.SyncsFull purpose) = SyncsFull (purpose_of purpose)
doing_of doings.SyncsLast = SyncsLast
doing_of (doings.StoresWritten purpose) = StoresWritten (purpose_of purpose)
doing_of doings.StoresMoment = StoresMoment
doing_of doings.StoresFlushed = StoresFlushed
doing_of (doings.SetsDown purpose) = SetsDown (purpose_of purpose)
doing_of (doings.PutsBack purpose failed) = PutsBack (purpose_of purpose) failed
doing_of (doings.GivesWriteTurn purpose failed) = GivesWriteTurn (purpose_of purpose) failed

-- what comes behind a step
abbrev pub next_of_plain : PlainNext → Next
next_of_plain (nexts.GoesOn doing) = goes_on (doing_of doing)
next_of_plain (nexts.Answers full) = answers full

-- ---- a step and a turn as they are told

-- a step by its kind, without what is known of it otherwise
abbrev pub event_of : StepKind → Event
event_of load_position = events.LoadPosition
event_of take_write_turn = events.TakeWriteTurn
event_of slot_out = events.TakeWriterOut
event_of slot_in = events.PutWriterBack
event_of release_write_turn = events.ReleaseWriteTurn
event_of (lock_position expected) = events.LockPosition
event_of load_prev = events.LoadPrev
event_of store_prev = events.StorePrev
event_of (store_position locks value) = events.StorePosition
event_of (give_position_back value) = events.GivePositionBack
event_of stay = events.StayInPlace
event_of (load_lock lock limit) = events.LoadLock lock
event_of (take_lock lock) = events.TakeLock lock
event_of (advance lock upto) = events.Advance lock upto
event_of (release lock) = events.ReleaseLock lock
event_of (load_buffer_end buffer) = events.LoadBufferEnd buffer
event_of store_ring_word = events.StoreRingWord
event_of (load_ring_word k) = events.LoadRingWord k
event_of load_written = events.LoadWritten
event_of load_flushed = events.LoadFlushed
event_of load_moment = events.LoadMoment
event_of load_down = events.LoadDown
event_of store_written = events.StoreWritten
event_of store_moment = events.StoreMoment
event_of store_flushed = events.StoreFlushed
event_of set_down = events.SetDown
event_of load_async = events.LoadAsync
event_of (raise_async expected upto) = events.RaiseAsync
event_of take_mapping_turn = events.TakeMappingTurn
event_of load_initialised_end = events.LoadInitialisedEnd
event_of clear_end = events.ClearEnd
event_of zero_ring_word = events.ZeroRingWord
event_of publish_end = events.PublishEnd
event_of publish_initialised_end = events.PublishInitialisedEnd
event_of release_mapping_turn = events.ReleaseMappingTurn
event_of (create segment outcome) = events.Create segment (is_done outcome)
event_of (write segment page upto bytes outcome) = events.Write segment page upto (is_done outcome)
event_of (sync segment outcome) = events.Sync segment (is_done outcome)

-- what a turn tells
abbrev pub turn_of : TurnMade → PlainTurn
turn_of (Moved e) = turns.Moved (event_of e)
turn_of (Waits on value) = turns.Waits on value
turn_of AllDone = turns.Done
turn_of (IsDown faults) = turns.Down faults

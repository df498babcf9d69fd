-- The turns with the writer in hand, on plain data.
use Rattle.std.specs.Prelude.{ℕ, ◌+◌, ◌*◌, ◌%◌, Bool, true, false, List, set, min, ◌==◌, nat_lt, if◌then◌else◌}
use mathlib.Core.Option.{Option, none, some}
use Rattle.byte_position.specs.Geometry.{pages_of}
use Rattle.byte_position.specs.Position.{position_of}
use Rattle.machine_state.specs.declared.setup.Setup.{Setup}
use Rattle.machine_state.specs.Words.{word_of_ring, written_number, flushed_number, moment_number, down_number}
use Rattle.machine_state.specs.Steps.{ring_place}
use Rattle.machine_turns.specs.declared.doing.PlainDoing.{PlainDoing}
use Rattle.machine_turns.specs.declared.doing.PlainDoing.TheVariants.{LoadsPage, Creates, Writes, SyncsFull, SyncsLast, StoresWritten, StoresMoment, StoresFlushed, SetsDown, PutsBack}
use Rattle.machine_turns.specs.declared.doing.PlainPurpose.{PlainPurpose}
use Rattle.machine_turns.specs.declared.doing.PlainPurpose.TheVariants.{Line, Page}
use Rattle.machine_turns.specs.declared.event.Event.TheVariants.{TakeWriterOut, LoadRingWord, StoreWritten, StoreMoment, StoreFlushed, SetDown, Create, Write, Sync}
use Rattle.machine_turns.specs.declared.view.PlainHold.{PlainHold}
use Rattle.machine_turns.specs.declared.view.PlainHold.TheVariants.{Idle, Turned, Out}
use Rattle.machine_turns.specs.declared.view.PlainView.{PlainView}
use Rattle.machine_turns.specs.Flushing.{seen_too}
use Rattle.machine_turns.specs.Left.{Left, left_going_on}
use Rattle.machine_turns.specs.Writer.{WriterState, page_at, page_written, segment_at, succeeds, synced, with_word}

-- below this address all is known to be copied
abbrev pub known_in : PlainHold → ℕ
known_in Idle = 0
known_in Turned = 0
known_in (Out known) = known

-- the segment of which writes wait for a sync, 0 where none does
abbrev pub segment_waiting : Option ℕ → ℕ
segment_waiting none = 0
segment_waiting (some segment) = segment

abbrev pub is_some_waiting : Option ℕ → Bool
is_some_waiting none = false
is_some_waiting (some segment) = true

abbrev pub number_or_0 : Option ℕ → ℕ
number_or_0 none = 0
number_or_0 (some n) = n

-- behind the page written last: the next one, or the end of the writing
abbrev pub page_or_end : PlainPurpose → (known : ℕ) → WriterState → PlainDoing
page_or_end Line known w = if nat_lt (w.plain).written known then LoadsPage Line 0
    else (if is_some_waiting (w.plain).waiting then SyncsLast else StoresWritten Line)
page_or_end (Page lock end) known w = if nat_lt (w.plain).written known
    then LoadsPage (Page lock end) 0 else StoresWritten (Page lock end)

-- with the page loaded: its segment is made where it is new, and else the page is written
abbrev pub on_the_way : PlainPurpose → WriterState → PlainDoing
on_the_way purpose w =
    if nat_lt (w.plain).made (segment_at w) then Creates purpose else Writes purpose

module _ (setup : Setup) (words : List ℕ) (view : PlainView) (writer : WriterState) where
  abbrev written : ℕ
  written = (writer.plain).written

  -- what a watcher knows to be copied that has visited all locks
  abbrev known_now : ℕ
  known_now = if (view.watching).visited == 8 then (view.watching).bound else 0

  -- the writer is taken
  abbrev pub at_takes_out : PlainPurpose → Left
  at_takes_out purpose = left_going_on TakeWriterOut (record view { hold = Out known_now }) words
      (page_or_end purpose known_now writer)

  -- ---- a page

  -- the number of the word that is loaded next, and the word
  abbrev pub number_to_load : ℕ → ℕ
  number_to_load loaded = page_at writer * 1024 + loaded

  abbrev pub word_to_load : ℕ → ℕ
  word_to_load loaded = word_of_ring setup words (ring_place setup (number_to_load loaded))

  -- the page's next word is loaded
  abbrev pub at_loads_page : PlainPurpose → ℕ → Left
  at_loads_page purpose loaded = left_going_on (LoadRingWord (number_to_load loaded)) view words
      (if loaded + 1 == 1024
      then on_the_way purpose writer
      else LoadsPage purpose (loaded + 1))

  abbrev pub writer_at_loads_page : ℕ → WriterState
  writer_at_loads_page loaded = with_word writer loaded (word_to_load loaded)

  -- ---- the calls

  -- behind a call that fails the down word is set
  abbrev pub behind_call : PlainPurpose → PlainDoing → PlainDoing
  behind_call purpose doing = if succeeds writer then doing else SetsDown purpose

  -- the segment is made; the page is written; a full segment is synced, and the one under way
  abbrev pub at_creates : PlainPurpose → Left
  at_creates purpose = left_going_on (Create ((writer.plain).made + 1) (succeeds writer)) view words
      (behind_call purpose (Writes purpose))

  -- up to where the page under way is written
  abbrev pub upto_next : ℕ
  upto_next = min (known_in view.hold) (page_at writer * 8192 + 8192)

  abbrev pub at_writes : PlainPurpose → Left
  at_writes purpose = left_going_on
      (Write (segment_at writer) (page_at writer % pages_of setup.seg_size) upto_next
      (succeeds writer)) view words
      (behind_call purpose (if upto_next % setup.seg_size == 0 then SyncsFull purpose
      else page_or_end purpose (known_in view.hold) (page_written writer upto_next)))

  abbrev waiting : ℕ
  waiting = segment_waiting (writer.plain).waiting

  abbrev pub at_syncs_full : PlainPurpose → Left
  at_syncs_full purpose = left_going_on (Sync waiting (succeeds writer)) view words
      (behind_call purpose (page_or_end purpose (known_in view.hold) (synced writer waiting)))

  abbrev pub at_syncs_last : Left
  at_syncs_last =
      left_going_on (Sync waiting (succeeds writer)) view words
      (behind_call Line (StoresWritten Line))

  -- ---- the end of the writing

  -- behind the written address a flush stores more, and an insert puts the writer back
  abbrev pub behind_written_word : PlainPurpose → PlainDoing
  behind_written_word Line = StoresMoment
  behind_written_word (Page lock end) = PutsBack (Page lock end) false

  -- what was done is stored: written, moment and flushed; or that the disk has failed
  abbrev pub at_stores_written : PlainPurpose → Left
  at_stores_written purpose =
      left_going_on StoreWritten view (set words written_number written)
      (behind_written_word purpose)

  abbrev pub at_stores_moment : Left
  at_stores_moment =
      left_going_on StoreMoment view (set words moment_number (writer.plain).moment) StoresFlushed

  abbrev pub at_stores_flushed : Left
  at_stores_flushed = left_going_on StoreFlushed
      (seen_too (position_of setup.seg_size written) view)
      (set words flushed_number written) (PutsBack Line false)

  abbrev pub at_sets_down : PlainPurpose → Left
  at_sets_down purpose = left_going_on SetDown view
      (set words down_number (number_or_0 (writer.plain).fault)) (PutsBack purpose true)

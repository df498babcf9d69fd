-- The atomic steps: each is one load, store or exchange of one shared word by one pass, or one call
-- of the device by the pass that has the writer in hand. What a step may do rests on what its pass
-- knows, and on nothing else; so it may come between any two steps of others. A step that has to
-- come behind another one of its pass asks for what only that one leaves in the view (`Place`,
-- `Stage`, `Hold` of Views).
use Rattle.std.specs.Prelude.{◌≡◌, ◌≢◌, ◌⊎◌, ℕ, ◌+◌, ◌*◌, ◌/◌, ◌%◌, ◌<◌, ◌≤◌, true, IsTrue, Contains, List, [], ◌∷◌, ◌++◌, length, set, slice_index, ◌==◌, if◌then◌else◌}
use Rattle.std.specs.Int.{w64, to_le_bytes}
use Rattle.byte_position.specs.Position.{address_of}
use Rattle.byte_position.specs.Geometry.{pages_of}
use Rattle.segment_disk.specs.DiskImage.{word_of}
use Rattle.segment_disk.specs.Tape.{create_call, sync_call, write_call}
use Rattle.segment_disk.specs.Cause.{Rose}
use mathlib.Core.Option.{Option, none, some}
use Rattle.wal_types.specs.declared.record.Record.{Record}
use Rattle.wal_spelling.specs.Record.{is_switch}
use Rattle.wal_spelling.specs.Spelling.{IsLogRecord, assembled}
use Rattle.wal_page.specs.EntryWords.{address_of_word, words_owned}
use Rattle.wal_page.specs.Order.{room_at}
use Rattle.wal_page.specs.Placed.{entry_word}
use Rattle.machine_state.specs.declared.setup.Setup.{Setup}
use Rattle.machine_state.specs.Words.{async_number, down_number, end_form, ends_number, flushed_number, initialised_number, lock_number, log_limit, mapping_turn_number, moment_number, write_turn_number, written_number}
use Rattle.machine_state.specs.Views.{HasAt, Place, Free, Locked, Loaded, Stored, StopCause, LogFull, AtSegmentStart, Copy, Flight, Landed, Copying, AreSomeOf, Stage, Taken, Looked, Ready, Zeroing, Published, Plain, IsLoadedLast, Lent, Hold, Idle, Turned, Out, Away, View}
use Rattle.machine_state.specs.Failed.{KnowsOfFault}
use Rattle.machine_state.specs.Locked.{most_told}
use Rattle.machine_state.specs.Paged.{IsOpen}
use Rattle.machine_state.specs.Moves.{CallOutcome, Done, Failed, fault_number, after_split, split_off, after_join, spent, without_work, orphan_of, with_stage, with_hold, with_confirmed, with_writer, after_load_position, after_take_write_turn, after_slot_out, after_lock_position, after_load_prev, after_store_prev, after_store_position, after_stop, after_load_lock, after_take_lock, after_advance, after_release, after_store_word, after_load_word, after_load_written, after_load_flushed, after_load_moment, after_load_down, after_store_written, after_store_moment, after_store_flushed, after_set_down, after_load_async, after_raise_async, after_take_mapping_turn, after_load_initialised, after_create, after_write, after_sync}

-- ---- what a step may rest on

-- a word of the ring by the number of the log's word that it holds
abbrev pub ring_place : Setup → ℕ → ℕ
ring_place setup k = k / 1024 % setup.ring_pages * 1024 + k % 1024

-- a record may stand in the log under these locks: a segment switch under all eight alone
pub record MayStandUnder (locks : List ℕ) (value : Record) : Type 0 where
  pub logged : IsLogRecord value
  pub all_locks : IsTrue (is_switch value) → (lock : ℕ) → lock < 8 → Contains locks lock

-- a copy is not at its end, and its next word lies on a page that the pass has met
pub record CopiesOn (setup : Setup) (confirmed : ℕ) (c : Copy) : Type 0 where
  pub left : c.copied < words_owned setup.seg_size c.entry
  pub met : address_of_word setup.seg_size c.entry c.copied < confirmed

-- an entry's next word
abbrev pub next_word : Setup → Copy → ℕ
next_word setup c = entry_word setup.seg_size setup.sysid (assembled (c.entry).value)
    (c.entry).start c.prev (address_of_word setup.seg_size c.entry c.copied)

-- a word of the log is loaded for a write: its page is not written whole, and begins where all is
-- copied
pub record IsToBeWritten (k : ℕ) (l : Lent) : Type 0 where
  pub unwritten : (l.writer).written < (k / 1024 + 1) * 8192
  pub copied : k / 1024 * 8192 < l.known

-- the words of a page are as they were loaded last
abbrev pub IsPageLoaded : ℕ → List ℕ → List (ℕ × ℕ) → Type 0
IsPageLoaded page bytes staged = (n : ℕ) → n < 1024
    → (word : ℕ) × IsLoadedLast (page * 1024 + n) word staged
    × (word_of bytes n ≡ to_le_bytes w64 word)

-- the page under way is written up to an address, into a segment that is made
pub record IsNextWrite (setup : Setup) (segment page upto : ℕ) (bytes : List ℕ) (l : Lent) : Type 0
  where
    pub up : (l.writer).fault ≡ none
    pub page_is : segment * pages_of setup.seg_size + page ≡ (l.writer).written / 8192
    pub on_segment : page < pages_of setup.seg_size
    pub is_made : segment ≤ (l.writer).made
    pub alone : ((l.writer).waiting ≡ none) ⊎ ((l.writer).waiting ≡ some segment)
    pub rises : (l.writer).written ≤ upto
    pub behind_start : (l.writer).written / 8192 * 8192 < upto
    pub within : upto ≤ ((l.writer).written / 8192 + 1) * 8192
    pub copied : upto ≤ l.known
    pub aligned : upto % 8 ≡ 0
    pub whole : length bytes ≡ 8192
    pub loaded : IsPageLoaded ((l.writer).written / 8192) bytes l.staged

-- the segment under way, which is the one behind the last that is made, is made where a byte of it
-- is to be written next, and no other one waits for a sync
pub record IsNextCreate (setup : Setup) (segment : ℕ) (l : Lent) : Type 0 where
  pub up : (l.writer).fault ≡ none
  pub next : segment ≡ (l.writer).made + 1
  pub behind : segment * setup.seg_size ≤ (l.writer).written
  pub asked : segment * setup.seg_size < l.known
  pub alone : (l.writer).waiting ≡ none

pub record IsNextSync (segment : ℕ) (l : Lent) : Type 0 where
  pub up : (l.writer).fault ≡ none
  pub waits : (l.writer).waiting ≡ some segment

-- ---- the kinds

pub data StepKind : Type 0 where
  -- how far records are reserved; the turn to write (WALWriteLock), and the writer in its slot
  load_position : StepKind
  take_write_turn : StepKind
  slot_out : StepKind
  slot_in : StepKind
  release_write_turn : StepKind
  -- reservation, in this order; given back where it was just locked (ReserveXLogInsertLocation)
  lock_position : ℕ → StepKind
  load_prev : StepKind
  store_prev : StepKind
  -- the entry is to stand under these locks
  store_position : List ℕ → Record → StepKind
  give_position_back : Record → StepKind
  -- given back where the log stands at a segment's start, which a switch would leave as it is
  -- (RequestXLogSwitch, ReserveXLogSwitch)
  stay : StepKind
  -- insertion locks (WALInsertLockAcquire, WALInsertLockUpdateInsertingAt, WALInsertLockRelease); a
  -- watcher's visit, which learns up to the limit at most; an insert's vain try has the limit 0
  load_lock : (lock limit : ℕ) → StepKind
  take_lock : ℕ → StepKind
  advance : ℕ → ℕ → StepKind
  release : ℕ → StepKind
  -- words of the ring (GetXLogBuffer, CopyXLogRecordToWAL, XLogWrite)
  load_buffer_end : ℕ → StepKind
  store_ring_word : StepKind
  load_ring_word : ℕ → StepKind
  -- positions and down (LogwrtResult)
  load_written : StepKind
  load_flushed : StepKind
  load_moment : StepKind
  load_down : StepKind
  store_written : StepKind
  store_moment : StepKind
  store_flushed : StepKind
  set_down : StepKind
  -- up to where commits are answered that may not be durable (XLogSetAsyncXactLSN)
  load_async : StepKind
  raise_async : (expected upto : ℕ) → StepKind
  -- mapping, in this order, with `load_written` behind the load (AdvanceXLInsertBuffer)
  take_mapping_turn : StepKind
  load_initialised_end : StepKind
  clear_end : StepKind
  zero_ring_word : StepKind
  publish_end : StepKind
  publish_initialised_end : StepKind
  release_mapping_turn : StepKind
  -- calls of the device (XLogFileInit, XLogWrite, issue_xlog_fsync)
  create : ℕ → CallOutcome → StepKind
  write : ℕ → ℕ → ℕ → List ℕ → CallOutcome → StepKind
  sync : ℕ → CallOutcome → StepKind

-- ---- the word that a step loads, stores or exchanges, by its number

-- the buffer of the page at an address
abbrev pub buffer_of : Setup → ℕ → ℕ
buffer_of setup at = at / 8192 % setup.ring_pages

-- the end word of a buffer, and the word at a place of the ring
abbrev pub end_number : Setup → ℕ → ℕ
end_number setup buffer = ends_number + buffer

abbrev pub ring_number : Setup → ℕ → ℕ
ring_number setup place = ends_number + setup.ring_pages + place

-- the address of the page that a mapper is about
abbrev pub page_mapped : Stage → ℕ
page_mapped Away = 0
page_mapped Taken = 0
page_mapped (Looked at) = at
page_mapped (Ready at written) = at
page_mapped (Zeroing at count) = at
page_mapped (Published at) = at

-- how many words of it are zeroed
abbrev pub words_zeroed : Stage → ℕ
words_zeroed Away = 0
words_zeroed Taken = 0
words_zeroed (Looked at) = 0
words_zeroed (Ready at written) = 0
words_zeroed (Zeroing at count) = count
words_zeroed (Published at) = 0

-- the number of the log's word that a copy stores next
abbrev pub number_of_next : Setup → Flight → ℕ
number_of_next setup Landed = 0
number_of_next setup (Copying c) = address_of_word setup.seg_size c.entry c.copied / 8

module _ (v : View) where
  abbrev setup_of : Setup
  setup_of = (v.opening).setup

  abbrev stage_of : Stage
  stage_of = (v.mapping).stage

  abbrev pub word_of_step : StepKind → ℕ
  word_of_step load_position = 0
  word_of_step take_write_turn = write_turn_number
  word_of_step slot_out = write_turn_number
  word_of_step slot_in = write_turn_number
  word_of_step release_write_turn = write_turn_number
  word_of_step (lock_position expected) = 0
  word_of_step load_prev = 1
  word_of_step store_prev = 1
  word_of_step (store_position locks value) = 0
  word_of_step (give_position_back value) = 0
  word_of_step stay = 0
  word_of_step (load_lock lock limit) = lock_number lock
  word_of_step (take_lock lock) = lock_number lock
  word_of_step (advance lock upto) = lock_number lock
  word_of_step (release lock) = lock_number lock
  word_of_step (load_buffer_end buffer) = end_number setup_of buffer
  word_of_step store_ring_word =
      ring_number setup_of (ring_place setup_of (number_of_next setup_of (v.working).flight))
  word_of_step (load_ring_word k) = ring_number setup_of (ring_place setup_of k)
  word_of_step load_written = written_number
  word_of_step load_flushed = flushed_number
  word_of_step load_moment = moment_number
  word_of_step load_down = down_number
  word_of_step store_written = written_number
  word_of_step store_moment = moment_number
  word_of_step store_flushed = flushed_number
  word_of_step set_down = down_number
  word_of_step load_async = async_number setup_of
  word_of_step (raise_async expected upto) = async_number setup_of
  word_of_step take_mapping_turn = mapping_turn_number
  word_of_step load_initialised_end = initialised_number
  word_of_step clear_end = end_number setup_of (buffer_of setup_of (page_mapped stage_of))
  word_of_step zero_ring_word = ring_number setup_of
      (buffer_of setup_of (page_mapped stage_of) * 1024 + words_zeroed stage_of)
  word_of_step publish_end = end_number setup_of (buffer_of setup_of (page_mapped stage_of))
  word_of_step publish_initialised_end = initialised_number
  word_of_step release_mapping_turn = mapping_turn_number
  word_of_step (create segment outcome) = write_turn_number
  word_of_step (write segment page upto bytes outcome) = write_turn_number
  word_of_step (sync segment outcome) = write_turn_number

  -- ---- the value of that word behind the step, where the number met is `met`: an exchange stores
  -- only where it meets what it expects

  abbrev pub exchanged : ℕ → ℕ → ℕ → ℕ
  exchanged expected stored met = if met == expected then stored else met

  abbrev pub place_at : Place → ℕ
  place_at Free = 0
  place_at (Locked at) = at
  place_at (Loaded at prev) = at
  place_at (Stored at prev) = at

  abbrev pub next_value : Flight → ℕ
  next_value Landed = 0
  next_value (Copying c) = next_word setup_of c

  abbrev pub number_lent : (Lent → ℕ) → Hold → ℕ
  number_lent f Idle = 0
  number_lent f Turned = 0
  number_lent f (Out l) = f l

  abbrev pub value_behind : StepKind → ℕ → ℕ
  value_behind load_position met = met
  value_behind take_write_turn met = exchanged 0 ((v.reserving).number + 1) met
  value_behind slot_out met = met
  value_behind slot_in met = met
  value_behind release_write_turn met = 0
  value_behind (lock_position expected) met = exchanged expected (expected + 1) met
  value_behind load_prev met = met
  value_behind store_prev met = address_of (setup_of).seg_size (place_at (v.reserving).place)
  value_behind (store_position locks value) met =
      place_at (v.reserving).place
      + room_at (setup_of).seg_size (place_at (v.reserving).place) value
  value_behind (give_position_back value) met = place_at (v.reserving).place
  value_behind stay met = place_at (v.reserving).place
  value_behind (load_lock lock limit) met = met
  value_behind (take_lock lock) met = exchanged 0 1 met
  value_behind (advance lock upto) met = upto + 1
  value_behind (release lock) met = 0
  value_behind (load_buffer_end buffer) met = met
  value_behind store_ring_word met = next_value (v.working).flight
  value_behind (load_ring_word k) met = met
  value_behind load_written met = met
  value_behind load_flushed met = met
  value_behind load_moment met = met
  value_behind load_down met = met
  value_behind store_written met = number_lent (λ l. (l.writer).written) (v.writing).hold
  value_behind store_moment met = number_lent (λ l. (l.writer).moment) (v.writing).hold
  value_behind store_flushed met = number_lent (λ l. l.hard) (v.writing).hold
  value_behind set_down met = number_lent (λ l. fault_number (l.writer).fault) (v.writing).hold
  value_behind load_async met = met
  value_behind (raise_async expected upto) met = exchanged expected upto met
  value_behind take_mapping_turn met = exchanged 0 ((v.reserving).number + 1) met
  value_behind load_initialised_end met = met
  value_behind clear_end met = 0
  value_behind zero_ring_word met = 0
  value_behind publish_end met = page_mapped stage_of + 8192
  value_behind publish_initialised_end met = page_mapped stage_of + 8192
  value_behind release_mapping_turn met = 0
  value_behind (create segment outcome) met = met
  value_behind (write segment page upto bytes outcome) met = met
  value_behind (sync segment outcome) met = met

  -- ---- what the pass must know for the step (`MayStep`)
  -- Reserving: each step needs the one before it; the entry may stand in the log and fits, nothing
  -- is in flight, and it is to stand under locks that are held, a segment switch under all of them.
  -- Locks: only a holder tells or releases;
  -- it tells at most up to its next word, or, where no entry stands under the lock, up to the end
  -- that it has seen reserved; and it releases what is copied whole. Addresses that are told, asked
  -- for, answered or written up to are multiples of 8 (Aligned). Words of the ring: a copy's next
  -- one, below an end that was met; for a write, those of a page that is not written whole and
  -- begins where all is copied. The async address is only raised, to what was seen reserved at
  -- most, and while no entry is in flight: one that is still being copied may not be answered. With
  -- the writer in hand alone: the calls of the device, and the stores of what it did. The moment is
  -- stored where no fault was met and nothing waits for a sync; the flushed address where that
  -- moment is stored, and written too; down behind a fault, by a pass that knows of no value of it,
  -- so that it is set once. The writer goes back with what it has written stored, or with down
  -- known. Mapping: stage by stage; a page is given up that is written, and from then on the turn
  -- is kept until the new one is there.

  abbrev pub HasOut : (Lent → Type 0) → Type 0
  HasOut P = (l : Lent) × ((v.writing).hold ≡ Out l) × P l

  abbrev pub IsCopying : (Copy → Type 0) → Type 0
  IsCopying P = (c : Copy) × ((v.working).flight ≡ Copying c) × P c

  -- a fault that a call tells is above the count at the opening
  abbrev pub IsCallFault : CallOutcome → Type 0
  IsCallFault Done = Unit {0}
  IsCallFault (Failed faults counted) = Rose (v.opening).faults faults

  abbrev pub MayStep : StepKind → Type 0
  MayStep load_position = Unit {0}
  MayStep take_write_turn = (v.writing).hold ≡ Idle
  MayStep slot_out = (v.writing).hold ≡ Turned
  MayStep slot_in = HasOut (λ l.
      (((l.writer).fault ≡ none) × (l.stored ≡ (l.writer).written)) ⊎ KnowsOfFault v)
  MayStep release_write_turn = (v.writing).hold ≡ Turned
  MayStep (lock_position expected) = ((v.reserving).place ≡ Free) × (expected % 2 ≡ 0)
  MayStep load_prev = (at : ℕ) × ((v.reserving).place ≡ Locked at)
  MayStep store_prev = (at prev : ℕ) × ((v.reserving).place ≡ Loaded at prev)
  MayStep (store_position locks value) = (at prev : ℕ) × ((v.reserving).place ≡ Stored at prev)
      × MayStandUnder locks value
      × (at + room_at (setup_of).seg_size at value ≤ log_limit setup_of)
      × AreSomeOf locks (v.working).locks × ((v.working).flight ≡ Landed)
  MayStep (give_position_back value) = (at : ℕ) × ((v.reserving).place ≡ Locked at)
      × (log_limit setup_of < at + room_at (setup_of).seg_size at value)
  MayStep stay = (at : ℕ) × ((v.reserving).place ≡ Locked at)
      × (end_form setup_of at % (setup_of).seg_size ≡ 0)
  MayStep (load_lock lock limit) = (lock < 8) × (limit % 8 ≡ 0)
  MayStep (take_lock lock) = lock < 8
  MayStep (advance lock upto) = Contains (v.working).locks lock
      × (upto < most_told (setup_of).seg_size (end_form setup_of (v.reserving).seen) lock
      (v.working).flight) × (upto % 8 ≡ 0)
  MayStep (release lock) = Contains (v.working).locks lock
      × ((c : Copy) → (v.working).flight ≡ Copying c → Contains c.locks lock
      → c.copied ≡ words_owned (setup_of).seg_size c.entry)
  MayStep (load_buffer_end buffer) = buffer < (setup_of).ring_pages
  MayStep store_ring_word = IsCopying (CopiesOn setup_of (v.mapping).confirmed)
  MayStep (load_ring_word k) = HasOut (IsToBeWritten k)
  MayStep load_written = Unit {0}
  MayStep load_flushed = Unit {0}
  MayStep load_moment = Unit {0}
  MayStep load_down = Unit {0}
  MayStep store_written = HasOut (λ l. Unit {0})
  MayStep store_moment = HasOut (λ l. ((l.writer).fault ≡ none) × ((l.writer).waiting ≡ none))
  MayStep store_flushed =
      HasOut (λ l. (l.hard ≡ (l.writer).written) × (l.stored ≡ (l.writer).written))
  MayStep set_down = HasOut (λ l. (faults : ℕ) × ((l.writer).fault ≡ some faults)
      × ((v.writing).down_met ≡ 0) × ((v.writing).down_set ≡ 0))
  MayStep load_async = Unit {0}
  MayStep (raise_async expected upto) = (expected < upto)
      × (upto ≤ end_form setup_of (v.reserving).seen) × (upto % 8 ≡ 0)
      × ((v.working).flight ≡ Landed)
  MayStep take_mapping_turn = (v.mapping).stage ≡ Away
  MayStep load_initialised_end = Unit {0}
  MayStep clear_end = (at written : ℕ) × ((v.mapping).stage ≡ Ready at written)
      × (at + 8192 ≤ written + (setup_of).ring_pages * 8192)
  MayStep zero_ring_word = (at count : ℕ) × ((v.mapping).stage ≡ Zeroing at count) × (count < 1024)
  MayStep publish_end = (at : ℕ) × ((v.mapping).stage ≡ Zeroing at 1024)
  MayStep publish_initialised_end = (at : ℕ) × ((v.mapping).stage ≡ Published at)
  MayStep release_mapping_turn = IsOpen (v.mapping).stage
  MayStep (create segment outcome) = HasOut (IsNextCreate setup_of segment) × IsCallFault outcome
  MayStep (write segment page upto bytes outcome) =
      HasOut (IsNextWrite setup_of segment page upto bytes) × IsCallFault outcome
  MayStep (sync segment outcome) = HasOut (IsNextSync segment) × IsCallFault outcome

  -- ---- what it knows behind the step, and where the writer is

  abbrev pub with_slot : Option Plain → View
  with_slot none = v
  with_slot (some writer) = after_slot_out writer v

  -- a call of the device changes the writer in hand
  abbrev pub with_call_on : (Plain → Plain) → Hold → View
  with_call_on f Idle = v
  with_call_on f Turned = v
  with_call_on f (Out l) = with_writer (f l.writer) v

  abbrev pub view_behind : StepKind → ℕ → Option Plain → View
  view_behind load_position met home = after_load_position met v
  view_behind take_write_turn met home = after_take_write_turn met v
  view_behind slot_out met home = with_slot home
  view_behind slot_in met home = with_hold Turned v
  view_behind release_write_turn met home = with_hold Idle v
  view_behind (lock_position expected) met home = after_lock_position expected met v
  view_behind load_prev met home = after_load_prev met v
  view_behind store_prev met home = after_store_prev v
  view_behind (store_position locks value) met home = after_store_position locks value v
  view_behind (give_position_back value) met home = after_stop LogFull v
  view_behind stay met home = after_stop AtSegmentStart v
  view_behind (load_lock lock limit) met home = after_load_lock lock limit met v
  view_behind (take_lock lock) met home = after_take_lock lock met v
  view_behind (advance lock upto) met home = after_advance lock upto v
  view_behind (release lock) met home = after_release lock v
  view_behind (load_buffer_end buffer) met home = with_confirmed met v
  view_behind store_ring_word met home = after_store_word v
  view_behind (load_ring_word k) met home = after_load_word k met v
  view_behind load_written met home = after_load_written met v
  view_behind load_flushed met home = after_load_flushed met v
  view_behind load_moment met home = after_load_moment met v
  view_behind load_down met home = after_load_down met v
  view_behind store_written met home = after_store_written v
  view_behind store_moment met home = after_store_moment v
  view_behind store_flushed met home = after_store_flushed
      (number_lent (λ l. l.hard) (v.writing).hold)
      (number_lent (λ l. l.hard_moment) (v.writing).hold) v
  view_behind set_down met home =
      after_set_down (number_lent (λ l. fault_number (l.writer).fault) (v.writing).hold) v
  view_behind load_async met home = after_load_async met v
  view_behind (raise_async expected upto) met home = after_raise_async expected upto met v
  view_behind take_mapping_turn met home = after_take_mapping_turn met v
  view_behind load_initialised_end met home = after_load_initialised met v
  view_behind clear_end met home = with_stage (Zeroing (page_mapped stage_of) 0) v
  view_behind zero_ring_word met home =
      with_stage (Zeroing (page_mapped stage_of) (words_zeroed stage_of + 1)) v
  view_behind publish_end met home = with_stage (Published (page_mapped stage_of)) v
  view_behind publish_initialised_end met home =
      with_stage Taken (with_confirmed (page_mapped stage_of + 8192) v)
  view_behind release_mapping_turn met home = with_stage Away v
  view_behind (create segment outcome) met home = with_call_on
      (after_create segment (create_call (setup_of).seg_size segment) outcome)
      (v.writing).hold
  view_behind (write segment page upto bytes outcome) met home = with_call_on
      (after_write segment upto (write_call (setup_of).seg_size segment page bytes) outcome)
      (v.writing).hold
  view_behind (sync segment outcome) met home = with_call_on
      (after_sync (sync_call (setup_of).seg_size segment) outcome) (v.writing).hold

  abbrev pub returned : Hold → Option Plain → Option Plain
  returned Idle home = home
  returned Turned home = home
  returned (Out l) home = some l.writer

  abbrev pub home_behind : StepKind → Option Plain → Option Plain
  home_behind slot_out home = none
  home_behind slot_in home = returned (v.writing).hold home
  home_behind other home = home

-- ---- steps

-- the words that all share, the writer where it is at home, and the views of all passes
pub record State : Type 0 where
  pub words : List ℕ
  pub home : Option Plain
  pub views : List View

-- the view of a pass that may still step
abbrev pub IsLive : State → ℕ → View → Type 0
IsLive s id v = HasAt s.views id v × ((v.reserving).live ≡ true)

-- the pass with this view makes one step of this kind, and meets this number
pub record Makes (id : ℕ) (e : StepKind) (met : ℕ) (s t : State) : Type 0 where
  pub view : View
  pub live : IsLive s id view
  pub may : MayStep view e
  pub met_is : met ≡ slice_index s.words (word_of_step view e)
  pub words : t.words ≡ set s.words (word_of_step view e) (value_behind view e met)
  pub home : t.home ≡ home_behind view e s.home
  pub views : t.views ≡ set s.views id (view_behind view e met s.home)

-- a pass is split off another one, under the least of its spare numbers
pub record Splits (id : ℕ) (s t : State) : Type 0 where
  pub view : View
  pub live : IsLive s id view
  pub may : (view.reserving).spare < (view.reserving).spare_end
  pub words : t.words ≡ s.words
  pub home : t.home ≡ s.home
  pub views : t.views ≡ set s.views id (after_split view) ++ split_off view ∷ []

-- a pass that is about nothing
pub record IsResting (v : View) : Type 0 where
  pub place : (v.reserving).place ≡ Free
  pub locks : (v.working).locks ≡ []
  pub flight : (v.working).flight ≡ Landed
  pub stage : (v.mapping).stage ≡ Away
  pub hold : (v.writing).hold ≡ Idle

-- a pass takes another one in, which is about nothing
pub record Joins (id other : ℕ) (s t : State) : Type 0 where
  pub view : View
  pub other_view : View
  pub live : IsLive s id view
  pub other_live : IsLive s other other_view
  pub apart : id ≢ other
  pub may : IsResting other_view
  pub words : t.words ≡ s.words
  pub home : t.home ≡ s.home
  pub views : t.views
      ≡ set (set s.views other (spent other_view)) id (after_join view other_view)

-- a pass that met or set a down value, and is about nothing but a copy that it does not end
pub record IsStranded (v : View) : Type 0 where
  pub down : KnowsOfFault v
  pub flight : (v.working).flight ≢ Landed
  pub place : (v.reserving).place ≡ Free
  pub stage : (v.mapping).stage ≡ Away
  pub hold : (v.writing).hold ≡ Idle

-- behind a fault, such a pass gives up its copy, with its locks: they stay with a view of their
-- own, with which nobody steps any more
pub record GivesUp (id : ℕ) (s t : State) : Type 0 where
  pub view : View
  pub live : IsLive s id view
  pub may : IsStranded view
  pub words : t.words ≡ s.words
  pub home : t.home ≡ s.home
  pub views : t.views ≡ set s.views id (without_work view) ++ orphan_of view ∷ []

pub data MachineStep (s t : State) : Type 0 where
  Moves : (id : ℕ) (e : StepKind) (met : ℕ) → Makes id e met s t → MachineStep s t
  SplitsOff : (id : ℕ) → Splits id s t → MachineStep s t
  TakesIn : (id other : ℕ) → Joins id other s t → MachineStep s t
  Abandons : (id : ℕ) → GivesUp id s t → MachineStep s t

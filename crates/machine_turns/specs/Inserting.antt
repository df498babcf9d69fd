-- The turns of an insert but for those that map a page, on plain data: words and a view.
use Rattle.std.specs.Prelude.{ℕ, ◌+◌, ◌-◌, ◌/◌, ◌%◌, Bool, true, false, ◌&&◌, not, List, set, min, ◌==◌, nat_le, if◌then◌else◌}
use Rattle.byte_position.specs.Position.{address_of, end_address_of}
use Rattle.machine_state.specs.declared.setup.Setup.{Setup}
use Rattle.machine_state.specs.Words.{end_word, lock_word, log_limit, position_word, prev_word, ends_number, lock_number}
use Rattle.machine_state.specs.Steps.{ring_place}
use Rattle.machine_turns.specs.declared.doing.PlainDoing.TheVariants.{Begins, Tries, Reserves, Looks, Copies, Maps, Releases, FlushBegins}
use Rattle.machine_turns.specs.declared.doing.PlainNext.{PlainNext}
use Rattle.machine_turns.specs.declared.doing.PlainNext.TheVariants.{GoesOn, Answers}
use Rattle.machine_turns.specs.declared.event.Event.TheVariants.{LockPosition, LoadPrev, StorePrev, StorePosition, GivePositionBack, LoadLock, TakeLock, ReleaseLock, LoadBufferEnd, StoreRingWord, LoadDown}
use Rattle.machine_turns.specs.declared.view.PlainFlight.{PlainFlight}
use Rattle.machine_turns.specs.declared.view.PlainFlight.TheVariants.{Landed, Copying}
use Rattle.machine_turns.specs.declared.view.PlainPlace.{PlainPlace}
use Rattle.machine_turns.specs.declared.view.PlainPlace.TheVariants.{Free, Locked, Loaded, Stored}
use Rattle.machine_turns.specs.declared.view.PlainView.{PlainView}
use Rattle.machine_turns.specs.declared.view.PlainWatching.{PlainWatching}
use Rattle.machine_turns.specs.Left.{Left, left_going_on, at_place, next_in, page_end_in}

-- ---- watching

-- with the first lock a watch begins, for an address
abbrev pub watch_begun : ℕ → ℕ → PlainWatching → PlainWatching
watch_begun lock end watching =
    if lock == 0 then record { end = end; visited = 0; bound = end } else watching

-- the lock that comes next is visited, unless another backend holds it and tells nothing
abbrev pub watch_visited : ℕ → ℕ → PlainWatching → PlainWatching
watch_visited lock met watching =
    if (lock == watching.visited) && not (met == 1)
    then record watching {
      visited = watching.visited + 1;
      bound = (if met == 0 then watching.bound else min watching.bound (met - 1));
    }
    else watching

-- a lock is loaded, to learn of what lies below an address
abbrev pub watched : ℕ → ℕ → ℕ → PlainView → PlainView
watched lock end met view =
    record view { watching = watch_visited lock met (watch_begun lock end view.watching) }

-- ---- reserving

-- a record of so many bytes is reserved at a byte position
abbrev pub reserved : Setup → PlainView → (at prev room : ℕ) → PlainView
reserved setup view at prev room = record view {
  place = Free;
  seen = at + room;
  last_end = end_address_of setup.seg_size (at + room);
  flight = Copying at prev (end_address_of setup.seg_size at)
      (end_address_of setup.seg_size (at + room));
}

-- ---- copying

-- one word more is copied
abbrev pub with_one_more : PlainFlight → PlainFlight
with_one_more Landed = Landed
with_one_more (Copying start prev next end) = Copying start prev (next + 8) end

abbrev pub has_no_word_left : PlainFlight → Bool
has_no_word_left Landed = true
has_no_word_left (Copying start prev next end) = next == end

module _ (setup : Setup) (words : List ℕ) (view : PlainView) where
  abbrev size : ℕ
  size = setup.seg_size

  -- it loads down
  abbrev pub at_begins : Left
  at_begins = left_going_on LoadDown view words (Tries 0)

  -- the lock that is tried when so many were found taken
  abbrev pub lock_to_try : ℕ → ℕ
  lock_to_try taken = (view.number + taken) % 8

  -- it takes the lock where it is free, and else loads it and passes to the next
  abbrev pub at_tries : ℕ → Left
  at_tries taken =
      let lock = lock_to_try taken in
      let met = lock_word words lock in
      if met == 0
      then left_going_on (TakeLock lock) view (set words (lock_number lock) 1) (Reserves lock)
      else left_going_on (LoadLock lock) (watched lock 0 met view) words
      (if taken + 1 == 8 then Begins else Tries (taken + 1))

  -- the position is locked; the last start is loaded where the record fits, and stored; the
  -- position behind the record is stored
  abbrev pub at_reserves : (lock room : ℕ) → Left
  at_reserves lock room = by_place view.place
    where
      by_place : PlainPlace → Left
      by_place Free = left_going_on LockPosition (at_place (Locked (position_word words)) view)
          (set words 0 (position_word words + 1)) (Reserves lock)
      by_place (Locked at) = if nat_le (at + room) (log_limit setup)
          then left_going_on LoadPrev (at_place (Loaded at (prev_word words)) view) words
          (Reserves lock)
          else left_going_on GivePositionBack (at_place Free view) (set words 0 at)
          (Releases lock true)
      by_place (Loaded at prev) = left_going_on StorePrev (at_place (Stored at prev) view)
          (set words 1 (address_of size at)) (Reserves lock)
      by_place (Stored at prev) =
          left_going_on StorePosition (reserved setup view at prev room) (set words 0 (at + room))
          (Looks lock)

  -- ---- copying

  -- the end of the next word's page is loaded
  abbrev pub at_looks : ℕ → Left
  at_looks lock =
      let buffer = next_in view.flight / 8192 % setup.ring_pages in
      left_going_on (LoadBufferEnd buffer) view words
      (if end_word words buffer == page_end_in view.flight then Copies lock else Maps lock)

  -- the record's next word is this one
  abbrev pub at_copies : (lock word : ℕ) → Left
  at_copies lock word =
      let flight = with_one_more view.flight in
      left_going_on StoreRingWord (record view { flight = flight })
      (set words (ends_number + setup.ring_pages + ring_place setup (next_in view.flight / 8)) word)
      (if has_no_word_left flight then Releases lock false
      else (if next_in flight % 8192 == 0 then Looks lock else Copies lock))

  -- the line is an insert's or a commit's
  abbrev pub behind_release : (full commits : Bool) → PlainNext
  behind_release true commits = Answers true
  behind_release false true = GoesOn FlushBegins
  behind_release false false = Answers false

  -- the lock is given back
  abbrev pub at_releases : ℕ → (full commits : Bool) → Left
  at_releases lock full commits = record {
    made = record { event = ReleaseLock lock; next = behind_release full commits };
    view = record view { flight = Landed };
    words = set words (lock_number lock) 0;
  }

-- What a step on plain data does to the position word, and what becomes of the room that is left:
-- a reservation takes its record's room, and no other step takes any.
use Rattle.std.proofs.Common.{◌≡◌, ◌⊎◌, inl, inr, ℕ, zero, suc, ◌+◌, ◌-◌, ◌*◌, ◌/◌, ◌%◌, ◌<◌, ◌≤◌, Bool, true, false, cond, eqb-true, not, ◌||◌, List, [], ◌∷◌, length, drop, set, slice_get, Option, Some, None, refl, ap, ◌∙◌, arith}
use Rattle.std.specs.Prelude.{nat_eq, nat_le, nat_lt}
use Rattle.byte_position.specs.Position.{address_of}
use Rattle.wal_spelling.specs.Spelling.{assembled_size}
use Rattle.wal_page.proofs.PlaceLaws.{end-whole_from}
use Rattle.machine_state.specs.declared.setup.Setup.{Setup}
use Rattle.machine_state.specs.Words.{end_word, flushed_word, lock_word, log_limit, position_word, prev_word, written_word, mapping_turn_number, write_turn_number, initialised_number, written_number, flushed_number, moment_number, down_number, ends_number, lock_number, order_end}
use Rattle.machine_state.specs.Views.{Place, Free, Locked, Loaded, Stored, View, reserving_of}
use Rattle.machine_state.specs.Moves.{unlocked}
use Rattle.machine_state.specs.Ordered.{AtPlace}
use Rattle.machine_state.specs.Steps.{ring_place}
use Rattle.machine_state.proofs.Lists.{part_at}
use Rattle.machine_state.proofs.WordLists.{word_else, word_set}
use Rattle.machine_turns.specs.Doing.{Ask, Machine}
use Rattle.machine_turns.specs.Turned.{is_free}
use Rattle.machine_turns.proofs.AtView.{sound}
use Rattle.machine_turns.specs.declared.doing.PlainDoing.{PlainDoing}
use Rattle.machine_turns.specs.declared.doing.PlainDoing.TheVariants as doings
use Rattle.machine_turns.specs.declared.doing.PlainNext.{PlainNext}
use Rattle.machine_turns.specs.declared.doing.PlainNext.TheVariants as nexts
use Rattle.machine_turns.specs.declared.doing.PlainPurpose.{PlainPurpose}
use Rattle.machine_turns.specs.declared.doing.PlainPurpose.TheVariants as purposes
use Rattle.machine_turns.specs.declared.event.Event.TheVariants as events
use Rattle.machine_turns.specs.declared.script.PlainLine.{PlainLine}
use Rattle.machine_turns.specs.declared.script.PlainLine.TheVariants.{Insert, Commit, Flush as LineFlush}
use Rattle.machine_turns.specs.declared.lane.PlainBackend.{PlainBackend}
use Rattle.machine_turns.specs.declared.view.PlainFlight.{PlainFlight}
use Rattle.machine_turns.specs.declared.view.PlainPlace.{PlainPlace}
use Rattle.machine_turns.specs.declared.view.PlainPlace.TheVariants as places
use Rattle.machine_turns.specs.declared.view.PlainView.{PlainView}
use Rattle.machine_turns.specs.declared.view.PlainStage.{PlainStage}
use Rattle.machine_turns.specs.declared.view.PlainStage.TheVariants as stages
use Rattle.machine_turns.specs.Left.{Left, at_place, at_stage, left_going_on, next_in, page_end_in}
use Rattle.machine_turns.specs.Scripts.{room_of_line, rooms_of_lines}
use Rattle.machine_turns.specs.Inserting.{lock_to_try, at_reserves, at_tries, behind_release, has_no_word_left, reserved, watched, with_one_more}
use Rattle.machine_turns.specs.Flushing.{behind_writing}
use Rattle.machine_turns.specs.Mapping.{at_maps, behind_turn, behind_written}
use Rattle.machine_turns.specs.Writing.{behind_call, is_some_waiting, known_in, upto_next, behind_written_word, page_or_end}
use Rattle.machine_turns.specs.Lanes.{lane_answered, lane_behind, start_of_line, stepped}
use Rattle.machine_turns.specs.Writer.{WriterState, page_written, segment_at, succeeds}
use Rattle.wal_core.specs.Following.{StandsPlain, plain_step}
use Rattle.wal_core.specs.PlainData.{plain_place, plain_view}
use Rattle.wal_core.specs.Playing.{all_rooms_left, lines_reserved, rooms_left}

-- ---- what a step does to the room that is left

-- a record that was reserved stays so, or the line is answered
abbrev pub GoesNotBack : PlainDoing → PlainNext → Type 0
GoesNotBack d (nexts.GoesOn next) = lines_reserved d ≤ lines_reserved next
GoesNotBack d (nexts.Answers full) = Unit {0}

-- the line's record is reserved now
abbrev pub HasReserved : PlainNext → Type 0
HasReserved (nexts.GoesOn next) = lines_reserved next ≡ 1
HasReserved (nexts.Answers full) = ⊥

module _ (words : List ℕ) (d : PlainDoing) (left : Left) where
  pub record TakesNoRoom : Type 0 where
    pub position : unlocked (position_word left.words) ≡ unlocked (position_word words)
    pub next : GoesNotBack d (left.made).next

  pub record TakesRoom (room : ℕ) : Type 0 where
    pub position : unlocked (position_word left.words) ≡ unlocked (position_word words) + room
    pub before : lines_reserved d ≡ 0
    pub next : HasReserved (left.made).next

  abbrev pub MovesRoom : ℕ → Type 0
  MovesRoom room = TakesNoRoom ⊎ TakesRoom room

-- ---- what comes behind a step

either : {X : Type 0} (P : X → Type 0) (b : Bool) (x y : X) → P x → P y → P (cond b x y)
either P true x y p q = p
either P false x y p q = q

-- the line's record is reserved, or it reserves none
record IsPast (d : PlainDoing) : Type 0 where
  past : lines_reserved d ≡ 1

now_past : (d : PlainDoing) → lines_reserved d ≡ 1 → IsPast d
now_past d is = record { past = is }

pub at_most_one : (d : PlainDoing) → lines_reserved d ≤ 1
at_most_one doings.Begins = omega arith
at_most_one (doings.Tries taken) = omega arith
at_most_one (doings.Reserves lock) = omega arith
at_most_one other = omega arith

goes_past : (d next : PlainDoing) → IsPast next → GoesNotBack d (nexts.GoesOn next)
goes_past d next is = omega (arith, at_most_one d, is.past)

past_turn : (lock : ℕ) (end : Option ℕ) → IsPast (behind_turn lock end)
past_turn lock None = now_past _ refl
past_turn lock (Some end) = now_past _ refl

past_written : (setup : Setup) (view : PlainView) (lock at written : ℕ)
    → IsPast (behind_written setup view lock at written)
past_written setup view lock at written =
    either IsPast (nat_le (page_end_in view.flight) at) _ _
    (now_past (doings.GivesTurn lock None) refl)
    (either IsPast (nat_lt (written + setup.ring_pages * 8192) (at + 8192)) _ _
    (now_past (doings.GivesTurn lock (Some (at + 8192 - setup.ring_pages * 8192))) refl)
    (now_past (doings.Maps lock) refl))

past_release : (setup : Setup) (words : List ℕ) (view : PlainView) (d : PlainDoing)
    (full commits : Bool) → GoesNotBack d (behind_release setup words view full commits)
past_release setup words view d true commits = tt
past_release setup words view d false true = goes_past d doings.FlushBegins (now_past _ refl)
past_release setup words view d false false = tt

past_writing : (d : PlainDoing) (purpose : PlainPurpose) (failed : Bool)
    → GoesNotBack d (behind_writing purpose failed)
past_writing d purposes.Line failed = tt
past_writing d (purposes.Page lock end) true = tt
past_writing d (purposes.Page lock end) false = goes_past d (doings.Looks lock) (now_past _ refl)

past_page : (purpose : PlainPurpose) (known : ℕ) (w : WriterState)
    → IsPast (page_or_end purpose known w)
past_page purposes.Line known w = either IsPast (nat_lt (w.plain).written known) _ _
    (now_past (doings.LoadsPage purposes.Line 0) refl)
    (either IsPast (is_some_waiting (w.plain).waiting) _ _ (now_past doings.SyncsLast refl)
    (now_past (doings.StoresWritten purposes.Line) refl))
past_page (purposes.Page lock end) known w = either IsPast (nat_lt (w.plain).written known) _ _
    (now_past (doings.LoadsPage (purposes.Page lock end) 0) refl)
    (now_past (doings.StoresWritten (purposes.Page lock end)) refl)

-- ---- a word other than the position is stored

-- the number of the word that a copy stores next
abbrev number_copied : Setup → PlainFlight → ℕ
number_copied setup flight = ends_number + setup.ring_pages + ring_place setup (next_in flight / 8)

position_else : (words : List ℕ) (i n : ℕ) → 0 < i
    → position_word (set words i n) ≡ position_word words
position_else words i n behind = word_else words i n 0 (λ is. omega arith)

module _ (setup : Setup) (words : List ℕ) (w : WriterState) (view : PlainView) (line : PlainLine)
    (copied : Option PlainLine) where
  past_word : (purpose : PlainPurpose)
      → IsPast (behind_written_word setup words view w purpose)
  past_word purposes.Line = now_past _ refl
  past_word (purposes.Page lock end) = now_past _ refl

  past_call : (purpose : PlainPurpose) (next : PlainDoing) → IsPast next
      → IsPast (behind_call setup words view w purpose next)
  past_call purpose next past = either IsPast (succeeds w) _ _ past
      (now_past (doings.SetsDown purpose) refl)

  past_looks : (lock : ℕ) → IsPast (cond
      (nat_eq (end_word words (next_in view.flight / 8192 % setup.ring_pages))
      (page_end_in view.flight)) (doings.Copies lock) (doings.Maps lock))
  past_looks lock = either IsPast
      (nat_eq (end_word words (next_in view.flight / 8192 % setup.ring_pages))
      (page_end_in view.flight)) _ _ (now_past (doings.Copies lock) refl)
      (now_past (doings.Maps lock) refl)

  past_copies : (lock : ℕ) (flight : PlainFlight) → IsPast (cond (has_no_word_left flight)
      (doings.Releases lock false) (cond (nat_eq (next_in flight % 8192) 0) (doings.Looks lock)
      (doings.Copies lock)))
  past_copies lock flight = either IsPast (has_no_word_left flight) _ _
      (now_past (doings.Releases lock false) refl)
      (either IsPast (nat_eq (next_in flight % 8192) 0) _ _ (now_past (doings.Looks lock) refl)
      (now_past (doings.Copies lock) refl))

  past_flushed : IsPast (cond (nat_le view.last_end (flushed_word words)) doings.LoadsMoment
      (doings.Visits purposes.Line 0))
  past_flushed = either IsPast (nat_le view.last_end (flushed_word words)) _ _
      (now_past doings.LoadsMoment refl) (now_past (doings.Visits purposes.Line 0) refl)

  past_visits : (purpose : PlainPurpose) (lock : ℕ) → IsPast (cond (nat_eq (lock + 1) 8)
      (doings.TakesTurn purpose) (doings.Visits purpose (lock + 1)))
  past_visits purpose lock = either IsPast (nat_eq (lock + 1) 8) _ _
      (now_past (doings.TakesTurn purpose) refl) (now_past (doings.Visits purpose (lock + 1)) refl)

  past_loads : (purpose : PlainPurpose) (loaded : ℕ) → IsPast (cond (nat_eq (loaded + 1) 1024)
      (cond (nat_lt (w.plain).made (segment_at w)) (doings.Creates purpose)
      (doings.Writes purpose)) (doings.LoadsPage purpose (loaded + 1)))
  past_loads purpose loaded = either IsPast (nat_eq (loaded + 1) 1024) _ _
      (either IsPast (nat_lt (w.plain).made (segment_at w)) _ _
      (now_past (doings.Creates purpose) refl) (now_past (doings.Writes purpose) refl))
      (now_past (doings.LoadsPage purpose (loaded + 1)) refl)

  past_writes : (purpose : PlainPurpose) → IsPast (behind_call setup words view w purpose
      (cond (nat_eq (upto_next setup words view w % setup.seg_size) 0)
      (doings.SyncsFull purpose) (page_or_end purpose (known_in view.hold)
      (page_written w (upto_next setup words view w)))))
  past_writes purpose = past_call purpose _
      (either IsPast (nat_eq (upto_next setup words view w % setup.seg_size) 0) _ _
      (now_past (doings.SyncsFull purpose) refl) (past_page purpose (known_in view.hold)
      (page_written w (upto_next setup words view w))))

  -- a word is loaded; one is stored with this number
  loads : (d : PlainDoing) (left : Left) → left.words ≡ words → GoesNotBack d (left.made).next
      → TakesNoRoom words d left
  loads d left are next =
      record { position = ap (λ (ws : List ℕ). unlocked (position_word ws)) are; next = next }

  stores : (d : PlainDoing) (left : Left) (i n : ℕ) → left.words ≡ set words i n → 0 < i
      → GoesNotBack d (left.made).next → TakesNoRoom words d left
  stores d left i n are behind next = record {
    position = ap (λ (ws : List ℕ). unlocked (position_word ws)) are
        ∙ ap unlocked (position_else words i n behind);
    next = next;
  }

  -- ---- at each place but that of reserving

  tries_keeps : (taken : ℕ)
      → TakesNoRoom words (doings.Tries taken) (at_tries setup words view taken)
  tries_keeps taken =
      let d = doings.Tries taken in
      let lock = lock_to_try setup words view taken in
      let met = lock_word words lock in
      let next = cond (nat_eq (taken + 1) 8) doings.Begins (doings.Tries (taken + 1)) in
      either (TakesNoRoom words d) (nat_eq met 0) _ _
      (stores d (left_going_on (events.TakeLock lock) view (set words (lock_number lock) 1)
      (doings.Reserves lock)) (lock_number lock) 1 refl (omega arith) (omega arith))
      (loads d (left_going_on (events.LoadLock lock) (watched lock 0 met view) words next) refl
      (omega arith))

  maps_keeps : (lock : ℕ) (s : PlainStage)
      → TakesNoRoom words (doings.Maps lock)
      (at_maps setup words (record view { stage = s }) lock)
  maps_keeps lock stages.Away =
      stores (doings.Maps lock) _ mapping_turn_number _ refl (omega arith) (omega arith)
  maps_keeps lock stages.Taken = loads (doings.Maps lock) _ refl (omega arith)
  maps_keeps lock (stages.Looked at) =
      let looked = record view { stage = stages.Looked at } in
      loads (doings.Maps lock) _ refl
      (goes_past (doings.Maps lock) _ (past_written setup looked lock at (written_word words)))
  maps_keeps lock (stages.Ready at) =
      stores (doings.Maps lock) _ (ends_number + at / 8192 % setup.ring_pages) _ refl (omega arith)
      (omega arith)
  maps_keeps lock (stages.Zeroing at count) =
      let d = doings.Maps lock in
      let zeroing = record view { stage = stages.Zeroing at count } in
      let buffer = at / 8192 % setup.ring_pages in
      let place = ends_number + setup.ring_pages + (buffer * 1024 + count) in
      either (TakesNoRoom words d) (nat_lt count 1024) _ _
      (stores d (left_going_on events.ZeroRingWord (at_stage (stages.Zeroing at (count + 1)) zeroing)
      (set words place 0) d) place 0 refl (omega arith) (omega arith))
      (stores d (left_going_on events.PublishEnd (at_stage (stages.Published at) zeroing)
      (set words (ends_number + buffer) (at + 8192)) d) (ends_number + buffer) (at + 8192) refl (omega arith)
      (omega arith))
  maps_keeps lock (stages.Published at) =
      stores (doings.Maps lock) _ initialised_number _ refl (omega arith) (omega arith)

  abbrev pub IsNotReserving : PlainDoing → Type 0
  IsNotReserving (doings.Reserves lock) = ⊥
  IsNotReserving other = Unit {0}

  pub keeps : (d : PlainDoing) → IsNotReserving d
      → TakesNoRoom words d (stepped setup words w view line copied d).left
  keeps doings.Begins other = loads doings.Begins _ refl (omega arith)
  keeps (doings.Tries taken) other = tries_keeps taken
  keeps (doings.Reserves lock) other = absurd other
  keeps (doings.Looks lock) other = loads (doings.Looks lock) _ refl
      (goes_past (doings.Looks lock) _ (past_looks lock))
  keeps (doings.Copies lock) other =
      stores (doings.Copies lock) _ (number_copied setup view.flight) _ refl (omega arith)
      (goes_past (doings.Copies lock) _ (past_copies lock (with_one_more view.flight)))
  keeps (doings.Maps lock) other = maps_keeps lock view.stage
  keeps (doings.GivesTurn lock end) other = stores (doings.GivesTurn lock end) _ mapping_turn_number 0 refl
      (omega arith) (goes_past (doings.GivesTurn lock end) _ (past_turn lock end))
  keeps (doings.Tells lock end) other = stores (doings.Tells lock end) _ (lock_number lock) _ refl
      (omega arith) (omega arith)
  keeps (doings.Releases lock full) other = stores (doings.Releases lock full) _ (lock_number lock) 0 refl
      (omega arith) (past_release setup words view (doings.Releases lock full) full _)
  keeps doings.FlushBegins other = loads doings.FlushBegins _ refl (omega arith)
  keeps doings.LoadsPosition other = loads doings.LoadsPosition _ refl (omega arith)
  keeps doings.LoadsFlushed other = loads doings.LoadsFlushed _ refl
      (goes_past doings.LoadsFlushed _ past_flushed)
  keeps doings.LoadsMoment other = loads doings.LoadsMoment _ refl tt
  keeps (doings.Visits purpose lock) other = loads (doings.Visits purpose lock) _ refl
      (goes_past (doings.Visits purpose lock) _ (past_visits purpose lock))
  keeps (doings.TakesTurn purpose) other = stores (doings.TakesTurn purpose) _ write_turn_number _ refl
      (omega arith) (omega arith)
  keeps (doings.LoadsDown purpose) other = loads (doings.LoadsDown purpose) _ refl (omega arith)
  keeps (doings.TakesOut purpose) other = loads (doings.TakesOut purpose) _ refl
      (goes_past (doings.TakesOut purpose) _ (past_page purpose _ w))
  keeps (doings.LoadsPage purpose loaded) other = loads (doings.LoadsPage purpose loaded) _ refl
      (goes_past (doings.LoadsPage purpose loaded) _ (past_loads purpose loaded))
  keeps (doings.Creates purpose) other = loads (doings.Creates purpose) _ refl
      (goes_past (doings.Creates purpose) _
      (past_call purpose _ (now_past (doings.Writes purpose) refl)))
  keeps (doings.Writes purpose) other = loads (doings.Writes purpose) _ refl
      (goes_past (doings.Writes purpose) _ (past_writes purpose))
  keeps (doings.SyncsFull purpose) other = loads (doings.SyncsFull purpose) _ refl
      (goes_past (doings.SyncsFull purpose) _ (past_call purpose _ (past_page purpose _ _)))
  keeps doings.SyncsLast other = loads doings.SyncsLast _ refl
      (goes_past doings.SyncsLast _
      (past_call purposes.Line _ (now_past (doings.StoresWritten purposes.Line) refl)))
  keeps (doings.StoresWritten purpose) other = stores (doings.StoresWritten purpose) _ written_number _ refl
      (omega arith) (goes_past (doings.StoresWritten purpose) _ (past_word purpose))
  keeps doings.StoresMoment other = stores doings.StoresMoment _ moment_number _ refl (omega arith)
      (omega arith)
  keeps doings.StoresFlushed other = stores doings.StoresFlushed _ flushed_number _ refl (omega arith)
      (omega arith)
  keeps (doings.SetsDown purpose) other = stores (doings.SetsDown purpose) _ down_number _ refl
      (omega arith) (omega arith)
  keeps (doings.PutsBack purpose failed) other =
      loads (doings.PutsBack purpose failed) _ refl (omega arith)
  keeps (doings.GivesWriteTurn purpose failed) other =
      stores (doings.GivesWriteTurn purpose failed) _ write_turn_number 0 refl (omega arith)
      (past_writing (doings.GivesWriteTurn purpose failed) purpose failed)

-- ---- reserving

-- rooms are whole words
eights : (n : ℕ) → n / 8 * 8 % 8 ≡ 0
eights n = omega arith

pub room-whole : (line : PlainLine) → room_of_line line % 8 ≡ 0
room-whole (Insert body) = eights (assembled_size body + 7)
room-whole (Commit body) = eights (assembled_size body + 7)
room-whole LineFlush = omega arith

module _ (words : List ℕ) where
  -- the position is locked behind whole words
  abbrev pub IsLockedAt : ℕ → Type 0
  IsLockedAt at = (position_word words ≡ at + 1) × (at % 8 ≡ 0)

  -- how the position stands at each place: it may be locked, or the view has locked it
  abbrev pub RestsOn : PlainPlace → Type 0
  RestsOn places.Free = position_word words % 2 ≡ 0
  RestsOn (places.Locked at) = IsLockedAt at
  RestsOn (places.Loaded at prev) = IsLockedAt at
  RestsOn (places.Stored at prev) = IsLockedAt at

  module _ (setup : Setup) (view : PlainView) (lock : ℕ) (line : PlainLine) (some : 0 < length words)
    where
      abbrev room : ℕ
      room = room_of_line line

      abbrev MovesAt : PlainPlace → Type 0
      MovesAt place = MovesRoom words (doings.Reserves lock)
          (at_reserves setup words (record view { place = place }) lock room) room

      position_set : (n : ℕ) → unlocked (position_word (set words 0 n)) ≡ unlocked n
      position_set n = ap unlocked (word_set words 0 n some)

      reserves_moves : (place : PlainPlace) → RestsOn place → MovesAt place
      reserves_moves places.Free rests = inl (record {
        position = omega (arith, rests, position_set (position_word words + 1));
        next = omega arith;
      })
      reserves_moves (places.Locked at) rests =
          let locked = record view { place = places.Locked at } in
          either (λ (left : Left). MovesRoom words (doings.Reserves lock) left room)
          (nat_le (at + room) (log_limit setup))
          (left_going_on events.LoadPrev (at_place (places.Loaded at (prev_word words)) locked) words
          (doings.Reserves lock))
          (left_going_on events.GivePositionBack (at_place places.Free locked) (set words 0 at)
          (doings.Releases lock true))
          (inl (record { position = refl; next = omega arith }))
          (inl (record {
            position = omega (arith, rests.0, rests.1, position_set at);
            next = omega arith;
          }))
      reserves_moves (places.Loaded at prev) rests = inl (record {
        position = ap unlocked (position_else words 1 (address_of setup.seg_size at)
            (omega arith));
        next = omega arith;
      })
      reserves_moves (places.Stored at prev) rests = inr (record {
        position = omega (arith, rests.0, rests.1, room-whole line, position_set (at + room));
        before = refl;
        next = refl;
      })

-- ---- a machine that runs

module _ (m : Machine) (number : ℕ) (v : View) (ask : Ask) (line : PlainLine) (copied : Option PlainLine)
    (w : WriterState) where
  place_rests : (p : Place) (size end last prev locked holder : ℕ)
      → AtPlace size end last prev locked holder (number + 1) p
      → position_word (m.state).words ≡ end + locked → end % 8 ≡ 0
      → not (is_free m v ask p) || nat_eq (position_word (m.state).words % 2) 0 ≡ true
      → RestsOn (m.state).words (plain_place p)
  place_rests Free size end last prev locked holder at is whole can = eqb-true _ _ can
  place_rests (Locked start) size end last prev locked holder at is whole can =
      (omega (arith, at.0, at.2, is), omega (arith, at.2, whole))
  place_rests (Loaded start met) size end last prev locked holder at is whole can =
      (omega (arith, at.0, at.2, is), omega (arith, at.2, whole))
  place_rests (Stored start met) size end last prev locked holder at is whole can =
      (omega (arith, at.0, at.2, is), omega (arith, at.2, whole))

  -- it rests on whole words
  pub reserving_rests : (lock : ℕ)
      → StandsPlain m number v ask line copied w (doings.Reserves lock)
      → RestsOn (m.state).words (plain_place (v.reserving).place)
  reserving_rests lock s =
      let size = ((v.opening).setup).seg_size in
      let k = sound m s.running number v s.live ask in
      let valid = (k.setup_is).size in
      let whole = end-whole_from size valid ((v.opening).place).position k.order
      (k.reserved).chained ((k.reserved).placed).whole in
      let here = (k.reserved).places (number + 1) (reserving_of v)
      (part_at reserving_of (m.state).views (number + 1) v (s.live).0) (s.live).1 in
      place_rests (v.reserving).place size (order_end v.opening k.order) _ _ _ _ here
      (k.reserved).position_is whole s.can

  reserving_moves : (lock : ℕ)
      → StandsPlain m number v ask line copied w (doings.Reserves lock)
      → MovesRoom (m.state).words (doings.Reserves lock)
      (plain_step m v line copied w (doings.Reserves lock)).left (room_of_line line)
  reserving_moves lock s =
      let k = sound m s.running number v s.live ask in
      reserves_moves (m.state).words (v.opening).setup (plain_view v) lock line
      (omega (arith, k.wide)) (plain_place (v.reserving).place) (reserving_rests lock s)

  pub step_moves_room : (d : PlainDoing) → StandsPlain m number v ask line copied w d
      → MovesRoom (m.state).words d (plain_step m v line copied w d).left (room_of_line line)
  step_moves_room (doings.Reserves lock) s = reserving_moves lock s
  step_moves_room other s =
      inl (keeps (v.opening).setup (m.state).words w (plain_view v) line copied other tt)

-- ---- the lines that are left

pub drop-fewer : (lines : List PlainLine) (i j : ℕ) → i ≤ j
    → rooms_of_lines (drop j lines) ≤ rooms_of_lines (drop i lines)
drop-fewer lines zero zero low = omega arith
drop-fewer [] i (suc j) low = omega arith
drop-fewer (line ∷ lines) zero (suc j) low =
    omega (arith, drop-fewer lines zero j (omega arith))
drop-fewer lines (suc i) zero low = absurd (omega arith)
drop-fewer (line ∷ lines) (suc i) (suc j) low = drop-fewer lines i j (omega arith)

-- the next line's room is the first of those left
drop-next : (lines : List PlainLine) (i : ℕ) (line : PlainLine) → slice_get lines i ≡ Some line
    → rooms_of_lines (drop i lines) ≡ room_of_line line + rooms_of_lines (drop (suc i) lines)
drop-next [] i line is = absurd (cc)
drop-next (x ∷ lines) zero line is =
    let same : x ≡ line = cc in
    ap (λ (l : PlainLine). room_of_line l + rooms_of_lines lines) same
drop-next (x ∷ lines) (suc i) line is = drop-next lines i line is

-- a line that is answered needs no room
pub answered_needs_none : (lane : PlainBackend) → rooms_left (lane_answered lane) ≤ rooms_left lane
answered_needs_none lane = drop-fewer lane.script (lane.answered + lines_reserved lane.doing)
    (lane.answered + 1
    + lines_reserved (start_of_line (slice_get lane.script (lane.answered + 1))))
    (omega (arith, at_most_one lane.doing))

module _ (lane : PlainBackend) (view : PlainView) (copied : ℕ) where
  abbrev stepped_lane : PlainBackend
  stepped_lane = record lane { view = view; copied = copied }

  pub behind_needs_no_more : (next : PlainNext) → GoesNotBack lane.doing next
      → rooms_left (lane_behind next stepped_lane) ≤ rooms_left lane
  behind_needs_no_more (nexts.GoesOn next) on = drop-fewer lane.script
      (lane.answered + lines_reserved lane.doing) (lane.answered + lines_reserved next)
      (omega (arith, on))
  behind_needs_no_more (nexts.Answers full) on = answered_needs_none lane

  module _ (line : PlainLine) (under_way : slice_get lane.script lane.answered ≡ Some line) where
    pub behind_needs_less : (next : PlainNext) → HasReserved next
        → lines_reserved lane.doing ≡ 0
        → rooms_left (lane_behind next stepped_lane) + room_of_line line ≤ rooms_left lane
    behind_needs_less (nexts.GoesOn next) reserved before =
        let script = lane.script in
        let left : lane.answered + lines_reserved next ≡ suc lane.answered =
        omega (arith, reserved) in
        let all : lane.answered + lines_reserved lane.doing ≡ lane.answered =
        omega (arith, before) in
        omega (
          arith,
          ap (λ (n : ℕ). rooms_of_lines (drop n script)) left,
          ap (λ (n : ℕ). rooms_of_lines (drop n script)) all,
          drop-next script lane.answered line under_way,
        )
    behind_needs_less (nexts.Answers full) never before = absurd never

    -- what is reserved rises by no more than what is left to reserve falls
    pub lane_keeps_room : (words : List ℕ) (left : Left)
        → MovesRoom words lane.doing left (room_of_line line)
        → unlocked (position_word left.words)
        + rooms_left (lane_behind (left.made).next stepped_lane)
        ≤ unlocked (position_word words) + rooms_left lane
    lane_keeps_room words left (inl takes) = omega (
      arith,
      takes.position,
      behind_needs_no_more (left.made).next takes.next,
    )
    lane_keeps_room words left (inr takes) = omega (
      arith,
      takes.position,
      behind_needs_less (left.made).next takes.next takes.before,
    )

-- ---- all lanes

-- where one lane needs less room, all together do
pub lanes_need_less : (lanes : List PlainBackend) (i grown : ℕ) (lane new : PlainBackend)
    → slice_get lanes i ≡ Some lane → rooms_left new + grown ≤ rooms_left lane
    → all_rooms_left (set lanes i new) + grown ≤ all_rooms_left lanes
lanes_need_less [] i grown lane new is less = absurd (cc)
lanes_need_less (x ∷ lanes) zero grown lane new is less =
    let same : x ≡ lane = cc in
    omega (arith, ap (λ (l : PlainBackend). rooms_left l) same, less)
lanes_need_less (x ∷ lanes) (suc i) grown lane new is less =
    omega (arith, lanes_need_less lanes i grown lane new is less)

-- and where it needs no more than before, but for what the position rose by
pub lanes_keep_room : (lanes : List PlainBackend) (i old position : ℕ) (lane new : PlainBackend)
    → slice_get lanes i ≡ Some lane → position + rooms_left new ≤ old + rooms_left lane
    → position + all_rooms_left (set lanes i new) ≤ old + all_rooms_left lanes
lanes_keep_room [] i old position lane new is keeps = absurd (cc)
lanes_keep_room (x ∷ lanes) zero old position lane new is keeps =
    let same : x ≡ lane = cc in
    omega (arith, ap (λ (l : PlainBackend). rooms_left l) same, keeps)
lanes_keep_room (x ∷ lanes) (suc i) old position lane new is keeps =
    omega (arith, lanes_keep_room lanes i old position lane new is keeps)

-- What a pass knows behind each kind of step: a function of what it knew before, of the step's
-- operands, and of the number that it met. Nothing of other views or words comes in: so what a pass
-- knows is what it did and what it met, and stays so while others step.
use Rattle.std.specs.Prelude.{ℕ, ◌+◌, ◌-◌, ◌%◌, Bool, true, false, ◌&&◌, ◌||◌, not, List, [], ◌∷◌, ◌++◌, length, max, min, ◌==◌, nat_lt, if◌then◌else◌, None, Some}
use Rattle.std.specs.List.{filter}
use Rattle.byte_position.specs.Position.{position_of}
use Rattle.segment_disk.specs.declared.disk.Call.{Call}
use Rattle.segment_disk.specs.Tape.{failed_call}
use mathlib.Core.Option.{Option, none, some}
use Rattle.wal_types.specs.declared.record.Record.{Record}
use Rattle.wal_page.specs.Order.{Entry, position_behind}
use Rattle.machine_state.specs.Words.{Opening, end_form}
use Rattle.machine_state.specs.Views.{Place, Free, Locked, Loaded, Stored, StopCause, Joined, Reserving, Copy, Flight, Landed, Copying, Working, is_among, Watching, Stage, Away, Taken, Looked, Ready, Zeroing, Published, Plain, Lent, Hold, Idle, Turned, Out, Writing, View}

-- ---- a view with one part changed

abbrev pub with_reserving : Reserving → View → View
with_reserving r v = record v { reserving = r }

abbrev pub with_place : Place → View → View
with_place p v = with_reserving (record v.reserving { place = p }) v

abbrev pub with_seen : ℕ → View → View
with_seen position v =
    with_reserving (record v.reserving { seen = max (v.reserving).seen position }) v

abbrev pub with_working : List ℕ → Flight → View → View
with_working locks flight v = record v { working = record { locks = locks; flight = flight } }

abbrev pub with_confirmed : ℕ → View → View
with_confirmed end v =
    record v { mapping = record v.mapping { confirmed = max (v.mapping).confirmed end } }

abbrev pub with_stage : Stage → View → View
with_stage stage v = record v { mapping = record v.mapping { stage = stage } }

-- this is told last, under these locks
abbrev pub with_told : ℕ → List ℕ → View → View
with_told upto under v = record v { told = upto; told_under = under }

abbrev pub with_writing : Writing → View → View
with_writing x v = record v { writing = x }

abbrev pub with_hold : Hold → View → View
with_hold hold v = with_writing (record v.writing { hold = hold }) v

-- ---- seats and turns

-- the position without its lock bit
abbrev pub unlocked : ℕ → ℕ
unlocked met = met - met % 2

-- so far records are reserved
abbrev pub after_load_position : ℕ → View → View
after_load_position met v = with_seen (unlocked met) v

abbrev pub after_take_write_turn : ℕ → View → View
after_take_write_turn met v = if met == 0 then with_hold Turned v else v

-- below this address all is copied, as a watcher knows that has visited all locks
abbrev pub copied_below : Watching → ℕ
copied_below x = if x.visited == 8 then x.bound else 0

abbrev pub lent : Plain → View → Lent
lent writer v = record {
  writer = writer;
  known = copied_below v.watching;
  staged = [];
  hard = 0;
  hard_moment = 0;
  stored = 0;
}

-- the count of faults with which the disk failed, 0 where it did not
abbrev pub fault_number : Option ℕ → ℕ
fault_number none = 0
fault_number (some faults) = faults

-- with the writer in hand; who takes one that has failed knows it then
abbrev pub after_slot_out : Plain → View → View
after_slot_out writer v = with_writing (record v.writing {
  down_met = max (v.writing).down_met (fault_number writer.fault);
  hold = Out (lent writer v);
}) v

-- the pass keeps its number, and gives the least of its spare ones away
abbrev pub after_split : View → View
after_split v = with_reserving (record v.reserving { spare = (v.reserving).spare + 1 }) v

abbrev pub no_writing : Writing
no_writing = record {
  written = 0;
  flushed = 0;
  down_met = 0;
  down_set = 0;
  promises = [];
  hold = Idle;
}

-- a pass with this number and these spare ones, which has seen so much reserved and is about
-- nothing
abbrev pub fresh_view : Opening → (number spare spare_end seen : ℕ) → View
fresh_view opening number spare spare_end seen = record {
  opening = opening;
  reserving = record {
    live = true;
    number = number;
    spare = spare;
    spare_end = spare_end;
    entries = [];
    stops = [];
    seen = seen;
    joined = [];
    place = Free;
  };
  working = record { locks = []; flight = Landed };
  watching = record { end = 0; visited = 0; bound = 0 };
  mapping = record { confirmed = 0; stage = Away };
  writing = no_writing;
  told = 0;
  told_under = [];
  async_met = 0;
}

abbrev pub split_off : View → View
split_off v = fresh_view v.opening (v.reserving).spare 0 0 (v.reserving).seen

-- a pass's log, for the one that takes it in
abbrev pub joined_of : View → Joined
joined_of v = record {
  number = (v.reserving).number;
  entries = (v.reserving).entries;
  stops = (v.reserving).stops;
  promises = (v.writing).promises;
  down_set = (v.writing).down_set;
}

abbrev pub has_spares : Reserving → Bool
has_spares r = nat_lt r.spare r.spare_end

-- one pass takes another in: its log, what it took in, what it has seen, its spare numbers, the
-- highest async address that it met, and the down values that it met or set, which count as met
abbrev pub after_join : View → View → View
after_join v w =
    let r = v.reserving in
    let s = w.reserving in
    record v {
      reserving = record r {
        spare = (if has_spares r then r.spare else s.spare);
        spare_end = (if has_spares r then r.spare_end else s.spare_end);
        seen = max r.seen s.seen;
        joined = r.joined ++ joined_of w ∷ s.joined;
      };
      writing = record v.writing {
        down_met = max (v.writing).down_met
            (max (w.writing).down_met (w.writing).down_set);
      };
      async_met = max v.async_met w.async_met;
    }

-- what is left of a pass that was taken in
abbrev pub spent : View → View
spent v = record (split_off v) {
  reserving = record (split_off v).reserving {
    live = false;
    number = (v.reserving).number;
  };
}

-- a pass that gives up its copy, and the view with which the copy and its locks stay, and the
-- highest end of a page that the copy has met
abbrev pub without_work : View → View
without_work v = with_working [] Landed v

abbrev pub orphan_of : View → View
orphan_of v = record (spent v) {
  working = v.working;
  mapping = record { confirmed = (v.mapping).confirmed; stage = Away };
}

-- ---- reserving

abbrev pub after_lock_position : ℕ → ℕ → View → View
after_lock_position expected met v =
    if met == expected then with_place (Locked expected) v else v

abbrev pub after_load_prev : ℕ → View → View
after_load_prev met v = loaded (v.reserving).place
  where
    loaded : Place → View
    loaded (Locked at) = with_place (Loaded at met) v
    loaded Free = v
    loaded (Loaded at prev) = v
    loaded (Stored at prev) = v

abbrev pub after_store_prev : View → View
after_store_prev v = stored (v.reserving).place
  where
    stored : Place → View
    stored (Loaded at prev) = with_place (Stored at prev) v
    stored Free = v
    stored (Locked at) = v
    stored (Stored at prev) = v

abbrev pub entry_reserved : ℕ → ℕ → Record → Entry
entry_reserved number at value = record { pass = Some number; value = value; start = at }

-- the entry joins the log, and is in flight under these locks
abbrev pub with_reserved : ℕ → Entry → ℕ → List ℕ → View → View
with_reserved size e prev locks v = record v {
  reserving = record v.reserving {
    entries = (v.reserving).entries ++ e ∷ [];
    seen = position_behind size e;
    place = Free;
  };
  working = record v.working {
    flight = Copying (record { entry = e; prev = prev; locks = locks; copied = 0 });
  };
}

abbrev pub after_store_position : List ℕ → Record → View → View
after_store_position locks value v = reserved (v.reserving).place
  where
    reserved : Place → View
    reserved (Stored at prev) = with_reserved ((v.opening).setup).seg_size
        (entry_reserved (v.reserving).number at value) prev locks v
    reserved Free = v
    reserved (Locked at) = v
    reserved (Loaded at prev) = v

-- the position is given back: too few bytes are left, or the log stands at a segment's start, and
-- nothing was reserved
abbrev pub after_stop : StopCause → View → View
after_stop cause v = given (v.reserving).place
  where
    given : Place → View
    given (Locked at) = with_reserving (record v.reserving {
      stops = (v.reserving).stops ++ (record {
        cause = cause;
        position = at;
        entries = length (v.reserving).entries;
      }) ∷ [];
      place = Free;
    }) v
    given Free = v
    given (Loaded at prev) = v
    given (Stored at prev) = v

-- ---- insertion locks

-- with the first lock a watch begins, for what was seen reserved and at most up to a limit. The
-- limit bounds what is learnt; which address the caller needs, and so whether a lock holds it back,
-- is the caller's matter. An insert's vain try of a lock is such a load too, with the limit 0: of
-- lock 0 it ends the view's watch, since the new one is for nothing
abbrev pub begun : ℕ → ℕ → View → Watching
begun lock limit v =
    let end = min limit (end_form (v.opening).setup (v.reserving).seen) in
    if lock == 0 then record { end = end; visited = 0; bound = end } else v.watching

abbrev pub is_landed : Flight → Bool
is_landed Landed = true
is_landed (Copying c) = false

-- the view itself holds the lock and copies nothing, so that nothing is in flight under it
abbrev pub is_own : ℕ → Working → Bool
is_own lock w = is_among w.locks lock && is_landed w.flight

-- a lock that is visited next: free, or the watcher's own that tells nothing, it holds nothing
-- back; else it tells how far its copy is, or nothing, and then the watcher stays
abbrev pub visited_on : Bool → ℕ → ℕ → Watching → Watching
visited_on own lock met x =
    if (lock == x.visited) && (own || not (met == 1))
    then record {
      end = x.end;
      visited = x.visited + 1;
      bound = (if (own && (met == 1)) || (met == 0) then x.bound else min x.bound (met - 1));
    }
    else x

abbrev pub after_load_lock : ℕ → ℕ → ℕ → View → View
after_load_lock lock limit met v =
    record v { watching = visited_on (is_own lock v.working) lock met (begun lock limit v) }

abbrev pub after_take_lock : ℕ → ℕ → View → View
after_take_lock lock met v =
    if met == 0 then with_working ((v.working).locks ++ lock ∷ []) (v.working).flight v else v

-- what is told again, under one more lock, is told under those before too; what is new, under this
-- one alone
abbrev pub after_advance : (lock upto : ℕ) → View → View
after_advance lock upto v =
    with_told upto ((if v.told == upto then v.told_under else []) ++ lock ∷ []) v

abbrev pub without_lock : ℕ → List ℕ → List ℕ
without_lock lock locks = filter (λ one. not (one == lock)) locks

-- an entry under these locks: without any it has landed
abbrev pub standing : Copy → List ℕ → Flight
standing c [] = Landed
standing c (lock ∷ locks) = Copying (record c { locks = lock ∷ locks })

-- with the last lock under which it stands an entry lands
abbrev pub landed : ℕ → Flight → Flight
landed lock Landed = Landed
landed lock (Copying c) =
    if is_among c.locks lock then standing c (without_lock lock c.locks) else Copying c

abbrev pub after_release : ℕ → View → View
after_release lock v =
    with_working (without_lock lock (v.working).locks) (landed lock (v.working).flight) v

-- ---- words of the ring

abbrev pub one_more : Flight → Flight
one_more Landed = Landed
one_more (Copying c) = Copying (record c { copied = c.copied + 1 })

abbrev pub after_store_word : View → View
after_store_word v = with_working (v.working).locks (one_more (v.working).flight) v

abbrev pub with_lent : (Lent → Lent) → Hold → Hold
with_lent f Idle = Idle
with_lent f Turned = Turned
with_lent f (Out l) = Out (f l)

abbrev pub after_load_word : ℕ → ℕ → View → View
after_load_word k met v =
    with_hold (with_lent (λ l. record l { staged = (k, met) ∷ l.staged }) (v.writing).hold) v

-- ---- positions and down

-- the mapper that has loaded the initialised end learns what may be given up
abbrev pub ready : ℕ → Stage → Stage
ready met Away = Away
ready met Taken = Taken
ready met (Looked at) = Ready at met
ready met (Ready at written) = Ready at written
ready met (Zeroing at zeroed) = Zeroing at zeroed
ready met (Published at) = Published at

abbrev pub after_load_written : ℕ → View → View
after_load_written met v =
    with_stage (ready met (v.mapping).stage) (with_writing (record v.writing { written = met }) v)

abbrev pub after_load_flushed : ℕ → View → View
after_load_flushed met v =
    with_seen (position_of ((v.opening).setup).seg_size met)
    (with_writing (record v.writing { flushed = met }) v)

-- a pass is told that all below an address is durable from a moment on
abbrev pub with_flush_promise : ℕ → ℕ → View → View
with_flush_promise upto moment v = with_writing (record v.writing {
  promises = (v.writing).promises ++ (record {
    upto = upto;
    moment = moment;
    entries = length (v.reserving).entries;
  }) ∷ [];
}) v

-- what was loaded as flushed is durable from the moment met on: it is told so
abbrev pub after_load_moment : ℕ → View → View
after_load_moment met v = with_flush_promise (v.writing).flushed met v

abbrev pub after_load_down : ℕ → View → View
after_load_down met v = with_writing (record v.writing { down_met = met }) v

abbrev pub after_store_written : View → View
after_store_written v = with_hold
    (with_lent (λ l. record l { stored = (l.writer).written }) (v.writing).hold) v

-- all that is written is durable from the moment stored on
abbrev pub hardened : Lent → Lent
hardened l = record l { hard = (l.writer).written; hard_moment = (l.writer).moment }

abbrev pub after_store_moment : View → View
after_store_moment v = with_hold (with_lent hardened (v.writing).hold) v

-- what is stored as flushed is durable from the moment that was stored before: it is told so
abbrev pub after_store_flushed : ℕ → ℕ → View → View
after_store_flushed upto moment v =
    with_seen (position_of ((v.opening).setup).seg_size upto) (with_flush_promise upto moment v)

-- commits may be answered up to an address, though they are not durable yet
abbrev pub with_async : ℕ → View → View
with_async async v = record v { async_met = max v.async_met async }

abbrev pub after_load_async : ℕ → View → View
after_load_async met v = with_async met v

-- the exchange stores the address where it meets what it expects; else the pass learns what it met
abbrev pub after_raise_async : (expected upto met : ℕ) → View → View
after_raise_async expected upto met v = with_async (if met == expected then upto else met) v

abbrev pub after_set_down : ℕ → View → View
after_set_down faults v = with_writing (record v.writing { down_set = faults }) v

-- ---- mapping

abbrev pub after_take_mapping_turn : ℕ → View → View
after_take_mapping_turn met v = if met == 0 then with_stage Taken v else v

abbrev pub looked : ℕ → Stage → Stage
looked met Away = Away
looked met Taken = Looked met
looked met (Looked at) = Looked at
looked met (Ready at written) = Ready at written
looked met (Zeroing at zeroed) = Zeroing at zeroed
looked met (Published at) = Published at

abbrev pub after_load_initialised : ℕ → View → View
after_load_initialised met v =
    with_stage (looked met (v.mapping).stage) (with_confirmed met v)

-- ---- calls of the device

-- how a call ended: done, or with this count of faults; a failed one may be counted, and a failed
-- create may have made its segment
pub data CallOutcome : Type 0 where
  Done : CallOutcome
  Failed : ℕ → Option Bool → CallOutcome

-- the calls with one more, where they are told
abbrev pub one_call_more : Call → Rattle.std.specs.Prelude.Option (List Call)
    → Rattle.std.specs.Prelude.Option (List Call)
one_call_more call None = None
one_call_more call (Some calls) = Some (calls ++ call ∷ [])

abbrev pub counted : Call → Plain → Plain
counted call writer = record writer {
  calls = one_call_more call writer.calls;
  moment = writer.moment + 1;
}

abbrev pub with_outcome : Call → CallOutcome → Plain → Plain
with_outcome call Done writer = counted call writer
with_outcome call (Failed faults none) writer = record writer { fault = some faults }
with_outcome call (Failed faults (some made)) writer =
    record (counted (failed_call made call) writer) { fault = some faults }

abbrev pub is_done : CallOutcome → Bool
is_done Done = true
is_done (Failed faults counted) = false

abbrev pub is_counted : CallOutcome → Bool
is_counted Done = true
is_counted (Failed faults none) = false
is_counted (Failed faults (some made)) = true

abbrev pub with_writer : Plain → View → View
with_writer writer v =
    with_hold (with_lent (λ l. record l { writer = writer }) (v.writing).hold) v

-- the writer behind a create of a segment, a write of a page up to an address, a sync of a segment
abbrev pub after_create : ℕ → Call → CallOutcome → Plain → Plain
after_create segment call outcome writer = record (with_outcome call outcome writer) {
  made = (if is_done outcome then segment else writer.made);
}

abbrev pub after_write : ℕ → ℕ → Call → CallOutcome → Plain → Plain
after_write segment upto call outcome writer = record (with_outcome call outcome writer) {
  written = (if is_done outcome then upto else writer.written);
  waiting = (if is_counted outcome then some segment else writer.waiting);
}

abbrev pub after_sync : Call → CallOutcome → Plain → Plain
after_sync call outcome writer = record (with_outcome call outcome writer) {
  waiting = (if is_done outcome then none else writer.waiting);
}

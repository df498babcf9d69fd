-- What a line leaves of its pass, by what it is told. Everywhere `size` is the size of a segment in
-- bytes, `limit` the byte position at which the log is full, and `pass` the pass's number.
use Rattle.std.specs.Prelude.{◌≡◌, ◌≢◌, ◌⊎◌, ℕ, ◌+◌, ◌*◌, ◌/◌, ◌%◌, ◌<◌, ◌≤◌, All, List, [], ◌∷◌, Option, Some, None}
use Rattle.wal_types.specs.declared.lsn.Lsn.{Lsn}
use Rattle.wal_types.specs.declared.record.Record.{Record}
use Rattle.wal_spelling.specs.Record.{switch_record}
use Rattle.wal_types.specs.declared.answers.Cause.{Cause}
use Rattle.wal_types.specs.declared.answers.Cause.TheVariants.{Full, Disk, Down}
use Rattle.byte_position.specs.Position.{end_address_of, first_position}
use Rattle.wal_page.specs.Order.{Entry, finish_of, position_behind, room_at, start_of}
use Rattle.run_script.specs.Asked.{Asked, AskedLine, Insert, Commit, Flush, CommitAsync, WriteBehind, Switch}
use Rattle.run_script.specs.Writable.{AsksWritable}
use Rattle.run_laws.specs.Told.{LeavesFew}
use Rattle.run_laws.specs.declared.told.Told.{Told}
use Rattle.run_laws.specs.declared.told.Told.TheVariants.{Wrote, Hard, Flushed, Async, Idle, Switched, Stayed, Refused}
use Rattle.machine_state.specs.Views.{FlushPromise, View}
use Rattle.machine_state.specs.Moves.{entry_reserved}
use Rattle.machine_state.specs.PassLogs.{PassLog, log_of_view, log_with_entry, log_with_full, log_with_promise, log_with_stay}

-- what a pass has between two lines: its log, the down values that it met and set, 0 for none, the
-- highest async address that it met, and the byte position up to which it saw records reserved
pub record PassState : Type 0 where
  pub log : PassLog
  pub met : ℕ
  pub set : ℕ
  pub async_met : ℕ
  pub seen : ℕ

abbrev pub pass_state_of : View → PassState
pass_state_of v = record {
  log = log_of_view v;
  met = (v.writing).down_met;
  set = (v.writing).down_set;
  async_met = v.async_met;
  seen = (v.reserving).seen;
}

-- before its first line, when it has seen so much reserved
abbrev pub state_at_first : ℕ → PassState
state_at_first seen = record {
  log = record { entries = []; stops = []; promises = [] };
  met = 0;
  set = 0;
  async_met = 0;
  seen = seen;
}

-- the pass knows that the disk failed, at this count of faults
abbrev pub KnowsFault : ℕ → PassState → Type 0
KnowsFault faults s = (faults ≢ 0) × ((s.met ≡ faults) ⊎ (s.set ≡ faults))

-- the byte position behind the last of some entries, or `behind` where there is none; and the
-- address at which they end, the log's start where there is none
abbrev pub behind_last_own : ℕ → ℕ → List Entry → ℕ
behind_last_own size behind [] = behind
behind_last_own size behind (e ∷ es) = behind_last_own size (position_behind size e) es

abbrev pub end_of_own : ℕ → List Entry → ℕ
end_of_own size es = end_address_of size (behind_last_own size (first_position size) es)

-- by what a line learned of a failed disk its answer is told: where it was done, or found the log
-- full, it knows no fault; a fault of its own is one that it set as the down value; any other, one
-- that it met there, and it set none
abbrev pub TellsCause : Told → PassState → PassState → Type 0
TellsCause (Refused (Disk faults) reserved) before after = after.set ≡ faults
TellsCause (Refused (Down faults) reserved) before after =
    (after.met ≡ faults) × (after.set ≡ before.set)
TellsCause other before after = (after.met ≡ 0) × (after.set ≡ 0)

module _ (size limit pass : ℕ) where
  -- the record was reserved for the pass, and starts at this address
  pub record Reserves (value : Record) (start : ℕ) (before after : PassLog) : Type 0 where
    pub at : ℕ
    pub start_is : start ≡ start_of size (entry_reserved pass at value)
    pub log_is : after ≡ log_with_entry (entry_reserved pass at value) before

  -- and it ends at that one
  pub record ReservesUpto (value : Record) (start end : ℕ) (before after : PassLog) : Type 0 where
    pub reserved : Reserves value start before after
    pub end_is : end ≡ finish_of size (entry_reserved pass reserved.at value)

  -- the log was found full: this many bytes were free, fewer than the record takes up
  pub record AddsFull (value : Record) (free : ℕ) (before after : PassLog) : Type 0 where
    pub at : ℕ
    pub free_is : free + at ≡ limit
    pub short : free < room_at size at value
    pub log_is : after ≡ log_with_full at before

  -- the log stood at this address, a segment's start
  pub record AddsStay (end : ℕ) (before after : PassLog) : Type 0 where
    pub at : ℕ
    pub end_is : end ≡ end_address_of size at
    pub starts : end % size ≡ 0
    pub log_is : after ≡ log_with_stay at before

  -- all below an address, no less than the one asked for, was promised from a moment on
  pub record AddsPromise (asked upto moment : ℕ) (before after : PassLog) : Type 0 where
    pub reached : asked ≤ upto
    pub log_is : after ≡ log_with_promise upto moment before

  -- a record is reserved, then its end promised
  pub record Seals (value : Record) (start end moment : ℕ) (before after : PassLog) : Type 0 where
    pub between : PassLog
    pub upto : ℕ
    pub reserved : ReservesUpto value start end before between
    pub promised : AddsPromise end upto moment between after

  -- a record is reserved, and the pass has met an async address that is no less than its end
  pub record ReservesAhead (value : Record) (start end : ℕ) (before after : PassState) : Type 0
    where
      pub reserved : ReservesUpto value start end before.log after.log
      pub counted : end ≤ after.async_met

  -- an address is no less than the start of the page that holds the end of a log's entries, and
  -- than each that the log was promised
  pub record IsBehind (upto : ℕ) (log : PassLog) : Type 0 where
    pub page : end_of_own size log.entries / 8192 * 8192 ≤ upto
    pub furthest : All (λ (p : FlushPromise). p.upto ≤ upto) log.promises

  -- all below such an address is promised from a moment on
  pub record AddsBehind (upto moment : ℕ) (before after : PassLog) : Type 0 where
    pub behind : IsBehind upto before
    pub log_is : after ≡ log_with_promise upto moment before

  -- there was nothing to flush: the async address that the pass met is no greater than such an
  -- address, which is reserved; and the log is as it was
  pub record FindsIdle (upto : ℕ) (before after : PassState) : Type 0 where
    pub behind : IsBehind upto before.log
    pub ahead : after.async_met ≤ upto
    pub reserved : upto ≤ end_address_of size after.seen
    pub log_is : after.log ≡ before.log

  -- the log is as it was, and the pass knows a fault
  abbrev pub FindsDown : ℕ → PassState → PassState → Type 0
  FindsDown faults before after = (after.log ≡ before.log) × KnowsFault faults after

  -- the record was reserved all the same
  abbrev pub FailsBehind : Record → ℕ → ℕ → PassState → PassState → Type 0
  FailsBehind value start faults before after =
      Reserves value start before.log after.log × KnowsFault faults after

  -- a line with a record is refused
  abbrev pub RefusesRecordLine : Record → Cause → Option Lsn → PassState → PassState → Type 0
  RefusesRecordLine value (Full free) None before after = AddsFull value free before.log after.log
  RefusesRecordLine value (Full free) (Some start) before after = ⊥
  RefusesRecordLine value (Disk faults) None before after = ⊥
  RefusesRecordLine value (Disk faults) (Some start) before after =
      FailsBehind value start.0 faults before after
  RefusesRecordLine value (Down faults) None before after = FindsDown faults before after
  RefusesRecordLine value (Down faults) (Some start) before after =
      FailsBehind value start.0 faults before after

  -- a flush is refused
  abbrev pub RefusesFlushLine : Cause → Option Lsn → PassState → PassState → Type 0
  RefusesFlushLine (Full free) reserved before after = ⊥
  RefusesFlushLine (Disk faults) None before after = FindsDown faults before after
  RefusesFlushLine (Disk faults) (Some start) before after = ⊥
  RefusesFlushLine (Down faults) None before after = FindsDown faults before after
  RefusesFlushLine (Down faults) (Some start) before after = ⊥

  -- what is left of a pass by a line that asks for this and is told that
  abbrev pub Leaves : Asked → Told → PassState → PassState → Type 0
  Leaves (Insert value) (Wrote start end) before after =
      ReservesUpto value start.0 end.0 before.log after.log
  Leaves (Insert value) (Refused cause reserved) before after =
      RefusesRecordLine value cause reserved before after
  Leaves (Commit value) (Hard start end moment) before after =
      Seals value start.0 end.0 moment before.log after.log
  Leaves (Commit value) (Refused cause reserved) before after =
      RefusesRecordLine value cause reserved before after
  Leaves Flush (Flushed upto moment) before after =
      AddsPromise (end_of_own size (before.log).entries) upto.0 moment before.log after.log
  Leaves Flush (Refused cause reserved) before after = RefusesFlushLine cause reserved before after
  Leaves (CommitAsync value) (Async start end) before after =
      ReservesAhead value start.0 end.0 before after
  Leaves (CommitAsync value) (Refused cause reserved) before after =
      RefusesRecordLine value cause reserved before after
  Leaves WriteBehind (Flushed upto moment) before after =
      AddsBehind upto.0 moment before.log after.log
  Leaves WriteBehind (Idle upto) before after = FindsIdle upto.0 before after
  Leaves WriteBehind (Refused cause reserved) before after =
      RefusesFlushLine cause reserved before after
  Leaves Switch (Switched start end) before after =
      ReservesUpto switch_record start.0 end.0 before.log after.log
  Leaves Switch (Stayed end) before after = AddsStay end.0 before.log after.log
  Leaves Switch (Refused cause reserved) before after =
      RefusesRecordLine switch_record cause reserved before after × LeavesFew cause
  Leaves asked other before after = ⊥

  -- an insert, or a commit that is flushed, meets no async address: it raises none
  abbrev pub KeepsAsync : Asked → PassState → PassState → Type 0
  KeepsAsync (Insert value) before after = after.async_met ≡ before.async_met
  KeepsAsync (Commit value) before after = after.async_met ≡ before.async_met
  KeepsAsync other before after = Unit {0}

  -- the record asked for can be inserted; the async address that the pass met does not fall, and by
  -- such a line it stays; nor does what it saw reserved fall; and where the pass knew a fault, it
  -- is told again and nothing else
  pub record PlaysLine (asked : Asked) (told : Told) (before after : PassState) : Type 0 where
    pub writable : AsksWritable asked
    pub leaves : Leaves asked told before after
    pub cause : TellsCause told before after
    pub counts : before.async_met ≤ after.async_met
    pub async : KeepsAsync asked before after
    pub sees : before.seen ≤ after.seen
    pub again : (faults : ℕ) → KnowsFault faults before → told ≡ Refused (Down faults) None

  -- line by line
  abbrev pub PlaysLines : PassState → List AskedLine → List Told → PassState → Type 0
  PlaysLines before [] [] after = after ≡ before
  PlaysLines before [] (told ∷ others) after = ⊥
  PlaysLines before (line ∷ lines) [] after = ⊥
  PlaysLines before (line ∷ lines) (told ∷ others) after = (mid : PassState)
      × PlaysLine line.asked told before mid × PlaysLines mid lines others after

  -- from its first line on
  pub record PlaysAllLines (lines : List AskedLine) (told : List Told) (after : PassState) : Type 0
    where
      pub seen : ℕ
      pub plays : PlaysLines (state_at_first seen) lines told after

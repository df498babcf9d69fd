-- What a reservation leaves of its pass's view, where it succeeds and where it does not.
use Rattle.std.specs.Prelude.{◌≡◌, ◌≢◌, ◌⊎◌, ℕ, ◌+◌, ◌-◌, ◌%◌, ◌<◌, ◌≤◌, true, Contains, List, [], ◌∷◌, ◌++◌, length, max}
use Rattle.byte_position.specs.Position.{address_of, end_address_of}
use Rattle.wal_types.specs.declared.record.Record.{Record}
use Rattle.wal_spelling.specs.Record.{switch_record}
use Rattle.wal_spelling.specs.Spelling.{Assembled, IsLogRecord, IsWritable, assembled, is_assembled_switch}
use Rattle.wal_page.specs.Order.{Entry, assembled_room_at, position_behind}
use Rattle.wal_page.specs.Placed.{PlacedState, placed_end}
use Rattle.machine_state.specs.declared.setup.Setup.{Setup}
use Rattle.machine_state.specs.Words.{end_form, log_limit}
use Rattle.machine_state.specs.Views.{AtSegmentStart, Copying, Free, Landed, Locked, LogFull, StopCause, View}
use Rattle.machine_state.specs.Moves.{entry_reserved, unlocked}
use Rattle.machine_state.specs.Steps.{load_position, lock_position}
use Rattle.wal_rule.specs.Stepping.{Meets}
use Rattle.reserve_lock.specs.declared.reserving.ReserveErr.{ReserveErr}
use Rattle.reserve_lock.specs.declared.reserving.ReserveErr.TheVariants.{Busy, Full}
use Rattle.reserve_lock.specs.declared.switching.SwitchTry.{SwitchTry}
use Rattle.reserve_lock.specs.declared.switching.SwitchTry.TheVariants.{Stayed, Switched}

-- the locks that a segment switch stands under: all of them, in the order in which they are taken
abbrev pub every_lock : List ℕ
every_lock = 0 ∷ 1 ∷ 2 ∷ 3 ∷ 4 ∷ 5 ∷ 6 ∷ 7 ∷ []

-- ---- a pass's view behind steps: all that is not named is as it was

-- a pass has seen so much reserved
abbrev pub seen_view : ℕ → View → View
seen_view position v =
    record v { reserving = record v.reserving { seen = max (v.reserving).seen position } }

-- a pass has the position locked, and has seen all before that reserved
abbrev pub locked_view : ℕ → View → View
locked_view at v = record v { reserving = record v.reserving { seen = at; place = Locked at } }

-- a pass notes why it stopped at a position, which is no longer locked
abbrev pub stopped_view : StopCause → ℕ → View → View
stopped_view cause at v = record v {
  reserving = record v.reserving {
    stops = (v.reserving).stops
        ++ (record {
          cause = cause;
          position = at;
          entries = length (v.reserving).entries;
        }) ∷ [];
    place = Free;
  };
}

-- the log was full there, or stood at a segment's start
abbrev pub full_view : ℕ → View → View
full_view at v = stopped_view LogFull at v

abbrev pub stayed_view : ℕ → View → View
stayed_view at v = stopped_view AtSegmentStart at v

-- an entry is the last of its log, and in flight under these locks with no word copied
abbrev pub reserved_view : ℕ → Entry → ℕ → List ℕ → View → View
reserved_view size entry prev locks v = record v {
  reserving = record v.reserving {
    entries = (v.reserving).entries ++ entry ∷ [];
    seen = position_behind size entry;
    place = Free;
  };
  working = record v.working {
    flight = Copying (record { entry = entry; prev = prev; locks = locks; copied = 0 });
  };
}

-- ---- the position

-- the position was locked: the pass has seen nothing reserved behind it, and it lies within the log
pub record IsPositionLocked (setup : Setup) (at : ℕ) (old new : View) : Type 0 where
  pub behind_seen : (old.reserving).seen ≤ at
  pub within : at ≤ log_limit setup
  pub whole : at % 8 ≡ 0
  pub new_is : new ≡ locked_view at old

-- a pass has the position locked, at which a record may be reserved: it has seen nothing reserved
-- behind it, and it lies within the log. The byte before it ends at the address `behind`, and the
-- byte there is at the address `start`
pub record IsLockedAt (setup : Setup) (size at behind start : ℕ) (v : View) : Type 0 where
  pub geometry : size ≡ setup.seg_size
  pub place : (v.reserving).place ≡ Locked at
  pub behind_is : behind ≡ end_address_of size at
  pub start_is : start ≡ address_of size at
  pub seen : (v.reserving).seen ≤ at
  pub within : at ≤ log_limit setup
  pub whole : at % 8 ≡ 0

-- a pass holds an insertion lock under which the body may stand, all of them if it is a segment
-- switch, and copies nothing
pub record HoldsLocksFor (body : Assembled) (v : View) : Type 0 where
  pub some : 1 ≤ length (v.working).locks
  pub all : is_assembled_switch body ≡ true → (lock : ℕ) → lock < 8
      → Contains (v.working).locks lock
  pub landed : (v.working).flight ≡ Landed

-- the position was not locked: the word loaded was locked already and is told, or it was not and
-- the one exchange found another word, which is told
pub record IsPositionBusy (told : ℕ) (old new : View) : Type 0 where
  pub loaded : ℕ
  pub met : Meets old load_position loaded
  pub found : ((loaded % 2 ≡ 1) × (told ≡ loaded))
      ⊎ ((loaded % 2 ≡ 0) × (told ≢ loaded) × Meets new (lock_position loaded) told)
  pub new_is : new ≡ seen_view (unlocked loaded) old

-- ---- the place

-- fewer bytes are left behind a position than the record takes up, and the pass notes that the log
-- is full there
pub record IsLogFull (setup : Setup) (body : Assembled) (free : ℕ) (old new : View) : Type 0
  where
    pub at : ℕ
    pub behind_seen : (old.reserving).seen ≤ at
    pub within : at ≤ log_limit setup
    pub free_is : free ≡ log_limit setup - at
    pub short : free < assembled_room_at setup.seg_size at body
    pub new_is : new ≡ full_view at (seen_view at old)

-- an entry of the pass was reserved at a position, of the record that the body was made of, behind
-- a record that starts at the address `prev`; it stands under these locks
pub record IsEntryReserved (setup : Setup) (body : Assembled) (at prev : ℕ) (locks : List ℕ)
    (old new : View) : Type 0 where
  pub value : Record
  pub logged : IsLogRecord value
  pub of_body : assembled value ≡ body
  pub new_is : new ≡ reserved_view setup.seg_size
      (entry_reserved (old.reserving).number at value) prev locks old

-- the record at its place, as its words are to be copied
abbrev pub placed_first : Setup → Assembled → (start prev : ℕ) → PlacedState
placed_first setup body start prev = record {
  size = setup.seg_size;
  sysid = setup.sysid;
  body = body;
  start = start;
  prev = prev;
  next = end_address_of setup.seg_size start;
}

-- an entry was reserved under these locks, behind all that the pass had seen and before the log's
-- end; it is given at its place, which starts at this address
pub record IsPlaceReserved (setup : Setup) (body : Assembled) (locks : List ℕ) (old new : View)
    (start : ℕ) (placed : PlacedState) : Type 0 where
  pub at : ℕ
  pub prev : ℕ
  pub reserved : IsEntryReserved setup body at prev locks old new
  pub behind_seen : (old.reserving).seen ≤ at
  pub within : at + assembled_room_at setup.seg_size at body ≤ log_limit setup
  pub placed_is : placed ≡ placed_first setup body at prev
  pub start_is : start ≡ address_of setup.seg_size at

-- so a record was that can be inserted, under one lock
pub record IsInsertReserved (setup : Setup) (body : Assembled) (lock : ℕ) (old new : View)
    (start : ℕ) (placed : PlacedState) : Type 0 where
  pub place : IsPlaceReserved setup body (lock ∷ []) old new start placed
  pub writable : IsWritable (place.reserved).value

-- so a segment switch was, under all locks; the log did not stand at a segment's start
pub record IsSwitchReserved (setup : Setup) (body : Assembled) (old new : View) (start : ℕ)
    (placed : PlacedState) : Type 0 where
  pub place : IsPlaceReserved setup body every_lock old new start placed
  pub switches : (place.reserved).value ≡ switch_record
  pub inside : end_form setup place.at % setup.seg_size ≢ 0

-- the log ends at this address, a segment's start, where a switch would leave it as it is; and the
-- pass notes that it stopped there
pub record StaysAtStart (setup : Setup) (end : ℕ) (old new : View) : Type 0 where
  pub at : ℕ
  pub behind_seen : (old.reserving).seen ≤ at
  pub within : at ≤ log_limit setup
  pub end_is : end ≡ end_form setup at
  pub starts : end % setup.seg_size ≡ 0
  pub new_is : new ≡ stayed_view at (seen_view at old)

-- what a switch comes to where the position was locked and the log not full
abbrev pub AnswersSwitchTry : Setup → Assembled → View → View → SwitchTry → Type 0
AnswersSwitchTry setup body old new (Switched r) =
    IsSwitchReserved setup body old new r.start.0 r.placed × (r.end.0 ≡ placed_end r.placed)
AnswersSwitchTry setup body old new (Stayed end) = StaysAtStart setup end.0 old new

-- why nothing was reserved
abbrev pub TellsWhy : Setup → Assembled → View → View → ReserveErr → Type 0
TellsWhy setup body old new (Busy seen) = IsPositionBusy seen old new
TellsWhy setup body old new (Full free) = IsLogFull setup body free old new

-- a switch finds the log full just where fewer bytes are left than its record's own 24, and not
-- none: the rest of the segment fits, since the log ends with one, and at the log's end it stays
abbrev pub LeavesNoSwitch : ReserveErr → Type 0
LeavesNoSwitch (Busy seen) = Unit {0}
LeavesNoSwitch (Full free) = (1 ≤ free) × (free < 24)

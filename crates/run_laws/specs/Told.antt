-- What lines are told, and the order that it makes.
use Rattle.std.specs.Prelude.{◌≡◌, ℕ, ◌+◌, ◌*◌, ◌/◌, ◌%◌, ◌<◌, ◌≤◌, ◌⊎◌, All, List, [], ◌∷◌, ◌++◌, length, take, Option, Some, None, option_map, option_to_list, nat_le, if◌then◌else◌}
use Rattle.segment_disk.specs.Cause.{Rose}
use Rattle.wal_types.specs.declared.lsn.Lsn.{Lsn}
use Rattle.wal_types.specs.declared.record.Record.{Record}
use Rattle.wal_spelling.specs.Record.{switch_record}
use Rattle.byte_position.specs.Position.{position_of, address_of, end_address_of, first_position}
use Rattle.wal_page.specs.Order.{Entry, position_behind, rooms_of, room_at}
use Rattle.run_script.specs.Asked.{AskedLine}
use Rattle.run_script.specs.Asked.{Asked}
use Rattle.run_script.specs.Asked.{Insert, Commit, Flush, CommitAsync, WriteBehind, Switch}
use Rattle.run_laws.specs.declared.told.Told.{Told}
use Rattle.run_laws.specs.declared.told.Told.TheVariants.{Wrote, Hard, Flushed, Async, Idle, Switched, Stayed, Refused}
use Rattle.wal_types.specs.declared.answers.Cause.{Cause}
use Rattle.wal_types.specs.declared.answers.Cause.TheVariants.{Full, Disk, Down}

-- where the record stands that an answer says was written
pub record PlaceTold : Type 0 where
  pub start : Lsn
  pub end : Lsn

abbrev pub place_told : Told → Option PlaceTold
place_told (Wrote start end) = Some (record { start = start; end = end })
place_told (Hard start end moment) = Some (record { start = start; end = end })
place_told (Async start end) = Some (record { start = start; end = end })
place_told (Switched start end) = Some (record { start = start; end = end })
place_told other = None

-- what an answer says is durable: all below an address, from a moment of the disk on
pub record DurableTold : Type 0 where
  pub upto : Lsn
  pub moment : ℕ

abbrev pub durable_told : Told → Option DurableTold
durable_told (Hard start end moment) = Some (record { upto = end; moment = moment })
durable_told (Flushed upto moment) = Some (record { upto = upto; moment = moment })
durable_told other = None

-- the start that was reserved for a line's record
abbrev pub reserved_by : Told → Option Lsn
reserved_by (Refused cause reserved) = reserved
reserved_by told = option_map (λ (place : PlaceTold). place.start) (place_told told)

-- the entry that a line made, where it reserved one; `size` is that of a segment
abbrev pub entry_at : ℕ → ℕ → Record → Option Lsn → Option Entry
entry_at size pass value None = None
entry_at size pass value (Some start) =
    Some (record { pass = Some pass; value = value; start = position_of size start.0 })

abbrev pub entry_of : ℕ → ℕ → Asked → Told → Option Entry
entry_of size pass (Insert value) told = entry_at size pass value (reserved_by told)
entry_of size pass (Commit value) told = entry_at size pass value (reserved_by told)
entry_of size pass Flush told = None
entry_of size pass (CommitAsync value) told = entry_at size pass value (reserved_by told)
entry_of size pass WriteBehind told = None
entry_of size pass Switch told = entry_at size pass switch_record (reserved_by told)

-- a backend's entries, in the order of its lines
abbrev pub entries_of : ℕ → ℕ → List AskedLine → List Told → List Entry
entries_of size pass [] told = []
entries_of size pass (line ∷ lines) [] = []
entries_of size pass (line ∷ lines) (told ∷ others) =
    option_to_list (entry_of size pass line.asked told) ++ entries_of size pass lines others

-- the entries of all backends, the first of which has this pass
abbrev pub entries_from : ℕ → ℕ → List (List AskedLine) → List (List Told) → List Entry
entries_from size pass [] told = []
entries_from size pass (lines ∷ script) [] = []
entries_from size pass (lines ∷ script) (told ∷ others) =
    entries_of size pass lines told ++ entries_from size (pass + 1) script others

-- an entry before the first that starts behind it
abbrev pub insert_by_start : Entry → List Entry → List Entry
insert_by_start e [] = e ∷ []
insert_by_start e (f ∷ fs) = if nat_le e.start f.start then e ∷ f ∷ fs else f ∷ insert_by_start e fs

abbrev pub sorted_by_start : List Entry → List Entry
sorted_by_start [] = []
sorted_by_start (e ∷ es) = insert_by_start e (sorted_by_start es)

-- the entries of backends by their starts, where the first backend has this pass
abbrev pub order_from : ℕ → ℕ → List (List AskedLine) → List (List Told) → List Entry
order_from size pass script told = sorted_by_start (entries_from size pass script told)

-- each starts behind the one before
abbrev pub IsRising : List Entry → Type 0
IsRising [] = Unit {0}
IsRising (e ∷ []) = Unit {0}
IsRising (e ∷ f ∷ es) = (e.start < f.start) × IsRising (f ∷ es)

-- the log that lines are told of: its segment size, the byte position at which it is full, the one
-- at which its order goes on, the order of what was reserved since, and the disk's counts of faults
-- at the opening and at the end
pub record Logged : Type 0 where
  pub size : ℕ
  pub limit : ℕ
  pub start : ℕ
  pub order : List Entry
  pub faults_at_open : ℕ
  pub last : ℕ

-- the byte position at which the first so many entries of the order end
abbrev pub front_end : Logged → ℕ → ℕ
front_end logged count = logged.start + rooms_of logged.size (take count logged.order)

-- a place in the log: a record's start is the address of its byte position, its end the end form of
-- the position behind it
pub record IsPlaced (size : ℕ) (value : Record) (start end : ℕ) : Type 0 where
  pub starts : start ≡ address_of size (position_of size start)
  pub ends : end
      ≡ end_address_of size (position_of size start + room_at size (position_of size start) value)

-- the disk failed since the opening, and this was its count of faults then
pub record IsFault (logged : Logged) (faults : ℕ) : Type 0 where
  pub rose : Rose logged.faults_at_open faults
  pub upto : faults ≤ logged.last

-- too few bytes were left for the record behind some front of the order, which has the backend's
-- earlier entries (they end at byte position `behind`) and none of its later ones
pub record MayBeFull (logged : Logged) (pass behind : ℕ) (value : Record) (free : ℕ)
    : Type 0 where
  pub front : ℕ
  pub within : front ≤ length logged.order
  pub earlier : behind ≤ front_end logged front
  pub no_later : All (λ e. e.pass ≡ Some pass → e.start < behind) (take front logged.order)
  pub left : free + front_end logged front ≡ logged.limit
  pub short : free < room_at logged.size (front_end logged front) value

-- why an insert or a commit, also one that is answered ahead, may be refused: a fault in its own
-- device calls comes once its record is reserved
abbrev pub MayRefuseRecord : Logged → (pass behind : ℕ) → Record → Cause → Option Lsn → Type 0
MayRefuseRecord logged pass behind value (Full free) None =
    MayBeFull logged pass behind value free
MayRefuseRecord logged pass behind value (Full free) (Some start) = ⊥
MayRefuseRecord logged pass behind value (Disk faults) None = ⊥
MayRefuseRecord logged pass behind value (Disk faults) (Some start) =
    IsFault logged faults × (start.0 ≡ address_of logged.size (position_of logged.size start.0))
MayRefuseRecord logged pass behind value (Down faults) None = IsFault logged faults
MayRefuseRecord logged pass behind value (Down faults) (Some start) =
    IsFault logged faults × (start.0 ≡ address_of logged.size (position_of logged.size start.0))

-- the log stood at this address, a segment's start, behind some front of the order, which has the
-- backend's earlier entries and none of its later ones
pub record MayStay (logged : Logged) (pass behind end : ℕ) : Type 0 where
  pub front : ℕ
  pub within : front ≤ length logged.order
  pub earlier : behind ≤ front_end logged front
  pub no_later : All (λ e. e.pass ≡ Some pass → e.start < behind) (take front logged.order)
  pub end_is : end ≡ end_address_of logged.size (front_end logged front)
  pub at_start : end % logged.size ≡ 0

-- a log that is full for a segment switch has some bytes left, and fewer than the record's own 24:
-- with more the switch would end the segment, with none there is nothing to end
abbrev pub LeavesFew : Cause → Type 0
LeavesFew (Full free) = (1 ≤ free) × (free < 24)
LeavesFew (Disk faults) = Unit {0}
LeavesFew (Down faults) = Unit {0}

-- why a flush may be refused: it reserves nothing, and needs no room
abbrev pub MayRefuseFlush : Logged → Cause → Option Lsn → Type 0
MayRefuseFlush logged (Full free) reserved = ⊥
MayRefuseFlush logged (Disk faults) reserved = IsFault logged faults × (reserved ≡ None)
MayRefuseFlush logged (Down faults) reserved = IsFault logged faults × (reserved ≡ None)

-- a flush behind reaches this address: the start of the page that holds the end of its backend's
-- entries (byte position `behind`) at least, and no further than the log goes
pub record ReachesPage (logged : Logged) (behind upto : ℕ) : Type 0 where
  pub page : end_address_of logged.size behind / 8192 * 8192 ≤ upto
  pub within : upto ≤ end_address_of logged.size (front_end logged (length logged.order))

-- what a line of a pass may be told, where its backend's earlier entries end at byte position
-- `behind`: an insert that its record is written, a commit that it is durable, a flush that all is
-- up to there at least and no further than the log goes; a commit that is answered ahead that its
-- record is written, a flush behind that all is durable up to some address, or that it was already;
-- a segment switch that its record is written, or that the log stood at a segment's start
abbrev pub FitsLine : Logged → (pass behind : ℕ) → Asked → Told → Type 0
FitsLine logged pass behind (Insert value) (Wrote start end) =
    IsPlaced logged.size value start.0 end.0
FitsLine logged pass behind (Insert value) (Refused cause reserved) =
    MayRefuseRecord logged pass behind value cause reserved
FitsLine logged pass behind (Commit value) (Hard start end moment) =
    IsPlaced logged.size value start.0 end.0
FitsLine logged pass behind (Commit value) (Refused cause reserved) =
    MayRefuseRecord logged pass behind value cause reserved
FitsLine logged pass behind Flush (Flushed upto moment) =
    (end_address_of logged.size behind ≤ upto.0)
    × (upto.0 ≤ end_address_of logged.size (front_end logged (length logged.order)))
FitsLine logged pass behind Flush (Refused cause reserved) = MayRefuseFlush logged cause reserved
FitsLine logged pass behind (CommitAsync value) (Async start end) =
    IsPlaced logged.size value start.0 end.0
FitsLine logged pass behind (CommitAsync value) (Refused cause reserved) =
    MayRefuseRecord logged pass behind value cause reserved
FitsLine logged pass behind WriteBehind (Flushed upto moment) = ReachesPage logged behind upto.0
FitsLine logged pass behind WriteBehind (Idle upto) = ReachesPage logged behind upto.0
FitsLine logged pass behind WriteBehind (Refused cause reserved) =
    MayRefuseFlush logged cause reserved
FitsLine logged pass behind Switch (Switched start end) =
    IsPlaced logged.size switch_record start.0 end.0
FitsLine logged pass behind Switch (Stayed end) = MayStay logged pass behind end.0
FitsLine logged pass behind Switch (Refused cause reserved) =
    MayRefuseRecord logged pass behind switch_record cause reserved × LeavesFew cause
FitsLine logged pass behind asked other = ⊥

-- the byte position at which a backend's entries end after one more line
abbrev pub behind_or : ℕ → ℕ → Option Entry → ℕ
behind_or size behind None = behind
behind_or size behind (Some e) = position_behind size e

-- one answer for each line, in order, each as it may be
abbrev pub TellsFrom : Logged → ℕ → ℕ → List AskedLine → List Told → Type 0
TellsFrom logged pass behind [] [] = Unit {0}
TellsFrom logged pass behind [] (told ∷ others) = ⊥
TellsFrom logged pass behind (line ∷ lines) [] = ⊥
TellsFrom logged pass behind (line ∷ lines) (told ∷ others) =
    FitsLine logged pass behind line.asked told
    × TellsFrom logged pass
    (behind_or logged.size behind (entry_of logged.size pass line.asked told)) lines others

-- a list for each backend, the first of which has this pass, and one answer for each of its lines
abbrev pub TellsAll : Logged → ℕ → List (List AskedLine) → List (List Told) → Type 0
TellsAll logged pass [] [] = Unit {0}
TellsAll logged pass [] (told ∷ others) = ⊥
TellsAll logged pass (lines ∷ script) [] = ⊥
TellsAll logged pass (lines ∷ script) (told ∷ others) =
    TellsFrom logged pass (first_position logged.size) lines told
    × TellsAll logged (pass + 1) script others

-- each backend's entries rise in the order of its lines
abbrev pub RiseInLineOrder : ℕ → ℕ → List (List AskedLine) → List (List Told) → Type 0
RiseInLineOrder size pass [] told = Unit {0}
RiseInLineOrder size pass (lines ∷ script) [] = Unit {0}
RiseInLineOrder size pass (lines ∷ script) (told ∷ others) =
    IsRising (entries_of size pass lines told) × RiseInLineOrder size (pass + 1) script others

-- whether an answer says that the log is full, that the disk had failed before, that the line was
-- refused
abbrev pub IsFullAnswer : Told → Type 0
IsFullAnswer (Refused (Full free) reserved) = Unit {0}
IsFullAnswer other = ⊥

abbrev pub IsDownAnswer : Told → Type 0
IsDownAnswer (Refused (Down faults) reserved) = Unit {0}
IsDownAnswer other = ⊥

abbrev pub IsRefused : Told → Type 0
IsRefused (Refused cause reserved) = Unit {0}
IsRefused other = ⊥

-- the fact holds of some answer of some backend
abbrev pub SomeAnswer : (Told → Type 0) → List Told → Type 0
SomeAnswer P [] = ⊥
SomeAnswer P (told ∷ others) = P told ⊎ SomeAnswer P others

abbrev pub SomeTold : (Told → Type 0) → List (List Told) → Type 0
SomeTold P [] = ⊥
SomeTold P (told ∷ others) = SomeAnswer P told ⊎ SomeTold P others

-- each answer tells that the disk had failed, at this count of faults, and that nothing is reserved
abbrev pub AllDown : ℕ → List Told → Type 0
AllDown faults [] = Unit {0}
AllDown faults (told ∷ others) = (told ≡ Refused (Down faults) None) × AllDown faults others

-- behind an answer that tells a fault of the disk, each answer tells that fault
abbrev pub StaysDown : List Told → Type 0
StaysDown [] = Unit {0}
StaysDown (Refused (Disk faults) reserved ∷ others) = AllDown faults others
StaysDown (Refused (Down faults) reserved ∷ others) = AllDown faults others
StaysDown (told ∷ others) = StaysDown others

-- it does so for each backend
abbrev pub EachStaysDown : List (List Told) → Type 0
EachStaysDown [] = Unit {0}
EachStaysDown (told ∷ others) = StaysDown told × EachStaysDown others

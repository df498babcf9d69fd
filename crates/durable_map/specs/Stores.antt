-- What a map that is kept by a log holds, and what its calls answer.
use Rattle.std.specs.Prelude.{◌≡◌, ℕ, List, [], ◌∷◌, ◌++◌, Option, Some, None, option_map, Result, Ok, Err}
use Rattle.std.specs.BTreeMap.{BTreeMap, get_by}
use Rattle.std.specs.Cmp.Lexicographic.{slice_cmp}
use Rattle.std.specs.Ordering.{nat_cmp}
use Rattle.std.specs.declared.alloc.Global.{Global}
use Rattle.std.specs.declared.vec.Vec.{Vec}
use Rattle.wal_spelling.specs.Spelling.{assembled}
use Rattle.wal_types.specs.declared.answers.Sealed.{Sealed}
use Rattle.machine_state.specs.Views.{View}
use Rattle.machine_state.specs.declared.setup.Setup.{Setup}
use Rattle.wal_rule.specs.Passes.{view_of_pass}
use Rattle.wal_log.specs.declared.wal.Wal.{Wal}
use Rattle.wal_log.specs.Committing.{IsSealed, RefusesCommit}
use Rattle.wal_log.specs.Logs.{IsPassOfLog, setup_of_log}
use Rattle.wal_log.specs.Sharing.{ShareNumbers}
use Rattle.wal_log.specs.Standing.{KeepsPass}
use Rattle.durable_map.specs.declared.fault.ChangeErr.{ChangeErr}
use Rattle.durable_map.specs.declared.fault.ChangeErr.TheVariants.{Memory, TooLong, Refused}
use Rattle.durable_map.specs.declared.part.MapPart.{MapPart}
use Rattle.durable_map.specs.declared.store.DurableMap.{DurableMap}
use Rattle.durable_map.specs.Changes.{MapChange, MapMeaning, map_behind, map_of}
use Rattle.durable_map.specs.Records.{IsLoggable, change_record}

-- ---- what it holds

abbrev pub Bytes : Type 0
Bytes = Vec ℕ Global

-- the keys, each with a slot: an empty one, or one with its value
abbrev pub Slots : Type 0
Slots = BTreeMap Bytes (Option Bytes)

abbrev pub slot_of : Slots → List ℕ → Option (Option Bytes)
slot_of entries key = get_by (λ (stored : Bytes). slice_cmp nat_cmp key stored.items) entries

abbrev pub slot_bytes : Option Bytes → Option (List ℕ)
slot_bytes value = option_map (λ (v : Bytes). v.items) value

abbrev pub value_in : Option (Option Bytes) → Option (List ℕ)
value_in None = None
value_in (Some value) = slot_bytes value

-- what a key has among entries: nothing, if its slot is empty
abbrev pub map_in : Slots → MapMeaning
map_in entries key = value_in (slot_of entries key)

-- entries are the map of some changes
abbrev pub AreOf : List MapChange → Slots → Type 0
AreOf changes entries = (key : List ℕ) → map_in entries key ≡ map_of changes key

-- one change was taken in
abbrev pub TakesIn : MapChange → Slots → Slots → Type 0
TakesIn change old new =
    (key : List ℕ) → map_in new key ≡ map_behind (map_in old) change key

-- .. or nothing
abbrev pub SaysTheSame : Slots → Slots → Type 0
SaysTheSame old new = (key : List ℕ) → map_in new key ≡ map_in old key

-- ---- a part of a map: keys, and the pass that logs their changes

-- what its pass knows
abbrev pub view_of_part : MapPart → View
view_of_part part = view_of_pass part.pass

abbrev pub part_held : MapPart → MapMeaning
part_held part = map_in part.entries

-- it holds the map of these changes
abbrev pub Holds : MapPart → List MapChange → Type 0
Holds part changes = AreOf changes part.entries

-- between two calls its pass is about nothing
abbrev pub IsPartOfLog : {D : Type 0} → Wal D → MapPart → Type 0
IsPartOfLog wal part = IsPassOfLog wal part.pass

-- ---- a map that is kept by a log, in one part

abbrev pub log_under : {D : Type 0} → DurableMap D → Wal D
log_under map = map.log

abbrev pub part_under : {D : Type 0} → DurableMap D → MapPart
part_under map = map.part

abbrev pub view_under : {D : Type 0} → DurableMap D → View
view_under map = view_of_part map.part

abbrev pub map_held : {D : Type 0} → DurableMap D → MapMeaning
map_held map = part_held map.part

-- between two calls its pass is about nothing, has all numbers of its log, and took no other one in
pub record IsOpenMap {D : Type 0} (map : DurableMap D) : Type 0 where
  pub pass : IsPartOfLog map.log map.part
  pub numbers : ShareNumbers (setup_of_log map.log).passes (view_under map) []
  pub alone : ((view_under map).reserving).joined ≡ []

-- ---- what a change is answered

-- the log told that the change's record is durable at the moment told, and then this one change was
-- taken in
pub record IsDurable (setup : Setup) (change : MapChange) (old new : MapPart) (sealed : Sealed)
    : Type 0 where
  pub loggable : IsLoggable change
  pub told : IsSealed setup (assembled (change_record change)) (view_of_part old)
      (view_of_part new) sealed
  pub taken : TakesIn change old.entries new.entries

-- why it is refused, and what of the log is then as it was
abbrev pub Refuses : Setup → MapChange → MapPart → MapPart → ChangeErr → Type 0
Refuses setup change old new Memory = view_of_part new ≡ view_of_part old
Refuses setup change old new TooLong =
    (IsLoggable change → ⊥) × (view_of_part new ≡ view_of_part old)
Refuses setup change old new (Refused refused) =
    IsLoggable change
    × RefusesCommit setup (assembled (change_record change)) (view_of_part old)
    (view_of_part new) refused

-- Ok: it is durable, and was then taken in; else why not, and the map is as it was
abbrev pub AnswersChange : Setup → MapChange → MapPart → MapPart → Result Sealed ChangeErr
    → Type 0
AnswersChange setup change old new (Ok sealed) = IsDurable setup change old new sealed
AnswersChange setup change old new (Err error) =
    Refuses setup change old new error
    × SaysTheSame old.entries new.entries

-- and its pass may be used again, and keeps what a pass keeps in a call
pub record AnswersCall {D : Type 0} (wal : Wal D) (change : MapChange) (old new : MapPart)
    (answer : Result Sealed ChangeErr) : Type 0 where
  pub answers : AnswersChange (setup_of_log wal) change old new answer
  pub pass : IsPartOfLog wal new
  pub keeps : KeepsPass (view_of_part old) (view_of_part new)

-- the changes that a map holds behind an answer
abbrev pub changes_behind : MapChange → List MapChange → Result Sealed ChangeErr
    → List MapChange
changes_behind change changes (Ok sealed) = changes ++ change ∷ []
changes_behind change changes (Err error) = changes

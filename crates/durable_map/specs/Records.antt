-- How a change is spelled: as a record that has main data alone, of one manager.
use Rattle.std.specs.Prelude.{◌≡◌, ℕ, ◌≤◌, List, ◌++◌, length, Option, Some, None, IfSome}
use Rattle.std.specs.Int.{w32, to_le_bytes}
use Rattle.wal_types.specs.declared.record.Record.{Record}
use Rattle.wal_spelling.specs.Record.{plain_record}
use Rattle.durable_map.specs.Changes.{MapChange}

-- a key or a value that a change can have: at most 64 KiB
abbrev pub IsShort : List ℕ → Type 0
IsShort bytes = length bytes ≤ 65536

-- a change that can be logged
pub record IsLoggable (change : MapChange) : Type 0 where
  pub key : IsShort change.key
  pub value : IfSome change.value IsShort

-- the info of a set and that of a del
abbrev pub change_info : Option (List ℕ) → ℕ
change_info (Some value) = 0
change_info None = 16

-- the main data of a set: the key's length, the key, and the value
abbrev pub set_main : List ℕ → List ℕ → List ℕ
set_main key value = to_le_bytes w32 (length key) ++ (key ++ value)

-- .. and of a del: the key
abbrev pub change_main : List ℕ → Option (List ℕ) → List ℕ
change_main key (Some value) = set_main key value
change_main key None = key

-- a record of no transaction, of the manager that PostgreSQL keeps free for experiments
-- (RM_EXPERIMENTAL_ID of rmgr.h)
abbrev pub managed_record : ℕ → List ℕ → Record
managed_record info main = plain_record (record { 0 = 0 }) 128 info main

-- the record of a change
abbrev pub change_record : MapChange → Record
change_record change =
    managed_record (change_info change.value) (change_main change.key change.value)

-- a record says a change
pub record SaysChange (value : Record) (change : MapChange) : Type 0 where
  pub is_of : value ≡ change_record change
  pub loggable : IsLoggable change

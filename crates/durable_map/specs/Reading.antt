-- What is told of a record that is read: the change that it says, or that it says none.
use Rattle.std.specs.Prelude.{◌≡◌, List, ℕ, option_map}
use Rattle.wal_types.specs.declared.record.Record.{Record}
use Rattle.durable_map.specs.Changes.{MapChange}
use Rattle.durable_map.specs.Records.{IsShort, SaysChange, set_main}
use Rattle.durable_map.specs.declared.change.ReadChange.{ReadChange}

-- a change that was read
abbrev pub change_of : ReadChange → MapChange
change_of read = record {
  key = read.key.items;
  value = option_map (λ v. v.items) read.value;
}

abbrev pub SaysNoChange : Record → Type 0
SaysNoChange value = (change : MapChange) → SaysChange value change → ⊥

-- main data is that of a set of a key to a value
pub record IsSet (main key value : List ℕ) : Type 0 where
  pub is_of : main ≡ set_main key value
  pub key_short : IsShort key
  pub value_short : IsShort value

-- .. and of none
abbrev pub IsNoSet : List ℕ → Type 0
IsNoSet main = (key value : List ℕ) → IsSet main key value → ⊥

-- What a part of a map tells of what it was asked.
use Rattle.std.specs.Prelude.{◌≡◌, ℕ, List, [], ◌∷◌, ◌++◌, Option, Some, None, Ok, Err}
use Rattle.wal_log.specs.declared.wal.Wal.{Wal}
use Rattle.durable_map.specs.Calls.{ChangeCall}
use Rattle.durable_map.specs.Changes.{MapChange}
use Rattle.durable_map.specs.Stores.{AnswersCall, part_held, slot_bytes}
use Rattle.durable_map.specs.declared.asked.MapCall.{MapCall}
use Rattle.durable_map.specs.declared.asked.MapCall.TheVariants.{Set, Get, Del}
use Rattle.durable_map.specs.declared.asked.MapTold.{MapTold}
use Rattle.durable_map.specs.declared.asked.MapTold.TheVariants.{Changed, Value, NoMemory}
use Rattle.durable_map.specs.declared.part.MapPart.{MapPart}

-- the key that a call is about
abbrev pub key_of_call : MapCall → List ℕ
key_of_call (Set key value) = key.items
key_of_call (Get key) = key.items
key_of_call (Del key) = key.items

-- the change that it asks for; a `get` asks for none
abbrev pub change_asked : MapCall → Option MapChange
change_asked (Set key value) = Some (record { key = key.items; value = Some value.items })
change_asked (Get key) = None
change_asked (Del key) = Some (record { key = key.items; value = None })

-- a change was answered Ok
abbrev pub IsAnsweredOk : MapTold → Type 0
IsAnsweredOk (Changed (Ok sealed)) = Unit {0}
IsAnsweredOk (Changed (Err error)) = ⊥
IsAnsweredOk (Value value) = ⊥
IsAnsweredOk NoMemory = ⊥

-- what a key has, or that there was no memory
abbrev pub TellsValue : MapPart → List ℕ → MapTold → Type 0
TellsValue part key (Changed answer) = ⊥
TellsValue part key (Value value) = slot_bytes value ≡ part_held part key
TellsValue part key NoMemory = Unit {0}

abbrev pub TellsChange : {D : Type 0} → Wal D → (key : List ℕ) → Option (List ℕ) → MapPart
    → MapPart → MapTold → Type 0
TellsChange wal key value old new (Changed answer) =
    AnswersCall wal (record { key = key; value = value }) old new answer
TellsChange wal key value old new (Value told) = ⊥
TellsChange wal key value old new NoMemory = ⊥

-- a change is answered as by `set` or `del`; a `get` changes nothing
abbrev pub TellsPart : {D : Type 0} → Wal D → MapCall → MapPart → MapPart → MapTold → Type 0
TellsPart wal (Set key value) old new told =
    TellsChange wal key.items (Some value.items) old new told
TellsPart wal (Del key) old new told = TellsChange wal key.items None old new told
TellsPart wal (Get key) old new told = (new ≡ old) × TellsValue old key.items told

-- calls were made, one behind another, and this is what they were told
abbrev pub AreTold : {D : Type 0} → Wal D → List MapCall → MapPart → List MapTold → MapPart
    → Type 0
AreTold wal [] old [] new = new ≡ old
AreTold wal [] old (told ∷ others) new = ⊥
AreTold wal (call ∷ calls) old [] new = ⊥
AreTold wal (call ∷ calls) old (told ∷ others) new =
    (next : MapPart) × TellsPart wal call old next told × AreTold wal calls next others new

-- the sets and dels among calls, with what they were answered
abbrev pub change_told : (key : List ℕ) → Option (List ℕ) → MapTold → List ChangeCall
change_told key value (Changed answer) =
    (record { change = record { key = key; value = value }; answer = answer }) ∷ []
change_told key value (Value told) = []
change_told key value NoMemory = []

abbrev pub changes_of_call : MapCall → MapTold → List ChangeCall
changes_of_call (Set key value) told = change_told key.items (Some value.items) told
changes_of_call (Del key) told = change_told key.items None told
changes_of_call (Get key) told = []

abbrev pub changes_told : List MapCall → List MapTold → List ChangeCall
changes_told [] told = []
changes_told (call ∷ calls) [] = []
changes_told (call ∷ calls) (told ∷ others) =
    changes_of_call call told ++ changes_told calls others

-- One change more.
use Rattle.std.proofs.Common.{◌≡◌, List, [], ◌∷◌, ◌++◌, cond, refl, ap, ◌∙◌, sym}
use Rattle.std.specs.Prelude.{Err, Ok, Result}
use Rattle.std.specs.Str.{bytes_eq}
use Rattle.wal_reader.specs.declared.found.FoundRecord.{FoundRecord}
use Rattle.durable_map.specs.Changes.{MapChange, MapMeaning, map_behind, map_behind_all, empty_map}
use Rattle.durable_map.specs.Opening.{AreSaid}
use Rattle.durable_map.specs.Records.{SaysChange}
use Rattle.durable_map.specs.Stores.{AnswersChange, AreOf, Holds, SaysTheSame, Slots, TakesIn, changes_behind}
use Rattle.durable_map.specs.declared.fault.ChangeErr.{ChangeErr}
use Rattle.durable_map.specs.declared.part.MapPart.{MapPart}
use Rattle.machine_state.specs.declared.setup.Setup.{Setup}
use Rattle.wal_types.specs.declared.answers.Sealed.{Sealed}

pub after_all_push : (map : MapMeaning) (changes : List MapChange) (change : MapChange)
    → map_behind_all map (changes ++ change ∷ []) ≡ map_behind (map_behind_all map changes) change
after_all_push map [] change = refl
after_all_push map (c ∷ changes) change = after_all_push (map_behind map c) changes change

-- what is taken in stands behind the changes so far
pub are_of_more : (changes : List MapChange) (change : MapChange) (old new : Slots)
    → AreOf changes old → TakesIn change old new → AreOf (changes ++ change ∷ []) new
are_of_more changes change old new held taken key =
    taken key
    ∙ ap (cond (bytes_eq change.key key) change.value) (held key)
    ∙ sym (ap (λ (map : MapMeaning). map key) (after_all_push empty_map changes change))

pub are_said_more : (records : List FoundRecord) (changes : List MapChange) (found : FoundRecord)
    (change : MapChange) → AreSaid records changes → SaysChange found.value change
    → AreSaid (records ++ found ∷ []) (changes ++ change ∷ [])
are_said_more [] [] found change said says = (says, tt)
are_said_more [] (c ∷ changes) found change said says = absurd said
are_said_more (r ∷ records) [] found change said says = absurd said
are_said_more (r ∷ records) (c ∷ changes) found change said says =
    (said.0, are_said_more records changes found change said.1 says)

-- a change is taken in behind nothing
pub takes_in_over : (change : MapChange) (old made new : Slots) → SaysTheSame old made
    → TakesIn change made new → TakesIn change old new
takes_in_over change old made new same taken key =
    taken key ∙ ap (cond (bytes_eq change.key key) change.value) (same key)

-- what a map holds behind an answer
pub holds_behind : (setup : Setup) (change : MapChange) (changes : List MapChange)
    (old new : MapPart) (answer : Result Sealed ChangeErr)
    → AnswersChange setup change old new answer → Holds old changes
    → Holds new (changes_behind change changes answer)
holds_behind setup change changes old new (Ok sealed) answers held =
    are_of_more changes change old.entries new.entries held answers.taken
holds_behind setup change changes old new (Err error) answers held = λ key. answers.1 key ∙ held key

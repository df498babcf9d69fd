-- A step of a log's reader, by what comes next.
use Rattle.std.proofs.Common.{◌≡◌, ℕ, List, [], Option, Some, None, refl, subst, sym}
use Rattle.wal_reader.specs.declared.found.FoundRecord.{FoundRecord}
use Rattle.wal_reader.specs.declared.found.Answer.{Answer}
use Rattle.wal_reader.specs.declared.found.Answer.TheVariants.{End, Stopped}
use Rattle.wal_reader.specs.declared.standing.Standing.{Standing}
use Rattle.wal_reader.specs.declared.standing.Standing.TheVariants.{NotBegun, At}
use Rattle.wal_reader.specs.declared.record_place.RecordPlace.{RecordPlace}
use Rattle.wal_reader.specs.LogReader.{ReaderState, GivesRecords, GivesAt, IsNext, LeavesReader, OnEnd, StandsAfter}
use Rattle.wal_reader.specs.Pages.{Pages}
use Rattle.wal_reader.specs.Spelled.{GivesSpelledIn}
use Rattle.std.specs.Prelude.{IfOk}
use Rattle.wal_reader.specs.Standings.{standing_after, told}
use Rattle.wal_reader.specs.Steps.{Comes}

-- the standing of a reader that has not stopped
abbrev pub standing_from : Option RecordPlace → Standing
standing_from None = NotBegun
standing_from (Some at) = At at

comes_at : (pages : Pages) (state : ReaderState) (from : Option RecordPlace) (found : List FoundRecord) (answer : Answer) → Comes state.size pages state.start state.end from found answer → GivesAt pages state (standing_from from) found answer
comes_at pages state None found answer comes = comes
comes_at pages state (Some at) found answer comes = comes

-- a reader gives what comes from where it stands
pub Gives-comes : (pages : Pages) (state : ReaderState) (from : Option RecordPlace) (found : List FoundRecord) (answer : Answer) → state.standing ≡ standing_from from → Comes state.size pages state.start state.end from found answer → GivesRecords pages state found answer
Gives-comes pages state from found answer same comes = subst (λ (s : Standing). GivesAt pages state s found answer) (sym same) (comes_at pages state from found answer comes)

-- an answer that is told is the next
pub IsNext-told : (pages : Pages) (old new : ReaderState) (answer : Answer) → GivesRecords pages old [] answer → IsNext pages old new (told answer)
IsNext-told pages old new (End at) gives = gives
IsNext-told pages old new (Stopped stop) gives = gives

-- what holds where an answer is told holds where it is an end
pub OnEnd-told : (answer : Answer) (fact : Type 0) → fact → OnEnd (told answer) fact
OnEnd-told (End at) fact holds = holds
OnEnd-told (Stopped stop) fact holds = tt

pub StandsAfter-told : (size : ℕ) (standing : Standing) (answer : Answer) → StandsAfter size standing (told answer)
StandsAfter-told size standing (End at) = tt
StandsAfter-told size standing (Stopped stop) = tt

pub Leaves-told : (old : ReaderState) (answer : Answer) → LeavesReader old (record old { standing = standing_after old.standing answer }) (told answer)
Leaves-told old (End at) = refl
Leaves-told old (Stopped stop) = refl

-- no answer is a record
pub SpelledIn-told : (size : ℕ) (pages : Pages) (answer : Answer) → IfOk (told answer) (GivesSpelledIn size pages)
SpelledIn-told size pages (End at) = tt
SpelledIn-told size pages (Stopped stop) = tt

-- A step of who reads on, by the step of the reader.
use Rattle.std.proofs.Common.{◌≡◌, ℕ, List, [], ◌∷◌, ◌++◌, Option, Some, None, Result, Ok, Err, refl, ap, not, subst, ◌∙◌, arith}
use Rattle.std.specs.Prelude.{IfOk}
use Rattle.wal_types.specs.declared.lsn.Lsn.{Lsn}
use Rattle.wal_types.specs.declared.record.Record.{Record}
use Rattle.wal_record.proofs.StoredBlocks.{stored_fits}
use Rattle.wal_reader.specs.Filled.{found_with, step_with}
use Rattle.wal_reader.specs.LogReader.{GivesRecords, IsNext, LeavesReader, ReaderState}
use Rattle.wal_reader.specs.Pages.{Pages}
use Rattle.wal_reader.specs.PassingOver.{GivesStored, IsStoredRecord, IsStoredNext, place_again, stored_at}
use Rattle.wal_reader.specs.SoFar.{unbegun}
use Rattle.wal_reader.specs.Spelled.{GivesSpelled}
use Rattle.wal_reader.specs.Standings.{HasReadCause, given_as}
use Rattle.wal_reader.specs.declared.found.Answer.{Answer}
use Rattle.wal_reader.specs.declared.found.Answer.TheVariants as answers
use Rattle.wal_reader.specs.declared.found.FoundRecord.{FoundRecord}
use Rattle.wal_reader.specs.declared.found.Stopped.TheVariants as stops
use Rattle.wal_reader.specs.declared.standing.Comes.{Comes}
use Rattle.wal_reader.specs.declared.standing.Comes.TheVariants as coming
use Rattle.wal_reader.specs.declared.standing.ReadErr.{ReadErr}
use Rattle.wal_reader.specs.declared.standing.ReadErr.TheVariants.{Memory, Disk, Stopped}
use Rattle.wal_reader.specs.declared.standing.Standing.{Standing}
use Rattle.waldump_text.specs.Listing.{IsListable, listed_of}
use Rattle.waldump_text.proofs.SpelledLaws.{IsListable-from_spelled}
use Rattle.cluster_listing.specs.Past.{GivesPast, HasPastCause, IsListablePast, IsNextPast, behind_stored, compressed_at, passed_as, gives_all, gives_behind, gives_front, gives_stored, gives_unstored, page_behind, past_of}

-- what a reader still gives behind a record stands behind that record
gives_one_more : (pages : Pages) (now next : ReaderState) (f : FoundRecord) → next ≡ record now { standing = next.standing } → IsNext pages now next (Ok (given_as f)) → (others : List FoundRecord) (told : Option Answer) → GivesPast pages next others told → GivesPast pages now (f ∷ others) told
gives_one_more pages now next f same is others (Some answer) (gives_all _ _ _ gives last) = gives_all now (f ∷ others) answer (is others answer gives) last
gives_one_more pages now next f same is others None (gives_front _ _ behind answer gives) = gives_front now (f ∷ others) behind answer (is (others ++ behind) answer gives)
gives_one_more pages now next f same is _ told (gives_behind _ found others at _ gives anew) =
    gives_behind now (f ∷ found) others at told (is found (answers.Stopped (stops.Overwritten at)) gives) (subst (λ (s : ReaderState). GivesPast pages (unbegun s.size (page_behind at.0) s.end) others told) same anew)
gives_one_more pages now next f same is _ told (gives_stored _ found others at stored _ gives here on) =
    gives_stored now (f ∷ found) others at stored told (is found (answers.Stopped (stops.Compressed at)) gives)
    (subst (λ (s : ReaderState). stored_at s.size pages s.end (place_again s.size at.0) ≡ Ok stored) same here)
    (subst (λ (s : ReaderState). GivesPast pages (behind_stored pages s at.0 stored) others told) same on)
gives_one_more pages now next f same is found (Some answer) (gives_unstored _ _ at _ gives here) =
    gives_unstored now (f ∷ found) at answer (is found (answers.Stopped (stops.Compressed at)) gives)
    (subst (λ (s : ReaderState). stored_at s.size pages s.end (place_again s.size at.0) ≡ Err answer) same here)

-- ---- a step that stops at no compressed image

pub own_next : (pages : Pages) (old new : ReaderState) (value : Record) (comes : Result Comes ReadErr) → compressed_at comes ≡ None → LeavesReader old new (step_with value comes) → IsNext pages old new (step_with value comes) → IsNextPast pages old new value (past_of comes)
own_next pages old new value (Ok (coming.Record head)) none leaves next = gives_one_more pages old new (found_with value head) leaves.0 next
own_next pages old new value (Ok (coming.End at)) none leaves next = gives_all old [] (answers.End at) next tt
own_next pages old new value (Err Memory) none leaves next = tt
own_next pages old new value (Err (Disk faults)) none leaves next = tt
own_next pages old new value (Err (Stopped (stops.Damaged at kind))) none leaves next = gives_all old [] (answers.Stopped (stops.Damaged at kind)) next tt
own_next pages old new value (Err (Stopped (stops.Compressed at))) none leaves next = absurd cc
own_next pages old new value (Err (Stopped (stops.Overwritten at))) none leaves next = λ others told anew. gives_behind old [] others at told next anew

pub own_leaves : (old new : ReaderState) (value : Record) (comes : Result Comes ReadErr) → LeavesReader old new (step_with value comes) → (new.size ≡ old.size) × (new.end ≡ old.end)
own_leaves old new value (Ok (coming.Record head)) leaves = (ap (λ (s : ReaderState). s.size) leaves.0, ap (λ (s : ReaderState). s.end) leaves.0)
own_leaves old new value (Ok (coming.End at)) leaves = (ap (λ (s : ReaderState). s.size) leaves, ap (λ (s : ReaderState). s.end) leaves)
own_leaves old new value (Err Memory) leaves = (ap (λ (s : ReaderState). s.size) leaves, ap (λ (s : ReaderState). s.end) leaves)
own_leaves old new value (Err (Disk faults)) leaves = (ap (λ (s : ReaderState). s.size) leaves, ap (λ (s : ReaderState). s.end) leaves)
own_leaves old new value (Err (Stopped stop)) leaves = (ap (λ (s : ReaderState). s.size) leaves, ap (λ (s : ReaderState). s.end) leaves)

pub own_listable : (value : Record) (comes : Result Comes ReadErr) → IfOk (step_with value comes) GivesSpelled → IfOk (past_of comes) (IsListablePast value)
own_listable value (Ok (coming.Record head)) spelled = IsListable-from_spelled (found_with value head) spelled
own_listable value (Ok (coming.End at)) spelled = tt
own_listable value (Err Memory) spelled = tt
own_listable value (Err (Disk faults)) spelled = tt
own_listable value (Err (Stopped (stops.Damaged at kind))) spelled = tt
own_listable value (Err (Stopped (stops.Compressed at))) spelled = tt
own_listable value (Err (Stopped (stops.Overwritten at))) spelled = tt

pub own_cause : (old new : ℕ) (value : Record) (comes : Result Comes ReadErr) → HasReadCause old new (step_with value comes) → HasPastCause old new (past_of comes)
own_cause old new value (Ok (coming.Record head)) cause = cause
own_cause old new value (Ok (coming.End at)) cause = cause
own_cause old new value (Err Memory) cause = cause
own_cause old new value (Err (Disk faults)) cause = cause
own_cause old new value (Err (Stopped (stops.Damaged at kind))) cause = cause
own_cause old new value (Err (Stopped (stops.Compressed at))) cause = cause
own_cause old new value (Err (Stopped (stops.Overwritten at))) cause = cause

-- ---- a step that stops at one, and the step over it

pub compressed_is : (comes : Result Comes ReadErr) (at : Lsn) → compressed_at comes ≡ Some at → comes ≡ Err (Stopped (stops.Compressed at))
compressed_is (Ok comes) at is = absurd cc
compressed_is (Err Memory) at is = absurd cc
compressed_is (Err (Disk faults)) at is = absurd cc
compressed_is (Err (Stopped (stops.Damaged place kind))) at is = absurd cc
compressed_is (Err (Stopped (stops.Compressed place))) at is = cc
compressed_is (Err (Stopped (stops.Overwritten place))) at is = absurd cc

over_next : (pages : Pages) (old new : ReaderState) (standing : Standing) (value : Record) (at : Lsn) (comes : Result Comes ReadErr) → GivesRecords pages old [] (answers.Stopped (stops.Compressed at)) → IsStoredNext pages (record old { standing = standing }) new (place_again old.size at.0) (step_with value comes) → IsNextPast pages old new value (passed_as comes)
over_next pages old new standing value at (Ok (coming.Record head)) gives next =
    λ others told on. gives_stored old [] others at (found_with value head) told gives next.0 (subst (λ (s : ReaderState). GivesPast pages s others told) next.1 on)
over_next pages old new standing value at (Ok (coming.End end)) gives next = gives_unstored old [] at (answers.End end) gives next
over_next pages old new standing value at (Err Memory) gives next = tt
over_next pages old new standing value at (Err (Disk faults)) gives next = tt
over_next pages old new standing value at (Err (Stopped stop)) gives next = gives_unstored old [] at (answers.Stopped stop) gives next

pub stored_next : (pages : Pages) (old mid new : ReaderState) (standing : Standing) (value : Record) (at : Lsn) (comes : Result Comes ReadErr) → mid ≡ record old { standing = standing } → GivesRecords pages old [] (answers.Stopped (stops.Compressed at)) → IsStoredNext pages mid new (place_again mid.size at.0) (step_with value comes) → IsNextPast pages old new value (passed_as comes)
stored_next pages old mid new standing value at comes same gives next =
    over_next pages old new standing value at comes gives (subst (λ (s : ReaderState). IsStoredNext pages s new (place_again s.size at.0) (step_with value comes)) same next)

IsListable-from_stored : (found : FoundRecord) → IsStoredRecord found → IsListable (listed_of found)
IsListable-from_stored found is =
    let fits = stored_fits is.bytes found.value is.stored in
    record { manager = ap not fits.manager; forks = fits.forks; images = omega (arith, fits.images, is.length_is) }

pub stored_listable : (value : Record) (comes : Result Comes ReadErr) → IfOk (step_with value comes) GivesStored → IfOk (passed_as comes) (IsListablePast value)
stored_listable value (Ok (coming.Record head)) stored = IsListable-from_stored (found_with value head) stored
stored_listable value (Ok (coming.End at)) stored = tt
stored_listable value (Err error) stored = tt

pub stored_cause : (old mid new : ℕ) (value : Record) (comes : Result Comes ReadErr) → mid ≡ old → HasReadCause mid new (step_with value comes) → HasPastCause old new (passed_as comes)
stored_cause old mid new value (Ok (coming.Record head)) same cause = cause ∙ same
stored_cause old mid new value (Ok (coming.End at)) same cause = cause ∙ same
stored_cause old mid new value (Err error) same cause = subst (λ (n : ℕ). HasReadCause n new (Err error)) same cause

use Rattle.std.proofs.Common.{◌≡◌, ℕ, Option, Result, Ok, Err, ap, subst, sym, ◌∙◌}
use Rattle.segment_disk.specs.Tape.{Tape}
use Rattle.wal_reader.specs.Filled.{step_with}
use Rattle.wal_reader.specs.LogReader.{LeavesReader, ReaderState, reader_state}
use Rattle.wal_reader.specs.PageCursor.{IsLogOf}
use Rattle.wal_reader.specs.StepIn.{IsStepIn}
use Rattle.wal_reader.specs.Standings.{HasReadCause}
use Rattle.wal_reader.specs.declared.found.Stopped.TheVariants as stops
use Rattle.wal_reader.specs.declared.standing.Comes.{Comes}
use Rattle.wal_reader.specs.declared.standing.ReadErr.{ReadErr}
use Rattle.wal_reader.specs.declared.standing.ReadErr.TheVariants.{Stopped}
use Rattle.wal_reader.specs.declared.standing.Standing.TheVariants as standings
use Rattle.cluster_listing.specs.Past.{IsNextPast}
use Rattle.cluster_listing.proofs.PastLaws.{compressed_is, own_cause, own_leaves, own_listable, own_next, stored_cause, stored_listable, stored_next}
use Rattle.cluster_listing.proofs.walking.next_past.Goals as goal

pub returns-in-None-clause-steps : goal.returns-in-None-clause-steps
returns-in-None-clause-steps g c = λ pages log knows.
    let read = c.next_into-comes.ensures in
    let none = sym c.compressed_at.ensures ∙ c.in-None.is in
    let step = read.gives pages log knows in
    let old = reader_state c.args.reader.now in
    let new = reader_state c.next_into-comes.new.self in
    let value = c.next_into-comes.new.value in
    record {
      knows = step.knows;
      next = subst (IsNextPast pages old new value) (sym c.read_on.ensures) (own_next pages old new value c.next_into-comes.result none read.leaves step.next);
    }

pub returns-in-None-clause-leaves : goal.returns-in-None-clause-leaves
returns-in-None-clause-leaves g c = own_leaves (reader_state c.args.reader.now) (reader_state c.next_into-comes.new.self) c.next_into-comes.new.value c.next_into-comes.result c.next_into-comes.ensures.leaves

pub returns-in-None-clause-listable : goal.returns-in-None-clause-listable
returns-in-None-clause-listable g c = rw c.read_on.ensures (own_listable c.next_into-comes.new.value c.next_into-comes.result c.next_into-comes.ensures.spelled)

pub returns-in-None-clause-cause : goal.returns-in-None-clause-cause
returns-in-None-clause-cause g c = rw c.read_on.ensures (own_cause (g.D.Disk.faults c.args.disk.now) (g.D.Disk.faults c.next_into-comes.new.disk) c.next_into-comes.new.value c.next_into-comes.result c.next_into-comes.ensures.cause)

-- the step stopped at a compressed image
pub returns-in-Some-clause-steps : goal.returns-in-Some-clause-steps
returns-in-Some-clause-steps g c = λ pages log knows.
    let read = c.next_into-comes.ensures in
    let over = c.pass_over-passed.ensures in
    let is = compressed_is c.next_into-comes.result c.in-Some.at (sym c.compressed_at.ensures ∙ c.in-Some.is) in
    let stop : Result Comes ReadErr = Err (Stopped (stops.Compressed c.in-Some.at)) in
    let step = subst (λ (comes : Result Comes ReadErr). IsStepIn pages c.args.reader.now c.next_into-comes.new.self (step_with c.next_into-comes.new.value comes)) is (read.gives pages log knows) in
    let old = reader_state c.args.reader.now in
    let mid = reader_state c.next_into-comes.new.self in
    let leaves = subst (λ (comes : Result Comes ReadErr). LeavesReader old mid (step_with c.next_into-comes.new.value comes)) is read.leaves in
    let own = own_leaves old mid c.next_into-comes.new.value stop leaves in
    let on_tape = subst (λ (t : Option Tape). IsLogOf t old.size pages) (sym read.uncalled.same_tape) log in
    let still = subst (λ (n : ℕ). IsLogOf (g.D.Disk.tape c.next_into-comes.new.disk) n pages) (sym own.0) on_tape in
    let passed = over.gives pages still step.knows in
    let new = reader_state c.pass_over-passed.new.self in
    let value = c.pass_over-passed.new.value in
    record {
      knows = passed.knows;
      next = subst (IsNextPast pages old new value) (sym c.passed_as.ensures) (stored_next pages old mid new (standings.Stopped (stops.Compressed c.in-Some.at)) value c.in-Some.at c.pass_over-passed.result leaves step.next passed.next);
    }

pub returns-in-Some-clause-leaves : goal.returns-in-Some-clause-leaves
returns-in-Some-clause-leaves g c =
    let own = own_leaves (reader_state c.args.reader.now) (reader_state c.next_into-comes.new.self) c.next_into-comes.new.value c.next_into-comes.result c.next_into-comes.ensures.leaves in
    let over = c.pass_over-passed.ensures.leaves in
    (ap (λ (s : ReaderState). s.size) over ∙ own.0, ap (λ (s : ReaderState). s.end) over ∙ own.1)

pub returns-in-Some-clause-listable : goal.returns-in-Some-clause-listable
returns-in-Some-clause-listable g c = rw c.passed_as.ensures (stored_listable c.pass_over-passed.new.value c.pass_over-passed.result c.pass_over-passed.ensures.stored)

pub returns-in-Some-clause-uncalled : goal.returns-in-Some-clause-uncalled
returns-in-Some-clause-uncalled g c =
    let read = c.next_into-comes.ensures.uncalled in
    let over = c.pass_over-passed.ensures.uncalled in
    record { same_tape = over.same_tape ∙ read.same_tape; same_moment = over.same_moment ∙ read.same_moment }

pub returns-in-Some-clause-cause : goal.returns-in-Some-clause-cause
returns-in-Some-clause-cause g c =
    let is = compressed_is c.next_into-comes.result c.in-Some.at (sym c.compressed_at.ensures ∙ c.in-Some.is) in
    let old = g.D.Disk.faults c.args.disk.now in
    let mid = g.D.Disk.faults c.next_into-comes.new.disk in
    let same = subst (λ (comes : Result Comes ReadErr). HasReadCause old mid (step_with c.next_into-comes.new.value comes)) is c.next_into-comes.ensures.cause in
    rw c.passed_as.ensures (stored_cause old mid (g.D.Disk.faults c.pass_over-passed.new.disk) c.pass_over-passed.new.value c.pass_over-passed.result same c.pass_over-passed.ensures.cause)

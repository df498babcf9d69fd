use Rattle.std.proofs.Common.{◌++◌, ◌∷◌, [], Option, ap, refl, subst, ◌∙◌}
use Rattle.std.proofs.lemmas.Result.{err_from_is_err_and}
use Rattle.wal_reader.specs.LogReader.{LeavesReader, ReaderState, reader_state}
use Rattle.wal_reader.specs.Standings.{HasReadCause}
use Rattle.segment_disk.specs.Tape.{Tape}
use Rattle.durable_map.proofs.Changed.{are_of_more, are_said_more}
use Rattle.durable_map.proofs.Keys.{holds_nothing}
use Rattle.durable_map.proofs.ReadLaws.{Steps, given_no_change, given_more, given_none, gives_record, said_as, step_to, tells_fault, unread}
use Rattle.durable_map.proofs.opening.read_entries.Goals as goal

pub records-init : goal.records-init
records-init g c =
    let size = c.args.geometry in
    record {
      records = [];
      changes = [];
      sized = ap (λ (s : ReaderState). s.size) {y = unread size c.segment_size.result}
          c.new-reader.ensures.state;
      said = tt;
      held = holds_nothing c.new-entries.result c.new-entries.ensures.empty;
      given = given_none size c.new-reader.result (g.D.Disk.tape c.args.disk.now)
          (◌∙◌ {b = unread size c.segment_size.result} c.new-reader.ensures.state
          (ap (unread size) c.segment_size.ensures.value)) c.new-reader.ensures.knows;
      tape = refl;
      moment = refl;
      faults = refl;
    }

pub returns-in_err-take_in-in-Some-clause-refused
    : goal.returns-in_err-take_in-in-Some-clause-refused
returns-in_err-take_in-in-Some-clause-refused g c =
    let before = c.records.invariant in
    let f = c.in-Some.found in
    let is = gives_record c.next.result f (said_as c.next.result c.next_of.result
    c.in_ok-found.field-0 f c.next_of.ensures c.in_ok-found.was c.in-Some.is) in
    let valid = rw c.segment_size.ensures.value at c.segment_size.ensures.valid in
    let leaves = subst (LeavesReader (reader_state c.records.reader) (reader_state c.next.new.self))
    is c.next.ensures.leaves in
    let gives = subst (Steps (g.D.Disk.tape c.records.disk) c.records.reader c.next.new.self) is
    c.next.ensures.gives in
    let steps = subst (λ (tape : Option Tape). Steps tape c.records.reader c.next.new.self
    (step_to f)) before.tape gives in
    let same = subst (HasReadCause (g.D.Disk.faults c.records.disk)
    (g.D.Disk.faults c.next.new.disk)) is c.next.ensures.cause ∙ before.faults in
    let p = err_from_is_err_and c.from_residual-in_err-take_in-in-Some.result
    c.from_residual-in_err-take_in-in-Some.ensures.1 in
    rw (p.1, p.2) (tells_fault c.args.geometry (g.D.Disk.tape c.args.disk.now)
    (g.D.Disk.faults c.args.disk.now) (g.D.Disk.faults c.next.new.disk) f _
    c.in_err-take_in-in-Some.ensures.refused same
    (given_no_change c.args.geometry c.records.reader c.next.new.self before.records before.sized f
    (g.D.Disk.tape c.args.disk.now) before.changes before.said valid
    (ap (λ (s : ReaderState). s.size) leaves.0 ∙ before.sized) before.given steps))

pub records-preserved : goal.records-preserved
records-preserved g c =
    let before = c.records.invariant in
    let f = c.in-Some.found in
    let is = gives_record c.next.result f (said_as c.next.result c.next_of.result
    c.in_ok-found.field-0 f c.next_of.ensures c.in_ok-found.was c.in-Some.is) in
    let leaves = subst (LeavesReader (reader_state c.records.reader) (reader_state c.next.new.self))
    is c.next.ensures.leaves in
    let gives = subst (Steps (g.D.Disk.tape c.records.disk) c.records.reader c.next.new.self) is
    c.next.ensures.gives in
    let steps = subst (λ (tape : Option Tape). Steps tape c.records.reader c.next.new.self
    (step_to f)) before.tape gives in
    let taken = c.in_ok-take_in-in-Some.ensures.taken in
    record {
      records = before.records ++ f ∷ [];
      changes = before.changes ++ taken.0 ∷ [];
      sized = ap (λ (s : ReaderState). s.size) leaves.0 ∙ before.sized;
      said = are_said_more before.records before.changes f taken.0 before.said taken.1;
      held = are_of_more before.changes taken.0 c.records.entries c.take_in.new.entries
          before.held taken.2;
      given = given_more c.args.geometry c.records.reader c.next.new.self before.records
          before.sized f (g.D.Disk.tape c.args.disk.now) before.given steps;
      tape = c.next.ensures.uncalled.same_tape ∙ before.tape;
      moment = c.next.ensures.uncalled.same_moment ∙ before.moment;
      faults = subst (HasReadCause (g.D.Disk.faults c.records.disk)
          (g.D.Disk.faults c.next.new.disk)) is c.next.ensures.cause ∙ before.faults;
    }

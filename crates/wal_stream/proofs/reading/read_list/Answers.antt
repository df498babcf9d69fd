use Rattle.std.proofs.Common.{ℕ, ◌∷◌, ◌++◌, [], None, Ok, ap, subst, sym, ◌∙◌}
use Rattle.std.proofs.lemmas.Result.{err_from_is_err_and}
use Rattle.wal_reader.specs.LogReader.{StandsAfter, StandsBehindRecord, reader_state}
use Rattle.wal_reader.specs.SoFar.{MakesStep, unbegun}
use Rattle.wal_reader.specs.Standings.{found_as}
use Rattle.wal_reader.specs.declared.found.FoundRecord.{FoundRecord}
use Rattle.wal_reader.specs.declared.standing.Step.{Step}
use Rattle.wal_reader.proofs.SoFarLaws.{read_more, read_none, read_to_end}
use Rattle.wal_stream.specs.Sending.{IsWordEnd}
use Rattle.wal_stream.proofs.ListLaws.{IsWordEnd-behind, IsWordEnd-start, ends_with_more, list_ended, list_unread}
use Rattle.wal_stream.proofs.reading.read_list.Goals as goal
use Rattle.wal_stream.proofs.reading.read_list.Goals.{After-next}

pub records-init : goal.records-init
records-init g c =
    let is = c.segment_size.ensures.value in
    let valid = rw is at c.segment_size.ensures.valid in
    let size = c.args.geometry in
    record {
      found = [];
      so_far = read_none valid
          (◌∙◌ {b = unbegun size c.segment_size.result None} c.new-reader.ensures.state
          (ap (λ (start : ℕ). unbegun size start None) is))
          c.new-reader.ensures.knows;
      end_is = is;
      whole = subst IsWordEnd (sym is) (IsWordEnd-start size valid);
    }

makes : (g : _) (c : After-next g) → MakesStep g.D.Disk.tape g.D.Disk.moment g.D.Disk.faults
    c.records.disk c.next.new.disk c.records.reader c.next.new.self c.next.result
makes g c =
    let read = c.next.ensures in
    record { gives = read.gives; leaves = read.leaves; uncalled = read.uncalled; cause = read.cause }

pub returns-in_err-behind-clause-read : goal.returns-in_err-behind-clause-read
returns-in_err-behind-clause-read g c =
    let step = (goal.at.returns-in_err-behind-clause-read g c).After-next in
    let before = c.records.invariant in
    let p = err_from_is_err_and c.from_residual.result c.from_residual.ensures.1 in
    let makes = subst (MakesStep g.D.Disk.tape g.D.Disk.moment g.D.Disk.faults c.records.disk
    c.next.new.disk c.records.reader c.next.new.self) c.in_err-behind.was (makes g step) in
    rw (p.1, p.2) (list_unread c.args.geometry c.records.end.0 before.found
    (g.D.Disk.tape c.args.disk.now) _ (read_to_end before.so_far makes))

pub returns-in-End-clause-read : goal.returns-in-End-clause-read
returns-in-End-clause-read g c =
    let step = (goal.at.returns-in-End-clause-read g c).After-next in
    let before = c.records.invariant in
    let makes = subst (MakesStep g.D.Disk.tape g.D.Disk.moment g.D.Disk.faults c.records.disk
    c.next.new.disk c.records.reader c.next.new.self) (c.in_ok-behind.was ∙ ap Ok c.in-End.is)
    (makes g step) in
    list_ended c.args.geometry c.records.end.0 before.found (g.D.Disk.tape c.args.disk.now)
    c.in-End.at before.end_is (read_to_end before.so_far makes)

pub records-preserved-in-Record : goal.records-preserved-in-Record
records-preserved-in-Record g c =
    let step = (goal.at.records-preserved-in-Record g c).After-next in
    let f : FoundRecord = found_as c.in-Record.start c.in-Record.behind c.in-Record.prev
    c.in-Record.total c.in-Record.value in
    let before = c.records.invariant in
    let valid = before.so_far.valid in
    let behind = subst (λ (step : Step). StandsAfter (reader_state c.records.reader).size
    c.next.new.self.standing (Ok step)) c.in-Record.is c.in_ok-behind.ensures.behind in
    let behind_here = subst (λ (size : ℕ). StandsBehindRecord size f c.next.new.self.standing)
    before.so_far.sized behind in
    record {
      found = before.found ++ f ∷ [];
      so_far = read_more before.so_far (makes g step) f (c.in_ok-behind.was ∙ ap Ok c.in-Record.is);
      end_is = ends_with_more c.args.geometry before.found f;
      whole = IsWordEnd-behind c.args.geometry valid c.next.new.self.standing f
          c.next.new.self.on_way behind_here;
    }

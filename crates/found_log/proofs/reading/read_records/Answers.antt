use Rattle.std.proofs.Common.{◌≡◌, ℕ, [], ◌∷◌, ◌++◌, None, Ok, ap, refl, subst, sym, ◌∙◌, arith}
use Rattle.std.proofs.lemmas.Result.{err_from_is_err_and}
use Rattle.wal_types.specs.declared.lsn.Lsn.{Lsn}
use Rattle.wal_reader.specs.LogReader.{StandsAfter, StandsBehindRecord, reader_state}
use Rattle.wal_reader.specs.SoFar.{MakesStep, unbegun}
use Rattle.wal_reader.proofs.SoFarLaws.{read_first, read_more, read_none, read_to_end}
use Rattle.found_log.specs.Reading.{MayEndAt}
use Rattle.found_log.proofs.ReadLaws.{gives_record, said_as, step_to}
use Rattle.found_log.proofs.ReadSoFar.{ends_with_more, may_end_behind, may_end_first, read_all, read_outside, read_refused}
use Rattle.found_log.proofs.reading.read_records.Goals as goal
use Rattle.found_log.proofs.reading.read_records.Goals.{After-next, In-Some}

pub records-init : goal.records-init
records-init g c =
    let is = c.segment_size.ensures.value in
    let valid = rw is at c.segment_size.ensures.valid in
    let size = c.args.geometry in
    record {
      records = [];
      so_far = read_none valid
          (◌∙◌ {b = unbegun size c.segment_size.result None} c.new-reader.ensures.state
          (ap (λ (start : ℕ). unbegun size start None) is))
          c.new-reader.ensures.knows;
      ends = record {
        count_is = refl;
        end_is = is;
        last_start_is = refl;
        may_end = subst (MayEndAt size c.args.made) (sym is) (may_end_first size c.args.made valid);
      };
    }

makes : (g : _) (c : After-next g) → MakesStep g.D.Disk.tape g.D.Disk.moment g.D.Disk.faults
    c.records.disk c.next.new.disk c.records.reader c.next.new.self c.next.result
makes g c =
    let read = c.next.ensures in
    record { gives = read.gives; leaves = read.leaves; uncalled = read.uncalled; cause = read.cause }

pub returns-in_err-record-clause-refused : goal.returns-in_err-record-clause-refused
returns-in_err-record-clause-refused g c =
    let step = (goal.at.returns-in_err-record-clause-refused g c).After-next in
    let before = c.records.invariant in
    let p = err_from_is_err_and c.from_residual.result
    c.from_residual.ensures.1 in
    rw (p.1, p.2) (read_refused c.args.geometry c.args.made (g.D.Disk.tape c.args.disk.now)
    before.records c.next.result _ (sym c.judge.ensures ∙ c.in_err-record.was)
    (read_to_end before.so_far (makes g step)))

pub returns-in-None-clause-read : goal.returns-in-None-clause-read
returns-in-None-clause-read g c =
    let step = (goal.at.returns-in-None-clause-read g c).After-next in
    let before = c.records.invariant in
    read_all c.args.geometry c.args.made (g.D.Disk.tape c.args.disk.now) before.records
    c.records.end before.ends c.next.result
    (sym c.judge.ensures ∙ c.in_ok-record.was ∙ ap Ok c.in-None.is)
    (read_to_end before.so_far (makes g step))

-- the record that was read
gave : (g : _) (c : In-Some g) → c.next.result ≡ step_to c.in-Some.record
gave g c =
    gives_record c.next.result c.in-Some.record
    (said_as c.next.result c.judge.result c.in_ok-record.field-0 c.in-Some.record c.judge.ensures
    c.in_ok-record.was c.in-Some.is)

pub follow-requires-clause-counted : goal.follow-requires-clause-counted
follow-requires-clause-counted g c =
    let before = c.records.invariant in
    omega (arith, before.ends.count_is, before.so_far.few)

pub returns-in_err-end-in-Some-clause-refused : goal.returns-in_err-end-in-Some-clause-refused
returns-in_err-end-in-Some-clause-refused g c =
    let at = goal.at.returns-in_err-end-in-Some-clause-refused g c in
    let before = c.records.invariant in
    let f = c.in-Some.record in
    let so_far = read_more before.so_far (makes g at.After-next) f (gave g at.In-Some) in
    let p = err_from_is_err_and c.from_residual-in_err-end-in-Some.result
    c.from_residual-in_err-end-in-Some.ensures.1 in
    rw (p.1, p.2) (read_outside c.args.geometry c.args.made (g.D.Disk.tape c.args.disk.now)
    before.records f _ c.in_err-end-in-Some.ensures.refused (read_first so_far))

pub records-preserved : goal.records-preserved
records-preserved g c =
    let at = goal.at.records-preserved g c in
    let before = c.records.invariant in
    let f = c.in-Some.record in
    let is = gave g at.In-Some in
    let behind = subst (StandsAfter (reader_state c.records.reader).size c.next.new.self.standing) is
    c.next.ensures.behind in
    let stands = subst (λ (size : ℕ). StandsBehindRecord size f c.next.new.self.standing)
    before.so_far.sized behind in
    let follows = c.in_ok-end-in-Some.ensures.follows in
    let end = c.in_ok-end-in-Some.end in
    let from = ap (λ (l : Lsn). l.0) follows.1 in
    let may = may_end_behind c.args.geometry c.args.made c.next.new.self.standing f
    c.next.new.self.on_way stands (omega (arith, from, follows.3)) (omega (arith, from, follows.4)) in
    record {
      records = before.records ++ f ∷ [];
      so_far = read_more before.so_far (makes g at.After-next) f is;
      ends = ends_with_more c.args.geometry c.args.made before.records c.records.end end f
          before.ends may (follows.0, follows.1, follows.2);
    }

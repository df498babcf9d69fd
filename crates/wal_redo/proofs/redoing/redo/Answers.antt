use Rattle.std.proofs.Common.{◌≡◌, ◌≤◌, List, [], ◌∷◌, ◌++◌, length, All, Result, Ok, Err, ap, refl, subst, sym, ◌∙◌, arith}
use Rattle.std.proofs.lemmas.Result.{err_from_is_err_and}
use Rattle.wal_types.specs.declared.record.Block.{Block}
use Rattle.wal_reader.specs.SoFar.{MakesStep}
use Rattle.wal_reader.specs.Spelled.{GivesSpelled, IsSpelled}
use Rattle.wal_reader.specs.Standings.{found_as, given_as}
use Rattle.wal_reader.specs.declared.found.FoundRecord.{FoundRecord}
use Rattle.wal_reader.specs.declared.standing.ReadErr.{ReadErr}
use Rattle.wal_reader.specs.declared.standing.Step.{Step}
use Rattle.wal_reader.specs.declared.standing.Step.TheVariants.{End}
use Rattle.wal_reader.proofs.SoFarLaws.{read_first, read_more, read_none, read_to_end}
use Rattle.wal_redo.specs.Calls.{CallsAll, CallsPuts}
use Rattle.wal_redo.specs.Images.{IsRedoable, puts_of}
use Rattle.wal_redo.specs.Redo.{PutsAll, PutsSome}
use Rattle.wal_redo.proofs.CallLaws.{CallsAll-none}
use Rattle.wal_redo.proofs.CountLaws.{bounded_more}
use Rattle.wal_redo.proofs.ImageLaws.{few_spelled, redoable_spelled}
use Rattle.wal_redo.proofs.PutLaws.{PutsAll-none}
use Rattle.wal_redo.proofs.RedoLaws.{calls_ended, calls_more, calls_refused, calls_unread, redo_ended, redo_refused, redo_unread, redoes_more}
use Rattle.wal_redo.proofs.redoing.redo.Goals as goal
use Rattle.wal_redo.proofs.redoing.redo.Goals.{After-next, In-End, In-Record}

pub records-init : goal.records-init
records-init g c = record {
  found = [];
  so_far = read_none c.new-reader.ensures.valid c.new-reader.ensures.state
      c.new-reader.ensures.knows;
  redoes = PutsAll-none (g.B.Blocks.pages c.args.blocks.now);
  calls = CallsAll-none (g.B.Blocks.calls c.args.blocks.now);
  bounded = omega arith;
  store_faults = refl;
  never = λ sure. sure;
}

makes : (g : _) (c : After-next g) → MakesStep g.D.Disk.tape g.D.Disk.moment g.D.Disk.faults
    c.records.disk c.next.new.disk c.records.reader c.next.new.self c.next.result
makes g c =
    let read = c.next.ensures in
    record { gives = read.gives; leaves = read.leaves; uncalled = read.uncalled; cause = read.cause }

-- the step of a kind
makes_so : (g : _) (c : After-next g) (step : Result Step ReadErr) → c.next.result ≡ step
    → MakesStep g.D.Disk.tape g.D.Disk.moment g.D.Disk.faults c.records.disk c.next.new.disk
    c.records.reader c.next.new.self step
makes_so g c step is =
    subst (MakesStep g.D.Disk.tape g.D.Disk.moment g.D.Disk.faults c.records.disk c.next.new.disk
    c.records.reader c.next.new.self) is (makes g c)

pub returns-in_err-value-clause-redone : goal.returns-in_err-value-clause-redone
returns-in_err-value-clause-redone g c =
    let at = goal.at.returns-in_err-value-clause-redone g c in
    let before = c.records.invariant in
    let p = err_from_is_err_and c.from_residual.result c.from_residual.ensures.1 in
    let says = read_to_end before.so_far (makes_so g at.After-next _ c.in_err-value.was) in
    rw (p.1, p.2) (redo_unread c.args.geometry c.args.start.0 before.so_far.valid before.found _ _
    c.records.count before.redoes (g.D.Disk.tape c.args.disk.now) _ says)

pub returns-in_err-value-clause-called : goal.returns-in_err-value-clause-called
returns-in_err-value-clause-called g c =
    let at = goal.at.returns-in_err-value-clause-called g c in
    let before = c.records.invariant in
    let p = err_from_is_err_and c.from_residual.result c.from_residual.ensures.1 in
    let says = read_to_end before.so_far (makes_so g at.After-next _ c.in_err-value.was) in
    rw (p.1, p.2) (calls_unread c.args.geometry c.args.start.0 before.so_far.valid before.found _ _
    before.calls (g.D.Disk.tape c.args.disk.now) _ says)

-- the step to the end
makes_end : (g : _) (c : In-End g) → c.next.result ≡ Ok (End c.in-End.at)
makes_end g c = c.in_ok-value.was ∙ ap Ok c.in-End.is

pub returns-in-End-clause-redone : goal.returns-in-End-clause-redone
returns-in-End-clause-redone g c =
    let at = goal.at.returns-in-End-clause-redone g c in
    let before = c.records.invariant in
    let says = read_to_end before.so_far (makes_so g at.After-next _ (makes_end g at.In-End)) in
    redo_ended c.args.geometry c.args.start.0 before.so_far.valid before.found _ _ c.records.count
    before.redoes (g.D.Disk.tape c.args.disk.now) c.in-End.at says

pub returns-in-End-clause-called : goal.returns-in-End-clause-called
returns-in-End-clause-called g c =
    let at = goal.at.returns-in-End-clause-called g c in
    let before = c.records.invariant in
    let says = read_to_end before.so_far (makes_so g at.After-next _ (makes_end g at.In-End)) in
    calls_ended c.args.geometry c.args.start.0 before.so_far.valid before.found _ _ before.calls
    c.records.count (g.D.Disk.tape c.args.disk.now) c.in-End.at says

-- the record that is read
abbrev found : (g : _) → In-Record g → FoundRecord
found g c =
    found_as c.in-Record.start c.in-Record.end c.in-Record.prev c.in-Record.total c.in-Record.value

gives : (g : _) (c : In-Record g) → c.next.result ≡ Ok (given_as (found g c))
gives g c = c.in_ok-value.was ∙ ap Ok c.in-Record.is

spelled_on : (g : _) (c : In-Record g) → IsSpelled (found g c)
spelled_on g c = subst GivesSpelled c.in-Record.is c.in_ok-value.ensures.spelled

pub put_images-requires : goal.put_images-requires
put_images-requires g c =
    let step = (goal.at.put_images-requires g c).In-Record in
    subst (All IsRedoable) (sym c.as_slice.ensures)
    (redoable_spelled (found g step) (spelled_on g step))

pub returns-in_err-count-in-Record-clause-redone : goal.returns-in_err-count-in-Record-clause-redone
returns-in_err-count-in-Record-clause-redone g c =
    let at = goal.at.returns-in_err-count-in-Record-clause-redone g c in
    let before = c.records.invariant in
    let f = found g at.In-Record in
    let so_far = read_more before.so_far (makes g at.After-next) f (gives g at.In-Record) in
    let p = err_from_is_err_and c.from_residual-in_err-count-in-Record.result
    c.from_residual-in_err-count-in-Record.ensures.1 in
    let refused = c.in_err-count-in-Record.ensures in
    let cut = subst (λ (blocks : List Block). PutsSome (g.B.Blocks.pages c.records.blocks)
    (g.B.Blocks.pages c.put_images.new.blocks) (puts_of blocks)) c.as_slice.ensures refused.puts in
    rw (p.1, p.2) (redo_refused c.args.geometry c.args.start.0 before.so_far.valid before.found f _ _
    _ c.records.count before.redoes cut (g.D.Disk.tape c.args.disk.now) _ _ _ (read_first so_far)
    refused.cause)

pub returns-in_err-count-in-Record-clause-called : goal.returns-in_err-count-in-Record-clause-called
returns-in_err-count-in-Record-clause-called g c =
    let at = goal.at.returns-in_err-count-in-Record-clause-called g c in
    let before = c.records.invariant in
    let f = found g at.In-Record in
    let so_far = read_more before.so_far (makes g at.After-next) f (gives g at.In-Record) in
    let p = err_from_is_err_and c.from_residual-in_err-count-in-Record.result
    c.from_residual-in_err-count-in-Record.ensures.1 in
    let e = c.in_err-count-in-Record.field-0.0 in
    let cut = subst (λ (blocks : List Block). CallsPuts (g.B.Blocks.calls c.records.blocks)
    (g.B.Blocks.calls c.put_images.new.blocks) (puts_of blocks) (Err e)) c.as_slice.ensures
    c.in_err-count-in-Record.ensures.called in
    rw (p.1, p.2) (calls_refused c.args.geometry c.args.start.0 before.so_far.valid before.found f _
    _ _ (g.D.Disk.tape c.args.disk.now) e before.calls (read_first so_far) cut)

pub records-preserved : goal.records-preserved
records-preserved g c =
    let at = goal.at.records-preserved g c in
    let before = c.records.invariant in
    let put = c.in_ok-count-in-Record.ensures in
    let f = found g at.In-Record in
    let count = c.records.count in
    let images = c.in_ok-count-in-Record.field-0 in
    let blocks_few = few_spelled f (spelled_on g at.In-Record) in
    let few : images ≤ 33 = omega (arith, put.few, ap length c.as_slice.ensures, blocks_few) in
    let puts = subst (λ (blocks : List Block). PutsAll (g.B.Blocks.pages c.records.blocks)
    (g.B.Blocks.pages c.put_images.new.blocks) (puts_of blocks) images) c.as_slice.ensures put.puts in
    let called = subst (λ (blocks : List Block). CallsAll (g.B.Blocks.calls c.records.blocks)
    (g.B.Blocks.calls c.put_images.new.blocks) (puts_of blocks)) c.as_slice.ensures put.called in
    record {
      found = before.found ++ f ∷ [];
      so_far = read_more before.so_far (makes g at.After-next) f (gives g at.In-Record);
      redoes = redoes_more before.found f _ _ _ count images before.redoes puts;
      calls = calls_more before.found f _ _ _ before.calls called;
      bounded = bounded_more before.found f count images before.bounded few;
      store_faults = put.cause ∙ before.store_faults;
      never = λ sure. (put.never (before.never sure)).1;
    }

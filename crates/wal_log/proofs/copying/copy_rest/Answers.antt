use Rattle.std.proofs.Common.{sym, ap, ◌∙◌}
use Rattle.wal_page.specs.Placed.{placed_end}
use Rattle.wal_log.specs.Copying.{CopyGoesOn}
use Rattle.wal_log.proofs.CopyLaws.{copied_on}
use Rattle.wal_log.proofs.copying.copy_rest.Given.{Over}
use Rattle.wal_log.proofs.copying.copy_rest.Goals as goal
use Rattle.wal_log.proofs.copying.copy_rest.Goals.{After-copy_or_wait}

pub copy_or_wait-requires-clause-end : goal.copy_or_wait-requires-clause-end
copy_or_wait-requires-clause-end g c =
    c.requires.end ∙ sym (ap placed_end c.loop.invariant.copies_on.place)

on : (g : Over) (c : After-copy_or_wait g) → CopyGoesOn c.args.placed.now
    c.copy_or_wait.new.placed c.args.seated.now c.copy_or_wait.new.seated
on g c = copied_on c.args.placed.now c.loop.placed c.copy_or_wait.new.placed c.args.seated.now
    c.loop.seated c.copy_or_wait.new.seated c.loop.invariant.copies_on
    c.copy_or_wait.ensures.copies_on

pub returns-then-branch-clause-ends : goal.returns-then-branch-clause-ends
returns-then-branch-clause-ends g c =
    let ends = rw c.if-branch.true at c.in_ok-copy_or_wait.ensures.ends in
    (ends.1 ∙ ap placed_end c.loop.invariant.copies_on.place, ends.0)

pub returns-then-branch-clause-copies_on : goal.returns-then-branch-clause-copies_on
returns-then-branch-clause-copies_on g c =
    on g (goal.at.returns-then-branch-clause-copies_on g c).After-copy_or_wait

pub returns-in_err-copy_or_wait-clause-copies_on : goal.returns-in_err-copy_or_wait-clause-copies_on
returns-in_err-copy_or_wait-clause-copies_on g c =
    on g (goal.at.returns-in_err-copy_or_wait-clause-copies_on g c).After-copy_or_wait

pub loop-preserved : goal.loop-preserved
loop-preserved g c = record {
  goes_on = (tt, tt);
  copies = c.copy_or_wait.ensures.copies;
  copies_on = on g (goal.at.loop-preserved g c).After-copy_or_wait;
  up = c.in_ok-copy_or_wait.ensures.ends.0;
}

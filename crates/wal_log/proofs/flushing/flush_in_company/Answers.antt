use Rattle.std.proofs.Common.{◌∙◌}
use Rattle.wal_rule.specs.SeatedPasses.{view_of}
use Rattle.wal_log.proofs.AwaitLaws.{tried_and_looked}
use Rattle.wal_log.proofs.FlushLaws.{flushed_behind}
use Rattle.wal_log.proofs.Trying.{HasTriedOn, first_try, rests_again}
use Rattle.wal_log.proofs.flushing.flush_in_company.Given.{Over}
use Rattle.wal_log.proofs.flushing.flush_in_company.Goals as goal
use Rattle.wal_log.proofs.flushing.flush_in_company.Goals.{After-gather}

gathered : (g : Over) (c : After-gather g) → HasTriedOn c.args.seated.now c.gather.new.seated
gathered g c = tried_and_looked c.args.seated.now c.args.seated.now c.gather.new.seated
    (first_try c.args.seated.now c.requires.rests) c.gather.ensures.sees

pub flush_on-requires : goal.flush_on-requires
flush_on-requires g c = record {
  rests = (gathered g (goal.at.flush_on-requires g c).After-gather).comes.rests;
}

pub returns-clause-flushes : goal.returns-clause-flushes
returns-clause-flushes g c =
    let before = gathered g (goal.at.returns-clause-flushes g c).After-gather in
    flushed_behind c.args.upto.0 (view_of c.args.seated.now) (view_of c.gather.new.seated)
    (view_of c.flush_on.new.seated) before.comes.keeps before.log before.down_set
    c.flush_on.result c.flush_on.ensures.flushes

pub returns-clause-rests : goal.returns-clause-rests
returns-clause-rests g c = rests_again c.args.seated.now c.gather.new.seated
    c.flush_on.new.seated
    (gathered g (goal.at.returns-clause-rests g c).After-gather).comes c.flush_on.ensures.rests

pub returns-clause-async_met : goal.returns-clause-async_met
returns-clause-async_met g c = c.flush_on.ensures.async_met
    ∙ (gathered g (goal.at.returns-clause-async_met g c).After-gather).async

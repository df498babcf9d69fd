use Rattle.std.proofs.Common.{ap}
use Rattle.insert_locks.proofs.seeing.see_reserved.Goals as goal

pub returns-clause-met : goal.returns-clause-met
returns-clause-met g c = record {
  word = c.see_position-met.result;
  met = c.see_position-met.ensures.met;
  seen_is = ap (λ me. ((me.0).reserving).seen) c.see_position-met.ensures.view.me_is;
}

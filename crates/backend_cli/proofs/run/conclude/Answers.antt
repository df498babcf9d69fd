-- What was told is summed up, printed, and makes the outcome.
use Rattle.backend_cli.proofs.RunEnds.{concluded_of}
use Rattle.backend_cli.proofs.run.conclude.Goals as goal

pub returns-clause-concluded : goal.returns-clause-concluded
returns-clause-concluded g c = λ place used taken faults text ends puts.
    concluded_of c.args.options.now.geometry place used c.args.options.now.list text
    c.args.played.backends.items c.deref.result.now c.deref-2.result.now c.deref-3.result.now
    c.args.played.closed.down taken (g.O.Sink.taken c.print_behind.new.out) faults
    (g.O.Sink.faults c.print_behind.new.out) c.conclusion.result c.summary_of-summary.result
    c.print_behind.result c.is_ok-is_printed.result c.deref.ensures.value c.deref-2.ensures.value
    c.deref-3.ensures.value c.is_ok-is_printed.ensures.value
    (c.summary_of-summary.ensures place used ends) (c.print_behind.ensures taken faults text puts)
    c.conclusion.ensures

use Rattle.waldump_text.proofs.dumping.dump.Goals as goal

pub returns-then-only_counts-clause-cause : goal.returns-then-only_counts-clause-cause
returns-then-only_counts-clause-cause g c = c.count_records.ensures.cause (g.O.Sink.faults c.args.out.now)

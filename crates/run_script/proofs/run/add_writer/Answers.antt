use Rattle.std.proofs.Common.{arith}
use Rattle.run_script.proofs.Runs.{writer_added, writer_refused}
use Rattle.run_script.proofs.run.add_writer.Goals as goal

pub returns-then-len-ge-MOST_BACKENDS : goal.returns-then-len-ge-MOST_BACKENDS
returns-then-len-ge-MOST_BACKENDS c asked are = writer_refused c.args.count c.args.line asked c.args.backends.items are (omega arith)

pub returns : goal.returns
returns c asked are = writer_added c.args.count c.args.line asked c.args.backends.items are c.in_ok-writer_lines.field-0 (omega arith) c.in_ok-writer_lines.ensures c.push.new.self.items c.in_ok-push.ensures.items

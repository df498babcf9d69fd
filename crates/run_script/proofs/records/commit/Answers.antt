use Rattle.run_script.proofs.Writing.{JudgesBody-commit}
use Rattle.run_script.proofs.records.commit.Goals as goal

pub returns : goal.returns
returns c = JudgesBody-commit c.args.fields c.in_ok-value.value c.assembled-body.result c.in_ok-value.ensures c.assembled-body.ensures

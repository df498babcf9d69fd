use Rattle.std.proofs.Common.{sym, subst}
use Rattle.wal_spelling.specs.Spelling.{IsWritable}
use Rattle.run_script.proofs.GeneratedWriting.{IsWritable-generated_record}
use Rattle.run_script.proofs.generated_records.action.Goals as goal

pub assembled-requires-else-index-eq-COMMIT_PLACE : goal.assembled-requires-else-index-eq-COMMIT_PLACE
assembled-requires-else-index-eq-COMMIT_PLACE c = subst IsWritable (sym c.in_ok-value-2.ensures) (IsWritable-generated_record c.args.backend c.args.index c.requires.backend c.requires.index)

use Rattle.run_laws.proofs.LineEntries.{lines_entries}
use Rattle.run_laws.proofs.laws.played_entries.Goals as goal

pub returns : goal.returns
returns c = record {
  entries = λ size limit pass lines told before after valid plays.
      lines_entries size limit pass valid lines told before after plays;
}

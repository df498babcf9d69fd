use Rattle.wal_redo.proofs.RedoLaws.{redo_goes_on_behind_a_refusal}
use Rattle.wal_redo.proofs.laws.redo_goes_on_behind_a_refusal.Goals as goal

pub returns : goal.returns
returns c = redo_goes_on_behind_a_refusal

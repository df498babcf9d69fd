use Rattle.wal_redo.proofs.RedoLaws.{redo_again_changes_nothing}
use Rattle.wal_redo.proofs.laws.redo_again_changes_nothing.Goals as goal

pub returns : goal.returns
returns c = redo_again_changes_nothing

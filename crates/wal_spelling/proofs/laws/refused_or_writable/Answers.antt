use Rattle.wal_spelling.proofs.Acceptance.{refused_or_writable}
use Rattle.wal_spelling.proofs.laws.refused_or_writable.Goals as goal

pub returns : goal.returns
returns c = refused_or_writable

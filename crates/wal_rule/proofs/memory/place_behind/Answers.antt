use Rattle.std.proofs.Common.{sym}
use Rattle.wal_rule.proofs.WordPlaceLaws.{place_behind}
use Rattle.wal_rule.proofs.memory.place_behind.Goals as goal

pub returns-clause-place : goal.returns-clause-place
returns-clause-place c = sym (place_behind c.args.number c.requires.behind)

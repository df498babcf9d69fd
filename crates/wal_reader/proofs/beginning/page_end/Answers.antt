use Rattle.std.proofs.Common.{sym}
use Rattle.wal_reader.proofs.BeginningLaws.{ended_at_page}
use Rattle.wal_reader.proofs.beginning.page_end.Goals as goal

pub returns : goal.returns
returns c =
    let cache = c.args.cache.now in
    sym (ended_at_page cache.geometry c.args.page cache.valid)

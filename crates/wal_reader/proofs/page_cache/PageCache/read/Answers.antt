use Rattle.std.proofs.Common.{arith}
use Rattle.wal_reader.proofs.CacheLaws.{segment_of_page_fits}
use Rattle.wal_reader.proofs.page_cache.PageCache.read.Goals as goal

pub read_page-requires-clause-segment : goal.read_page-requires-clause-segment
read_page-requires-clause-segment g c =
    let pages = c.pages.ensures in
    let same = c.from-pages.ensures in
    segment_of_page_fits c.args.self.now.geometry c.from-pages.result c.args.page (omega (arith, pages.whole)) (omega (arith, pages.bound.0)) (omega (arith, pages.bound.1)) c.requires

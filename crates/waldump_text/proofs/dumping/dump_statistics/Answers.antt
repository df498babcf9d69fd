use Rattle.std.proofs.Common.{◌≡◌, true}
use Rattle.std.proofs.lemmas.Result.{err_from_is_err_and}
use Rattle.waldump_text.proofs.StatisticsDump.{statistics_cut, statistics_put}
use Rattle.waldump_text.proofs.dumping.dump_statistics.Goals as goal

pub returns-in_err-put_statistics-clause-listed : goal.returns-in_err-put_statistics-clause-listed
returns-in_err-put_statistics-clause-listed g c =
    let valid = c.in_ok-tally.ensures.valid in
    let asked : c.args.filter.now.stats ≡ true = cc in
    let p = err_from_is_err_and c.from_residual-in_err-put_statistics.result c.from_residual-in_err-put_statistics.ensures.1 in
    rw (p.1, p.2) (statistics_cut c.args.geometry c.args.filter.now valid asked _ c.in_ok-tally.tally _ _ c.in_err-put_statistics.field-0.0 c.in_ok-tally.ensures.tallied c.in_err-put_statistics.ensures.0)

pub returns-clause-listed : goal.returns-clause-listed
returns-clause-listed g c =
    let valid = c.in_ok-tally.ensures.valid in
    let asked : c.args.filter.now.stats ≡ true = cc in
    statistics_put c.args.geometry c.args.filter.now valid asked _ c.in_ok-tally.tally _ _ c.in_ok-tally.ensures.tallied c.in_ok-put_statistics.ensures.0

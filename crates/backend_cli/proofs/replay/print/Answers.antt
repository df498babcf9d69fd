-- The lines of the backends are put, and behind them the listing.
use Rattle.std.proofs.Common.{ℕ, ap, ◌∙◌}
use Rattle.std.proofs.lemmas.Result.{err_from_is_err_and}
use Rattle.waldump_filter.specs.Keeping.{everything_from}
use Rattle.segment_disk.specs.First.{first_state}
use Rattle.segment_disk.specs.MemDisk.{tape_of}
use Rattle.backend_cli.specs.Replaying.{backend_lines}
use Rattle.backend_cli.proofs.ReplayLaws.{puts_behind, puts_front}
use Rattle.backend_cli.proofs.replay.print.Goals as goal

pub returns-in_err-put_backends-clause-puts : goal.returns-in_err-put_backends-clause-puts
returns-in_err-put_backends-clause-puts g c = λ m k.
    let p = err_from_is_err_and c.from_residual.result c.from_residual.ensures.1 in
    rw (p.1, p.2) (puts_front (backend_lines 0 m.backends) c.args.geometry (first_state c.args.left.now.first.items) _ _ _ _ _ (c.in_err-put_backends.ensures m k))

pub returns-clause-puts : goal.returns-clause-puts
returns-clause-puts g c = λ m k.
    let put = c.in_ok-put_backends.ensures m k in
    let by_is = c.everything_from-filter.ensures.filter ∙ ap (λ (n : ℕ). everything_from (record { 0 = n })) c.segment_size.ensures.value in
    puts_behind (backend_lines 0 m.backends) c.args.geometry (first_state c.args.left.now.first.items) _ _ _ c.everything_from-filter.result c.dump.result (tape_of c.args.left.now) c.requires.uncalled put.0 by_is c.dump.ensures.listed

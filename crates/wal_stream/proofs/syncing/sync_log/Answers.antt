-- The syncs are made on the disk as it is behind the counting, which makes no call.
use Rattle.std.proofs.Common.{inr}
use Rattle.std.specs.List.{range_with_len}
use Rattle.flush_core.specs.Settled.{MakesCalls, StopsCalls, sync_calls}
use Rattle.wal_stream.proofs.SyncLaws.{HasSynced-made, SyncsFront-stopped, before_none, on_err_then, on_ok_then}
use Rattle.wal_stream.proofs.syncing.sync_log.Goals as goal

pub returns-clause-synced : goal.returns-clause-synced
returns-clause-synced g c =
    let tape = g.D.Disk.tape c.sync_first.new.disk in
    let moment = g.D.Disk.moment c.sync_first.new.disk in
    on_ok_then c.sync_first.result _ _
    (λ made. HasSynced-made c.args.geometry c.in_ok-count.count c.in_ok-count.ensures.valid tape (g.D.Disk.moment c.args.disk.now) moment (g.D.Disk.tape c.args.disk.now) (g.met.D.Disk.counts c.args.disk.now) c.in_ok-count.ensures.there
    (before_none (λ t m. MakesCalls t tape m moment (λ _. sync_calls c.args.geometry (range_with_len 1 c.in_ok-count.count))) _ _ _ _ c.in_ok-count.ensures.uncalled made))
    c.sync_first.ensures.ok

pub returns-clause-failed : goal.returns-clause-failed
returns-clause-failed g c =
    let tape = g.D.Disk.tape c.sync_first.new.disk in
    let moment = g.D.Disk.moment c.sync_first.new.disk in
    on_err_then c.sync_first.result _ _
    (λ stops. inr (SyncsFront-stopped c.args.geometry c.in_ok-count.count c.in_ok-count.ensures.valid tape (g.D.Disk.moment c.args.disk.now) moment (g.D.Disk.tape c.args.disk.now) (g.met.D.Disk.counts c.args.disk.now) c.in_ok-count.ensures.there
    (before_none (λ t m. StopsCalls t tape m moment (λ _. sync_calls c.args.geometry (range_with_len 1 c.in_ok-count.count))) _ _ _ _ c.in_ok-count.ensures.uncalled stops)))
    c.sync_first.ensures.err

-- Each frame is one more, until one ends it or all are taken.
use Rattle.std.proofs.Common.{◌≡◌, suc, ◌+◌, refl, subst, arith}
use Rattle.wal_stream.specs.Fetched.{source_state}
use Rattle.wal_stream.proofs.TakeLaws.{HasTaken, taken_none, takes_behind, takes_last, takes_on}
use Rattle.wal_stream.proofs.receiving.take_frames.Goals as goal

pub loop-init : goal.loop-init
loop-init g c =
    taken_none g.D.Disk.tape g.D.Disk.moment g.D.Disk.faults (source_state g.S.Source.left g.S.Source.handed g.S.Source.ends_told g.S.Source.faults c.args.source.now) c.args.standby.now

pub loop-preserved : goal.loop-preserved
loop-preserved g c =
    let view = source_state g.S.Source.left g.S.Source.handed g.S.Source.ends_told g.S.Source.faults in
    let further : suc c.loop.counter ≡ c.loop.counter + 1 = omega arith in
    subst (HasTaken g.D.Disk.tape g.D.Disk.moment g.D.Disk.faults (view c.args.source.now) (view c.take_next.new.source) c.args.standby.now c.take_next.new.standby c.in-Ok.counted) further
    (takes_on g.D.Disk.tape g.D.Disk.moment g.D.Disk.faults (view c.args.source.now) (view c.loop.source) (view c.take_next.new.source) c.args.standby.now c.loop.standby c.take_next.new.standby c.loop.counts c.loop.counter c.loop.invariant c.in-Ok.counted c.in-Ok.ensures)

pub returns-in-Err : goal.returns-in-Err
returns-in-Err g c =
    let view = source_state g.S.Source.left g.S.Source.handed g.S.Source.ends_told g.S.Source.faults in
    takes_last g.D.Disk.tape g.D.Disk.moment g.D.Disk.faults (view c.args.source.now) (view c.loop.source) (view c.take_next.new.source) c.args.standby.now c.loop.standby c.take_next.new.standby c.loop.counts c.loop.counter c.loop.invariant c.in-Err.ended (omega arith) c.in-Err.ensures

pub returns : goal.returns
returns g c =
    let view = source_state g.S.Source.left g.S.Source.handed g.S.Source.ends_told g.S.Source.faults in
    takes_behind g.D.Disk.tape g.D.Disk.moment g.D.Disk.faults (view c.args.source.now) (view c.loop.source) (view c.look_behind-ended.new.source) c.args.standby.now c.loop.standby c.loop.standby c.loop.counts c.loop.counter c.loop.invariant c.look_behind-ended.result refl (omega arith) c.look_behind-ended.ensures

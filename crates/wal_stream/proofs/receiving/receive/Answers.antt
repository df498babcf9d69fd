-- What the frames left, and then the harden.
use Rattle.wal_stream.specs.Fetched.{source_state}
use Rattle.wal_stream.proofs.HardenLaws.{ends_so}
use Rattle.wal_stream.proofs.receiving.receive.Goals as goal

pub returns : goal.returns
returns g c =
    let view = source_state g.S.Source.left g.S.Source.handed g.S.Source.ends_told g.S.Source.faults in
    record {
      ends = ends_so g.D.Disk.tape g.D.Disk.moment g.D.Disk.faults (view c.args.source.now) (view c.take_frames-taken.new.source) c.args.standby.now c.take_frames-taken.new.standby c.harden_behind-ended.new.standby c.take_frames-taken.result.counts c.take_frames-taken.result.ended c.harden_behind-ended.result c.take_frames-taken.ensures c.harden_behind-ended.ensures;
      upto_is = c.upto.ensures;
    }

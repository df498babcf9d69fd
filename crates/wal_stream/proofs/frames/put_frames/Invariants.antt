use Rattle.std.proofs.Common.{◌≡◌}
use Rattle.segment_disk.specs.Tape.{IsUncalled}
use Rattle.wal_stream.proofs.PutLaws.{HavePut}
use Rattle.wal_stream.proofs.frames.put_frames.Given as goal

-- the frames so far are put
abbrev pub invariant-loop-sent : goal.invariant-loop-sent
invariant-loop-sent g l = record {
  put : HavePut l.geometry l.end.0 (g.D.Disk.tape l.fn.disk) l.first l.sent (g.O.Sink.taken l.fn.out) (g.O.Sink.taken l.out);
  uncalled : IsUncalled g.D.Disk.tape g.D.Disk.moment l.fn.disk l.disk;
  disk_faults : g.D.Disk.faults l.disk ≡ g.D.Disk.faults l.fn.disk;
  sink_faults : g.O.Sink.faults l.out ≡ g.O.Sink.faults l.fn.out;
}

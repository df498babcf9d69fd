-- So many frames were taken, and none of them ended it.
use Rattle.wal_stream.specs.Fetched.{source_state}
use Rattle.wal_stream.proofs.TakeLaws.{HasTaken}
use Rattle.wal_stream.proofs.receiving.take_frames.Given as goal

abbrev pub invariant-loop : goal.invariant-loop
invariant-loop g l =
    HasTaken g.D.Disk.tape g.D.Disk.moment g.D.Disk.faults
    (source_state g.S.Source.left g.S.Source.handed g.S.Source.ends_told g.S.Source.faults l.fn.source)
    (source_state g.S.Source.left g.S.Source.handed g.S.Source.ends_told g.S.Source.faults l.source)
    l.fn.standby l.standby l.counts l.counter

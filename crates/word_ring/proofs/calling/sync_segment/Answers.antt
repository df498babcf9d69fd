use Rattle.std.proofs.Common.{refl}
use Rattle.wal_rule.specs.Called.{syncs}
use Rattle.word_ring.specs.Written.{IsSegmentSynced}
use Rattle.word_ring.proofs.Calls.{may_sync}
use Rattle.word_ring.proofs.HandLaws.{ended}
use Rattle.word_ring.proofs.calling.sync_segment.Goals as goal

pub sync-requires-clause-may : goal.sync-requires-clause-may
sync-requires-clause-may g c =
    may_sync g.D.Disk.tape g.D.Disk.moment g.D.Disk.faults c.args.seated.now c.requires.hand
    c.args.segment c.requires.next

pub returns : goal.returns
returns g c = record {
  ends = ended g.D.Disk.tape g.D.Disk.moment g.D.Disk.faults c.args.seated.now c.sync.new.self
      c.requires.hand (syncs c.args.segment) c.sync.result IsSegmentSynced (record {
        up = c.requires.next.up;
        written = refl;
        made = refl;
        waiting = refl;
      }) c.sync.ensures.ended c.sync.ensures.table;
}

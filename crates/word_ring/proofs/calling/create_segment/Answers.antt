use Rattle.std.proofs.Common.{refl}
use Rattle.wal_rule.specs.Called.{creates}
use Rattle.word_ring.specs.Written.{IsSegmentMade}
use Rattle.word_ring.proofs.Calls.{may_create}
use Rattle.word_ring.proofs.HandLaws.{ended}
use Rattle.word_ring.proofs.calling.create_segment.Goals as goal

pub create-requires-clause-may : goal.create-requires-clause-may
create-requires-clause-may g c =
    may_create g.D.Disk.tape g.D.Disk.moment g.D.Disk.faults c.args.seated.now c.requires.hand
    c.args.segment c.requires.next

pub returns : goal.returns
returns g c = record {
  ends = ended g.D.Disk.tape g.D.Disk.moment g.D.Disk.faults c.args.seated.now c.create.new.self
      c.requires.hand (creates c.args.segment) c.create.result (IsSegmentMade c.args.segment)
      (record {
        up = c.requires.next.up;
        written = refl;
        made = refl;
        waiting = refl;
      }) c.create.ensures.ended c.create.ensures.table;
}

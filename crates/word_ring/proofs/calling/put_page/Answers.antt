use Rattle.std.proofs.Common.{refl}
use Rattle.wal_rule.specs.Called.{writes}
use Rattle.word_ring.specs.Written.{IsPagePut}
use Rattle.word_ring.proofs.Calls.{may_write}
use Rattle.word_ring.proofs.HandLaws.{ended}
use Rattle.word_ring.proofs.calling.put_page.Goals as goal

pub write_page-requires-clause-may : goal.write_page-requires-clause-may
write_page-requires-clause-may g c =
    may_write g.D.Disk.tape g.D.Disk.moment g.D.Disk.faults c.args.seated.now c.requires.hand
    c.args.segment c.args.page c.args.upto
    c.args.bytes.now c.requires.next

pub returns : goal.returns
returns g c = record {
  ends = ended g.D.Disk.tape g.D.Disk.moment g.D.Disk.faults c.args.seated.now
      c.write_page.new.self c.requires.hand
      (writes c.args.segment c.args.page c.args.upto c.args.bytes.now) c.write_page.result
      (IsPagePut c.args.segment c.args.upto) (record {
        up = c.requires.next.up;
        written = refl;
        made = refl;
        waiting = refl;
      }) c.write_page.ensures.ended c.write_page.ensures.table;
}

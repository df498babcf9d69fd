use Rattle.wal_crc32c.specs.Folding.{remainder}
use Rattle.wal_crc32c.proofs.HalfBytes.{carried_over}
use Rattle.wal_crc32c.proofs.folding.carry.Goals as goal

pub returns : goal.returns
returns c =
    let next = c.args.next in
    rw (c.onto.ensures, c.onto-2.ensures, c.onto-3.ensures, c.onto-4.ensures)
    (carried_over c.args.k c.requires c.args.v c.fits-v.1 (remainder next.v0) (remainder next.v1) (remainder next.v2) (remainder next.v3) (remainder next.v4) (remainder next.v5))

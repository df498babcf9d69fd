use Rattle.std.proofs.Common.{arith}
use Rattle.wal_page.proofs.PlacedSteps.{passed-whole}
use Rattle.wal_page.proofs.placed.Placed.word_number.Goals as goal

pub returns : goal.returns
returns c =
    let p = c.self.inside in
    rw (← c.self.view_is) (omega (arith, c.self.invariant.position, passed-whole p.geometry p.body.now p.start p.room p.next p.passed c.self.invariant))

use Rattle.std.proofs.Common.{sym, ◌∙◌, arith}
use Rattle.wal_page.proofs.placed.Placed.words_together.Goals as goal

pub returns-clause-together : goal.returns-clause-together
returns-clause-together c = λ some.
    rw (← c.self.view_is) (record {
      outside = sym c.is_in_header.ensures ∙ c.if-is_in_header.false;
      on_page = omega arith;
      own = omega (arith, rw (← c.self.view_is) at c.own_left.ensures);
    })

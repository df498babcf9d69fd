use Rattle.std.proofs.Common.{◌<◌, sym, ◌∙◌, arith}
use Rattle.wal_page.proofs.PlacedSteps.{next-bound, owns-next, stands_behind, stands_over_header, stands_over_other}
use Rattle.wal_page.proofs.LogWordLaws.{entry_word-is_word_of_log}
use Rattle.wal_page.proofs.placed.Placed.next_word.Goals as goal
use Rattle.wal_page.proofs.placed.Placed.next_word.Goals.{then-not-in_header, else-not-in_header}

pub returns-then-self-clause-whole : goal.returns-then-self-clause-whole
returns-then-self-clause-whole c =
    let p = c.self.inside in
    rw (← c.self.view_is) (stands_behind p.geometry p.body.now p.start p.room p.next p.passed c.self.invariant (omega (arith, c.if-self.true)))

pub overflow_add-self-2 : goal.overflow_add-self-2
overflow_add-self-2 c =
    let p = c.self.inside in
    omega (arith, next-bound p.geometry p.body.now p.start p.room p.next p.passed c.self.invariant)

pub invariant_of-self : goal.invariant_of-self
invariant_of-self c =
    let p = c.self.inside in
    let left : p.passed < p.room = omega (arith, c.if-self.false, c.self.invariant.passed_within) in
    elim c.if-not-in_header.branch [
      | then-not-in_header w ↦ rw w.self-inside-is (stands_over_other p.geometry p.body.now p.start p.room p.next p.passed c.self.invariant left (sym c.is_in_header-in_header.ensures ∙ w.if-not-in_header.true))
      | else-not-in_header w ↦ rw w.self-inside-is (stands_over_header p.geometry p.body.now p.start p.room p.next p.passed c.self.invariant left (sym c.is_in_header-in_header.ensures ∙ w.if-not-in_header.false))
    ]

pub returns-clause-gives : goal.returns-clause-gives
returns-clause-gives c =
    let p = c.self.inside in
    let stands = c.self.invariant in
    let left : p.passed < p.room = omega (arith, c.if-self.false, stands.passed_within) in
    let word = rw (← c.self.view_is) at c.word_here-word.ensures in
    rw (← c.self.view_is) (entry_word-is_word_of_log p.geometry p.sysid stands.valid p.body.now p.start p.prev.0 p.next p.next _ stands.whole_next (owns-next p.geometry p.body.now p.start p.room p.next p.passed stands left) word)

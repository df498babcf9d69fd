use Rattle.std.proofs.Common.{◌≡◌, ◌+◌, ◌/◌, ◌%◌, ◌<◌, true, false, ℕ, ap, sym, ◌∙◌, arith}
use Rattle.byte_position.specs.Position.{is_in_header, position_of}
use Rattle.wal_spelling.specs.Spelling.{assembled_room, word_at}
use Rattle.wal_page.specs.Page.{page_header}
use Rattle.wal_page.proofs.PlacedSteps.{passed-whole, header_word_next, own_word_next}
use Rattle.wal_page.proofs.placed.Placed.word_here.Goals as goal

pub still_to_come-remaining-requires-clause-whole : goal.still_to_come-remaining-requires-clause-whole
still_to_come-remaining-requires-clause-whole c =
    let p = c.self.inside in
    passed-whole p.geometry p.body.now p.start p.room p.next p.passed c.self.invariant

pub returns-then-in_header : goal.returns-then-in_header
returns-then-in_header c =
    let p = c.self.inside in
    let left = rw (← c.self.view_is) at c.own_left.ensures in
    let own : position_of p.geometry p.next < p.start + assembled_room p.body.now = omega (arith, left, c.if-own_left-eq0.false) in
    let header = rw (← c.self.view_is) at c.requires in
    let inside : is_in_header p.geometry p.next ≡ true = sym header ∙ c.if-in_header.true in
    rw (← c.self.view_is) (c.page_header_word.ensures ∙ ap (λ (remaining : ℕ). word_at (page_header p.geometry p.sysid (p.next / 8192) remaining) (p.next % 8192 / 8)) c.still_to_come-remaining.ensures ∙ sym (header_word_next p.geometry p.body.now p.start p.room p.next p.passed c.self.invariant p.sysid p.prev.0 own inside))

pub returns-else-in_header : goal.returns-else-in_header
returns-else-in_header c =
    let p = c.self.inside in
    let left = rw (← c.self.view_is) at c.own_left.ensures in
    let own : position_of p.geometry p.next < p.start + assembled_room p.body.now = omega (arith, left, c.if-own_left-eq0.false) in
    let header = rw (← c.self.view_is) at c.requires in
    let outside : is_in_header p.geometry p.next ≡ false = sym header ∙ c.if-in_header.false in
    let number = rw (← c.self.view_is) at c.word_number-n.ensures in
    rw (← c.self.view_is) (c.word.ensures ∙ sym (own_word_next p.geometry p.body.now p.start p.room p.next p.passed c.self.invariant p.sysid p.prev.0 own outside c.word_number-n.result number))

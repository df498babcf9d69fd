-- Behind the record's own words each word is 0, wherever it lies.
use Rattle.std.proofs.Common.{◌+◌, ◌-◌, ◌*◌, ◌≤◌, ℕ, length, subst, sym, arith}
use Rattle.byte_position.specs.Position.{position_of}
use Rattle.wal_spelling.specs.Spelling.{assembled_room}
use Rattle.wal_page.specs.Placed.{PlacedState, placed_end}
use Rattle.wal_page.proofs.PlacedSteps.{next-bound, stands_over_zeros, zeros_next}
use Rattle.wal_page.proofs.placed.Placed.put_zeros.Goals as goal

abbrev IsOwned : ℕ → PlacedState → Type 0
IsOwned count s = s.next + 8 * count ≤ placed_end s

pub overflow_add-self : goal.overflow_add-self
overflow_add-self c =
    let p = c.self.inside in
    let count = length c.args.words.now in
    let owned = subst (IsOwned count) (sym c.self.view_is) c.requires.owned in
    let stands = stands_over_zeros p.geometry p.body.now p.start p.room p.next p.passed c.self.invariant count owned in
    omega (arith, c.fill.ensures.len, next-bound p.geometry p.body.now p.start p.room (p.next + 8 * count) (position_of p.geometry (p.next + 8 * count) - p.start) stands)

pub overflow_sub-self : goal.overflow_sub-self
overflow_sub-self c =
    let p = c.self.inside in
    let count = length c.fill.new.self in
    let owned : IsOwned count (record { size = p.geometry; sysid = p.sysid; body = p.body.now; start = p.start; prev = p.prev.0; next = p.next }) = rw c.fill.ensures.len (subst (IsOwned (length c.args.words.now)) (sym c.self.view_is) c.requires.owned) in
    let stands = stands_over_zeros p.geometry p.body.now p.start p.room p.next p.passed c.self.invariant count owned in
    omega (arith, c.position_of.ensures, stands.position)

pub invariant_of-self : goal.invariant_of-self
invariant_of-self c =
    let p = c.self.inside in
    let count = length c.fill.new.self in
    let owned : IsOwned count (record { size = p.geometry; sysid = p.sysid; body = p.body.now; start = p.start; prev = p.prev.0; next = p.next }) = rw c.fill.ensures.len (subst (IsOwned (length c.args.words.now)) (sym c.self.view_is) c.requires.owned) in
    rw c.position_of.ensures (stands_over_zeros p.geometry p.body.now p.start p.room p.next p.passed c.self.invariant count owned)

pub returns-clause-words : goal.returns-clause-words
returns-clause-words c =
    let p = c.self.inside in
    let behind : p.start + assembled_room p.body.now ≤ position_of p.geometry p.next = rw (← c.self.view_is) at c.requires.behind in
    rw (← c.self.view_is) (zeros_next p.geometry p.body.now p.start p.room p.next p.passed c.self.invariant p.sysid p.prev.0 (length c.args.words.now) c.fill.new.self (c.fill.ensures.after (λ y same. same)) behind)

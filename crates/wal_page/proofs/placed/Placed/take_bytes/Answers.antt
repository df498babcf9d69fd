-- The bytes are those of a run behind the record's header.
use Rattle.std.proofs.Common.{◌+◌, ◌*◌, ◌≤◌, ℕ, subst, sym, ◌∙◌, arith}
use Rattle.wal_page.specs.Placed.{PlacedState, LieTogether, placed_end}
use Rattle.wal_page.proofs.PlacedSteps.{next-bound}
use Rattle.wal_page.proofs.RunSteps.{own_words_next, stands_over_run}
use Rattle.wal_page.proofs.placed.Placed.take_bytes.Goals as goal

abbrev IsOwned : ℕ → PlacedState → Type 0
IsOwned count s = s.next + 8 * count ≤ placed_end s

pub bytes_from-bytes-requires-clause-within : goal.bytes_from-bytes-requires-clause-within
bytes_from-bytes-requires-clause-within c =
    let run = subst (λ (s : PlacedState). LieTogether s c.args.count) (sym c.self.view_is) c.requires.together in
    let number = rw (← c.self.view_is) at c.word_number.ensures in
    omega (arith, run.own, number, c.self.invariant.position, c.requires.some)

pub overflow_add-self : goal.overflow_add-self
overflow_add-self c =
    let run = subst (λ (s : PlacedState). LieTogether s c.args.count) (sym c.self.view_is) c.requires.together in
    omega (arith, run.on_page, c.self.invariant.passed_within, c.self.invariant.within)

pub overflow_add-self-2 : goal.overflow_add-self-2
overflow_add-self-2 c =
    let p = c.self.inside in
    omega (arith, next-bound p.geometry p.body.now p.start p.room p.next p.passed c.self.invariant, c.requires.together.on_page)

pub invariant_of-self : goal.invariant_of-self
invariant_of-self c =
    let p = c.self.inside in
    let count = c.args.count in
    let run = subst (λ (s : PlacedState). LieTogether s count) (sym c.self.view_is) c.requires.together in
    let owned = subst (IsOwned count) (sym c.self.view_is) c.requires.owned in
    stands_over_run p.geometry p.body.now p.start p.room p.next p.passed c.self.invariant run.outside count run.on_page owned

pub returns-clause-words : goal.returns-clause-words
returns-clause-words c =
    let p = c.self.inside in
    let count = c.args.count in
    let run = subst (λ (s : PlacedState). LieTogether s count) (sym c.self.view_is) c.requires.together in
    let number = rw (← c.self.view_is) at c.word_number.ensures in
    rw (← c.self.view_is) (λ k lt. c.bytes_from-bytes.ensures.words p.prev.0 k (omega (arith, run.own, number, c.self.invariant.position, lt)) ∙ sym (own_words_next p.geometry p.body.now p.start p.room p.next p.passed c.self.invariant run.outside count run.on_page p.sysid p.prev.0 c.word_number.result number run.own k lt))

pub returns-clause-long : goal.returns-clause-long
returns-clause-long c =
    let run = subst (λ (s : PlacedState). LieTogether s c.args.count) (sym c.self.view_is) c.requires.together in
    let number = rw (← c.self.view_is) at c.word_number.ensures in
    omega (arith, run.own, number, c.self.invariant.position, c.bytes_from-bytes.ensures.long)

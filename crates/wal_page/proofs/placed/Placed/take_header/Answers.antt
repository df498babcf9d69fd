-- The header's words are the first three of a run.
use Rattle.std.proofs.Common.{◌≡◌, ◌+◌, ◌*◌, ◌-◌, ◌≤◌, ℕ, ap, subst, sym, ◌∙◌, arith}
use Rattle.byte_position.specs.Position.{position_of}
use Rattle.wal_spelling.specs.Spelling.{filled, word_at}
use Rattle.wal_page.specs.Placed.{PlacedState, LieTogether, placed_end}
use Rattle.wal_page.proofs.PlacedSteps.{next-bound}
use Rattle.wal_page.proofs.RunSteps.{own_words_next, run_behind, stands_over_run}
use Rattle.wal_page.proofs.placed.Placed.take_header.Goals as goal

abbrev IsOwned : ℕ → PlacedState → Type 0
IsOwned count s = s.next + 8 * count ≤ placed_end s

pub overflow_add-self-2 : goal.overflow_add-self-2
overflow_add-self-2 c =
    let p = c.self.inside in
    omega (arith, next-bound p.geometry p.body.now p.start p.room p.next p.passed c.self.invariant)

pub invariant_of-self : goal.invariant_of-self
invariant_of-self c =
    let p = c.self.inside in
    let count = c.args.count in
    let run = subst (λ (s : PlacedState). LieTogether s count) (sym c.self.view_is) c.requires.together in
    let owned = subst (IsOwned count) (sym c.self.view_is) c.requires.owned in
    stands_over_run p.geometry p.body.now p.start p.room p.next p.passed c.self.invariant run.outside 3 (omega (arith, run.on_page, c.if-count-lt3.false)) (omega (arith, owned, c.if-count-lt3.false))

pub returns-clause-words : goal.returns-clause-words
returns-clause-words c =
    let p = c.self.inside in
    let count = c.args.count in
    let run = subst (λ (s : PlacedState). LieTogether s count) (sym c.self.view_is) c.requires.together in
    let number : 8 * 0 ≡ position_of p.geometry p.next - p.start = omega (arith, c.self.invariant.position, c.if-self-gt0.false) in
    rw (← c.self.view_is) (
      c.header_words.ensures.three,
      λ k lt.
          (let same : 0 + k ≡ k = omega arith in
          c.header_words.ensures.words k lt
          ∙ ap (word_at (filled p.body.now p.prev.0)) (sym same)
          ∙ sym (own_words_next p.geometry p.body.now p.start p.room p.next p.passed c.self.invariant run.outside 3 (omega (arith, run.on_page, c.if-count-lt3.false)) p.sysid p.prev.0 0 number (omega (arith, run.own, c.if-count-lt3.false)) k lt)),
    )

pub returns-clause-together : goal.returns-clause-together
returns-clause-together c = λ more.
    let p = c.self.inside in
    let count = c.args.count in
    let run = subst (λ (s : PlacedState). LieTogether s count) (sym c.self.view_is) c.requires.together in
    let behind = run_behind p.geometry p.body.now p.start p.room p.next p.passed c.self.invariant run.outside count run.on_page 3 more run.own in
    record { outside = behind.0; on_page = behind.1; own = behind.2 }

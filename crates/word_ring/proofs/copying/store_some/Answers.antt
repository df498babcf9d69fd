use Rattle.std.proofs.Common.{◌≡◌, ℕ, ◌∙◌, subst, arith}
use Rattle.wal_rule.specs.SeatedPasses.{HasView, view_of}
use Rattle.word_ring.specs.Copied.{copied_view}
use Rattle.word_ring.proofs.Steps.{same_table}
use Rattle.word_ring.proofs.copying.store_some.Goals as goal

pub store_ring_word-requires-clause-number : goal.store_ring_word-requires-clause-number
store_ring_word-requires-clause-number g c =
    (c.requires.run c.loop-n.n c.loop-n.seated c.loop-n-test.true c.loop-n.invariant).place_is

pub store_ring_word-requires-clause-may : goal.store_ring_word-requires-clause-may
store_ring_word-requires-clause-may g c =
    (c.requires.run c.loop-n.n c.loop-n.seated c.loop-n-test.true c.loop-n.invariant).may

pub store_ring_word-requires-clause-value : goal.store_ring_word-requires-clause-value
store_ring_word-requires-clause-value g c =
    (c.requires.run c.loop-n.n c.loop-n.seated c.loop-n-test.true c.loop-n.invariant).word_is

pub store_ring_word-requires-clause-table : goal.store_ring_word-requires-clause-table
store_ring_word-requires-clause-table g c = c.requires.table
    ∙ same_table c.args.seated.now c.loop-n.seated c.loop-n.invariant.same_table

pub returns : goal.returns
returns g c =
    let ended = c.loop-n-test.false in
    let most = c.loop-n.auto.n-end in
    let all : c.loop-n.n ≡ c.args.count = omega (arith, ended, most) in
    subst (λ (k : ℕ). HasView (copied_view k (view_of c.args.seated.now)) c.args.seated.now
    c.loop-n.seated) all c.loop-n.invariant

use Rattle.std.proofs.Common.{◌≡◌, ◌+◌, ap, ◌∙◌, arith}
use Rattle.machine_state.specs.Views.{View}
use Rattle.word_ring.proofs.Steps.{same_table, view_is, zero_place, zeroed_as, zeroed_more, zeroed_none}
use Rattle.word_ring.proofs.mapping.zero_row.Goals as goal

pub loop-n-init : goal.loop-n-init
loop-n-init g c =
    let same : c.args.done ≡ c.args.done + 0 = omega arith in
    zeroed_as c.args.seated.now c.args.seated.now c.args.at c.args.done _ same
    (zeroed_none c.args.seated.now c.args.at c.args.done c.requires.cleared)

pub zero_ring_word-requires-clause-table : goal.zero_ring_word-requires-clause-table
zero_ring_word-requires-clause-table g c = c.requires.table
    ∙ same_table c.args.seated.now c.loop-n.seated c.loop-n.invariant.same_table

pub zero_ring_word-requires-clause-number : goal.zero_ring_word-requires-clause-number
zero_ring_word-requires-clause-number g c =
    let there = zero_place c.args.seated.now c.loop-n.seated c.args.at c.args.first
    (c.args.done + c.loop-n.n) c.requires.first c.loop-n.invariant in
    let same : c.args.first + c.args.done + c.loop-n.n
    ≡ c.args.first + (c.args.done + c.loop-n.n) = omega arith in
    same ∙ there

pub zero_ring_word-requires-clause-may : goal.zero_ring_word-requires-clause-may
zero_ring_word-requires-clause-may g c =
    let within = c.requires.within in
    let less = c.loop-n-test.true in (
      c.args.at,
      c.args.done + c.loop-n.n,
      ap (λ (w : View). (w.mapping).stage) (view_is _ _ _ c.loop-n.invariant),
      omega (arith, within, less),
    )

pub loop-n-preserved : goal.loop-n-preserved
loop-n-preserved g c =
    let same : c.args.done + c.loop-n.n + 1 ≡ c.args.done + (c.loop-n.n + 1) = omega arith in
    zeroed_as c.args.seated.now c.zero_ring_word.new.self c.args.at _ _ same
    (zeroed_more c.args.seated.now c.loop-n.seated c.args.at (c.args.done + c.loop-n.n)
    c.zero_ring_word.new.self c.loop-n.invariant c.zero_ring_word.ensures.steps)

pub returns : goal.returns
returns g c =
    let ended = c.loop-n-test.false in
    let most = c.loop-n.auto.n-end in
    let all : c.args.done + c.loop-n.n ≡ c.args.done + 8 = omega (arith, ended, most) in
    record {
      view = zeroed_as c.args.seated.now c.loop-n.seated c.args.at _ _ all c.loop-n.invariant;
    }

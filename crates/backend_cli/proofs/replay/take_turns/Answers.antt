use Rattle.std.proofs.Common.{◌≡◌, ℕ, suc, ◌+◌, ◌<◌, length, replicate, subst, ap, ◌∙◌, arith}
use Rattle.machine_turns.specs.Turned.{machine_behind}
use Rattle.wal_core.specs.Cores.{core_of}
use Rattle.wal_core.specs.Playing.{PlaysMachine}
use Rattle.backend_cli.proofs.TurnLaws.{one_more, one_of_many}
use Rattle.backend_cli.proofs.replay.take_turns.Goals as goal

pub turn-requires-clause-there : goal.turn-requires-clause-there
turn-requires-clause-there c =
    let many : 0 < c.args.item.turns = omega (arith, c.loop-test.true) in
    let low = one_of_many (λ backend. backend < length (core_of c.args.core.now).lanes) c.args.item.turns c.args.item.backend many c.requires.there in
    omega (arith, low, c.loop.invariant.lanes)

pub loop-preserved : goal.loop-preserved
loop-preserved c = record {
  plays = λ m k.
      let backend = c.args.item.backend in
      let turned = c.turn.ensures.turned (machine_behind m (replicate c.loop.counter backend)) (c.loop.invariant.plays m k) in
      let further : suc c.loop.counter ≡ c.loop.counter + 1 = omega arith in
      subst (PlaysMachine (core_of c.turn.new.self)) (one_more m c.loop.counter backend ∙ ap (λ (n : ℕ). machine_behind m (replicate n backend)) further) turned.1;
  played = c.turn.ensures.played;
  lanes = c.turn.ensures.lanes ∙ c.loop.invariant.lanes;
}

pub returns-clause-plays : goal.returns-clause-plays
returns-clause-plays c = λ m k.
    let all : c.loop.counter ≡ c.args.item.turns = omega (arith, c.loop-test.false, c.loop.auto.counter-end) in
    subst (λ (n : ℕ). PlaysMachine (core_of c.loop.core) (machine_behind m (replicate n c.args.item.backend))) all (c.loop.invariant.plays m k)

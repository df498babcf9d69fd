use Rattle.std.proofs.Common.{◌≡◌, ◌+◌, ◌<◌, ◌≤◌, ℕ, All, List, drop, length, sym, subst, ap, ◌∙◌}
use Rattle.std.proofs.lemmas.List.{drop_all}
use Rattle.run_script.specs.declared.item.Item.{Item}
use Rattle.run_script.specs.Turns.{backends_in_turn}
use Rattle.machine_turns.specs.Turned.{machine_behind}
use Rattle.wal_core.specs.Cores.{core_of}
use Rattle.wal_core.specs.Playing.{PlaysMachine}
use Rattle.backend_cli.proofs.TurnLaws.{behind_there, next_item, next_there}
use Rattle.backend_cli.proofs.replay.take_all_turns.Goals as goal

pub take_turns-requires-clause-there : goal.take_turns-requires-clause-there
take_turns-requires-clause-there c = (next_there (λ backend. backend < length (core_of c.loop-item.core).lanes) c.args.schedule.now c.items-item-items.result.now c.loop-item.item-index _ c.items-item-items.ensures c.loop-item-test.true c.loop-item.invariant.there).0

pub loop-item-preserved : goal.loop-item-preserved
loop-item-preserved c = record {
  plays = λ m k.
      let so_far = c.loop-item.invariant.plays m k in
      let had = c.take_turns.ensures.plays so_far.0 so_far.1 in
      (_, had, next_item (machine_behind m (backends_in_turn c.args.schedule.now)) so_far.0 c.args.schedule.now c.items-item-items.result.now c.loop-item.item-index _ c.items-item-items.ensures c.loop-item-test.true so_far.2);
  played = c.take_turns.ensures.played;
  there = subst (λ (count : ℕ). All (λ backend. backend < count) (backends_in_turn (drop (c.loop-item.item-index + 1) c.args.schedule.now))) (sym c.take_turns.ensures.lanes)
      (behind_there (λ backend. backend < length (core_of c.loop-item.core).lanes) c.args.schedule.now c.items-item-items.result.now c.loop-item.item-index c.items-item-items.ensures c.loop-item-test.true c.loop-item.invariant.there);
}

pub returns-clause-plays : goal.returns-clause-plays
returns-clause-plays c = λ m k.
    let so_far = c.loop-item.invariant.plays m k in
    let many : length c.args.schedule.now ≤ c.loop-item.item-index = subst (λ (items : List Item). length items ≤ c.loop-item.item-index) c.items-item-items.ensures c.loop-item-test.false in
    let end : so_far.0 ≡ machine_behind m (backends_in_turn c.args.schedule.now) =
    ap (λ (items : List Item). machine_behind so_far.0 (backends_in_turn items)) (sym (drop_all c.loop-item.item-index c.args.schedule.now many)) ∙ so_far.2 in
    subst (PlaysMachine (core_of c.loop-item.core)) end so_far.1

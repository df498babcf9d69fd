-- Behind all turns the core plays the machine of the replay, and what its crash leaves is listed.
use Rattle.std.proofs.Common.{ℕ, List, inr, sym, ap, subst, ◌∙◌}
use Rattle.segment_disk.specs.First.{first_state}
use Rattle.run_script.specs.declared.item.Item.{Item}
use Rattle.run_script.specs.Turns.{backends_in_turn}
use Rattle.machine_turns.specs.Turned.{machine_behind}
use Rattle.backend_cli.specs.ReplayBegun.{PlaysBackends}
use Rattle.backend_cli.specs.Replaying.{outcome_with}
use Rattle.backend_cli.proofs.MachineWriter.{crashed_as}
use Rattle.backend_cli.proofs.ReplayLaws.{counted_behind}
use Rattle.backend_cli.proofs.replay.finish.Goals as goal

pub print-listed-requires-clause-counted : goal.print-listed-requires-clause-counted
print-listed-requires-clause-counted g c =
    let begun = c.requires.begun.1 in
    let turns = backends_in_turn c.args.schedule.now in
    let m = machine_behind begun.first turns in
    let core = c.take_all_turns.new.core in
    let plays = c.take_all_turns.ensures.plays begun.first (begun.counted).plays in
    (m, subst (λ (counts : List ℕ). PlaysBackends core counts m) (sym c.deref.ensures.value) (counted_behind c.args.begun.core core c.args.begun.line_counts.items begun.first turns begun.counted plays))

pub returns : goal.returns
returns g c = λ before after meaning means schedule_is begun tape moment faults.
    let turns = backends_in_turn c.args.schedule.now in
    let m = machine_behind begun.first turns in
    let core = c.take_all_turns.new.core in
    let plays = c.take_all_turns.ensures.plays begun.first (begun.counted).plays in
    let counted = subst (λ (counts : List ℕ). PlaysBackends core counts m) (sym c.deref.ensures.value) (counted_behind c.args.begun.core core c.args.begun.line_counts.items begun.first turns begun.counted plays) in
    inr (record {
      meaning = meaning;
      machine = m;
      left = first_state c.in-Ok.left.first.items;
      listed = c.print-listed.result;
      means = means;
      played = (begun.first, begun.begins, ap (λ (items : List Item). machine_behind begun.first (backends_in_turn items)) (sym schedule_is));
      crashed = crashed_as core m c.args.options.now.crash c.pick_of.result c.in-Ok.left plays c.pick_of.ensures c.in-Ok.ensures.left c.in-Ok.ensures.picked;
      printed = c.print-listed.ensures.puts m counted;
      cause = c.print-listed.ensures.cause;
      ends = c.outcome_with.ensures ∙ ap (outcome_with c.print-listed.result) (sym (c.full.ensures m plays));
    })

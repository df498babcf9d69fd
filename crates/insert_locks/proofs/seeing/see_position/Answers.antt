use Rattle.std.proofs.Common.{◌≡◌, ◌%◌, ◌≤◌, ap, ◌∙◌, subst}
use Rattle.machine_state.specs.Moves.{unlocked}
use Rattle.machine_state.specs.Views.{View}
use Rattle.machine_state.specs.Words.{Opening, end_form}
use Rattle.wal_rule.specs.SeatedPasses.{hand_of, view_of}
use Rattle.insert_locks.proofs.Begun.{end_is_whole, start_is_met}
use Rattle.insert_locks.proofs.Sees.{seen_is}
use Rattle.insert_locks.proofs.seeing.see_position.Goals as goal

pub returns-clause-view : goal.returns-clause-view
returns-clause-view g c =
    let old = c.args.seated.now in
    let load = c.load_position in
    record {
      same_table = load.ensures.steps.same_table;
      me_is = load.ensures.steps.me_is ∙ ap (λ (v : View). (v, hand_of old))
          (seen_is load.result (view_of old) load.ensures.rises);
    }

pub returns-clause-begun : goal.returns-clause-begun
returns-clause-begun g c =
    let old = c.args.seated.now in
    let met = c.load_position.result in
    subst (λ (o : Opening). (o.setup).seg_size ≤ end_form o.setup (unlocked met))
    old.seated.own (start_is_met (view_of old) met c.load_position.ensures.met)

pub returns-clause-whole : goal.returns-clause-whole
returns-clause-whole g c =
    let old = c.args.seated.now in
    let met = c.load_position.result in
    subst (λ (o : Opening). end_form o.setup (unlocked met) % 8 ≡ 0)
    old.seated.own (end_is_whole (view_of old) met c.load_position.ensures.met)

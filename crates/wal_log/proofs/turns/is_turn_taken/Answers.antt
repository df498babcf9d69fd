use Rattle.std.proofs.Common.{ℕ, sym, ap, ◌∙◌, subst}
use Rattle.machine_state.specs.Moves.{with_hold}
use Rattle.machine_state.specs.Steps.{take_write_turn}
use Rattle.machine_state.specs.Views.{Hold, Idle, View}
use Rattle.wal_rule.specs.SeatedPasses.{view_of}
use Rattle.wal_rule.specs.Stepping.{Meets}
use Rattle.wal_log.proofs.Plain.{turn_had}
use Rattle.wal_log.proofs.Seated.{view_is}
use Rattle.wal_log.proofs.turns.is_turn_taken.Goals as goal

-- the turn was free, and with it given back the view is the one that met its word
pub returns-clause-taken : goal.returns-clause-taken
returns-clause-taken g c =
    let turn = c.take_write_turn-turn in
    let had = view_is turn.ensures.steps
    ∙ turn_had turn.result (view_of c.args.seated.now) c.if-turn-ne0.false in
    let same = view_is c.release_write_turn.ensures.steps ∙ ap (with_hold Idle) had
    ∙ ap (λ (h : Hold). with_hold h (view_of c.args.seated.now)) (sym c.requires.rests.idle) in
    subst (λ (v : View). Meets v take_write_turn 0) (sym same)
    (subst (λ (n : ℕ). Meets (view_of c.args.seated.now) take_write_turn n)
    c.if-turn-ne0.false turn.ensures.met)

-- A core's turn is the machine's: so is the turn of the backend's lane on plain data.
use Rattle.std.proofs.Common.{◌≡◌, length, set, refl, sym, ◌∙◌, subst}
use Rattle.std.proofs.lemmas.Option.{slice_get_read}
use Rattle.machine_turns.specs.Turned.{turned}
use Rattle.machine_turns.proofs.Schedules.{turned_good}
use Rattle.wal_core.specs.Cores.{core_of}
use Rattle.wal_core.specs.Playing.{CoreState, PlaysMachine}
use Rattle.wal_core.proofs.Playable.{may_play}
use Rattle.wal_core.proofs.Turning.{plain_turn_is}
use Rattle.wal_core.proofs.machine.Core.turn.Goals as goal

pub turn-requires-clause-may : goal.turn-requires-clause-may
turn-requires-clause-may c =
    let core = core_of c.args.self.now in
    let lane = c.index_mut.result.now in
    let at = slice_get_read core.lanes (length core.lanes) c.args.backend lane refl
    c.requires.there c.index_mut.ensures.value in
    may_play core c.requires.played.1.0 c.requires.played.1.1 c.args.backend lane at

pub returns-clause-turned : goal.returns-clause-turned
returns-clause-turned c = λ m k.
    let core = core_of c.args.self.now in
    let lane = c.index_mut.result.now in
    let at = slice_get_read core.lanes (length core.lanes) c.args.backend lane refl
    c.requires.there c.index_mut.ensures.value in
    let is = plain_turn_is core m k c.args.backend lane at in (
      c.turn.ensures.turn ∙ is.0,
      subst (λ (now : CoreState). PlaysMachine now (turned m c.args.backend).1)
          (λ i. record {
            setup = core.setup;
            words = sym c.turn.ensures.words i;
            writer = sym c.turn.ensures.writer i;
            lanes = set core.lanes c.args.backend (sym c.turn.ensures.lane i);
            full = sym c.turn.ensures.full i;
          }) is.1,
    )

pub returns-clause-sound : goal.returns-clause-sound
returns-clause-sound c = λ m k. ((turned_good m k.running c.args.backend).1).sound

pub returns-clause-played : goal.returns-clause-played
returns-clause-played c =
    let m = c.requires.played.1.0 in (
      c.turn.ensures.kept,
      ((turned m c.args.backend).1, (returns-clause-turned c m c.requires.played.1.1).1),
    )

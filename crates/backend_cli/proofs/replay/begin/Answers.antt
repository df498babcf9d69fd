-- A log can have the setup, and has more passes than there are backends. No line inserts a switch.
use Rattle.std.proofs.Common.{◌≡◌, ◌+◌, ◌<◌, All, List, length, map, ap, subst, sym, ◌∙◌, arith}
use Rattle.wal_core.specs.Lines.{InsertsNoSwitch}
use Rattle.wal_core.proofs.NoSwitches.{scripts_no_switch}
use Rattle.machine_turns.specs.declared.script.PlainLine.{PlainLine as MachineLine}
use Rattle.machine_state.specs.declared.setup.Setup.{Setup}
use Rattle.backend_cli.specs.Replaying.{asks_of, replay_setup}
use Rattle.backend_cli.proofs.ReplayLaws.{begun_as}
use Rattle.backend_cli.proofs.ReplayScripts.{as_many_scripts, scripts_for}
use Rattle.backend_cli.proofs.replay.begin.Goals as goal

pub new-requires-2 : goal.new-requires-2
new-requires-2 c =
    let asked = c.requires.asked in
    record {
      no_switch = subst (λ (scripts : List (List MachineLine)). All (All InsertsNoSwitch) scripts) (sym c.in_ok-scripts.ensures)
          (scripts_no_switch (map asks_of asked.0) _ (scripts_for asked.0 c.args.backends.items asked.1));
    }

pub unreachable-requires : goal.unreachable-requires
unreachable-requires c =
    let scripts : length c.in_ok-scripts.scripts.items ≡ length c.args.backends.items = ap (λ (s : List (List MachineLine)). length s) c.in_ok-scripts.ensures ∙ as_many_scripts c.args.backends.items in
    let passes : c.setup_asked-setup.result.passes ≡ c.len.result + 1 = ap (λ (s : Setup). s.passes) c.setup_asked-setup.ensures.value in
    let fewer : length c.in_ok-scripts.scripts.items < c.setup_asked-setup.result.passes = omega (arith, scripts, passes, c.len.ensures, c.requires.few) in
    c.in-Err-BadSetup.ensures.bad_setup.0 c.in-Err-BadSetup.field-0-is (c.setup_asked-setup.ensures.can_be, fewer)

pub returns-in-Ok : goal.returns-in-Ok
returns-in-Ok c = λ asked are.
    let len : c.len.result ≡ length c.args.backends.items = omega (arith, c.len.ensures) in
    let setup_is = c.setup_asked-setup.ensures.value ∙ ap (replay_setup c.args.options.now) len in
    let counts = c.in_ok-line_counts.ensures ∙ ap (map (λ (lines : List MachineLine). length lines)) c.deref.ensures.value in
    begun_as c.args.options.now asked c.args.backends.items c.setup_asked-setup.result c.in_ok-scripts.scripts.items c.new.result.items (record { core = c.in-Ok.core; line_counts = c.in_ok-line_counts.line_counts })
    are setup_is c.in_ok-scripts.ensures c.new.ensures.items counts c.in-Ok.ensures.begun c.in-Ok.ensures.plays c.in-Ok.ensures.played

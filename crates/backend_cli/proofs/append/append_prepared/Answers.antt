-- The log is reopened, and the lines are played behind that.
use Rattle.std.proofs.Common.{◌∙◌, [], ap, length, refl, subst, sym}
use Rattle.machine_state.specs.Words.{Opening}
use Rattle.machine_state.specs.Sound.{IsSetup}
use Rattle.machine_state.specs.declared.setup.Setup.{Setup}
use Rattle.wal_log.specs.Reopening.{IsReopened, TellsReopenFault}
use Rattle.backend_cli.specs.Appending.{AppendHolds}
use Rattle.backend_cli.specs.Outside.{outside_of}
use Rattle.backend_cli.specs.declared.outcome.Outcome.{Outcome}
use Rattle.backend_cli.proofs.AppendOpened.{reopened_counted, reopened_end, reopened_plays}
use Rattle.backend_cli.proofs.AppendUnopened.{unappended_holds}
use Rattle.backend_cli.proofs.append.append_prepared.Goals as goal

-- ---- the log was opened

pub play_opened-requires-clause-setup : goal.play_opened-requires-clause-setup
play_opened-requires-clause-setup g c = λ κs lives.
    ap (λ (o : Opening). o.setup) c.in-Ok.ensures.reopened.opening
    ∙ c.run_setup-setup.ensures.of_room

pub play_opened-requires-clause-end : goal.play_opened-requires-clause-end
play_opened-requires-clause-end g c = λ κs lives.
    let ready = c.requires.prepared in
    let opened = subst (λ (s : Setup). IsReopened g.D.Disk.tape g.D.Disk.moment g.D.Disk.faults s
    c.args.disk c.in-Ok.log c.in-Ok.first c.in-Ok.found)
    (c.run_setup-setup.ensures.of_script ready.0 ready.1) c.in-Ok.ensures.reopened in
    reopened_end g.D.Disk.tape g.D.Disk.moment g.D.Disk.faults c.args.disk c.in-Ok.log
    c.in-Ok.first c.in-Ok.found c.args.options.now.run ready.0 opened c.calls_are_counted.ensures

pub play_opened-requires-clause-counted : goal.play_opened-requires-clause-counted
play_opened-requires-clause-counted g c = λ κs lives.
    let ready = c.requires.prepared in
    let opened = subst (λ (s : Setup). IsReopened g.D.Disk.tape g.D.Disk.moment g.D.Disk.faults s
    c.args.disk c.in-Ok.log c.in-Ok.first c.in-Ok.found)
    (c.run_setup-setup.ensures.of_script ready.0 ready.1) c.in-Ok.ensures.reopened in
    reopened_counted g.D.Disk.tape g.D.Disk.moment g.D.Disk.faults c.args.disk c.in-Ok.log
    c.in-Ok.first c.in-Ok.found c.args.options.now.run ready.0 opened c.calls_are_counted.ensures

pub returns-in-Ok : goal.returns-in-Ok
returns-in-Ok g c = λ before after script means ready.
    let of_script = c.run_setup-setup.ensures.of_script script ready in
    let opened = subst (λ (s : Setup). IsReopened g.D.Disk.tape g.D.Disk.moment g.D.Disk.faults s
    c.args.disk c.in-Ok.log c.in-Ok.first c.in-Ok.found) of_script c.in-Ok.ensures.reopened in
    let can_be = subst IsSetup of_script c.run_setup-setup.ensures.can_be in
    reopened_plays g.D.Disk.tape g.D.Disk.moment g.D.Disk.faults c.args.disk c.in-Ok.log
    c.in-Ok.first c.in-Ok.found c.args.options.now.run script opened c.calls_are_counted.ensures
    can_be ready.some g.O.Sink.taken g.O.Sink.faults c.args.out.now c.play_opened.new.out before
    after c.play_opened.result.outcome c.play_opened.result.disk c.play_opened.result.told
    c.put_found.result (g.O.Sink.taken c.put_found.new.out) (g.O.Sink.faults c.put_found.new.out)
    c.put_found.ensures (c.play_opened.ensures script ready) c.args.options.now refl means

-- ---- it was not

pub returns-in-Err : goal.returns-in-Err
returns-in-Err g c = λ before after script means ready.
    let tape = g.D.Disk.tape in
    let moment = g.D.Disk.moment in
    let faults = g.D.Disk.faults in
    let sunk = g.O.Sink.taken in
    let sink_faults = g.O.Sink.faults in
    let options = c.args.options.now in
    let out = c.args.out.now in
    let of_script = c.run_setup-setup.ensures.of_script script ready in
    let can_be = subst IsSetup of_script c.run_setup-setup.ensures.can_be in
    let tells = subst (λ (s : Setup). TellsReopenFault tape moment faults s c.args.disk
    c.in-Err.fault.disk c.in-Err.fault.kind) of_script c.in-Err.ensures.refused in
    let holds = unappended_holds tape moment faults options (length script) can_be c.args.disk
    c.in-Err.fault.disk c.calls_are_counted.ensures sunk sink_faults out before after script means
    c.in-Err.fault.kind tells in
    subst (λ (d : _). AppendHolds (outside_of before after tape moment faults c.args.disk d sunk
    sink_faults out out) options c.unopened.result.outcome c.unopened.result.told)
    (sym c.unopened.ensures.disk)
    (subst (AppendHolds (outside_of before after tape moment faults c.args.disk
    c.in-Err.fault.disk sunk sink_faults out out) options c.unopened.result.outcome)
    (sym c.unopened.ensures.told)
    (subst (λ (outcome : Outcome). AppendHolds (outside_of before after tape moment faults
    c.args.disk c.in-Err.fault.disk sunk sink_faults out out) options outcome [])
    (sym c.unopened.ensures.outcome) holds))

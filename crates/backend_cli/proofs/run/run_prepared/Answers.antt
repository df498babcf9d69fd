-- The log is opened, and the lines are played behind that.
use Rattle.std.proofs.Common.{◌≡◌, ◌∙◌, [], ap, refl, subst, sym}
use Rattle.machine_state.specs.Words.{Opening}
use Rattle.machine_state.specs.declared.setup.Setup.{Setup}
use Rattle.waldump_text.proofs.SinkLaws.{with_behind-nil}
use Rattle.backend_cli.specs.Outside.{outside_of}
use Rattle.backend_cli.specs.Run.{PlayHolds}
use Rattle.backend_cli.specs.declared.outcome.Outcome.{Outcome}
use Rattle.backend_cli.specs.declared.outcome.Outcome.TheVariants.{OutOfMemory}
use Rattle.backend_cli.proofs.RunOpened.{began_counted, begun_end, opened_plays}
use Rattle.backend_cli.proofs.RunEnds.{ended_for_want}
use Rattle.backend_cli.proofs.RunUnopened.{same_without_memory, unopened_holds}
use Rattle.backend_cli.proofs.run.run_prepared.Goals as goal

-- ---- the log was opened

pub play_opened-requires-clause-setup : goal.play_opened-requires-clause-setup
play_opened-requires-clause-setup g c = λ κs lives.
    ap (λ (o : Opening). o.setup) c.in-Ok.ensures.opened.opening ∙ c.run_setup-setup.ensures.of_room

pub play_opened-requires-clause-end : goal.play_opened-requires-clause-end
play_opened-requires-clause-end g c = λ κs lives.
    begun_end g.D.Disk.tape g.D.Disk.moment g.D.Disk.faults c.run_setup-setup.result c.args.disk
    c.in-Ok.log c.in-Ok.first c.in-Ok.ensures.opened c.run_setup-setup.ensures.can_be
    c.args.options.now.geometry
    (ap (λ (s : Setup). s.seg_size) c.run_setup-setup.ensures.of_room) c.segment_size.result
    c.segment_size.ensures.value

pub play_opened-requires-clause-counted : goal.play_opened-requires-clause-counted
play_opened-requires-clause-counted g c = λ κs lives.
    began_counted g.D.Disk.tape g.D.Disk.moment g.D.Disk.faults c.run_setup-setup.result c.args.disk
    c.in-Ok.log c.in-Ok.first c.in-Ok.ensures.opened c.calls_are_counted.ensures

pub returns-in-Ok-clause-holds : goal.returns-in-Ok-clause-holds
returns-in-Ok-clause-holds g c = λ before after script ready.
    opened_plays g.D.Disk.tape g.D.Disk.moment g.D.Disk.faults c.run_setup-setup.result c.args.disk
    c.in-Ok.log c.in-Ok.first c.in-Ok.ensures.opened c.calls_are_counted.ensures
    c.args.options.now script (c.run_setup-setup.ensures.of_script script ready)
    c.run_setup-setup.ensures.can_be ready.some g.O.Sink.taken g.O.Sink.faults c.args.out.now
    c.play_opened.new.out before after c.play_opened.result.outcome c.play_opened.result.disk
    c.play_opened.result.told (c.play_opened.ensures script ready)

pub returns-in-Ok-clause-as_handed_in : goal.returns-in-Ok-clause-as_handed_in
returns-in-Ok-clause-as_handed_in g c = λ is.
    let ready = c.requires.prepared in
    absurd (ended_for_want [] (g.O.Sink.taken c.args.out.now) (g.O.Sink.faults c.args.out.now)
    (sym (with_behind-nil (g.O.Sink.taken c.args.out.now)), refl)
    (c.play_opened.ensures ready.0 ready.1) is)

-- ---- it was not

pub returns-in-Err-clause-holds : goal.returns-in-Err-clause-holds
returns-in-Err-clause-holds g c = λ before after script ready.
    let tape = g.D.Disk.tape in
    let moment = g.D.Disk.moment in
    let faults = g.D.Disk.faults in
    let sunk = g.O.Sink.taken in
    let sink_faults = g.O.Sink.faults in
    let options = c.args.options.now in
    let out = c.args.out.now in
    let holds = unopened_holds tape moment faults c.run_setup-setup.result
    c.run_setup-setup.ensures.can_be c.args.disk c.in-Err.fault.disk sunk sink_faults out before
    after script options c.in-Err.fault.kind c.in-Err.ensures.refused in
    subst (λ (d : _). PlayHolds (outside_of before after tape moment faults c.args.disk d sunk
    sink_faults out out) options c.unopened.result.outcome script c.unopened.result.told)
    (sym c.unopened.ensures.disk)
    (subst (PlayHolds (outside_of before after tape moment faults c.args.disk c.in-Err.fault.disk
    sunk sink_faults out out) options c.unopened.result.outcome script)
    (sym c.unopened.ensures.told)
    (subst (λ (outcome : Outcome). PlayHolds (outside_of before after tape moment faults c.args.disk
    c.in-Err.fault.disk sunk sink_faults out out) options outcome script [])
    (sym c.unopened.ensures.outcome) holds))

pub returns-in-Err-clause-as_handed_in : goal.returns-in-Err-clause-as_handed_in
returns-in-Err-clause-as_handed_in g c = λ is.
    c.unopened.ensures.disk
    ∙ same_without_memory g.D.Disk.tape g.D.Disk.moment g.D.Disk.faults c.run_setup-setup.result
    c.run_setup-setup.ensures.can_be c.args.disk c.in-Err.fault.disk c.in-Err.fault.kind
    c.in-Err.ensures.refused
    (subst (λ (o : Outcome). o ≡ OutOfMemory) c.unopened.ensures.outcome is)

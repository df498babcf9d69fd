-- The lines are played behind the log's opening, and what was told is printed.
use Rattle.std.proofs.Common.{◌<◌, ◌^◌, ◌∙◌, Vec, ap, arith, refl}
use Rattle.std.specs.Prelude.{vec_capacity}
use Rattle.std.specs.declared.alloc.Global.{Global}
use Rattle.run_laws.specs.declared.told.Told.{Told}
use Rattle.machine_state.specs.declared.setup.Setup.{Setup}
use Rattle.wal_log.specs.Logs.{setup_of_log}
use Rattle.backend_cli.proofs.RunBackends.{all_answered, as_many_prepared, as_many_scripts, as_many_told}
use Rattle.backend_cli.proofs.RunLaws.{ends_behind, few_reserved}
use Rattle.backend_cli.proofs.run.play_opened.Goals as goal

pub play_backends-played-requires-clause-passes : goal.play_backends-played-requires-clause-passes
play_backends-played-requires-clause-passes g c =
    omega (arith, ap (λ (s : Setup). s.passes) c.requires.setup)

pub play_backends-played-requires-clause-asked : goal.play_backends-played-requires-clause-asked
play_backends-played-requires-clause-asked g c =
    let ready = c.requires.prepared in λ κs lives. (ready.0, (ready.1).lines)

pub conclude-requires-clause-answered : goal.conclude-requires-clause-answered
conclude-requires-clause-answered g c =
    let ready = c.requires.prepared in
    let played = c.play_backends-played.ensures.played ready.0 (ready.1).lines in
    all_answered ready.0 c.play_backends-played.result.backends.items played.each

pub conclude-requires-clause-few_backends : goal.conclude-requires-clause-few_backends
conclude-requires-clause-few_backends g c =
    let ready = c.requires.prepared in
    let played = c.play_backends-played.ensures.played ready.0 (ready.1).lines in
    omega (
      arith,
      as_many_told ready.0 c.play_backends-played.result.backends.items played.each,
      (ready.1).few,
    )

pub conclude-requires-clause-few : goal.conclude-requires-clause-few
conclude-requires-clause-few g c =
    let ready = c.requires.prepared in
    let played = c.play_backends-played.ensures.played ready.0 (ready.1).lines in
    let narrow : (setup_of_log c.args.opened.log).sysid < 2 ^ 64 =
    omega (arith, ap (λ (s : Setup). s.sysid) c.requires.setup) in
    few_reserved _ _ _ _ _ _ refl refl narrow c.requires.counted ready.0 _ _ played

pub conclude-requires-clause-ends : goal.conclude-requires-clause-ends
conclude-requires-clause-ends g c =
    let ready = c.requires.prepared in
    let played = c.play_backends-played.ensures.played ready.0 (ready.1).lines in
    let size_is = ap (λ (s : Setup). s.seg_size) c.requires.setup in
    let narrow : (setup_of_log c.args.opened.log).sysid < 2 ^ 64 =
    omega (arith, ap (λ (s : Setup). s.sysid) c.requires.setup) in (
      _,
      _,
      ends_behind _ _ _ _ _ _ refl refl narrow c.requires.counted ready.0 _ _
          played _ size_is _ c.requires.end,
    )

pub conclude-requires-clause-none : goal.conclude-requires-clause-none
conclude-requires-clause-none g c =
    let ready = c.requires.prepared in
    ap (λ (told : Vec (Vec Told Global) Global). told.items) c.play_backends-played.ensures.told
    ∙ (ready.1).enough.none_told

pub conclude-requires-clause-room : goal.conclude-requires-clause-room
conclude-requires-clause-room g c =
    let ready = c.requires.prepared in
    let result = c.play_backends-played.result in
    let played = c.play_backends-played.ensures.played ready.0 (ready.1).lines in
    omega (
      arith,
      result.backends.ok.0,
      as_many_told ready.0 result.backends.items played.each,
      as_many_prepared ready.0 c.args.room ready.1,
      as_many_scripts c.args.room.backends.items,
      (ready.1).enough.told_room,
      ap (λ (told : Vec (Vec Told Global) Global). vec_capacity told) c.play_backends-played.ensures.told,
    )

pub returns : goal.returns
returns g c = λ script ready.
    let played = c.play_backends-played.ensures.played script ready.lines in
    let size_is = ap (λ (s : Setup). s.seg_size) c.requires.setup in
    let narrow : (setup_of_log c.args.opened.log).sysid < 2 ^ 64 =
    omega (arith, ap (λ (s : Setup). s.sysid) c.requires.setup) in
    record {
      backends = c.play_backends-played.result.backends.items;
      closed = c.play_backends-played.result.closed;
      played = played;
      concluded = λ taken faults text puts. c.conclude.ensures.concluded _ _ taken faults text
          (ends_behind _ _ _ _ _ _ refl refl narrow c.requires.counted script _
          _ played _ size_is _ c.requires.end) puts;
      disk_is = c.conclude.ensures.disk;
      lists_are = c.conclude.ensures.told;
    }

-- The schedule of the script that was read is played.
use Rattle.backend_cli.specs.Outside.{source_view}
use Rattle.backend_cli.proofs.ReplayLaws.{few_backends, turns_are_there}
use Rattle.backend_cli.proofs.replay.play_script.Goals as goal

pub begin-requires-clause-few : goal.begin-requires-clause-few
begin-requires-clause-few g c =
    let read = c.in-Ok.ensures in
    few_backends _ _ c.in-Ok.replay read.0 read.1

pub begin-requires-clause-asked : goal.begin-requires-clause-asked
begin-requires-clause-asked g c =
    let read = c.in-Ok.ensures in
    (read.0.backends, read.1.backends)

pub finish-requires-clause-begun : goal.finish-requires-clause-begun
finish-requires-clause-begun g c =
    let read = c.in-Ok.ensures in
    (read.0.backends, c.in-Ok-begin.ensures read.0.backends read.1.backends)

pub finish-requires-clause-there : goal.finish-requires-clause-there
finish-requires-clause-there g c =
    let read = c.in-Ok.ensures in
    turns_are_there _ _ c.in-Ok.replay read.0 c.args.options.now _ read.1 (c.in-Ok-begin.ensures read.0.backends read.1.backends)

pub returns-in-Ok-begin : goal.returns-in-Ok-begin
returns-in-Ok-begin g c = λ tape moment faults.
    let view = source_view g.S.Source.left g.S.Source.handed g.S.Source.ends_told g.S.Source.faults in
    let read = c.in-Ok.ensures in
    c.finish.ensures (view c.args.source.now) (view c.read_replay.new.source) read.0 read.1.means read.1.schedule (c.in-Ok-begin.ensures read.0.backends read.1.backends) tape moment faults

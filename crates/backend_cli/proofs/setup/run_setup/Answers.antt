-- There is a pass for each backend, and one more.
use Rattle.std.proofs.Common.{◌∙◌, ap, arith}
use Rattle.backend_cli.specs.Setups.{run_setup}
use Rattle.backend_cli.proofs.RunBackends.{as_many_prepared, setup_told}
use Rattle.backend_cli.proofs.setup.run_setup.Goals as goal

pub overflow_cast-len : goal.overflow_cast-len
overflow_cast-len c =
    let ready = c.requires.prepared in
    omega (arith, c.len.ensures, as_many_prepared ready.0 c.args.room.now ready.1, (ready.1).few)

pub setup_asked-requires-clause-few : goal.setup_asked-requires-clause-few
setup_asked-requires-clause-few c =
    let ready = c.requires.prepared in
    omega (arith, c.len.ensures, as_many_prepared ready.0 c.args.room.now ready.1, (ready.1).few)

pub returns-clause-of_script : goal.returns-clause-of_script
returns-clause-of_script c = λ script ready.
    setup_told c.args.options.now c.setup_asked.result script c.args.room.now ready
    (c.setup_asked.ensures.value ∙ ap (run_setup c.args.options.now) c.len.ensures)

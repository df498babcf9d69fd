use Rattle.std.proofs.Common.{◌≡◌}
use Rattle.wal_spelling.specs.declared.fault.BodyErr.TheVariants.{Memory}
use Rattle.run_script.proofs.GeneratedWriting.{only_memory}
use Rattle.run_script.proofs.generated_records.assembled.Goals as goal
use Rattle.run_script.proofs.generated_records.assembled.Goals.{in-Memory, in_default}

pub prove-unreachable-requires : goal.prove-unreachable-requires
prove-unreachable-requires c =
    let is : c.in-Err.error ≡ Memory = only_memory c.in-Err.error c.args.value.now c.requires c.in-Err.ensures.which in
    elim c.match-matches.branch [ in-Memory w ↦ cc | in_default w ↦ w.in_default.not-Memory is ]

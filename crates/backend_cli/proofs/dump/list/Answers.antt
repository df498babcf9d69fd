use Rattle.std.proofs.Common.{refl}
use Rattle.backend_cli.proofs.DumpingLaws.{listing_holds}
use Rattle.backend_cli.proofs.dump.list.Goals as goal

pub returns : goal.returns
returns g c = λ source.
    let dumped = c.dump-listed.ensures in
    listing_holds _ c.args.options.now c.dump-listed.result _ _ c.outcome_of.ensures dumped.listed dumped.cause dumped.uncalled refl c.none.ensures

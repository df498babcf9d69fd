use Rattle.std.proofs.Common.{ℕ, refl, subst}
use Rattle.std.specs.Prelude.{IfSome}
use Rattle.wal_redo.specs.RedoListing.{IsRedoListing}
use Rattle.backend_cli.proofs.RedoingLaws.{redo_holds}
use Rattle.backend_cli.proofs.redo.list_redone.Goals as goal

pub returns : goal.returns
returns g c = λ source.
    let redone = c.list_redo-redone.ensures in
    let puts = subst (λ (start : ℕ). IfSome (g.D.Disk.tape c.args.disk) (IsRedoListing c.args.options.now.geometry start (g.O.Sink.taken c.args.out.now) (g.O.Sink.taken c.list_redo-redone.new.out) c.list_redo-redone.result)) c.segment_size.ensures.value redone.listed in
    redo_holds _ c.args.options.now c.list_redo-redone.result _ _ c.outcome_of.ensures puts redone.cause redone.uncalled refl c.none.ensures

use Rattle.std.proofs.Common.{subst}
use Rattle.machine_state.specs.declared.setup.Setup.{Setup}
use Rattle.wal_rule.specs.SeatedPasses.{view_of}
use Rattle.word_ring.specs.Copied.{IsPlaceOf, copied_view}
use Rattle.word_ring.proofs.Steps.{view_is}
use Rattle.word_ring.proofs.copying.copy_page.Goals as goal

pub copy_from-requires-clause-place : goal.copy_from-requires-clause-place
copy_from-requires-clause-place g c =
    subst (λ (s : Setup). IsPlaceOf s c.args.next c.place_of-place.result) c.shape.ensures
    c.place_of-place.ensures.place

pub returns-clause-copies : goal.returns-clause-copies
returns-clause-copies g c =
    let copied = c.copy_from.ensures.copied in
    record {
      count_is = c.copy_from.ensures.count;
      view_is = view_is (copied_view c.copy_from.result (view_of c.args.seated.now))
          c.args.seated.now c.copy_from.new.seated copied.view;
      placed_is = copied.placed_is;
    }

use Rattle.std.proofs.Common.{refl}
use Rattle.machine_state.specs.Views.{reserving_of}
use Rattle.machine_state.specs.Moves.{with_working}
use Rattle.machine_state.proofs.Lists.{part_same, part_set, part_added}
use Rattle.machine_state.proofs.laws.parts_change_with_their_view.Goals as goal

pub returns-clause-stays : goal.returns-clause-stays
returns-clause-stays c = λ views id v locks flight here.
    part_same reserving_of views id v (with_working locks flight v) here refl

pub returns-clause-changes : goal.returns-clause-changes
returns-clause-changes c = λ views id w. part_set reserving_of views id w

pub returns-clause-grows : goal.returns-clause-grows
returns-clause-grows c = λ views w. part_added reserving_of views w

use Rattle.std.proofs.Common.{refl}
use Rattle.cluster_listing.proofs.TallyLaws.{TalliesKinds-none}
use Rattle.cluster_listing.proofs.tally.KindTally.new.Goals as goal

pub returns : goal.returns
returns c = TalliesKinds-none 256 4096 refl refl

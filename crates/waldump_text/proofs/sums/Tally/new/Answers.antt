use Rattle.std.proofs.Common.{refl}
use Rattle.waldump_text.proofs.TallyLaws.{none_sound, none_tallied}
use Rattle.waldump_text.proofs.sums.Tally.new.Goals as goal

pub returns-clause-sound : goal.returns-clause-sound
returns-clause-sound c = none_sound 256 refl

pub returns-clause-tallies : goal.returns-clause-tallies
returns-clause-tallies c = none_tallied 256

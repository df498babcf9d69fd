use Rattle.machine_laws.proofs.WatcherLaws.{watchers_see_copies}
use Rattle.machine_laws.proofs.sound_states.sound_watchers_see_copies.Goals as goal

pub returns : goal.returns
returns c = record { watchers = λ first. watchers_see_copies }

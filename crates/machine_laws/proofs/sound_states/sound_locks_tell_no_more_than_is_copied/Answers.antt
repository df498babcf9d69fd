use Rattle.machine_laws.proofs.EntryLaws.{locks_tell_copies}
use Rattle.machine_laws.proofs.sound_states.sound_locks_tell_no_more_than_is_copied.Goals as goal

pub returns : goal.returns
returns c = record { told = λ first. locks_tell_copies }

use Rattle.machine_laws.proofs.HolderLaws.{locks_have_holders, turns_have_holders}
use Rattle.machine_laws.proofs.EntryLaws.{entries_are_whole_or_in_flight}
use Rattle.machine_laws.proofs.sound_states.sound_locks_and_turns_have_one_holder.Goals as goal

pub returns-clause-locks : goal.returns-clause-locks
returns-clause-locks c = λ first. locks_have_holders

pub returns-clause-turns : goal.returns-clause-turns
returns-clause-turns c = λ first. turns_have_holders

pub returns-clause-entries : goal.returns-clause-entries
returns-clause-entries c = λ first. entries_are_whole_or_in_flight

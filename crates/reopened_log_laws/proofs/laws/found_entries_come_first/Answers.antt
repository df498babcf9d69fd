use Rattle.reopened_log_laws.proofs.FirstEntries.{found_entries_come_first, left_logs_are_read}
use Rattle.reopened_log_laws.proofs.FoundPlaces.{found_entries_are_one, found_places_lie_behind}
use Rattle.reopened_log_laws.proofs.laws.found_entries_come_first.Goals as goal

pub returns-clause-first : goal.returns-clause-first
returns-clause-first c = found_entries_come_first

pub returns-clause-read : goal.returns-clause-read
returns-clause-read c = left_logs_are_read

pub returns-clause-one : goal.returns-clause-one
returns-clause-one c = found_entries_are_one

pub returns-clause-place : goal.returns-clause-place
returns-clause-place c = found_places_lie_behind

use Rattle.written_log_laws.proofs.SettledFound.{crashed_disks_may_hold_log, crashed_logs_are_found_again, quiet_logs_decode_to_found, settled_logs_decode_to_found, synced_logs_decode_to_found}
use Rattle.written_log_laws.proofs.NeverWhole.{losses_never_make_next_whole, unsynced_logs_decode_to_fronts}
use Rattle.written_log_laws.proofs.laws.settling_keeps_found.Goals as goal

pub returns-clause-unsynced : goal.returns-clause-unsynced
returns-clause-unsynced c = unsynced_logs_decode_to_fronts

pub returns-clause-losses : goal.returns-clause-losses
returns-clause-losses c = losses_never_make_next_whole

pub returns-clause-quiet : goal.returns-clause-quiet
returns-clause-quiet c = quiet_logs_decode_to_found

pub returns-clause-synced : goal.returns-clause-synced
returns-clause-synced c = synced_logs_decode_to_found

pub returns-clause-settled : goal.returns-clause-settled
returns-clause-settled c = settled_logs_decode_to_found

pub returns-clause-again : goal.returns-clause-again
returns-clause-again c = crashed_logs_are_found_again

pub returns-clause-met : goal.returns-clause-met
returns-clause-met c = crashed_disks_may_hold_log

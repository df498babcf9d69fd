use Rattle.wal_spelling.proofs.SwitchLaws.{logged_readable, size-switch, told_inserted, told_switched}
use Rattle.wal_spelling.proofs.laws.log_records.Goals as goal

pub returns : goal.returns
returns c = record { inserted = told_inserted; switched = told_switched; switch_size = size-switch; readable = logged_readable }

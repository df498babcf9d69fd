use Rattle.wal_core.proofs.NoSwitches.{body_no_switch, scripts_no_switch}
use Rattle.wal_core.proofs.laws.inserted_records_end_no_segment.Goals as goal

pub returns : goal.returns
returns c = record { body = body_no_switch; scripts = scripts_no_switch }

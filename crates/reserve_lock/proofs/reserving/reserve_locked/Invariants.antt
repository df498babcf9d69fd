use Rattle.machine_state.specs.Steps.{give_position_back, store_position}
use Rattle.wal_rule.specs.SeatedPasses.{view_of}
use Rattle.reserve_lock.proofs.Records.{record_read}
use Rattle.reserve_lock.proofs.reserving.reserve_locked.Given as goal

abbrev pub ghosts-give_back : goal.ghosts-give_back
ghosts-give_back g a = record { kind = give_position_back (record_read a.body.now) }

abbrev pub ghosts-reserve_at : goal.ghosts-reserve_at
ghosts-reserve_at g a = record {
  kind = store_position (view_of a.seated.now).working.locks (record_read a.body.now);
}

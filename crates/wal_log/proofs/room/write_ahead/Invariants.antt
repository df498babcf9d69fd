-- The watches so far did not finish: nothing was written, and the last one met a held lock.
use Rattle.std.proofs.Common.{ℕ, ◌<◌}
use Rattle.wal_rule.specs.SeatedPasses.{view_of}
use Rattle.wal_log.specs.Flushing.{MeetsHeldLock}
use Rattle.wal_log.proofs.RoomLaws.{HasRoomMade}
use Rattle.wal_log.proofs.room.write_ahead.Given as goal

abbrev pub invariant-loop-look : goal.invariant-loop-look
invariant-loop-look g l = record {
  made : HasRoomMade l.fn.seated l.seated;
  met : 0 < l._look → (lock : ℕ) × (word : ℕ) × MeetsHeldLock l.upto lock word (view_of l.seated);
}

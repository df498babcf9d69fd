use Rattle.std.proofs.Common.{◌≡◌, ◌+◌, ◌-◌, ◌^◌, ◌≤◌, vec_len}
use Rattle.wal_reader.specs.PageCursor.{Crosses, HasGathered, HasPassed, IsOn, Sees}
use Rattle.wal_reader.specs.Pages.{Pages, bytes_from}
use Rattle.wal_reader.specs.ReadsOn.{ReadsOn}
use Rattle.wal_reader.proofs.gathering.gather.Given as goal

abbrev pub invariant-pages : goal.invariant-pages
invariant-pages g l = record {
  reads_on : ReadsOn g.D.Disk.tape g.D.Disk.moment l.fn.disk l.disk l.fn.buffers.cache l.buffers.cache;
  len : vec_len l.buffers.room ≤ l.upto;
  on : IsOn l.buffers.cache l.cursor;
  passed : HasPassed l.buffers.cache l.cursor.page;
  beyond : 2 ^ 47 ≤ l.fn.gathering.cursor.page + 1 → (l.disk ≡ l.fn.disk) × (l.buffers.cache ≡ l.fn.buffers.cache) × (l.cursor.page ≡ l.fn.gathering.cursor.page);
  gathered : HasGathered l.fn.buffers.cache.geometry l.fn.gathering.extent.at.position (vec_len l.buffers.room) l.cursor;
  bytes : (pages : Pages) → Sees (g.D.Disk.tape l.fn.disk) l.fn.buffers.cache pages → l.fn.buffers.room.items ≡ bytes_from l.fn.buffers.cache.geometry pages (vec_len l.fn.buffers.room) l.fn.gathering.extent.at.position
      → l.buffers.room.items ≡ bytes_from l.fn.buffers.cache.geometry pages (vec_len l.buffers.room) l.fn.gathering.extent.at.position;
  crosses : (pages : Pages) → Sees (g.D.Disk.tape l.fn.disk) l.fn.buffers.cache pages → Crosses l.fn.buffers.cache.geometry pages l.fn.gathering.extent.at l.fn.gathering.extent.total l.fn.gathering.cursor.page l.cursor.page;
  faults : g.D.Disk.faults l.disk ≡ g.D.Disk.faults l.fn.disk;
}

abbrev pub decreases-pages : goal.decreases-pages
decreases-pages g l = l.upto - vec_len l.buffers.room

use Rattle.std.proofs.Common.{◌≡◌, ℕ, ◌+◌, ◌-◌, ◌^◌, ◌<◌, ◌≤◌, ◌/◌}
use Rattle.wal_reader.specs.PageCursor.{Sees}
use Rattle.wal_reader.specs.Decodes.{begin_at, beginning}
use Rattle.wal_reader.specs.Pages.{Pages}
use Rattle.wal_reader.specs.ReadsOn.{ReadsOn}
use Rattle.wal_reader.proofs.beginning.find_beginning.Given as goal

abbrev pub invariant-pages : goal.invariant-pages
invariant-pages g l = record {
  reads_on : ReadsOn g.D.Disk.tape g.D.Disk.moment l.fn.disk l.disk l.fn.cache l.cache;
  faults : g.D.Disk.faults l.disk ≡ g.D.Disk.faults l.fn.disk;
  below : l.page < 2 ^ 51;
  first : l.fn.start.0 / 8192 ≤ l.page;
  unread : 2 ^ 60 ≤ l.fn.start.0 → l.disk ≡ l.fn.disk;
  near : l.page ≤ 2 ^ 47 + l.fn.start.0 / 8192;
  begins : (pages : Pages) → Sees (g.D.Disk.tape l.fn.disk) l.fn.cache pages → (turns : ℕ) → turns + l.page ≡ 2 ^ 47 + l.fn.start.0 / 8192 → beginning l.fn.cache.geometry pages l.fn.start.0 ≡ begin_at turns l.fn.cache.geometry pages l.page l.timeline;
}

abbrev pub decreases-pages : goal.decreases-pages
decreases-pages g l = 2 ^ 47 - l.page

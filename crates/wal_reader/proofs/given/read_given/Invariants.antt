use Rattle.std.proofs.Common.{◌≡◌, ◌-◌, ◌^◌, ◌≤◌, List, option_map}
use Rattle.byte_position.specs.Position.{address_of}
use Rattle.wal_reader.specs.Cache.{HoldsLastPage}
use Rattle.wal_reader.specs.PageCursor.{Sees}
use Rattle.wal_reader.specs.declared.found.FoundRecord.{FoundRecord}
use Rattle.wal_reader.specs.declared.found.Answer.{Answer}
use Rattle.wal_types.specs.declared.lsn.Lsn.{Lsn}
use Rattle.wal_reader.specs.Pages.{Pages}
use Rattle.wal_reader.specs.Ready.{IsReadyAt}
use Rattle.wal_reader.specs.ReadsOn.{ReadsOn}
use Rattle.wal_reader.specs.RecordRead.{IsRoomAfterStep}
use Rattle.wal_reader.specs.RecordPlace.{IsOutOfReach, IsReachable}
use Rattle.wal_reader.specs.Steps.{GivesFrom}
use Rattle.wal_reader.proofs.given.read_given.Given as goal

abbrev pub invariant-records : goal.invariant-records
invariant-records g l = record {
  reads_on : ReadsOn g.D.Disk.tape g.D.Disk.moment l.fn.disk l.disk l.fn.buffers.cache l.buffers.cache;
  faults : g.D.Disk.faults l.disk ≡ g.D.Disk.faults l.fn.disk;
  reachable : IsReachable l.at;
  ready : IsReadyAt l.buffers.cache l.at l.ready;
  further : l.fn.from.position ≤ l.at.position;
  unread : IsOutOfReach l.fn.buffers.cache.geometry (option_map (λ (e : Lsn). e.0) l.fn.end) l.fn.from.position → (l.at ≡ l.fn.from) × (l.disk ≡ l.fn.disk);
  last_page : HoldsLastPage l.fn.buffers.cache.number (address_of l.fn.buffers.cache.geometry l.fn.from.position) → (l.disk ≡ l.fn.disk) × (l.buffers.cache ≡ l.fn.buffers.cache) × (address_of l.fn.buffers.cache.geometry l.fn.from.position ≤ address_of l.fn.buffers.cache.geometry l.at.position);
  room : (pages : Pages) → Sees (g.D.Disk.tape l.fn.disk) l.fn.buffers.cache pages → IsRoomAfterStep l.fn.buffers.cache.geometry pages l.fn.buffers.room.items l.buffers.room.items;
  comes : (pages : Pages) → Sees (g.D.Disk.tape l.fn.disk) l.fn.buffers.cache pages → (others : List FoundRecord) (answer : Answer) → GivesFrom l.fn.buffers.cache.geometry pages l.fn.start.0 (option_map (λ (e : Lsn). e.0) l.fn.end) l.at others answer → GivesFrom l.fn.buffers.cache.geometry pages l.fn.start.0 (option_map (λ (e : Lsn). e.0) l.fn.end) l.fn.from others answer;
}

abbrev pub decreases-records : goal.decreases-records
decreases-records g l = 2 ^ 60 - l.at.position

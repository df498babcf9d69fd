-- That what was set in one life of a map is in it in the next one.
use Rattle.std.specs.Prelude.{◌≡◌, ℕ, List, Option, Some}
use Rattle.segment_disk.specs.DiskImage.{image_as_read}
use Rattle.segment_disk.specs.Tape.{Tape, state_now}
use Rattle.wal_reader.specs.Pages.{pages_in}
use Rattle.written_log_laws.specs.Torn.{NoTornPass}
use Rattle.machine_state.specs.declared.setup.Setup.{Setup}
use Rattle.wal_log.specs.declared.closing.Closed.{Closed}
use Rattle.wal_log.specs.Closing.{ClosesLog}
use Rattle.wal_log_laws.specs.History.{order_of}
use Rattle.durable_map.specs.Opening.{OpensMap}
use Rattle.durable_map.specs.Stores.{log_under, map_held}
use Rattle.durable_map.specs.declared.part.MapPart.{MapPart}
use Rattle.durable_map.specs.declared.store.DurableMap.{DurableMap}

-- a map was closed, and opened on the disk that came back, which told this tape then. If no torn
-- record passes its CRC as the disk is read, the key has the value there
pub record FindsSet {D : Type 0} (tape : D → Option Tape) (moment faults : D → ℕ) (setup : Setup)
    (key value : List ℕ) (again : DurableMap D) : Type 0 where
  pub map : DurableMap D
  pub last : MapPart
  pub closed : Closed D
  pub closes : ClosesLog tape moment faults (log_under map) last.pass closed
  pub opened : OpensMap tape moment faults setup closed.disk again
  pub now : Tape
  pub told : tape closed.disk ≡ Some now
  pub found :
      NoTornPass setup.seg_size (pages_in setup.seg_size (image_as_read (state_now now)))
      (order_of tape moment faults (log_under map) last.pass closed closes)
      → map_held again key ≡ Some value

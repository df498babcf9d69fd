-- One theorem over all lives of a map: what was answered Ok is in it for ever.
use Rattle.std.specs.Prelude.{ℕ, All, List, Option}
use Rattle.segment_disk.specs.Tape.{Tape}
use Rattle.wal_page.specs.Order.{Entry}
use Rattle.machine_state.specs.declared.setup.Setup.{Setup}
use Rattle.wal_log_laws.specs.Growing.{IsFrontOf}
use Rattle.wal_log_laws.specs.History.{IsHandedIn}
use Rattle.durable_map.specs.Changes.{MapChange}
use Rattle.durable_map.specs.History.{MapHistory}
use Rattle.durable_map.specs.Opening.{OpensMap}
use Rattle.durable_map.specs.Stores.{Holds, part_under}
use Rattle.durable_map.specs.declared.store.DurableMap.{DurableMap}

module _ {D : Type 0} (tape : D → Option Tape) (moment faults : D → ℕ) where
  -- behind each history the map that an opening gives is that of the changes which it found. They
  -- are a front of all that were begun, in their order, and this front has each one that was
  -- answered Ok, with all up to it
  abbrev pub AnsweredChangesStay : Type 0
  AnsweredChangesStay =
      (size sysid : ℕ) (t : Tape) (order : List Entry) (begun : List MapChange)
      (answered : List (List MapChange))
      → MapHistory tape moment faults size sysid t order begun answered
      → (setup : Setup) (disk : D) (map : DurableMap D)
      → IsHandedIn tape moment faults size sysid t setup disk
      → (opened : OpensMap tape moment faults setup disk map)
      → Holds (part_under map) opened.read.changes × IsFrontOf opened.read.changes begun
      × All (λ upto. IsFrontOf upto opened.read.changes) answered

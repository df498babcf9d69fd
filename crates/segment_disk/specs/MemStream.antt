-- A source and a sink in memory: what is left, what was taken, and what they fail at.
use Rattle.std.specs.Prelude.{ℕ, ◌-◌, Bool, List, length, take, drop, Option, Some, nat_lt, ◌==◌, ◌&&◌, ◌||◌}
use Rattle.segment_disk.specs.Failing.{Failing, fails_next}
use Rattle.segment_disk.specs.declared.memory.source.MemSource.{MemSource}
use Rattle.segment_disk.specs.declared.memory.sink.MemSink.{MemSink}

-- the bytes that are left in a source
abbrev pub source_left : MemSource → Option (List ℕ)
source_left source = Some (drop source.taken source.bytes.items)

-- the bytes that a source has handed out
abbrev pub source_handed : MemSource → List ℕ
source_handed source = take source.taken source.bytes.items

-- how often a source has answered that nothing is left
abbrev pub source_ends_told : MemSource → ℕ
source_ends_told source = source.ends_told.count

-- how often a source has failed
abbrev pub source_faults : MemSource → ℕ
source_faults source = source.faults

-- the reads of a source that fail
abbrev pub source_failing : MemSource → Failing
source_failing source = source.schedule

-- the bytes that a sink has taken
abbrev pub sink_taken : MemSink → Option (List ℕ)
sink_taken sink = Some sink.bytes.items

-- how often a sink has failed
abbrev pub sink_faults : MemSink → ℕ
sink_faults sink = sink.faults

-- the writes of a sink that fail, however much room there is
abbrev pub sink_failing : MemSink → Failing
sink_failing sink = sink.schedule

-- how many bytes a sink takes in all
abbrev pub sink_size : MemSink → ℕ
sink_size sink = sink.size

-- how many it has room for now
abbrev pub sink_room : MemSink → ℕ
sink_room sink = sink.size - length sink.bytes.items

-- whether a sink fails next, at a piece of this length
abbrev pub refuses : MemSink → ℕ → Bool
refuses sink count = fails_next (sink_failing sink) || (sink_room sink == 0 && nat_lt 0 count)

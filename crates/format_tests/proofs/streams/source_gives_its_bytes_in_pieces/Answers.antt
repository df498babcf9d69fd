-- A source in memory may go to another thread: the count of its ends is nothing that runs.
use denote.Param.Send.{IsSend, owning_send, sendable}
use Rattle.std.proofs.Crossing.{crosses}
use Rattle.segment_disk.specs.contracts.ends_told.EndsTold as ends
use Rattle.segment_disk.specs.contracts.memory.source.MemSource as source
use Rattle.format_tests.proofs.streams.source_gives_its_bytes_in_pieces.Goals as goal

ends_cross_threads : IsSend ends.the_row
ends_cross_threads = owning_send ends.the_type (search sendable, tt) (λ d. tt) (λ k x w. tt)

source_crosses_threads : IsSend source.the_row
source_crosses_threads = search (sendable, crosses, ends_cross_threads) depth 20

pub crosses_threads-requires-send-T : goal.crosses_threads-requires-send-T
crosses_threads-requires-send-T g c κs = search (sendable, source_crosses_threads)

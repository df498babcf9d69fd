-- The handles may be handed to another thread, since each of their fields may be. What names the
-- program's word (`ProgramSaid`) is taken apart here; of all else the compiler has it.
use denote.Hole.{as_row}
use denote.Param.Send.{IsSend, IsSync, sendable}
use denote.Param.SendFields.{as_row_send, as_row_sync, declared_send, declared_sync}
use denote.RattleType.{RattleType}
use denote.Signature.{static_lft}
use denote.Struct.Field.{Field}
use Rattle.std.proofs.Crossing.{Arc-send, Arc-sync, crosses, frees, send}
use Rattle.std.proofs.mem.ManuallyDrop.TheSendSync as kept
use Rattle.std.proofs.option.Option.TheSendSync as maybe
use Rattle.std.specs.contracts.alloc.Global as heap
use Rattle.std.specs.contracts.impls.GlobalAllocator.TheImpl.{ghosts as heap_ghosts}
use Rattle.std.specs.contracts.sync.Arc as arc
use Rattle.std.specs.contracts.sync.atomic.AtomicIn as word
use Rattle.rtrb.specs.contracts.AnyItems as any
use Rattle.rtrb.specs.contracts.AnyItemsProtocol.TheImpl.{ghosts as any_ghosts}
use Rattle.rtrb.proofs.consumer.Consumer.TheSendSync as end
use Rattle.wal_types.proofs.answers.Hard.TheSendSync as hard
use Rattle.wal_types.proofs.lsn.Lsn.TheSendSync as lsn
use Rattle.wal_types.specs.contracts.answers.Hard.{the_row as hard_row}
use Rattle.wal_types.specs.contracts.lsn.Lsn.{the_row as lsn_row}
use Rattle.wal_types.proofs.record.BlockList.TheSendSync as blocks
use Rattle.wal_types.proofs.record.Image.TheSendSync as image
use Rattle.wal_types.specs.contracts.record.Image.{the_row as image_row}
use Rattle.wal_spelling.proofs.body.Body.TheSendSync as body
use Rattle.segment_disk.specs.contracts.disk.Call.{the_row as call_row}
use Rattle.segment_disk.proofs.disk.Call.TheSendSync as call
use Rattle.wal_rule.proofs.pass.Pass.TheSendSync as pass
use Rattle.wal_log.proofs.wal.Wal.TheSendSync as wal
use Rattle.wal_log.proofs.in_flight.Inflight.TheSendSync as flight
use Rattle.hosted_disk.specs.contracts.calls.HostCalls as calls
use Rattle.hosted_disk.specs.contracts.progress.HostProgress as progress
use Rattle.hosted_disk.specs.contracts.disk.HostedDisk as disk
use Rattle.hosted_disk.specs.contracts.disk.HostedDiskDisk.TheImpl.{ghosts as disk_ghosts}
use Rattle.hosted_disk.proofs.disk.HostedDisk.TheSendSync as hosted
use Rattle.embedded_log.specs.contracts.appending.Appending as appending
use Rattle.embedded_log.specs.contracts.session.LogSession as session
use Rattle.embedded_log.specs.contracts.shared.SharedLog as shared
use Rattle.pgwal_c.specs.contracts.disk_handle.DiskHandle as disk_handle
use Rattle.pgwal_c.specs.contracts.said.ProgramSaid as said
use Rattle.pgwal_c.specs.contracts.said.ProgramSaidRule.TheImpl.{ghosts}
use Rattle.pgwal_c.specs.contracts.session_handle.SessionHandle as session_handle
use Rattle.pgwal_c.specs.contracts.session_handle.SessionHandle.TheInside as inside

-- ---- what is shared is counted on the heap

abbrev Shared : RattleType → Field
Shared R = arc.the_field R heap.the_row heap_ghosts

word_send : IsSend (word.the_row said.the_row ghosts)
word_send = search (sendable, crosses) depth 20

word_sync : IsSync (word.the_row said.the_row ghosts)
word_sync = search (sendable, crosses) depth 20

made_send : IsSend (as_row (Shared (word.the_row said.the_row ghosts)))
made_send = let W = word.the_row said.the_row ghosts in
    as_row_send (Shared W) (Arc-send W word_send word_sync)

made_sync : IsSync (as_row (Shared (word.the_row said.the_row ghosts)))
made_sync = let W = word.the_row said.the_row ghosts in
    as_row_sync (Shared W) (Arc-sync W word_send word_sync)

-- ---- the host's end of the queue

calls_send : IsSend (calls.the_row said.the_row ghosts)
calls_send = declared_send (calls.the_type said.the_row ghosts) (
  end.the_send call_row heap.the_row any.the_row heap_ghosts (any_ghosts call_row)
      call.the_send send frees,
  (
    made_send,
    (
      search (sendable, crosses) depth 20,
      (search sendable, (search sendable, (search sendable, tt))),
    ),
  ),
)

pub disk_send : IsSend disk_handle.the_row
disk_send = declared_send disk_handle.the_type (
  search (sendable, crosses) depth 20,
  (
    maybe.the_send (calls.the_row said.the_row ghosts) calls_send,
    (search (sendable, crosses) depth 20, tt),
  ),
)

-- ---- the log, and what has it

host_send : IsSend (progress.the_row said.the_row ghosts)
host_send = declared_send (progress.the_type said.the_row ghosts) (
  made_send,
  (search (sendable, crosses) depth 20, (search sendable, tt)),
)

host_sync : IsSync (progress.the_row said.the_row ghosts)
host_sync = declared_sync (progress.the_type said.the_row ghosts) (
  made_sync,
  (search (sendable, crosses) depth 20, (search sendable, tt)),
)

shared_send : IsSend (shared.the_row said.the_row ghosts)
shared_send = declared_send (shared.the_type said.the_row ghosts) (
  wal.the_send disk.the_row disk_ghosts hosted.the_send,
  (host_send, (search (sendable, crosses) depth 20, (search sendable, tt))),
)

shared_sync : IsSync (shared.the_row said.the_row ghosts)
shared_sync = declared_sync (shared.the_type said.the_row ghosts) (
  wal.the_sync disk.the_row disk_ghosts hosted.the_send,
  (host_sync, (search (sendable, crosses) depth 20, (search sendable, tt))),
)

log_send : IsSend (as_row (Shared (shared.the_row said.the_row ghosts)))
log_send = let S = shared.the_row said.the_row ghosts in
    as_row_send (Shared S) (Arc-send S shared_send shared_sync)

session_send : IsSend (session.the_row said.the_row ghosts)
session_send = declared_send (session.the_type said.the_row ghosts) (
  log_send,
  (
    pass.the_send,
    (
      pass.the_send,
      (maybe.the_send hard_row hard.the_send, (maybe.the_send lsn_row lsn.the_send, tt)),
    ),
  ),
)

appending_send : IsSend (appending.the_row static_lft said.the_row ghosts)
appending_send = declared_send (appending.the_type static_lft said.the_row ghosts) (
  log_send,
  (
    flight.the_send static_lft,
    (
      pass.the_send,
      (maybe.the_send hard_row hard.the_send, (maybe.the_send lsn_row lsn.the_send, tt)),
    ),
  ),
)

-- ---- what lies behind a session's pointer

inside_send : IsSend inside.the_row
inside_send = declared_send inside.the_type (
  search (sendable, crosses) depth 20,
  (
    maybe.the_send (session.the_row said.the_row ghosts) session_send,
    (
      maybe.the_send _ (kept.the_send (appending.the_row static_lft said.the_row ghosts)
          appending_send),
      (
        search (sendable, crosses, body.the_sync) depth 20,
        (
          search sendable,
          (
            search sendable,
            (
              search sendable,
              (
                search sendable,
                (blocks.the_send, (maybe.the_send image_row image.the_send, tt)),
              ),
            ),
          ),
        ),
      ),
    ),
  ),
)

pub session_handle_send : IsSend session_handle.the_row
session_handle_send = search (sendable, inside_send)

-- A session may be handed to another thread: its passes, the log and what it asks of the host may
-- be, and the last two may be shared.
use mir.Syntax.{Ty}
use denote.Exit.{Kept}
use denote.Param.{arg, param}
use denote.Param.Send.{IsSend, IsSync, Quiet, SendAt, sendable}
use denote.Param.Send.{recorded_send_at, recorded_send_of, struct_send_at, struct_sync_at}
use denote.RattleType.{RattleType}
use denote.Struct.Declared.{shape}
use denote.Struct.Field.{u64-field}
use denote.Struct.Struct.{Struct}
use Rattle.std.proofs.Crossing.{Arc-send, crosses}
use Rattle.std.specs.contracts.alloc.Global as heap
use Rattle.std.specs.contracts.impls.GlobalAllocator.TheImpl.{ghosts as heap_ghosts}
use Rattle.std.specs.contracts.option.Option as option
use Rattle.std.specs.contracts.sync.Arc as arc
use Rattle.std.specs.contracts.sync.atomic.AtomicBool as flag
use Rattle.std.specs.declared.sync.atomic.Rule.{Ghosts}
use Rattle.wal_types.specs.contracts.answers.Hard as hard
use Rattle.wal_types.specs.contracts.lsn.Lsn as lsn
use Rattle.wal_rule.specs.contracts.pass.Pass as pass
use Rattle.wal_log.specs.contracts.wal.Wal as wal
use Rattle.hosted_disk.specs.contracts.disk.HostedDisk as disk
use Rattle.hosted_disk.specs.contracts.disk.HostedDiskDisk.TheImpl.{ghosts}
use Rattle.hosted_disk.specs.contracts.progress.HostProgress as progress
use Rattle.embedded_log.specs.contracts.session.LogSession as session
use Rattle.embedded_log.specs.contracts.shared.SharedLog as shared

-- what holds of a call's argument holds of its type
pub send_of_argument : (δ : Ty) (k : Kept) (R : RattleType) → IsSend (param 0 (arg δ k R))
    → ((k : Kept) → Quiet (R.exit k)) → IsSend R
send_of_argument δ k R s quiet = record { owned = s.owned; leaving = quiet }

pub sync_of_argument : (δ : Ty) (k : Kept) (R : RattleType) → IsSync (param 0 (arg δ k R))
    → IsSync R
sync_of_argument δ k R s = record { shared = s.shared }

abbrev pub wal_row : RattleType
wal_row = wal.the_row disk.the_row ghosts

-- ---- what holds of a type holds at each of its values, and so of a struct's fields

at : (R : RattleType) → IsSend R → (x : R.Denot) → SendAt R x
at R s x = (s.owned x, λ k. s.leaving k x)

wal_at : IsSend wal_row → (w : _)
    → SendAt (wal.the_field disk.the_row ghosts).row ((wal.the_type disk.the_row ghosts).to w)
wal_at s w = let T = wal.the_type disk.the_row ghosts in
    recorded_send_at (Struct (shape T)) _ T.to T.to_one s w

pass_at : IsSend pass.the_row → (p : _) → SendAt pass.the_field.row (pass.the_type.to p)
pass_at s p = let T = pass.the_type in recorded_send_at (Struct (shape T)) _ T.to T.to_one s p

module _ (H : RattleType) (g : Ghosts H.Denot) where
  host_at : IsSend (progress.the_row H g) → (p : _)
      → SendAt (progress.the_field H g).row ((progress.the_type H g).to p)
  host_at s p = let T = progress.the_type H g in
      recorded_send_at (Struct (shape T)) _ T.to T.to_one s p

  shared_send : IsSend wal_row → IsSend (progress.the_row H g) → IsSend (shared.the_row H g)
  shared_send log host =
      let T = shared.the_type H g in
      let b : IsSend flag.the_field.row = search (sendable, crosses) depth 20 in
      let n : IsSend u64-field.row = search sendable in
      recorded_send_of (Struct (shape T)) _ T.to T.to_one
      (λ d. let x = T.to d in struct_send_at (shape T) x (
        wal_at log d.wal,
        (
          host_at host d.host,
          (at flag.the_field.row b x.1.1.0, (at u64-field.row n x.1.1.1.0, tt)),
        ),
      ))

  shared_sync : IsSync wal_row → IsSync (progress.the_row H g) → IsSync (shared.the_row H g)
  shared_sync log host =
      let T = shared.the_type H g in
      let b : IsSync flag.the_field.row = search (sendable, crosses) depth 20 in
      let n : IsSync u64-field.row = search sendable in record {
        shared = λ d. let x = T.to d in struct_sync_at (shape T) x (
          log.shared d.wal,
          (host.shared d.host, (b.shared x.1.1.0, (n.shared x.1.1.1.0, tt))),
        );
      }

  session_of_shared : IsSend pass.the_row → IsSend (shared.the_row H g)
      → IsSync (shared.the_row H g) → IsSend (session.the_row H g)
  session_of_shared own s y =
      let T = session.the_type H g in
      let A = (arc.the_field (shared.the_row H g) heap.the_row heap_ghosts).row in
      let log : IsSend A = Arc-send (shared.the_row H g) s y in
      let P = (option.the_field hard.the_row).row in
      let pending : IsSend P = search (sendable, crosses) depth 20 in
      let E = (option.the_field lsn.the_row).row in
      let appended : IsSend E = search (sendable, crosses) depth 20 in
      recorded_send_of (Struct (shape T)) _ T.to T.to_one
      (λ d. let x = T.to d in struct_send_at (shape T) x (
        at A log x.0,
        (
          pass_at own d.pass,
          (
            pass_at own d.helper,
            (at P pending x.1.1.1.0, (at E appended x.1.1.1.1.0, tt)),
          ),
        ),
      ))

  pub session_send : IsSend pass.the_row → IsSend wal_row → IsSync wal_row
      → IsSend (progress.the_row H g) → IsSync (progress.the_row H g)
      → IsSend (session.the_row H g)
  session_send own log log_shared host host_shared =
      session_of_shared own (shared_send log host) (shared_sync log_shared host_shared)

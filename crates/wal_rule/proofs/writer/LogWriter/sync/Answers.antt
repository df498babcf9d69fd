use Rattle.std.proofs.Common.{refl}
use Rattle.segment_disk.specs.Tape.{sync_call}
use Rattle.wal_rule.specs.Slotted.{slot_segment_size}
use Rattle.wal_rule.proofs.CallsEnd.{call_failed}
use Rattle.wal_rule.proofs.writer.LogWriter.sync.Goals as goal

pub returns-in-Err : goal.returns-in-Err
returns-in-Err g c =
    call_failed g.D.Disk.tape g.D.Disk.moment g.D.Disk.faults c.args.self.now c.sync.new.self
    (sync_call (slot_segment_size c.args.self.now) c.args.segment) _ (c.args.self.now).waiting
    c.fail.result (λ made rose. refl) (λ same. refl) c.in-Err.ensures.answers
    c.in-Err.ensures.cause _ c.fail.ensures.kept c.fail.ensures.told

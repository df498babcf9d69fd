-- The frames are those of the pages as they are read behind the syncs, and no call follows these.
use Rattle.std.proofs.Common.{ℕ, Option, max, ap, sym, subst, ◌∙◌}
use Rattle.segment_disk.specs.Tape.{Tape}
use Rattle.wal_stream.specs.Putting.{PutsFrames}
use Rattle.wal_stream.specs.Sending.{IsSending}
use Rattle.wal_stream.specs.Synced.{HasSynced}
use Rattle.wal_stream.proofs.SendLaws.{sends_by_frames}
use Rattle.wal_stream.proofs.SyncLaws.{before_none}
use Rattle.wal_stream.proofs.sending.send.Goals as goal

pub returns-clause-sends : goal.returns-clause-sends
returns-clause-sends g c =
    let size = c.args.geometry in
    let tape = g.D.Disk.tape c.args.disk.now in
    let moment = g.D.Disk.moment c.args.disk.now in
    let after = g.D.Disk.tape c.sync_log.new.disk in
    let moment_after = g.D.Disk.moment c.sync_log.new.disk in
    let old = g.O.Sink.taken c.args.out.now in
    let new = g.O.Sink.taken c.put_frames.new.out in
    let synced = before_none (λ t m. HasSynced size t after m moment_after) _ _ _ _ c.in_ok-end.ensures.uncalled c.in-Ok.ensures.synced in
    let start = c.max-start.ensures ∙ ap (max c.args.from.0) c.segment_size.ensures.value in
    let puts = subst (λ (from : ℕ). PutsFrames size from c.in_ok-end.end.0 after old new c.put_frames.result) start c.put_frames.ensures.puts in
    let sends = sends_by_frames size c.args.from.0 c.in_ok-end.end.0 after moment moment_after tape old new synced c.in_ok-end.ensures.read c.put_frames.result puts in
    let same = c.put_frames.ensures.uncalled in
    subst (λ (t : Option Tape). IsSending size c.args.from.0 tape t moment (g.D.Disk.moment c.put_frames.new.disk) old new c.put_frames.result) (sym same.same_tape)
    (subst (λ (m : ℕ). IsSending size c.args.from.0 tape after moment m old new c.put_frames.result) (sym same.same_moment) sends)

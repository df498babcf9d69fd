use Rattle.std.proofs.Common.{◌+◌, ◌/◌, ◌<◌, Option, Ok, Err, subst, ◌∙◌, arith}
use Rattle.std.proofs.lemmas.Result.{err_from_is_err_and}
use Rattle.segment_disk.specs.Tape.{Tape}
use Rattle.wal_stream.specs.Putting.{PutsFrame}
use Rattle.wal_stream.specs.SentFrames.{frame_count}
use Rattle.wal_stream.proofs.PutLaws.{HavePut-more, puts_stopped}
use Rattle.wal_stream.proofs.frames.put_frames.Goals as goal

pub returns-in_err-put_frame-clause-puts : goal.returns-in_err-put_frame-clause-puts
returns-in_err-put_frame-clause-puts g c =
    let p = err_from_is_err_and c.from_residual.result c.from_residual.ensures.1 in
    let before = c.loop-sent.invariant in
    let error = c.in_err-put_frame.field-0.0 in
    let within : c.loop-sent.sent < frame_count c.args.from.0 c.args.end.0 = omega (arith, c.frame_count-count.ensures) in
    let puts = subst (λ (t : Option Tape). PutsFrame c.args.geometry (c.args.from.0 / 8192 + c.loop-sent.sent) c.args.end.0 t (g.O.Sink.taken c.loop-sent.out) (g.O.Sink.taken c.put_frame.new.out) (g.O.Sink.faults c.loop-sent.out) (g.O.Sink.faults c.put_frame.new.out) (Err error)) before.uncalled.same_tape c.in_err-put_frame.ensures.puts in
    rw (p.1, p.2) (puts_stopped c.args.geometry c.args.end.0 c.args.from.0 c.loop-sent.sent within (g.D.Disk.tape c.args.disk.now) _ _ _ _ _ error before.put puts)

pub loop-sent-preserved : goal.loop-sent-preserved
loop-sent-preserved g c =
    let before = c.loop-sent.invariant in
    let next = c.in_ok-put_frame.ensures in
    let puts = subst (λ (t : Option Tape). PutsFrame c.args.geometry (c.args.from.0 / 8192 + c.loop-sent.sent) c.args.end.0 t (g.O.Sink.taken c.loop-sent.out) (g.O.Sink.taken c.put_frame.new.out) (g.O.Sink.faults c.loop-sent.out) (g.O.Sink.faults c.put_frame.new.out) (Ok c.in_ok-put_frame.field-0)) before.uncalled.same_tape next.puts in
    record {
      put = HavePut-more c.args.geometry c.args.end.0 (g.D.Disk.tape c.args.disk.now) (c.args.from.0 / 8192) c.loop-sent.sent _ _ _ puts.bytes before.put puts.are puts.long puts.puts.0;
      uncalled = record { same_tape = next.uncalled.same_tape ∙ before.uncalled.same_tape; same_moment = next.uncalled.same_moment ∙ before.uncalled.same_moment };
      disk_faults = next.cause.0 ∙ before.disk_faults;
      sink_faults = next.cause.1 ∙ before.sink_faults;
    }

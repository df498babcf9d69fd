-- The image that a crash leaves is one of the machine's own disk.
use Rattle.std.proofs.Common.{List, length, IfSome, subst, sym, arith}
use Rattle.std.proofs.lemmas.List.{take_all}
use Rattle.segment_disk.specs.declared.disk.Call.{Call}
use Rattle.segment_disk.specs.declared.memory.disk.MemDisk.{MemDisk}
use Rattle.segment_disk.specs.DiskImage.{LeftAt}
use Rattle.segment_disk.specs.First.{first_state}
use Rattle.segment_disk.specs.MemDisk.{first_image}
use Rattle.segment_disk.specs.Picks.{IsPicked, choice_of}
use Rattle.segment_disk.specs.Tape.{DiskState, after_calls, state_at, state_now}
use Rattle.machine_state.specs.Suited.{tape_from}
use Rattle.machine_state.specs.Views.{Plain}
use Rattle.machine_turns.specs.Doing.{Machine}
use Rattle.machine_turns.specs.Writer.{state_of}
use Rattle.wal_core.specs.Cores.{HasWriter, core_of}
use Rattle.wal_core.specs.Playing.{PlaysMachine}
use Rattle.wal_core.proofs.Cores.{if_ok, writer_is_core's}
use Rattle.wal_core.proofs.machine.Core.crash.Goals as goal

pub returns-clause-left : goal.returns-clause-left
returns-clause-left c =
    let core = core_of c.args.self.now in
    let plain = (state_of c.args.self.now.writer).plain in
    let first = (state_of c.args.self.now.writer).first in
    if_ok c.crash.result
    (λ (disk : MemDisk). IfSome (tape_from first plain.calls) (λ tape. LeftAt tape plain.moment (first_image disk)))
    (λ (disk : MemDisk). (m : Machine) (w : Plain) → PlaysMachine core m → HasWriter m w
    → IfSome (tape_from m.first w.calls) (λ tape. LeftAt tape (length tape.calls) (first_image disk)))
    (λ disk left m w k has. subst
    (λ (x : DiskState × Plain). IfSome (tape_from x.0 x.1.calls) (λ tape. LeftAt tape (length tape.calls) (first_image disk)))
    (λ j. (sym k.first_is j, sym (writer_is_core's core m k w has) j)) left) c.crash.ensures.left

pub returns-clause-picked : goal.returns-clause-picked
returns-clause-picked c =
    let core = core_of c.args.self.now in
    let plain = (state_of c.args.self.now.writer).plain in
    let first = (state_of c.args.self.now.writer).first in
    if_ok c.crash.result
    (λ (disk : MemDisk). IfSome (tape_from first plain.calls) (λ tape.
    IsPicked (choice_of c.args.pick) (state_at tape plain.moment) (first_image disk)))
    (λ (disk : MemDisk). (m : Machine) (w : Plain) → PlaysMachine core m → HasWriter m w
    → IfSome (tape_from m.first w.calls) (λ tape.
    IsPicked (choice_of c.args.pick) (state_now tape) (first_image disk)))
    (λ disk picked m w k has. subst
    (λ (x : DiskState × Plain). IfSome (tape_from x.0 x.1.calls) (λ tape.
    IsPicked (choice_of c.args.pick) (state_now tape) (first_image disk)))
    (λ j. (sym k.first_is j, sym (writer_is_core's core m k w has) j))
    (subst (λ (calls : List Call). IsPicked (choice_of c.args.pick)
    (after_calls (first_state c.args.self.now.writer.disk.first.items) calls) (first_image disk))
    (take_all (length c.args.self.now.writer.disk.calls.made.items)
    c.args.self.now.writer.disk.calls.made.items (omega arith)) picked)) c.crash.ensures.picked

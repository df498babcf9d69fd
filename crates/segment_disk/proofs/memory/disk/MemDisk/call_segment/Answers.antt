use Rattle.segment_disk.specs.declared.disk.Call.{Call}
use Rattle.std.proofs.Common.{Bool}
use Rattle.segment_disk.specs.First.{first_state}
use Rattle.segment_disk.proofs.Answering.{answers_counted, failed_whole}
use Rattle.segment_disk.proofs.Presence.{present_kept, is_some-kept}
use Rattle.segment_disk.proofs.memory.disk.MemDisk.call_segment.Goals as goal

pub invariant_of-self-2 : goal.invariant_of-self-2
invariant_of-self-2 c =
    record { present = present_kept (first_state c.args.self.now.first.items) c.args.self.now.calls.made.items c.count.new.self.made.items _ c.count.ensures.made c.args.self.now.segments.numbers.items (is_some-kept c.args.kind c.requires c.args.geometry c.if-has.done) c.args.self.now.present }

pub returns-clause-answers : goal.returns-clause-answers
returns-clause-answers c =
    let counted : Bool → Call = λ done. record { geometry = c.args.geometry; segment = c.args.segment; kind = c.args.kind; done = done } in
    answers_counted (first_state c.args.self.now.first.items) c.args.self.now.calls.made.items c.count.new.self.made.items c.count.result counted c.if-has.done c.if-has.done (failed_whole c.args.geometry c.args.segment c.args.kind c.requires c.if-has.done) c.count.ensures.made c.count.ensures.done

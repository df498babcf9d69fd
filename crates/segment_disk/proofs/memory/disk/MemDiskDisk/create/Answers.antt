use Rattle.std.proofs.Common.{refl}
use Rattle.segment_disk.specs.First.{first_state}
use Rattle.segment_disk.proofs.Presence.{present_kept, present_created, state_unmade, on_err}
use Rattle.segment_disk.proofs.memory.disk.MemDiskDisk.create.Goals as goal

pub invariant_of-self-then-next_fails : goal.invariant_of-self-then-next_fails
invariant_of-self-then-next_fails c =
    record { present = present_kept (first_state c.args.self.now.first.items) c.args.self.now.calls.made.items c.count.new.self.made.items _ c.count.ensures.made c.args.self.now.segments.numbers.items (λ s. refl) c.args.self.now.present }

pub returns-then-next_fails-clause-unmade : goal.returns-then-next_fails-clause-unmade
returns-then-next_fails-clause-unmade c =
    on_err c.count.result _ (state_unmade (first_state c.args.self.now.first.items) c.args.self.now.calls.made.items c.count.new.self.made.items _ c.count.ensures.made refl)

pub invariant_of-self-2 : goal.invariant_of-self-2
invariant_of-self-2 c =
    record { present = present_created (first_state c.args.self.now.first.items) c.args.self.now.calls.made.items c.count-2.new.self.made.items _ c.count-2.ensures.made c.args.self.now.segments.numbers.items c.insert.new.self.numbers.items refl c.insert.ensures.numbers c.args.self.now.present }

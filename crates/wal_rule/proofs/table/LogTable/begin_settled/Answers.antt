use Rattle.std.proofs.Common.{◌≡◌, ◌+◌, [], ◌∷◌, Option, ap, sym, ◌∙◌, subst}
use Rattle.atomic_table.specs.Table.{Me, rest}
use Rattle.segment_disk.specs.Tape.{Tape}
use Rattle.flush_core.specs.Planned.{IsPlanOf, call_count}
use Rattle.machine_state.specs.Words.{found_end}
use Rattle.wal_rule.specs.declared.writer.LogWriter.{LogWriter}
use Rattle.wal_rule.specs.Beginning.{reading_view}
use Rattle.machine_state.specs.Views.{View}
use Rattle.wal_rule.specs.Founded.{disk_of_founding}
use Rattle.wal_rule.specs.Opening.{IsAsFounded}
use Rattle.wal_rule.specs.Slotted.{slot_disk}
use Rattle.wal_rule.specs.Tables.{began_of_table, opening_of_table}
use Rattle.wal_rule.proofs.Begins.{has_out, in_hand_still, lent_writer}
use Rattle.wal_rule.proofs.Founds.{moment_as, rose_by_one, settled_begun, settled_uncalled, stopped_unbegun, stopped_with, told_ahead}
use Rattle.wal_rule.proofs.table.LogTable.begin_settled.Given.{Over}
use Rattle.wal_rule.proofs.table.LogTable.begin_settled.Goals as goal
use Rattle.wal_rule.proofs.table.LogTable.begin_settled.Goals.{After-settle}

pub slot_mut-writer-requires : goal.slot_mut-writer-requires
slot_mut-writer-requires g c = (
  c.take_out.ensures.table,
  (
    c.take_out.ensures.out.0,
    has_out g.D.Disk.tape g.D.Disk.moment g.D.Disk.faults (opening_of_table c.args.self)
        (began_of_table g.D.Disk.tape c.args.self) c.take_out.new.seat.me
        c.take_out.ensures.out.0 c.take_out.ensures.out.2,
  ),
)

-- the writer that settles: its disk is as it was handed in
held : (g : Over) (c : After-settle g)
    → IsAsFounded g.D.Disk.tape g.D.Disk.moment g.D.Disk.faults c.args.self.table.shared.key
    c.slot_mut-writer.result.now
held g c =
    let out = c.take_out.ensures.out in
    subst (IsAsFounded g.D.Disk.tape g.D.Disk.moment g.D.Disk.faults
    c.args.self.table.shared.key)
    (lent_writer g.D.Disk.tape g.D.Disk.moment g.D.Disk.faults (opening_of_table c.args.self)
    (began_of_table g.D.Disk.tape c.args.self) c.take_out.new.seat.me out.0
    c.slot_mut-writer.result.now out.2 c.slot_mut-writer.ensures.value) out.1

-- the plan is of its disk
planned : (g : Over) (c : After-settle g)
    → IsPlanOf (opening_of_table c.args.self).setup.seg_size
    (found_end (opening_of_table c.args.self)) (opening_of_table c.args.self).made
    (g.D.Disk.tape (slot_disk c.slot_mut-writer.result.now)) c.args.plan.now
planned g c = subst (λ (t : Option Tape).
    IsPlanOf (opening_of_table c.args.self).setup.seg_size
    (found_end (opening_of_table c.args.self)) (opening_of_table c.args.self).made t
    c.args.plan.now) (sym (held g c).tape_is) c.requires.plan

-- it is in hand behind the calls
in_hand : (g : Over) (c : After-settle g)
    → ◌≡◌ {A = Me (LogWriter g.row.D.Denot) View} (
      c.take_out.new.seat.me.0,
      (0, c.settle.new.self) ∷ rest c.take_out.new.seat.me.1,
    )
    (reading_view (opening_of_table c.args.self), (0, c.settle.new.self) ∷ [])
in_hand g c =
    in_hand_still g.D.Disk.tape g.D.Disk.moment g.D.Disk.faults (opening_of_table c.args.self)
    (began_of_table g.D.Disk.tape c.args.self) c.take_out.new.seat.me c.take_out.ensures.out.0
    c.slot_mut-writer.result.now c.take_out.ensures.out.2 c.slot_mut-writer.ensures.value
    c.settle.new.self

-- the calls were all made: the moment is the one that was told ahead
counted : (g : Over) (c : After-settle g)
    → g.D.Disk.moment (slot_disk c.settle.new.self)
    ≡ g.D.Disk.moment (slot_disk c.slot_mut-writer.result.now) + call_count c.args.plan.now
    → g.D.Disk.moment (slot_disk c.settle.new.self) ≡ (opening_of_table c.args.self).moment
counted g c made =
    let key = c.args.self.table.shared.key in
    let before = c.slot_mut-writer.result.now in
    told_ahead (g.D.Disk.moment (disk_of_founding key)) (g.D.Disk.moment (slot_disk before))
    (g.D.Disk.moment (slot_disk c.settle.new.self)) (call_count c.args.plan.now) _
    (moment_as g.D.Disk.tape g.D.Disk.moment g.D.Disk.faults key before (held g c)) made
    c.settle.ensures.low c.requires.moment

pub start-requires-clause-out : goal.start-requires-clause-out
start-requires-clause-out g c =
    let after = (goal.at.start-requires-clause-out g c).After-settle in (
      c.settle.new.self,
      settled_uncalled g.D.Disk.tape g.D.Disk.moment g.D.Disk.faults
          c.args.self.table.shared.key c.slot_mut-writer.result.now (held g after)
          c.settle.new.self c.settle.ensures.plain c.settle.ensures.size
          (c.in-Ok.ensures.settled _ _ _ (planned g after))
          (counted g after c.in-Ok.ensures.counted)
          (g.met.D.Disk.counts (slot_disk c.settle.new.self)),
      c.in-Ok.ensures.cause ∙ (held g after).failed_is,
      in_hand g after,
    )

pub returns-in-Ok-clause-settled : goal.returns-in-Ok-clause-settled
returns-in-Ok-clause-settled g c =
    let after = (goal.at.returns-in-Ok-clause-settled g c).After-settle in
    settled_begun g.D.Disk.tape g.D.Disk.moment g.D.Disk.faults c.args.self.table.shared.key
    c.slot_mut-writer.result.now (held g after) c.settle.new.self c.settle.ensures.plain
    c.settle.ensures.size (c.in-Ok.ensures.settled _ _ _ (planned g after))
    (counted g after c.in-Ok.ensures.counted)

pub end_unbegun-disk-requires-clause-out : goal.end_unbegun-disk-requires-clause-out
end_unbegun-disk-requires-clause-out g c =
    let after = (goal.at.end_unbegun-disk-requires-clause-out g c).After-settle in (
      c.settle.new.self,
      stopped_unbegun g.D.Disk.tape g.D.Disk.moment g.D.Disk.faults
          c.args.self.table.shared.key c.slot_mut-writer.result.now (held g after)
          c.settle.new.self c.settle.ensures.plain c.settle.ensures.size _ _
          (c.in-Err.ensures.stopped _ _ _ (planned g after)),
      in_hand g after,
    )

pub returns-in-Err-clause-refused : goal.returns-in-Err-clause-refused
returns-in-Err-clause-refused g c =
    let after = (goal.at.returns-in-Err-clause-refused g c).After-settle in
    let key = c.args.self.table.shared.key in
    let before = c.slot_mut-writer.result.now in
    let back = c.end_unbegun-disk.ensures c.settle.new.self
    (ap (λ (m : Me (LogWriter g.row.D.Denot) View). m.1) (in_hand g after)) in (
      stopped_with g.D.Disk.tape g.D.Disk.moment g.D.Disk.faults key before (held g after)
          c.settle.new.self c.settle.ensures.plain c.settle.ensures.size _ _
          (c.in-Err.ensures.stopped _ _ _ (planned g after)) c.end_unbegun-disk.result back.0,
      c.faults-faults.ensures,
      rose_by_one _ _ _ _ c.in-Err.ensures.cause
          ((held g after).failed_is ∙ sym c.requires.failed) back.1,
    )

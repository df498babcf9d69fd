use Rattle.std.proofs.Common.{◌≡◌, [], ◌∷◌, ◌∙◌, subst}
use Rattle.atomic_table.specs.Table.{Me, rest}
use Rattle.wal_rule.specs.declared.writer.LogWriter.{LogWriter}
use Rattle.wal_rule.specs.Beginning.{IsUncalledWriter, reading_view}
use Rattle.machine_state.specs.Views.{View}
use Rattle.wal_rule.specs.Founded.{disk_of_founding}
use Rattle.wal_rule.specs.Opening.{IsAsFounded}
use Rattle.wal_rule.specs.Tables.{began_of_table, opening_of_table}
use Rattle.wal_rule.proofs.Begins.{has_out, in_hand_still, lent_writer, read_still}
use Rattle.wal_rule.proofs.Founds.{nothing_settled, opens_uncalled, uncalled_unbegun}
use Rattle.wal_rule.proofs.table.LogTable.begin.Given.{Over}
use Rattle.wal_rule.proofs.table.LogTable.begin.Goals as goal
use Rattle.wal_rule.proofs.table.LogTable.begin.Goals.{After-has_first_page}

pub slot_mut-writer-requires : goal.slot_mut-writer-requires
slot_mut-writer-requires g c = (
  c.take_out.ensures.table,
  (
    c.take_out.ensures.out.0,
    has_out g.D.Disk.tape g.D.Disk.moment g.D.Disk.faults (opening_of_table c.args.self)
        (began_of_table g.D.Disk.tape c.args.self) c.take_out.new.seat.me
        c.take_out.ensures.out.0 c.take_out.ensures.out.2,
  ),
)

-- the writer that is read: its disk is as it was handed in
held : (g : Over) (c : After-has_first_page g)
    → IsAsFounded g.D.Disk.tape g.D.Disk.moment g.D.Disk.faults c.args.self.table.shared.key
    c.slot_mut-writer.result.now
held g c =
    let out = c.take_out.ensures.out in
    subst (IsAsFounded g.D.Disk.tape g.D.Disk.moment g.D.Disk.faults
    c.args.self.table.shared.key)
    (lent_writer g.D.Disk.tape g.D.Disk.moment g.D.Disk.faults (opening_of_table c.args.self)
    (began_of_table g.D.Disk.tape c.args.self) c.take_out.new.seat.me out.0
    c.slot_mut-writer.result.now out.2 c.slot_mut-writer.ensures.value) out.1

-- the writer behind the read
read : (g : Over) (c : After-has_first_page g)
    → IsUncalledWriter g.D.Disk.tape g.D.Disk.moment (opening_of_table c.args.self)
    (began_of_table g.D.Disk.tape c.args.self) c.has_first_page.new.self
read g c =
    let key = c.args.self.table.shared.key in
    read_still g.D.Disk.tape g.D.Disk.moment g.D.Disk.faults (opening_of_table c.args.self)
    (began_of_table g.D.Disk.tape c.args.self) c.slot_mut-writer.result.now
    c.has_first_page.new.self
    (opens_uncalled g.D.Disk.tape g.D.Disk.moment g.D.Disk.faults key
    c.slot_mut-writer.result.now (held g c) c.requires.made
    (g.met.D.Disk.counts (disk_of_founding key)) c.requires.told.counted)
    c.has_first_page.ensures.same c.has_first_page.ensures.tape c.has_first_page.ensures.size

-- it is in hand
in_hand : (g : Over) (c : After-has_first_page g)
    → ◌≡◌ {A = Me (LogWriter g.row.D.Denot) View} (
      c.take_out.new.seat.me.0,
      (0, c.has_first_page.new.self) ∷ rest c.take_out.new.seat.me.1,
    )
    (reading_view (opening_of_table c.args.self), (0, c.has_first_page.new.self) ∷ [])
in_hand g c =
    in_hand_still g.D.Disk.tape g.D.Disk.moment g.D.Disk.faults (opening_of_table c.args.self)
    (began_of_table g.D.Disk.tape c.args.self) c.take_out.new.seat.me c.take_out.ensures.out.0
    c.slot_mut-writer.result.now c.take_out.ensures.out.2 c.slot_mut-writer.ensures.value
    c.has_first_page.new.self

pub start-requires-clause-out : goal.start-requires-clause-out
start-requires-clause-out g c =
    let after = (goal.at.start-requires-clause-out g c).After-has_first_page in (
      c.has_first_page.new.self,
      read g after,
      c.in-Ok-false.ensures.cause ∙ (held g after).failed_is,
      in_hand g after,
    )

pub end_unbegun-requires-clause-out : goal.end_unbegun-requires-clause-out
end_unbegun-requires-clause-out g c =
    let after = (goal.at.end_unbegun-requires-clause-out g c).After-has_first_page in (
      c.has_first_page.new.self,
      uncalled_unbegun g.D.Disk.tape g.D.Disk.moment g.D.Disk.faults
          c.args.self.table.shared.key c.has_first_page.new.self (read g after),
      in_hand g after,
    )

pub end_unbegun-requires-in-Err-clause-out : goal.end_unbegun-requires-in-Err-clause-out
end_unbegun-requires-in-Err-clause-out g c =
    let after = (goal.at.end_unbegun-requires-in-Err-clause-out g c).After-has_first_page in (
      c.has_first_page.new.self,
      uncalled_unbegun g.D.Disk.tape g.D.Disk.moment g.D.Disk.faults
          c.args.self.table.shared.key c.has_first_page.new.self (read g after),
      in_hand g after,
    )

pub returns-in-Ok-false-clause-began : goal.returns-in-Ok-false-clause-began
returns-in-Ok-false-clause-began g c = nothing_settled g.D.Disk.tape g.D.Disk.moment
    g.D.Disk.faults c.args.self.table.shared.key c.requires.made

use Rattle.std.proofs.Common.{Result, Ok, Err, subst, arith}
use Rattle.std.specs.Prelude.{IfErr}
use Rattle.wal_types.specs.declared.record.Record.{Record}
use Rattle.wal_record.specs.Filled.{held_after}
use Rattle.wal_record.specs.Reading.{GivesReading}
use Rattle.wal_record.specs.declared.fault.RecErr.{RecErr}
use Rattle.wal_record.proofs.Failing.{cause_told, fails_by}
use Rattle.wal_record.proofs.Readings.{found_by, only}
use Rattle.wal_record.proofs.decoding.decode_into.Goals as goal

pub returns-clause-spelled : goal.returns-clause-spelled
returns-clause-spelled g c = found_by (held_after (g.K.KeepsRecord.kept c.reading.new.keeper) c.reading.result) c.args.bytes.now (λ i. omega (arith, c.type_inv.bytes i)) c.reading.ensures

pub returns-clause-reads : goal.returns-clause-reads
returns-clause-reads g c = λ r spelled. subst (GivesReading (held_after (g.K.KeepsRecord.kept c.reading.new.keeper) c.reading.result)) (only c.args.bytes.now r spelled) c.reading.ensures

-- an error is one whatever is held
error_of : {T : Type 0} (held : Record) (result : Result T RecErr) (P : RecErr → Type 0) → IfErr (held_after held result) P → IfErr result P
error_of held (Ok x) P holds = tt
error_of held (Err e) P holds = holds

pub returns-clause-fails : goal.returns-clause-fails
returns-clause-fails g c = error_of (g.K.KeepsRecord.kept c.reading.new.keeper) c.reading.result _ (fails_by (held_after (g.K.KeepsRecord.kept c.reading.new.keeper) c.reading.result) c.args.bytes.now (λ i. omega (arith, c.type_inv.bytes i)) c.reading.ensures)

pub returns-clause-refuses : goal.returns-clause-refuses
returns-clause-refuses g c = λ e fails. subst (GivesReading (held_after (g.K.KeepsRecord.kept c.reading.new.keeper) c.reading.result)) (cause_told c.args.bytes.now e (λ i. omega (arith, c.type_inv.bytes i)) fails) c.reading.ensures

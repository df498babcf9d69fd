use Rattle.std.proofs.Common.{subst}
use Rattle.wal_rule.specs.SeatedPasses.{view_of}
use Rattle.wal_log.specs.Writing.{TellsWriteErr}
use Rattle.wal_log.specs.declared.writing.WriteErr.{WriteErr}
use Rattle.wal_log.proofs.RoomLaws.{made_on}
use Rattle.wal_log.proofs.WriteLaws.{written_since}
use Rattle.wal_log.proofs.room.write_ahead.Goals as goal

-- a watch finished, behind others that did not
pub returns-in-Ok-clause-tells : goal.returns-in-Ok-clause-tells
returns-in-Ok-clause-tells g c =
    let so_far = c.loop-look.invariant.made in
    written_since g.D.Disk.tape g.D.Disk.moment g.D.Disk.faults c.args.upto
    (view_of c.args.seated.now) (view_of c.loop-look.seated) c.write_copied.new.seated
    (((so_far.adds).works).work).pass c.in-Ok.ensures.ends.0

-- a lock held it back
pub loop-look-preserved : goal.loop-look-preserved
loop-look-preserved g c =
    let told = subst (λ (e : WriteErr).
    TellsWriteErr c.args.upto (view_of c.loop-look.seated) (view_of c.write_copied.new.seated) e)
    c.in-Err-Behind.field-0-is c.in-Err-Behind.ensures.ends in
    record {
      made = made_on c.args.seated.now c.loop-look.seated c.write_copied.new.seated
          c.loop-look.invariant.made c.write_copied.ensures.adds_nothing
          c.write_copied.ensures.rests told.1;
      met = λ _. (c.in-Err-Behind.field-0-0.0, c.in-Err-Behind.field-0-1, told.0);
    }

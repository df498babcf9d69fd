use Rattle.std.proofs.Common.{◌≡◌, Err, None}
use Rattle.wal_log.specs.declared.inserting.InsertErr.TheVariants.{Down}
use Rattle.wal_log.proofs.Passing.{leaves_pass}
use Rattle.wal_log.proofs.wal.Wal.switch.Goals as goal

pub returns-clause-leaves : goal.returns-clause-leaves
returns-clause-leaves g c = leaves_pass c.args.self.now c.args.pass.now c.seat-seated.result
    c.seat-seated.ensures.view c.switch_on-answer.new.seated c.switch_on-answer.ensures.rests
    c.seat-seated.ensures.table c.put_back.new.self c.put_back.ensures.view
    c.put_back.ensures.pass (λ faults. c.switch_on-answer.result ≡ Err (Down faults None))
    c.switch_on-answer.ensures.down_again

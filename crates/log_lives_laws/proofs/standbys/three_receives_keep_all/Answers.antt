-- One event behind another.
use Rattle.log_lives_laws.proofs.ReceiveEvents.{three_go_on}
use Rattle.log_lives_laws.proofs.standbys.three_receives_keep_all.Goals as goal

pub returns : goal.returns
returns g c = λ size es begun first killed second left third one two three killed_at crashed_at are.
    three_go_on g.D.Disk.tape g.D.Disk.moment g.D.Disk.faults g.O.Sink.taken g.O.Sink.faults size es begun first killed second left third one two three killed_at crashed_at are

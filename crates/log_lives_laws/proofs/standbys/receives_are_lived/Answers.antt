-- A standby is opened or not, and fed.
use Rattle.log_lives_laws.proofs.ReceiveEvents.{goes_on}
use Rattle.log_lives_laws.proofs.standbys.receives_are_lived.Goals as goal

pub returns : goal.returns
returns g c = λ size since es told disk disk_now call is lived.
    goes_on g.D.Disk.tape g.D.Disk.moment g.D.Disk.faults g.O.Sink.taken g.O.Sink.faults size es since told disk disk_now call is lived

-- Each frame is one event, and the harden the last.
use Rattle.standby_laws.proofs.ReceivedLaws.{lived_receiving}
use Rattle.standby_laws.proofs.laws.received_frames_are_lived.Goals as goal

pub returns : goal.returns
returns g c = λ size sysid since hardened cap from es told disk first last before after received lived few none_torn stands found receives sent.
    lived_receiving g.D.Disk.tape g.D.Disk.moment g.D.Disk.faults size sysid es since hardened told cap from disk first last before after received lived few none_torn stands found receives sent

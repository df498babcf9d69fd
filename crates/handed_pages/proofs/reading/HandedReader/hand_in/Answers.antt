use Rattle.std.proofs.Common.{refl}
use Rattle.handed_pages.proofs.ReadLaws.{reads_on}
use Rattle.handed_pages.proofs.reading.HandedReader.hand_in.Goals as goal

pub returns : goal.returns
returns g c size start found before is =
    reads_on g.L.HostLog.state size start c.args.self.now _ found before refl
    (c.hand_in.ensures.held g.L.HostLog.state before.held is)

use Rattle.handed_pages.proofs.ReadLaws.{reads_first}
use Rattle.handed_pages.proofs.laws.records_read_come_first.Goals as goal

pub returns : goal.returns
returns g c size start found reader read = reads_first g.L.HostLog.state size start reader found read

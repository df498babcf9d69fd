use Rattle.std.proofs.Common.{sym, ◌∙◌}
use Rattle.hosted_disk.specs.Hosted.{calls_queued}
use Rattle.hosted_disk.proofs.Untouched.{read_since}
use Rattle.hosted_disk.proofs.disk.HostedDiskDisk.read_page.Goals as goal

pub returns-in-Some-clause-reads : goal.returns-in-Some-clause-reads
returns-in-Some-clause-reads c =
    let disk = c.args.self.now in
    read_since ((disk.first).held).segments (calls_queued disk) disk.touched
    (record { segment = c.args.segment; page = c.args.page }) c.in-Some.there _
    (sym c.leaves.ensures ∙ c.if-not-leaves.false) disk.within c.in-Some.ensures

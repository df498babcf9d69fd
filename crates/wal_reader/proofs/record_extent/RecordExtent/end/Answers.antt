use Rattle.std.proofs.Common.{◌+◌, ◌-◌, ap, ◌∙◌}
use Rattle.wal_reader.proofs.StartLaws.{end_on_page}
use Rattle.wal_reader.proofs.record_extent.RecordExtent.end.Goals as goal

pub returns-then-next-position : goal.returns-then-next-position
returns-then-next-position c =
    let within = rw c.requires.start at c.if-next-position.true in
    ap (λ a. a + (c.args.next - c.args.self.at.position)) c.requires.start
    ∙ end_on_page c.args.geometry c.args.self.at.position c.args.next c.requires.valid c.if-position-next.true within

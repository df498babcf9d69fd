use Rattle.std.proofs.Common.{◌∙◌, sym}
use Rattle.wal_spelling.specs.Record.{plain_record}
use Rattle.wal_spelling.proofs.Acceptance.{accepted_record}
use Rattle.wal_spelling.proofs.body.Body.assemble_plain.Goals as goal

pub spell_plain-requires : goal.spell_plain-requires
spell_plain-requires c =
    let r = plain_record c.args.xid c.args.rmid c.args.info c.args.main.now in
    (accepted_record r (sym (c.refusal_of_plain.ensures c.args.xid) ∙ c.in_default.is)).short

use Rattle.std.proofs.Common.{◌∙◌, sym}
use Rattle.wal_spelling.proofs.Acceptance.{accepted_record}
use Rattle.wal_spelling.proofs.body.Body.assemble.Goals as goal

pub after_header-requires-clause-blocks : goal.after_header-requires-clause-blocks
after_header-requires-clause-blocks c = (accepted_record c.args.r.now (sym c.refusal.ensures ∙ c.in_default.is)).well_formed.blocks

pub after_header-requires-clause-short : goal.after_header-requires-clause-short
after_header-requires-clause-short c = (accepted_record c.args.r.now (sym c.refusal.ensures ∙ c.in_default.is)).short

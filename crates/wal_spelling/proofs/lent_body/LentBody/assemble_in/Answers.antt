use Rattle.std.proofs.Common.{◌∙◌, sym}
use Rattle.wal_spelling.proofs.Acceptance.{accepted_record}
use Rattle.wal_spelling.proofs.lent_body.LentBody.assemble_in.Goals as goal

pub spell_after_header-requires-clause-blocks : goal.spell_after_header-requires-clause-blocks
spell_after_header-requires-clause-blocks c = (accepted_record c.args.r.now (sym c.refusal.ensures ∙ c.in_default.is)).well_formed.blocks

pub spell_after_header-requires-clause-short : goal.spell_after_header-requires-clause-short
spell_after_header-requires-clause-short c = (accepted_record c.args.r.now (sym c.refusal.ensures ∙ c.in_default.is)).short

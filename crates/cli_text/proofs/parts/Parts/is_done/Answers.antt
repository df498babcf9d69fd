use Rattle.cli_text.proofs.Cuts.{none_left}
use Rattle.cli_text.proofs.parts.Parts.is_done.Goals as goal

pub returns : goal.returns
returns c = rw (← c.self.view_is) (none_left c.self.inside.separator c.self.inside.rest c.is_none.result c.is_none.ensures)

use Rattle.std.proofs.Common.{rules}
use Rattle.cli_line.specs.Texts.{help}
use Rattle.cli_line.proofs.texts.help_text.Goals as goal

pub returns : goal.returns
unfolding help
returns c = search rules

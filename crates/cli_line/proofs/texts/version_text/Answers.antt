use Rattle.std.proofs.Common.{rules}
use Rattle.cli_line.specs.Texts.{version}
use Rattle.cli_line.proofs.texts.version_text.Goals as goal

pub returns : goal.returns
unfolding version
returns c = search rules

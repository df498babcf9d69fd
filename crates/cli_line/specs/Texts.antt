-- What is printed for who asks for help or for the version.
use Rattle.std.specs.Prelude.{ℕ, List}
use Rattle.cli_line.specs.declared.texts.TheConstants.{HELP, VERSION_LINE}

unfoldable pub help : List ℕ
help = HELP.now

unfoldable pub version : List ℕ
version = VERSION_LINE.now

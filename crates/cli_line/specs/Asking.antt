-- What the words of a command line ask for.
use Rattle.std.specs.Prelude.{Bool, false, List, [], ◌∷◌, Option, Some, None, codes, if◌then◌else◌}
use Rattle.std.specs.Option.{option_map_or}
use Rattle.std.specs.Str.{bytes_eq}
use Rattle.clap.specs.Words.{Kinds, Row, Text, fault_of, first_of, matches_of}
use Rattle.clap.specs.declared.error.kind.ErrorKind.{ErrorKind}
use Rattle.clap.specs.declared.error.kind.ErrorKind.TheVariants.{DisplayHelp, DisplayVersion}
use Rattle.cli_line.specs.Given.{Given, IsInRange, command_of}
use Rattle.cli_line.specs.declared.commands.Command.{Command as Task}
use Rattle.cli_line.specs.declared.asking.Request.{Request}
use Rattle.cli_line.specs.declared.asking.Request.TheVariants.{Command, Help, Version, Nothing}
use Rattle.cli_line.specs.Syntax.{declared_command}

-- the option without a value is given
abbrev pub is_set : Text → List Row → Bool
is_set name rows = option_map_or (λ value. bytes_eq value (codes "true")) (first_of name rows) false

-- the words given, as `clap` matches them
abbrev pub given_in : List Row → Given
given_in rows = record {
  command = first_of (codes "command") rows;
  topic = first_of (codes "topic") rows;
  seg = first_of (codes "seg") rows;
  ring = first_of (codes "ring") rows;
  cap = first_of (codes "cap") rows;
  list = is_set (codes "list") rows;
  writer = first_of (codes "writer") rows;
  append = is_set (codes "append") rows;
  crash = first_of (codes "crash") rows;
  from = first_of (codes "from") rows;
  rmgr = first_of (codes "rmgr") rows;
  xid = first_of (codes "xid") rows;
  relation = first_of (codes "relation") rows;
  block = first_of (codes "block") rows;
  fork = first_of (codes "fork") rows;
  fullpage = is_set (codes "fullpage") rows;
  start = first_of (codes "start") rows;
  end = first_of (codes "end") rows;
  limit = first_of (codes "limit") rows;
  quiet = is_set (codes "quiet") rows;
  stats = is_set (codes "stats") rows;
  times = is_set (codes "times") rows;
}

abbrev pub command_or_nothing : Option Task → Request
command_or_nothing (Some command) = Command command
command_or_nothing None = Nothing

abbrev pub is_help : Option Text → Bool
is_help name = option_map_or (λ word. bytes_eq word (codes "help")) name false

-- what the words ask for that `clap` takes: help by its name, or the command that they make
abbrev pub request_of : Given → Request
request_of given =
    if is_help given.command then Help else command_or_nothing (command_of given)

-- what words ask for that it does not take, by the kind of its answer
abbrev pub request_by : ErrorKind → Request
request_by DisplayHelp = Help
request_by DisplayVersion = Version
request_by kind = Nothing

abbrev pub request_from : Kinds → List Row → Request
request_from [] rows = request_of (given_in rows)
request_from (kind ∷ kinds) rows = request_by kind

-- what the words of a command line ask for: the command that they make as `clap` states the
-- matches of the declared command, and nothing where it states none or they make none
unfoldable pub asks : List Text → Request
asks words = request_from (fault_of declared_command words) (matches_of declared_command words)

-- a command that is asked for has numbers in their ranges
abbrev pub AsksInRange : Request → Type 0
AsksInRange (Command command) = IsInRange command
AsksInRange Help = Unit {0}
AsksInRange Version = Unit {0}
AsksInRange Nothing = Unit {0}

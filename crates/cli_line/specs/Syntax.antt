-- The command that is declared to `clap`: one command with all options, whose first word that is
-- no option is the name of what is to be done.
use Rattle.std.specs.Prelude.{ℕ, true, List, [], ◌∷◌, ◌++◌, Some, codes, fold}
use Rattle.clap.specs.Words.{App, Rule, Text, new_app, new_rule, with_rule}
use Rattle.clap.specs.Simple.{on_top}
use Rattle.clap.specs.declared.builder.action.ArgAction.TheVariants.{SetTrue}

-- an option with a value: `--name`
abbrev pub long_rule : Text → Rule
long_rule name = record (new_rule name) { long = Some name }

-- an option with a value: `--name` or its letter
abbrev pub option_rule : Text → ℕ → Rule
option_rule name letter = record (new_rule name) { long = Some name; short = Some letter }

-- an option without one
abbrev pub switch_rule : Text → ℕ → Rule
switch_rule name letter = record (option_rule name letter) { action = Some SetTrue }

-- an option without one: `--name`
abbrev pub long_switch_rule : Text → Rule
long_switch_rule name = record (long_rule name) { action = Some SetTrue }

-- the command's name, and what may stand behind it
abbrev pub word_rules : List Rule
word_rules = new_rule (codes "command") ∷ new_rule (codes "topic") ∷ []

-- the log's shape: the segments' size, which all commands take, and what `run`, `gen` and `replay`
-- take, of which `receive` takes the last
abbrev pub shape_rules : List Rule
shape_rules =
    long_rule (codes "seg") ∷ long_rule (codes "ring") ∷ long_rule (codes "cap") ∷ []

-- what `run` and `gen` alone take, what `run` alone takes, what `replay` alone, and what `send`
-- alone
abbrev pub script_rules : List Rule
script_rules =
    long_switch_rule (codes "list") ∷ long_rule (codes "writer") ∷ long_switch_rule (codes "append")
    ∷ long_rule (codes "crash") ∷ long_rule (codes "from") ∷ []

-- what `dump` takes: -r, -x and -w
abbrev pub record_rules : List Rule
record_rules =
    option_rule (codes "rmgr") 114 ∷ option_rule (codes "xid") 120
    ∷ switch_rule (codes "fullpage") 119 ∷ []

-- -R, -B and -F
abbrev pub block_rules : List Rule
block_rules =
    option_rule (codes "relation") 82 ∷ option_rule (codes "block") 66
    ∷ option_rule (codes "fork") 70 ∷ []

-- -s, -e and -n
abbrev pub extent_rules : List Rule
extent_rules =
    option_rule (codes "start") 115 ∷ option_rule (codes "end") 101
    ∷ option_rule (codes "limit") 110 ∷ []

-- -q, -z and `--times`
abbrev pub form_rules : List Rule
form_rules =
    switch_rule (codes "quiet") 113 ∷ switch_rule (codes "stats") 122
    ∷ long_switch_rule (codes "times") ∷ []

-- all of them
abbrev pub declared_rules : List Rule
declared_rules =
    word_rules ++ shape_rules ++ script_rules ++ record_rules ++ block_rules ++ extent_rules
    ++ form_rules

-- the command before it has any: `--help` and `--version` come with it
abbrev pub start_command : App
start_command = on_top (λ s. record s { has_version = true }) (new_app (codes "pgwal"))

-- the command that is declared
abbrev pub declared_command : App
declared_command = fold with_rule start_command declared_rules

use Rattle.cli_line.proofs.PlainWords.{plain_words_ask, plain_words_ask_for_commands}
use Rattle.cli_line.proofs.laws.plain_words_ask_for_what_they_spell.Goals as goal

pub returns-clause-spelled : goal.returns-clause-spelled
returns-clause-spelled c = plain_words_ask

pub returns-clause-command : goal.returns-clause-command
returns-clause-command c = plain_words_ask_for_commands

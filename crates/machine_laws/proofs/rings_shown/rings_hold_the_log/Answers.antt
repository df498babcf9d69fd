use Rattle.machine_laws.proofs.ShownLaws.{words_are_logs, entries_are_copied, pages_are_present, mappers_are_next}
use Rattle.machine_laws.proofs.rings_shown.rings_hold_the_log.Goals as goal

pub returns-clause-words : goal.returns-clause-words
returns-clause-words c = λ first. words_are_logs

pub returns-clause-entries : goal.returns-clause-entries
returns-clause-entries c = λ first. entries_are_copied

pub returns-clause-pages : goal.returns-clause-pages
returns-clause-pages c = λ first. pages_are_present

pub returns-clause-mappers : goal.returns-clause-mappers
returns-clause-mappers c = λ first. mappers_are_next

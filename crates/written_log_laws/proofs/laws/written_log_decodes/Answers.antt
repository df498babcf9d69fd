use Rattle.written_log_laws.proofs.WrittenLogLaws.{written_log_decodes, own_pages_hold_log}
use Rattle.written_log_laws.proofs.laws.written_log_decodes.Goals as goal

pub returns-clause-decodes : goal.returns-clause-decodes
returns-clause-decodes c = written_log_decodes

pub returns-clause-own_pages : goal.returns-clause-own_pages
returns-clause-own_pages c = own_pages_hold_log

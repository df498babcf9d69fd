use Rattle.wal_record.proofs.SpellingReads.{logged_reads, readable_reads, spelling_spells}
use Rattle.wal_record.proofs.laws.spelling_reads.Goals as goal

pub returns : goal.returns
returns c = record { accepted = spelling_spells; read = readable_reads; logged = logged_reads }

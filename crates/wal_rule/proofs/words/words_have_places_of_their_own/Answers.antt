use Rattle.std.proofs.Common.{sym}
use Rattle.wal_rule.proofs.WordPlaceLaws.{place_apart, word_stored, word_there}
use Rattle.wal_rule.proofs.words.words_have_places_of_their_own.Goals as goal

pub returns-clause-apart : goal.returns-clause-apart
returns-clause-apart c = place_apart

pub returns-clause-load : goal.returns-clause-load
returns-clause-load c = λ memory number. sym (word_there memory number)

pub returns-clause-store : goal.returns-clause-store
returns-clause-store c = λ memory number value long. word_stored memory long number value

use Rattle.wal_spelling.proofs.WordRuns.{three_words}
use Rattle.wal_spelling.proofs.body.Body.header_words.Goals as goal

pub returns-clause-words : goal.returns-clause-words
returns-clause-words c = three_words c.args.self.now c.args.prev.0 _ _ _ c.header_word.ensures c.header_word-2.ensures c.header_word-3.ensures

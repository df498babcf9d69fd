use Rattle.std.proofs.Common.{◌≡◌, ℕ, ◌+◌, List, length, ap, ◌∙◌, arith}
use Rattle.wal_spelling.specs.Spelling.{filled, word_at}
use Rattle.wal_spelling.proofs.WordRuns.{word_of_bytes, words_from_header}
use Rattle.wal_spelling.proofs.body.Body.put_from_header.Goals as goal

pub returns-in-Some : goal.returns-in-Some
returns-in-Some c =
    words_from_header c.args.self.now c.args.prev.0 c.header_words.result c.put_words_of.new.words (length c.args.words.now) c.header_words.ensures.three c.requires c.header_words.ensures.words
    (λ k lt. c.put_words_of.ensures k (omega (arith, c.in-Some.ensures.cases.2)) ∙ ap (λ (bytes : List ℕ). word_of_bytes bytes k) c.after_header.ensures.bytes)

pub returns-in-None : goal.returns-in-None
returns-in-None c = λ k lt.
    let at : 0 + k ≡ k = omega arith in
    c.put_each.ensures k lt ∙ ap (word_at (filled c.args.self.now c.args.prev.0)) at

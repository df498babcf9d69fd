use Rattle.wal_page.proofs.EntryWordLaws.{numbered_word-owned, owned_word-numbered}
use Rattle.wal_page.proofs.laws.owned_words_are_numbered.Goals as goal

pub returns : goal.returns
returns c = record {
  owned = λ size e k valid whole lt. numbered_word-owned size valid e whole k lt;
  each = λ size e address valid whole at_word owns. owned_word-numbered size valid e whole address at_word owns;
}

use Rattle.wal_page.proofs.LogWordLaws.{log_word-entry, entry_word-header_word, log_word-unowned, log_word-behind}
use Rattle.wal_page.proofs.laws.words_are_their_owners.Goals as goal

pub returns : goal.returns
returns c = record {
  entry = λ size sysid front back e valid chain address whole owns. log_word-entry size sysid valid front back e chain address whole owns;
  header = λ size sysid a start prev page n valid within. entry_word-header_word size sysid valid a start prev page n within;
  unowned = λ size sysid es address valid chain whole none. log_word-unowned size sysid valid es chain address whole none;
  behind = λ size sysid es address valid chain behind. log_word-behind size sysid valid es chain address behind;
}

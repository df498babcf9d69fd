use Rattle.wal_page.proofs.LogByteLaws.{log_byte_push}
use Rattle.wal_page.proofs.LogWordLaws.{log_word_push}
use Rattle.wal_page.proofs.laws.further_entries_change_only_their_own.Goals as goal

pub returns : goal.returns
returns c = record {
  bytes = λ size sysid es e address at not_owned. log_byte_push size sysid es e at address not_owned;
  words = λ size sysid es e address valid chain at whole not_owned. log_word_push size sysid valid es e chain at address whole not_owned;
}

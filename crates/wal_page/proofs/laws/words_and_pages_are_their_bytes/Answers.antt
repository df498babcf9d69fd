use Rattle.wal_page.proofs.LogByteLaws.{log_byte-fits}
use Rattle.wal_page.proofs.LogWordLaws.{log_word_byte, IsLogPage-from_words, IsLogPage-from_numbers}
use Rattle.wal_page.proofs.laws.words_and_pages_are_their_bytes.Goals as goal

pub returns : goal.returns
returns c = record {
  fit = λ size sysid es address chain. log_byte-fits size sysid es chain address;
  words = λ size sysid es address k chain lt. log_word_byte size sysid es chain address k lt;
  page = λ size sysid es page bytes chain long words. IsLogPage-from_words size sysid es chain page bytes long words;
  page_by_numbers = λ size sysid es page bytes chain long fits words. IsLogPage-from_numbers size sysid es chain page bytes long fits words;
}

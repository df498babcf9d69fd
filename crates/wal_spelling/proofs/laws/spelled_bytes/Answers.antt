use Rattle.wal_spelling.proofs.SpellingLaws.{ready, crc_below, bytes_filled, word_bytes}
use Rattle.wal_spelling.proofs.laws.spelled_bytes.Goals as goal

pub returns : goal.returns
returns c = record { ready = ready; crc = crc_below; bytes = bytes_filled; words = word_bytes }

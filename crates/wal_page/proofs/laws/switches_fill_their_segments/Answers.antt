use Rattle.wal_page.proofs.LogWordLaws.{log_word-behind_switch}
use Rattle.wal_page.proofs.OwnerLaws.{start-behind_switch}
use Rattle.wal_page.proofs.PaddingLaws.{room_at-inserted, finish_of-switch_record}
use Rattle.wal_page.proofs.laws.switches_fill_their_segments.Goals as goal

pub returns : goal.returns
returns c = record {
  inserted = room_at-inserted;
  next = λ size front back e next valid chain switch. start-behind_switch size valid front back e next chain switch;
  finish = λ size e valid whole switch. finish_of-switch_record size valid e whole switch;
  zeros = λ size sysid front back e valid chain switch address whole behind within. log_word-behind_switch size sysid valid front back e chain switch address whole behind within;
}

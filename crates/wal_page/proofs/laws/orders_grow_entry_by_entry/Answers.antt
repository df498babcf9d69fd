use Rattle.wal_page.proofs.OrderLaws.{rooms_of_push, prev_of_push, prev_in-entry, IsChained_push}
use Rattle.wal_page.proofs.StreamLaws.{stream_of_push}
use Rattle.wal_page.proofs.laws.orders_grow_entry_by_entry.Goals as goal

pub returns : goal.returns
returns c = record {
  rooms = rooms_of_push;
  prev = prev_of_push;
  named_before = prev_in-entry;
  stream = stream_of_push;
  chained = IsChained_push;
}

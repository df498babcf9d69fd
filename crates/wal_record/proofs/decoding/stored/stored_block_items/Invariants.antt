use Rattle.std.proofs.Common.{◌≡◌, ℕ, ◌*◌, ◌≤◌, length, None, []}
use Rattle.std.specs.List.{sum_by}
use Rattle.wal_record.specs.Reading.{least_id, payload_len}
use Rattle.wal_record.specs.Stored.{stored_block_items}
use Rattle.wal_record.specs.Unread.{cursor_of}
use Rattle.wal_record.proofs.decoding.stored.stored_block_items.Given as goal

abbrev pub invariant-loop-before : goal.invariant-loop-before
invariant-loop-before l = record {
  same : (n : ℕ) × ((length l.unread.bytes.now ≤ n) × (stored_block_items n l.before l.heads.items (cursor_of l.unread) ≡ stored_block_items (length l.start.bytes.now) None [] (cursor_of l.start)));
  promised : l.unread.owed ≡ sum_by payload_len l.heads.items;
  few : least_id l.before ≤ 33;
  owed_fits : l.unread.owed ≤ least_id l.before * 131070;
}

abbrev pub decreases-loop-before : goal.decreases-loop-before
decreases-loop-before l = length l.unread.bytes.now

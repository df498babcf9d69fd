use Rattle.std.proofs.Common.{◌≡◌, ◌≤◌, ◌++◌, length, drop}
use Rattle.std.specs.List.{sum_by}
use Rattle.wal_record.specs.Reading.{blocks_read, main_of, payload_len}
use Rattle.wal_record.proofs.decoding.payload.put_blocks.Given as goal

abbrev pub invariant-loop-head : goal.invariant-loop-head
invariant-loop-head l = record {
  long : sum_by payload_len (drop l.head-index l.heads) ≤ length l.rest;
  so_far : blocks_read l.heads l.fn.payload ≡ l.blocks ++ blocks_read (drop l.head-index l.heads) l.rest;
  main : main_of l.heads l.fn.payload ≡ main_of (drop l.head-index l.heads) l.rest;
}

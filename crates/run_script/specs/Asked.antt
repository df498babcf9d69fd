-- What the lines of a script ask for, in terms of records.
use Rattle.std.specs.Prelude.{ℕ}
use Rattle.wal_types.specs.declared.record.Record.{Record}

-- insert a record, insert a commit's record and flush to its end, flush to the end of the backend's
-- last record, insert a commit's record and answer it ahead of the disk, flush behind what was
-- answered so, or let the segment end here
pub data Asked : Type 0 where
  Insert : Record → Asked
  Commit : Record → Asked
  Flush : Asked
  CommitAsync : Record → Asked
  WriteBehind : Asked
  Switch : Asked

-- what a line asks for, by its number
pub record AskedLine : Type 0 where
  pub number : ℕ
  pub asked : Asked

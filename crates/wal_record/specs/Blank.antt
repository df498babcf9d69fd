-- A record that says nothing.
use Rattle.std.specs.Prelude.{None, []}
use Rattle.wal_types.specs.declared.record.Record.{Record}

abbrev pub blank_record : Record
blank_record = record {
  xid = record { 0 = 0 };
  rmid = 0;
  info = 0;
  origin = None;
  top_xid = None;
  blocks = [];
  main = [];
}

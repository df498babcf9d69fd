-- A record's headers as the code keeps them.
use Rattle.std.specs.Prelude.{List}
use Rattle.wal_record.specs.declared.decoding.keeping.Headers as code
use Rattle.wal_record.specs.declared.head.BlockHead.{BlockHead}
use Rattle.wal_record.specs.Reading.{HeadersRead}

abbrev pub headers_said : List BlockHead → code.Headers → HeadersRead
headers_said heads h = record {
  blocks = heads;
  origin = h.origin;
  top_xid = h.top_xid;
  payload = h.payload.now;
}

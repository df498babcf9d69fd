-- The fields of a spelled record, as a reader finds them.
use Rattle.std.specs.Prelude.{◌≡◌, ℕ, List, take, drop, slice_index}
use Rattle.std.specs.Int.{w32, w64}
use Rattle.wal_spelling.specs.Layout.{crc_offset, info_offset, manager_offset, prev_offset, record_header_size, size_offset, xid_offset}
use Rattle.wal_spelling.specs.Spelling.{Assembled, assembled_size, header_front, crc_of}
use Rattle.wal_spelling.specs.Numbers.{number_at}

-- these bytes have the header of a record behind one that starts at `prev`, and what follows it
pub record HasHeader (bytes : List ℕ) (a : Assembled) (prev : ℕ) : Type 0 where
  pub size : number_at w32 bytes size_offset ≡ assembled_size a
  pub xid : number_at w32 bytes xid_offset ≡ a.xid
  pub prev_is : number_at w64 bytes prev_offset ≡ prev
  pub info : slice_index bytes info_offset ≡ a.info
  pub manager : slice_index bytes manager_offset ≡ a.rmid
  pub crc : number_at w32 bytes crc_offset ≡ crc_of a prev
  pub front : take crc_offset bytes ≡ header_front a prev
  pub after_header_is : drop record_header_size bytes ≡ a.after_header

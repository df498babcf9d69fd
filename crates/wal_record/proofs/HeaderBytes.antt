-- A record's manager and info are bytes of its header.
use Rattle.std.proofs.Common.{◌≡◌, ℕ, eqb, ltb, ◌||◌, not, List, length, get_or, drop, Ok, sym, ap}
use Rattle.wal_types.specs.declared.record.Record.{Record}
use Rattle.wal_record.specs.declared.fault.RecErr.TheVariants.{Malformed}
use Rattle.wal_record.specs.declared.fault.RecKind.TheVariants as kinds
use Rattle.std.specs.Int.{w32}
use Rattle.wal_spelling.specs.Numbers.{number_at}
use Rattle.wal_spelling.specs.Record.{is_free_manager}
use Rattle.wal_record.specs.Reading.{HeadersRead, HeaderCursor, headers_of, items_of, reading_of, record_of}
use Rattle.wal_record.proofs.Steps.{bind_ok, not_refused, ok_is}

pub record HasHeaderOf (bytes : List ℕ) (r : Record) : Type 0 where
  pub manager : r.rmid ≡ get_or bytes 17 0
  pub info : r.info ≡ get_or bytes 16 0

of_items : (bytes : List ℕ) (r : Record) → items_of bytes ≡ Ok r → HasHeaderOf bytes r
unfolding items_of
of_items bytes r e =
    let start : HeaderCursor = record { at = 24; rest = drop 24 bytes; owed = 0 } in
    let a = bind_ok (headers_of start) (λ (h : HeadersRead). Ok (record_of bytes h)) r e in
    let same = ok_is (record_of bytes a.0) r a.2 in
    record { manager = sym (ap (λ (r : Record). r.rmid) same); info = sym (ap (λ (r : Record). r.info) same) }

pub header_of : (bytes : List ℕ) (r : Record) → reading_of bytes ≡ Ok r → HasHeaderOf bytes r
unfolding reading_of
header_of bytes r e =
    let length_test = ltb (length bytes) 24 || not (eqb (number_at w32 bytes 0) (length bytes)) in
    let a = not_refused length_test (Malformed 0 kinds.Length) _ r e in
    let b = not_refused (is_free_manager (get_or bytes 17 0)) (Malformed 17 kinds.Rmgr) _ r a.1 in
    of_items bytes r b.1

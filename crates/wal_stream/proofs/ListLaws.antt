-- A reader whose records are read to the end of the log, one after another.
use Rattle.std.proofs.Common.{◌≡◌, ℕ, List, [], ◌∷◌, ◌++◌, Option, Some, None, Ok, Err, sym, refl, arith}
use Rattle.std.specs.Prelude.{IfSome}
use Rattle.byte_position.specs.Geometry.{IsSegmentSize}
use Rattle.byte_position.proofs.EndAddresses.{end_address_of-le_address_of}
use Rattle.byte_position.proofs.Rising.{address_of-bound}
use Rattle.byte_position.proofs.SegmentSizes.{segment_size_in_pages}
use Rattle.byte_position.proofs.Words.{end_address_of-mod_word}
use Rattle.segment_disk.specs.Tape.{Tape}
use Rattle.wal_types.specs.declared.lsn.Lsn.{Lsn}
use Rattle.wal_reader.specs.LogReader.{StandsBehindRecord}
use Rattle.wal_reader.specs.SoFar.{SaysOfLog}
use Rattle.wal_reader.specs.Standings.{IsOnWay}
use Rattle.wal_reader.specs.declared.found.FoundRecord.{FoundRecord}
use Rattle.wal_reader.specs.declared.standing.ReadErr.{ReadErr}
use Rattle.wal_reader.specs.declared.standing.ReadErr.TheVariants.{Memory, Disk, Stopped}
use Rattle.wal_reader.specs.declared.standing.Standing.{Standing}
use Rattle.wal_reader.specs.declared.standing.Standing.TheVariants as standings
use Rattle.wal_reader.specs.declared.standing.Step.TheVariants.{End}
use Rattle.written_log_laws.specs.FoundLog.{end_behind}
use Rattle.wal_stream.specs.Sending.{EndsAt, IsListRead, IsWordEnd}

-- ---- what the steps of a reader say of where its records end

end_behind-last : (end : ℕ) (given : List FoundRecord) (f : FoundRecord)
    → end_behind end (given ++ f ∷ []) ≡ f.head.end.0
end_behind-last end [] f = refl
end_behind-last end (x ∷ given) f = end_behind-last x.head.end.0 given f

-- with a record more they end where it ends
pub ends_with_more : (size : ℕ) (given : List FoundRecord) (f : FoundRecord)
    → f.head.end.0 ≡ end_behind size (given ++ f ∷ [])
ends_with_more size given f = sym (end_behind-last size given f)

module _ (size end : ℕ) (found : List FoundRecord) where
  pub list_ended : (tape : Option Tape) (at : Lsn) → end ≡ end_behind size found
      → IfSome tape (SaysOfLog size size None found (Ok (End at))) → IfSome tape (EndsAt size end)
  list_ended None at end_is says = tt
  list_ended (Some t) at end_is says =
      record { found = found; at = at; decodes = says; end_is = end_is }

  pub list_unread : (tape : Option Tape) (e : ReadErr)
      → IfSome tape (SaysOfLog size size None found (Err e)) → IfSome tape (IsListRead size (Err e))
  list_unread None e says = tt
  list_unread (Some t) Memory says = tt
  list_unread (Some t) (Disk faults) says = tt
  list_unread (Some t) (Stopped reason) says = record { found = found; decodes = says }

-- ---- where a log may end

module _ (size : ℕ) (valid : IsSegmentSize size) where
  pub IsWordEnd-start : IsWordEnd size
  IsWordEnd-start =
      let whole = segment_size_in_pages size valid in
      (omega (arith, whole.0), omega (arith, whole.0, whole.2))

  pub IsWordEnd-behind : (standing : Standing) (f : FoundRecord) → IsOnWay standing → StandsBehindRecord size f standing → IsWordEnd f.head.end.0
  IsWordEnd-behind standings.NotBegun f on behind = absurd behind
  IsWordEnd-behind (standings.At at) f on behind =
      let bound = end_address_of-le_address_of size valid at.position in
      (omega (arith, end_address_of-mod_word size valid at.position on.0, behind.0), omega (arith, bound, address_of-bound size valid at.position, behind.0, on.1))
  IsWordEnd-behind (standings.Stopped stop) f on behind = absurd behind

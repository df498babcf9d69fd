-- A reader whose records are read one after another, and where they end.
use Rattle.std.proofs.Common.{◌≡◌, ℕ, ◌+◌, ◌*◌, ◌<◌, ◌≤◌, ◌⊎◌, List, [], ◌∷◌, ◌++◌, Option, None, Result, inr, refl, sym, ap, subst, ◌∙◌, arith}
use Rattle.std.specs.Prelude.{IfSome}
use Rattle.std.proofs.lemmas.List.{length-append}
use Rattle.byte_position.specs.Geometry.{IsSegmentSize}
use Rattle.byte_position.specs.Position.{first_position}
use Rattle.segment_disk.specs.Tape.{Tape}
use Rattle.wal_types.specs.declared.lsn.Lsn.{Lsn}
use Rattle.wal_page.proofs.WordPositions.{end_address_of-first_position, first_position-whole}
use Rattle.wal_reader.specs.LogReader.{StandsBehindRecord}
use Rattle.wal_reader.specs.SoFar.{LogBegins, SaysOfLog}
use Rattle.wal_reader.specs.Standings.{IsOnWay}
use Rattle.wal_reader.specs.declared.found.DamageKind.TheVariants.{Missing}
use Rattle.wal_reader.specs.declared.found.FoundRecord.{FoundRecord}
use Rattle.wal_reader.specs.declared.found.Stopped.TheVariants.{Damaged}
use Rattle.wal_reader.specs.declared.standing.ReadErr.{ReadErr}
use Rattle.wal_reader.specs.declared.standing.Standing.{Standing}
use Rattle.wal_reader.specs.declared.standing.Standing.TheVariants.{NotBegun, At, Stopped}
use Rattle.wal_reader.specs.declared.standing.Step.{Step}
use Rattle.written_log_laws.specs.FoundLog.{end_behind, last_start_behind}
use Rattle.flush_core.proofs.SettleCalls.{lifted}
use Rattle.found_log.specs.declared.fault.FindFault.{FindFault}
use Rattle.found_log.specs.declared.fault.FindFault.TheVariants.{Foreign}
use Rattle.found_log.specs.declared.reading.RecordsEnd.{RecordsEnd}
use Rattle.found_log.specs.Found.{EndsWell, judged}
use Rattle.found_log.specs.Reading.{EndsRecords, IsReadLog, IsUnread, MayEndAt}
use Rattle.wal_reader.proofs.SoFarLaws.{last_of_first}
use Rattle.found_log.proofs.ReadLaws.{ended_as, ends_well, refused_as, says_unread}

-- ---- where records end

end_behind_push : (end : ℕ) (records : List FoundRecord) (f : FoundRecord)
    → end_behind end (records ++ f ∷ []) ≡ f.head.end.0
end_behind_push end [] f = refl
end_behind_push end (r ∷ records) f = end_behind_push r.head.end.0 records f

last_start_behind_push : (start : ℕ) (records : List FoundRecord) (f : FoundRecord)
    → last_start_behind start (records ++ f ∷ []) ≡ f.head.start.0
last_start_behind_push start [] f = refl
last_start_behind_push start (r ∷ records) f = last_start_behind_push r.head.start.0 records f

-- with a record more
abbrev pub IsEndWith : FoundRecord → RecordsEnd → RecordsEnd → Type 0
IsEndWith f old new =
    (new.count ≡ old.count + 1) × (new.end ≡ f.head.end) × (new.last_start ≡ f.head.start)

module _ (size made : ℕ) where
  -- where none is
  pub may_end_first : IsSegmentSize size → MayEndAt size made size
  may_end_first valid = record {
    position = first_position size;
    whole = first_position-whole size valid;
    is_end = end_address_of-first_position size valid;
    from = omega arith;
    upto = omega arith;
  }

  -- behind a record that a reader gave
  pub may_end_behind : (standing : Standing) (f : FoundRecord) → IsOnWay standing
      → StandsBehindRecord size f standing → size ≤ f.head.end.0 → f.head.end.0 ≤ made * size + size
      → MayEndAt size made f.head.end.0
  may_end_behind NotBegun f on behind from upto = absurd behind
  may_end_behind (At at) f on behind from upto = record {
    position = at.position;
    whole = on.0;
    is_end = behind.0;
    from = from;
    upto = upto;
  }
  may_end_behind (Stopped stop) f on behind from upto = absurd behind

  pub ends_with_more : (records : List FoundRecord) (old new : RecordsEnd) (f : FoundRecord)
      → EndsRecords size made records old → MayEndAt size made f.head.end.0 → IsEndWith f old new
      → EndsRecords size made (records ++ f ∷ []) new
  ends_with_more records old new f ends may so = record {
    count_is = omega (arith, so.0, ends.count_is, length-append records (f ∷ []));
    end_is = ap (λ (l : Lsn). l.0) so.1 ∙ sym (end_behind_push size records f);
    last_start_is = ap (λ (l : Lsn). l.0) so.2 ∙ sym (last_start_behind_push 0 records f);
    may_end = subst (MayEndAt size made) (sym (ap (λ (l : Lsn). l.0) so.1)) may;
  }

-- ---- what was read

-- a record ends before segment 1, or behind the segments that are there
abbrev pub IsOutside : ℕ → ℕ → FoundRecord → Type 0
IsOutside size made f = (f.head.end.0 < size) ⊎ (made * size + size < f.head.end.0)

module _ (size made : ℕ) (tape : Option Tape) (records : List FoundRecord) where
  -- a record more was read, which ends outside of the segments that are there
  pub read_outside : (f : FoundRecord) (fault : FindFault)
      → (fault ≡ Foreign (Damaged f.head.start Missing)) × IsOutside size made f
      → IfSome tape (LogBegins size size None (records ++ f ∷ []))
      → IfSome tape (IsUnread size made fault)
  read_outside f fault refused begins =
      lifted tape (LogBegins size size None (records ++ f ∷ [])) (IsUnread size made fault)
      (λ (t : Tape) begins. subst (λ (fault : FindFault). IsUnread size made fault t)
      (sym refused.0)
      (inr (record {
        before = records;
        last = f;
        others = begins.others;
        answer = begins.answer;
        decodes = last_of_first records f begins;
        outside = refused.1;
      }))) begins

  -- all are read
  pub read_all : (end : RecordsEnd) → EndsRecords size made records end
      → (step : Result Step ReadErr) → judged step ≡ ended_as
      → IfSome tape (SaysOfLog size size None records step) → IsReadLog size made tape end
  read_all end ends step said says = record {
    records = records;
    ends = ends;
    tells = lifted tape (SaysOfLog size size None records step) (EndsWell size records)
        (ends_well size records step said) says;
  }

  pub read_refused : (step : Result Step ReadErr) (fault : FindFault)
      → judged step ≡ refused_as fault → IfSome tape (SaysOfLog size size None records step)
      → IfSome tape (IsUnread size made fault)
  read_refused step fault said says =
      lifted tape (SaysOfLog size size None records step) (IsUnread size made fault)
      (says_unread size made records step fault said) says

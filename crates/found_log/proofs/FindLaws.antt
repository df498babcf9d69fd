-- What was read of a disk's log is a log that was found.
use Rattle.std.proofs.Common.{◌≡◌, ℕ, ◌%◌, ◌≤◌, List, Option, Some, None, sym, ap, ◌∙◌, arith}
use Rattle.std.specs.Prelude.{IfSome}
use Rattle.byte_position.specs.Geometry.{IsSegmentSize}
use Rattle.byte_position.specs.Position.{end_address_of, first_position, position_of}
use Rattle.byte_position.proofs.EndAddresses.{le-position_of, position_of-end_address_of}
use Rattle.byte_position.proofs.Words.{end_address_of-mod_word}
use Rattle.segment_disk.specs.Tape.{Tape}
use Rattle.wal_page.proofs.WordPositions.{end_address_of-first_position}
use Rattle.wal_reader.specs.declared.found.FoundRecord.{FoundRecord}
use Rattle.found_log.specs.declared.fault.FindFault.TheVariants.{Disk}
use Rattle.found_log.specs.declared.finding.FoundLog.{FoundLog}
use Rattle.found_log.specs.declared.reading.RecordsEnd.{RecordsEnd}
use Rattle.found_log.specs.Found.{CountsSegments, EndsWell, FindsLog, IsDiskLog, RefusesLog, place_of_log}
use Rattle.found_log.specs.Reading.{IsReadLog}
use Rattle.found_log.specs.Words.{words_upto}
use Rattle.found_log.proofs.WordLaws.{AreEndWords, page_is_below, words_are_read}

abbrev pub records_end : FoundLog → RecordsEnd
records_end log = record { count = log.count; end = log.end; last_start = log.last_start }

module _ (size cap : ℕ) (valid : IsSegmentSize size) (log : FoundLog) where
  abbrev end : ℕ
  end = log.end.0

  abbrev page : List ℕ
  page = log.page.value

  is_found : (tape : Option Tape) (records : List FoundRecord) → size ≤ end → end % 8 ≡ 0
      → end_address_of size log.position ≡ end → IfSome tape (EndsWell size records)
      → IfSome tape (CountsSegments size cap log.made)
      → log.below.words ≡ words_upto size tape end page
      → IfSome tape (AreEndWords size end page)
      → IfSome tape (IsDiskLog size cap records (place_of_log log) log.made)
  is_found None records from whole at ends counted are words = tt
  is_found (Some t) records from whole at ends counted are words = record {
    ends = ends;
    counted = counted;
    words = λ address word high below. words_are_read size valid end from whole t page
        (place_of_log log) are words address word high (omega (arith, at, below));
  }

  pub finds_log : (tape : Option Tape) → IsReadLog size log.made tape (records_end log)
      → IfSome tape (CountsSegments size cap log.made) → log.made ≤ cap
      → log.position ≡ position_of size end → log.below.words ≡ words_upto size tape end page
      → IfSome tape (AreEndWords size end page) → FindsLog size cap tape log
  finds_log tape reads counted within at are words =
      let may = reads.ends.may_end in
      let position : log.position ≡ may.position = at ∙ sym (ap (position_of size) may.is_end)
      ∙ position_of-end_address_of size valid may.position in
      let ends_at : end_address_of size log.position ≡ end = ap (end_address_of size) position
      ∙ may.is_end in
      let whole : end % 8 ≡ 0 = ap (λ (a : ℕ). a % 8) (sym may.is_end)
      ∙ end_address_of-mod_word size valid may.position may.whole in
      let first = le-position_of size valid (first_position size) end
      (omega (arith, end_address_of-first_position size valid, may.from)) in
      record {
        records = reads.records;
        count_is = reads.ends.count_is;
        end_is = reads.ends.end_is;
        last_start_is = reads.ends.last_start_is;
        placed = record {
          whole = ap (λ (p : ℕ). p % 8) position ∙ may.whole;
          from = omega (arith, first, at);
        };
        position_is = ends_at;
        within = within;
        reaches = may.upto;
        page_is = page_is_below size valid end may.from whole tape page (place_of_log log) are;
        tells = is_found tape reads.records may.from whole ends_at reads.tells counted are words;
      }

pub refuses_disk : (size cap : ℕ) (tape : Option Tape) (faults : ℕ)
    → IfSome tape (RefusesLog size cap (Disk faults))
refuses_disk size cap None faults = tt
refuses_disk size cap (Some t) faults = tt

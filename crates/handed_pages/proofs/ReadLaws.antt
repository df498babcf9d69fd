-- What was read, by other pages of the same log.
use Rattle.std.proofs.Common.{◌≡◌, ℕ, Bool, List, Option, Some, None, refl, sym, ap, subst, ◌∙◌}
use Rattle.std.specs.Prelude.{IfSome, if◌then◌else◌}
use Rattle.segment_disk.specs.Tape.{DiskState, Tape}
use Rattle.wal_reader.specs.SoFar.{HasGiven, LogBegins, ReadSoFar}
use Rattle.wal_reader.specs.declared.found.FoundRecord.{FoundRecord}
use Rattle.wal_reader.specs.declared.log_reader.Reader.{Reader}
use Rattle.wal_reader.proofs.SoFarLaws.{read_first}
use Rattle.handed_pages.specs.Handed.{HoldsPagesOf, handed_faults, handed_moment, handed_tape, read_tape}
use Rattle.handed_pages.specs.Reading.{HasReadLog}
use Rattle.handed_pages.specs.declared.pages.HandedPages.{HandedPages}
use Rattle.handed_pages.specs.declared.reading.HandedReader.{HandedReader}

module _ {L : Type 0} (state : DiskState) (size start : ℕ) where
  abbrev Read : HandedPages L → HandedPages L → Reader → List FoundRecord → Type 0
  Read first now reader found =
      ReadSoFar (handed_tape state) handed_moment handed_faults size start None first now reader
      found

  -- the disk tells the log
  tape_is : (d : HandedPages L) → HoldsPagesOf state d
      → handed_tape state d ≡ Some (read_tape state)
  tape_is d held = ap (λ (b : Bool). if b then Some (read_tape state) else None) held

  read_by : (first now other : HandedPages L) (reader : Reader) (found : List FoundRecord)
      → HoldsPagesOf state first → HoldsPagesOf state other → Read first now reader found
      → Read other other reader found
  read_by first now other reader found held other_held read = record {
    valid = read.valid;
    sized = read.sized;
    few = read.few;
    uncalled = record { same_tape = refl; same_moment = refl };
    unfailed = refl;
    given = subst (λ (tape : Option Tape). IfSome tape (HasGiven size start None reader found))
        (tape_is first held ∙ sym (tape_is other other_held)) read.given;
  }

  -- a reader holds other pages of the log from now on
  pub reads_on : (old new : HandedReader L) (found : List FoundRecord)
      → HasReadLog state size start found old → new.reader ≡ old.reader
      → HoldsPagesOf state new.pages → HasReadLog state size start found new
  reads_on old new found before same held = record {
    held = held;
    so_far = subst (λ (r : Reader). Read new.pages new.pages r found) (sym same)
        (read_by old.pages old.pages new.pages old.reader found before.held held before.so_far);
  }

  pub reads_first : (reader : HandedReader L) (found : List FoundRecord)
      → HasReadLog state size start found reader
      → LogBegins size start None found (read_tape state)
  reads_first reader found read =
      subst (λ (tape : Option Tape). IfSome tape (LogBegins size start None found))
      (tape_is reader.pages read.held) (read_first read.so_far)

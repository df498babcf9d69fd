-- What was read of a log whose pages a host hands in, and what comes next.
use Rattle.std.specs.Prelude.{ℕ, List, [], ◌∷◌, ◌++◌, None}
use Rattle.segment_disk.specs.Tape.{DiskState}
use Rattle.wal_reader.specs.SoFar.{LogDecodes, ReadSoFar}
use Rattle.wal_reader.specs.declared.found.Answer.TheVariants as answers
use Rattle.wal_reader.specs.declared.found.FoundRecord.{FoundRecord}
use Rattle.handed_pages.specs.Handed.{HoldsPagesOf, handed_faults, handed_moment, handed_tape, read_tape}
use Rattle.handed_pages.specs.declared.reading.HandedReader.{HandedReader}
use Rattle.handed_pages.specs.declared.reading.NextRecord.{NextRecord}
use Rattle.handed_pages.specs.declared.reading.NextRecord.TheVariants.{End, Memory, Record, Stopped, Wants}

module _ {L : Type 0} where
  -- these records were read of a log from an address on, by a reader that holds pages of this log
  pub record HasReadLog (state : DiskState) (size start : ℕ) (found : List FoundRecord)
      (reader : HandedReader L) : Type 0 where
    pub held : HoldsPagesOf state reader.pages
    pub so_far : ReadSoFar (handed_tape state) handed_moment handed_faults size start None
        reader.pages reader.pages reader.reader found

  -- the next record; or the log decodes to these records and no more, and ends so; or nothing was
  -- read, and reading goes on behind the same records
  abbrev pub TellsNext : DiskState → ℕ → ℕ → List FoundRecord → HandedReader L → NextRecord
      → Type 0
  TellsNext state size start found reader (Record next) =
      HasReadLog state size start (found ++ next ∷ []) reader
  TellsNext state size start found reader (End at) =
      LogDecodes size start None found (answers.End at) (read_tape state)
      × HasReadLog state size start found reader
  TellsNext state size start found reader (Stopped stop) =
      LogDecodes size start None found (answers.Stopped stop) (read_tape state)
  TellsNext state size start found reader (Wants number) = HasReadLog state size start found reader
  TellsNext state size start found reader Memory = HasReadLog state size start found reader

-- That a filter which asks for nothing lists everything.
use Rattle.std.specs.Prelude.{◌≡◌, ℕ, false, List, Option}
use Rattle.wal_types.specs.declared.lsn.Lsn.{Lsn}
use Rattle.wal_reader.specs.Decodes.{Decodes}
use Rattle.wal_reader.specs.Pages.{Pages}
use Rattle.wal_reader.specs.declared.found.FoundRecord.{FoundRecord}
use Rattle.wal_reader.specs.declared.found.Answer.{Answer}
use Rattle.waldump_filter.specs.Keeping.{everything_from}
use Rattle.waldump_text.specs.Listing.{IsLimitListed, line_texts, listed_by, listing}

-- by the filter that keeps everything from an address on, all that pages decode to from there on is
-- listed and printed, and no limit ends the listing
pub record IsListedWhole (start : Lsn) (found : List FoundRecord) : Type 0 where
  pub listed : listed_by (everything_from start) found ≡ found
  pub printed : listing (everything_from start) found ≡ line_texts false found
  pub unlimited : IsLimitListed (everything_from start) found → ⊥

abbrev pub EverythingIsListed : Type 0
EverythingIsListed =
    (size : ℕ) (pages : Pages) (start : Lsn) (end : Option ℕ) (found : List FoundRecord)
    (answer : Answer) → Decodes size pages start.0 end found answer → IsListedWhole start found

-- Logs that have the same bytes decode to the same records.
use Rattle.std.specs.Prelude.{◌≡◌, ℕ, ◌<◌, ◌≤◌, List, length, Option, IfSome}
use Rattle.byte_position.specs.Geometry.{IsSegmentSize}
use Rattle.wal_reader.specs.declared.found.FoundRecord.{FoundRecord}
use Rattle.wal_reader.specs.declared.found.Answer.{Answer}
use Rattle.wal_reader.specs.Decodes.{Decodes}
use Rattle.wal_reader.specs.Pages.{Pages, byte_at}

-- each page that is there has 8192 bytes
abbrev pub AreWhole : Pages → Type 0
AreWhole pages = (page : ℕ) → IfSome (pages page) (λ bytes. length bytes ≡ 8192)

-- two logs agree below an address, and from it on both are 0; a page that is not there counts as
-- zeros
pub record AgreeBelow (bound : ℕ) (one other : Pages) : Type 0 where
  pub same : (address : ℕ) → address < bound → byte_at one address ≡ byte_at other address
  pub first_ends : (address : ℕ) → bound ≤ address → byte_at one address ≡ 0
  pub second_ends : (address : ℕ) → bound ≤ address → byte_at other address ≡ 0

-- such logs decode to the same records, whatever stands behind these
abbrev pub AgreeingLogsDecodeAlike : Type 0
AgreeingLogsDecodeAlike =
    (size bound start : ℕ) (end : Option ℕ) (one other : Pages) → IsSegmentSize size → AreWhole one
    → AreWhole other
    → AgreeBelow bound one other → (found others : List FoundRecord) (answer told : Answer)
    → Decodes size one start end found answer → Decodes size other start end others told
    → found ≡ others

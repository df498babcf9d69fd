-- What images decode to that hold nothing but words of a log.
use Rattle.std.specs.Prelude.{◌≡◌, ℕ, ◌^◌, ◌<◌, ◌≤◌, List, length, take, Some, None, slice_get}
use Rattle.byte_position.specs.Geometry.{IsSegmentSize}
use Rattle.byte_position.specs.Position.{end_address_of}
use Rattle.segment_disk.specs.DiskImage.{DiskImage}
use Rattle.wal_page.specs.Order.{Entry, IsChained, end_position, finish_of}
use Rattle.flush_core.specs.Lawful.{IsLawful}
use Rattle.wal_reader.specs.declared.found.Answer.{Answer}
use Rattle.wal_reader.specs.declared.found.FoundRecord.{FoundRecord}
use Rattle.wal_reader.specs.Pages.{pages_in}
use Rattle.wal_reader.specs.Decodes.{Decodes, ended}
use Rattle.written_log_laws.specs.Torn.{NoTornPass}
use Rattle.written_log_laws.specs.Written.{found_of}

-- records are those of an order's first entries, and each entry that ends at or below `upto` is
-- among these
pub record IsFrontUpto (size : ℕ) (es : List Entry) (upto : ℕ) (found : List FoundRecord)
    : Type 0 where
  pub count : ℕ
  pub within : count ≤ length es
  pub found_is : found ≡ found_of size (take count es)
  pub holds : (i : ℕ) (e : Entry) → slice_get es i ≡ Some e → finish_of size e ≤ upto → i < count

-- an image that is lawful for an order up to an address, in which no torn record passes its CRC,
-- decodes to such a front, whatever stands behind it
abbrev pub LawfulImagesDecodeToFronts : Type 0
LawfulImagesDecodeToFronts =
    (size sysid upto : ℕ) (image : DiskImage) (es : List Entry) → IsSegmentSize size → 0 < sysid
    → sysid < 2 ^ 64 → IsChained size es → end_address_of size (end_position size es) ≤ 2 ^ 60
    → IsLawful size sysid image es upto → NoTornPass size (pages_in size image) es
    → (found : List FoundRecord) (answer : Answer)
    → Decodes size (pages_in size image) size None found answer → IsFrontUpto size es upto found

-- one that is lawful up to the order's end decodes to all of the order, and then the log ends
abbrev pub WholeLawfulImagesDecode : Type 0
WholeLawfulImagesDecode =
    (size sysid upto : ℕ) (image : DiskImage) (es : List Entry) → IsSegmentSize size → 0 < sysid
    → sysid < 2 ^ 64 → IsChained size es → end_address_of size (end_position size es) ≤ 2 ^ 60
    → end_address_of size (end_position size es) ≤ upto → IsLawful size sysid image es upto
    → Decodes size (pages_in size image) size None (found_of size es)
    (ended size (end_position size es))

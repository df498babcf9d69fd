-- Where records are torn, and what the reader's checks have to do with it.
use Rattle.std.specs.Prelude.{◌≡◌, ◌⊎◌, ◌↔◌, ℕ, ◌^◌, ◌≤◌, true, false, List, take, Some, slice_get, IsSome}
use Rattle.std.specs.Int.{w64}
use Rattle.byte_position.specs.Geometry.{IsSegmentSize}
use Rattle.byte_position.specs.Position.{address_of, end_address_of}
use Rattle.segment_disk.specs.DiskImage.{DiskImage}
use Rattle.wal_spelling.specs.Spelling.{size_of}
use Rattle.wal_spelling.specs.Numbers.{number_at}
use Rattle.wal_page.specs.Order.{Entry, IsChained, end_position, finish_of, prev_of}
use Rattle.wal_page.specs.Page.{first_fault}
use Rattle.flush_core.specs.Lawful.{IsLawful}
use Rattle.wal_reader.specs.Pages.{Pages, bytes_from, pages_in}
use Rattle.wal_reader.specs.Decodes.{crc_rows, is_right_prev, is_zero_word}
use Rattle.written_log_laws.specs.Torn.{IsSeenTorn, IsTorn}

-- an entry that ends at or below where an image is lawful up to is not torn there
abbrev pub EntriesUptoAreWhole : Type 0
EntriesUptoAreWhole =
    (size sysid upto : ℕ) (image : DiskImage) (es : List Entry) → IsSegmentSize size
    → IsChained size es → end_address_of size (end_position size es) ≤ 2 ^ 60
    → IsLawful size sysid image es upto → (k : ℕ) (e : Entry) → slice_get es k ≡ Some e
    → finish_of size e ≤ upto
    → IsTorn size (pages_in size image) e (prev_of size 0 (take k es)) → ⊥

-- one of the reader's checks of an entry's own bytes fails, where a record that starts at `prev`
-- was read before it: of its first word, of the record that it names before it, or of its CRC
abbrev pub FailsOwnChecks : ℕ → Pages → Entry → ℕ → Type 0
FailsOwnChecks size pages e prev =
    let header = bytes_from size pages 24 e.start in
    let whole = bytes_from size pages (size_of e.value) e.start in
    let start = address_of size e.start in
    (is_zero_word header ≡ true)
    ⊎ ((is_right_prev (Some (record { 0 = prev })) start (number_at w64 header 8) ≡ false)
    ⊎ IsSome (first_fault (crc_rows start whole)))

-- a record is seen to be torn just where one of these fails
abbrev pub SeenTornFailsChecks : Type 0
SeenTornFailsChecks =
    (size : ℕ) (pages : Pages) (e : Entry) (prev : ℕ)
    → IsSeenTorn size pages e prev ↔ FailsOwnChecks size pages e prev

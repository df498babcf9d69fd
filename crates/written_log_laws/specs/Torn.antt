-- Torn records, which the CRC is there to find.
use Rattle.std.specs.Prelude.{◌≡◌, ◌≢◌, ℕ, ◌*◌, ◌<◌, ◌⊎◌, List, ◌++◌, take, drop, Some, slice_get}
use Rattle.std.specs.Int.{w32, w64}
use Rattle.wal_crc32c.specs.Crc32c.{crc32c}
use Rattle.wal_spelling.specs.Spelling.{filled_spelling, room_of, size_of, word_at}
use Rattle.wal_spelling.specs.Numbers.{number_at}
use Rattle.wal_page.specs.Order.{Entry, prev_of}
use Rattle.wal_reader.specs.Pages.{Pages, bytes_from}

-- an entry's record in an image, as bytes: as many as its spelling has, up to a multiple of 8
abbrev pub bytes_in : ℕ → Pages → Entry → List ℕ
bytes_in size pages e = bytes_from size pages (room_of e.value) e.start

-- each word of the entry's record is its own or 0, and one is not its own
pub record IsTorn (size : ℕ) (pages : Pages) (e : Entry) (prev : ℕ) : Type 0 where
  pub words : (k : ℕ) → 8 * k < room_of e.value
      → (word_at (bytes_in size pages e) k ≡ word_at (filled_spelling e.value prev) k)
      ⊎ (word_at (bytes_in size pages e) k ≡ 0)
  pub missing : (k : ℕ) × (8 * k < room_of e.value)
      × (word_at (bytes_in size pages e) k ≢ word_at (filled_spelling e.value prev) k)

-- the reader sees that it is torn: its first word is 0, it names another record before it, or the
-- CRC that stands there is not that of its bytes
abbrev pub IsSeenTorn : ℕ → Pages → Entry → ℕ → Type 0
IsSeenTorn size pages e prev =
    let bytes = take (size_of e.value) (bytes_in size pages e) in
    (word_at bytes 0 ≡ 0) ⊎ ((number_at w64 bytes 8 ≢ prev) ⊎
    (number_at w32 bytes 20 ≢ crc32c (drop 24 bytes ++ take 20 bytes)))

-- no torn record passes its CRC: the premise of all that is said of crashes
abbrev pub NoTornPass : ℕ → Pages → List Entry → Type 0
NoTornPass size pages es =
    (k : ℕ) (e : Entry) → slice_get es k ≡ Some e → IsTorn size pages e (prev_of size 0 (take k es))
    → IsSeenTorn size pages e (prev_of size 0 (take k es))

-- Frames: the pages of a log as they go over a link, each with a checksum of its own. Everywhere
-- `size` is the size of a segment in bytes.
use Rattle.std.specs.Prelude.{◌≡◌, ℕ, ◌+◌, ◌-◌, ◌*◌, ◌%◌, ◌^◌, ◌<◌, ◌≤◌, All, List, [], ◌∷◌, ◌++◌, length, drop}
use Rattle.std.specs.Int.{w32, w64, to_le_bytes}
use Rattle.wal_crc32c.specs.Crc32c.{crc32c}
use Rattle.segment_disk.specs.DiskImage.{word_of}
use Rattle.flush_core.specs.Settled.{cleared}
use Rattle.wal_page.specs.Order.{Entry}
use Rattle.wal_page.specs.Log.{log_word_bytes}

-- a page on its way: its number, counted from the log's address 0, up to which address it is sent,
-- and its bytes
pub record SentPage : Type 0 where
  pub page : ℕ
  pub upto : ℕ
  pub bytes : List ℕ

-- an address up to which a page may be sent: where one of its words ends
pub record EndsInPage (page upto : ℕ) : Type 0 where
  pub whole : upto % 8 ≡ 0
  pub begun : page * 8192 < upto
  pub within : upto ≤ page * 8192 + 8192
  pub low : upto < 2 ^ 64

-- the page is sent up to such an address, and zeros stand behind that
pub record IsSentPage (sent : SentPage) : Type 0 where
  pub ends : EndsInPage sent.page sent.upto
  pub long : length sent.bytes ≡ 8192
  pub zeros : All (λ b. b ≡ 0) (drop (sent.upto - sent.page * 8192) sent.bytes)

-- what is sent of a page up to an address: the bytes below it, and zeros
abbrev pub sent_upto : ℕ → ℕ → List ℕ → SentPage
sent_upto page upto bytes =
    record { page = page; upto = upto; bytes = cleared (upto - page * 8192) bytes }

-- ---- the bytes

-- the fields behind the checksum: the page's address, up to where it is sent, the size of a
-- segment, and zeros
abbrev pub frame_fields : ℕ → ℕ → ℕ → List ℕ
frame_fields size page upto =
    to_le_bytes w64 (page * 8192) ++ to_le_bytes w64 upto ++ to_le_bytes w32 size
    ++ to_le_bytes w32 0

-- the 32 bytes before the page: "WALF", the CRC-32C of all that stands behind it, the fields
unfoldable pub frame_head : ℕ → ℕ → ℕ → List ℕ → List ℕ
frame_head size page upto bytes =
    (0x57 ∷ 0x41 ∷ 0x4C ∷ 0x46 ∷ [])
    ++ to_le_bytes w32 (crc32c (frame_fields size page upto ++ bytes))
    ++ frame_fields size page upto

-- all 8,224 bytes
abbrev pub frame_bytes : ℕ → SentPage → List ℕ
frame_bytes size sent = frame_head size sent.page sent.upto sent.bytes ++ sent.bytes

-- bytes are a frame of this segment size, in which this is sent
pub record IsFrame (size : ℕ) (bytes : List ℕ) (sent : SentPage) : Type 0 where
  pub is_sent : IsSentPage sent
  pub bytes_are : bytes ≡ frame_bytes size sent

-- ---- frames of a log

-- what is sent are an order's words, and no further than the log is hardened
pub record IsSentOfLog (size sysid : ℕ) (es : List Entry) (hardened : ℕ) (sent : SentPage)
    : Type 0 where
  pub words : (k : ℕ) → sent.page * 8192 + 8 * k < sent.upto
      → word_of sent.bytes k ≡ log_word_bytes size sysid es (sent.page * 8192 + 8 * k)
  pub within : sent.upto ≤ hardened

-- bytes are a frame of an order's log
pub record IsFrameOfLog (size sysid : ℕ) (es : List Entry) (hardened : ℕ) (bytes : List ℕ)
    : Type 0 where
  pub sent : SentPage
  pub frame : IsFrame size bytes sent
  pub of_log : IsSentOfLog size sysid es hardened sent

-- a frame that is made of a page whose words below an address are the log's is a frame of the log
abbrev pub FramesOfLogPagesAreOfLog : Type 0
FramesOfLogPagesAreOfLog =
    (size sysid page upto hardened : ℕ) (es : List Entry) (bytes : List ℕ)
    → EndsInPage page upto → length bytes ≡ 8192 → upto ≤ hardened
    → ((k : ℕ) → page * 8192 + 8 * k < upto
    → word_of bytes k ≡ log_word_bytes size sysid es (page * 8192 + 8 * k))
    → IsFrameOfLog size sysid es hardened (frame_bytes size (sent_upto page upto bytes))

-- Images that hold nothing but words of a log.
use Rattle.std.specs.Prelude.{◌≡◌, ℕ, ◌*◌, ◌<◌, List, IsSome}
use Rattle.segment_disk.specs.DiskImage.{DiskImage}
use Rattle.wal_page.specs.Order.{Entry}
use Rattle.wal_page.specs.Log.{IsLawfulWord, log_word_bytes, owner_at}
use Rattle.segment_disk.specs.ImageWords.{HasPageAt, image_word}

-- an image of the log that an order gives: each word is 0 or the log's; each below `upto` is the
-- log's, and where an entry owns it its page is there. The system id is the log's
pub record IsLawful (size sysid : ℕ) (image : DiskImage) (es : List Entry) (upto : ℕ)
    : Type 0 where
  pub words : (k : ℕ) → IsLawfulWord size sysid es (8 * k) (image_word size image (8 * k))
  pub below : (k : ℕ) → 8 * k < upto
      → image_word size image (8 * k) ≡ log_word_bytes size sysid es (8 * k)
  pub there : (k : ℕ) → 8 * k < upto → IsSome (owner_at size es (8 * k))
      → HasPageAt size image (8 * k)

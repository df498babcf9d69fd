-- What of a page the writer has loaded, while it loads the page.
use Rattle.std.specs.Prelude.{◌≡◌, ℕ, ◌+◌, ◌*◌, ◌<◌, List}
use Rattle.std.specs.Int.{w64, to_le_bytes}
use Rattle.segment_disk.specs.DiskImage.{word_of}
use Rattle.machine_state.specs.Views.{IsLoadedLast, View}
use Rattle.word_ring.specs.InHand.{lent_in}

-- the words that a view has loaded for a write
abbrev pub staged_in : View → List (ℕ × ℕ)
staged_in v = (lent_in (v.writing).hold).staged

-- the first words of a page were loaded, and are these bytes
abbrev pub IsFrontLoaded : (count page : ℕ) → List ℕ → List (ℕ × ℕ) → Type 0
IsFrontLoaded count page bytes staged = (n : ℕ) → n < count
    → (word : ℕ) × IsLoadedLast (page * 1024 + n) word staged
    × (word_of bytes n ≡ to_le_bytes w64 word)

-- The words of a disk's image, each at its address in the log. Everywhere `size` is the size of a
-- segment in bytes.
use Rattle.std.specs.Prelude.{ℕ, ◌/◌, ◌%◌, ◌<◌, List, replicate, Option, Some, None, nat_lt, if◌then◌else◌}
use Rattle.std.specs.Option.{IsSomeAnd}
use Rattle.segment_disk.specs.DiskImage.{DiskImage, ImageSegment, word_of}

-- eight bytes of zero
abbrev pub zero_word : List ℕ
zero_word = replicate 8 0

-- the word at an offset in a segment, as its eight bytes: zeros where the page is not there
abbrev pub segment_word : Option ImageSegment → ℕ → List ℕ
segment_word None offset = zero_word
segment_word (Some i) offset =
    if nat_lt (offset / 8192) i.pages then word_of (i.page (offset / 8192)) (offset % 8192 / 8)
    else zero_word

-- the word at an address, a multiple of 8
abbrev pub image_word : ℕ → DiskImage → ℕ → List ℕ
image_word size image address = segment_word (image (address / size)) (address % size)

-- the page that holds an address is there
abbrev pub HasPageAt : ℕ → DiskImage → ℕ → Type 0
HasPageAt size image address =
    IsSomeAnd (image (address / size)) (λ i. address % size / 8192 < i.pages)

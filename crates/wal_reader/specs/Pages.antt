-- The pages of a log as a reader finds them in an image, by their numbers counted from address 0.
use Rattle.std.specs.Prelude.{◌≡◌, ℕ, zero, suc, ◌+◌, ◌*◌, ◌/◌, ◌%◌, ◌^◌, ◌<◌, All, length, List, [], ◌∷◌, slice_index, Option, Some, None, nat_lt, nat_le, if◌then◌else◌}
use Rattle.std.specs.Option.{unwrap_or}
use Rattle.byte_position.specs.Geometry.{pages_of}
use Rattle.byte_position.specs.Position.{address_of}
use Rattle.segment_disk.specs.DiskImage.{DiskImage, ImageSegment}

abbrev pub Pages : Type 0
Pages = ℕ → Option (List ℕ)

-- a page of a segment, where the segment has it
abbrev pub page_of_image : Option ImageSegment → ℕ → Option (List ℕ)
page_of_image None page = None
page_of_image (Some i) page = if nat_lt page i.pages then Some (i.page page) else None

-- an image's pages; one that ends above address 2 ^ 60 counts as not there
abbrev pub pages_in : ℕ → DiskImage → Pages
pages_in size image page =
    if nat_le ((page + 1) * 8192) (2 ^ 60)
    then page_of_image (image (page / pages_of size)) (page % pages_of size) else None

-- the byte at an address; 0 where its page is not there
abbrev pub byte_at : Pages → ℕ → ℕ
byte_at pages address = slice_index (unwrap_or (pages (address / 8192)) []) (address % 8192)

-- a page: 8,192 bytes
abbrev pub IsPage : List ℕ → Type 0
IsPage bytes = (length bytes ≡ 8192) × All (λ b. b < 256) bytes

-- a number as a byte; one that is none counts as 0
unfoldable pub as_byte : ℕ → ℕ
as_byte number = if nat_lt number 256 then number else 0

-- n bytes from a byte position on, each at its own address: those of headers are left out
unfoldable pub bytes_from : ℕ → Pages → ℕ → ℕ → List ℕ
bytes_from size pages zero position = []
bytes_from size pages (suc n) position =
    as_byte (byte_at pages (address_of size position)) ∷ bytes_from size pages n (position + 1)

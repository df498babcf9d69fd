-- Which image of those that a crash may leave a pick names: word by word, by state and pick.
use Rattle.std.specs.Prelude.{◌≡◌, ℕ, zero, suc, ◌+◌, ◌*◌, ◌%◌, ◌<◌, List, [], ◌∷◌, length, min, Option, Some, None, ◌==◌, slice_index, slice_index_or, if◌then◌else◌}
use Rattle.segment_disk.specs.declared.memory.pick.Pick.{Pick}
use Rattle.segment_disk.specs.declared.memory.pick.Pick.TheVariants.{Old, New, Odd, List as Listed}
use Rattle.segment_disk.specs.Tape.{Segment, DiskState}
use Rattle.segment_disk.specs.DiskImage.{ImageSegment, DiskImage, word_of}

-- the writes to a page since its segment's last sync, the first one first
abbrev pub writes_to : List (ℕ × List ℕ) → ℕ → List (List ℕ)
writes_to [] page = []
writes_to (w ∷ ws) page = if w.0 == page then w.1 ∷ writes_to ws page else writes_to ws page

-- how many of a segment's first pages are undecided: those with such a write
abbrev pub undecided_below : List (ℕ × List ℕ) → ℕ → ℕ
undecided_below writes zero = 0
undecided_below writes (suc page) =
    undecided_below writes page + min 1 (length (writes_to writes page))

-- how many of its pages are
abbrev pub undecided_in : Option Segment → ℕ
undecided_in None = 0
undecided_in (Some s) = undecided_below s.writes s.pages

-- how many pages are in all segments of a lower number
abbrev pub undecided_before : DiskState → ℕ → ℕ
undecided_before state zero = 0
undecided_before state (suc segment) =
    undecided_before state segment + undecided_in (state segment)

-- which write each word of an undecided page takes, by its number among the writes to that page:
-- 1 is the first, 0 says the durable word. It is chosen by how many writes there are, by how many
-- undecided words lie before (by segment, page and word), and by the word's index in its page.
abbrev pub Choice : Type 0
Choice = (count place word : ℕ) → ℕ

-- the numbers of a list, one for each undecided word, 0 past its end
abbrev pub by_list : List ℕ → Choice
by_list numbers count place word = slice_index numbers place

-- what a pick chooses
abbrev pub choice_of : Pick → Choice
choice_of Old count place word = 0
choice_of New count place word = count
choice_of Odd count place word = if word % 2 == 1 then count else 0
choice_of (Listed numbers) count place word = by_list numbers.items count place word

-- the page of the write of that number, the durable one at 0 and above how many there are
abbrev pub numbered_page : List (List ℕ) → List ℕ → ℕ → List ℕ
numbered_page writes durable zero = durable
numbered_page writes durable (suc n) = slice_index_or writes n durable

-- each word of a page is that of the write that was chosen
pub record IsPickedPage (choice : Choice) (s : Segment) (page before : ℕ) (bytes : List ℕ)
    : Type 0 where
  pub size : length bytes ≡ 8192
  pub words : (k : ℕ) → k < 1024
      → (let writes = writes_to s.writes page in
      word_of bytes k ≡ word_of (numbered_page writes (s.durable page)
      (choice (length writes) (1024 * before + k) k)) k)

-- the same of a segment, before which this many pages are undecided
abbrev pub IsPickedSegment : Choice → ℕ → Option Segment → Option ImageSegment → Type 0
IsPickedSegment choice before None None = Unit {0}
IsPickedSegment choice before (Some s) (Some i) =
    (i.pages ≡ s.pages) × ((page : ℕ) → page < s.pages
    → IsPickedPage choice s page (before + undecided_below s.writes page) (i.page page))
IsPickedSegment choice before None (Some i) = ⊥
IsPickedSegment choice before (Some s) None = ⊥

-- the image that a choice names
abbrev pub IsPicked : Choice → DiskState → DiskImage → Type 0
IsPicked choice state image = (segment : ℕ)
    → IsPickedSegment choice (undecided_before state segment) (state segment) (image segment)

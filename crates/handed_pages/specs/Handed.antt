-- Pages that a host hands in, beside the log of which they are.
use Rattle.std.specs.Prelude.{◌≡◌, ℕ, Bool, true, false, ◌&&◌, ◌||◌, ◌==◌, nat_lt, List, [], ◌∷◌, Option, Some, None, option_map, if◌then◌else◌, IfSome, length, refl}
use Rattle.std.specs.List.{list_all}
use Rattle.segment_disk.specs.Tape.{DiskState, Tape, page_of_segment}
use Rattle.handed_pages.specs.declared.page.HandedPage.{HandedPage}
use Rattle.handed_pages.specs.declared.pages.HandedPages.{HandedPages}
use Rattle.handed_pages.specs.declared.page.PageNumber.{PageNumber}

-- the page that a log has by this number, if it has one
abbrev pub page_of_log : DiskState → PageNumber → Option (List ℕ)
page_of_log state number = page_of_segment (state number.segment) number.page

-- a page as it was handed in: none where it was said not to be there
abbrev pub bytes_handed : HandedPage → Option (List ℕ)
bytes_handed page = option_map (λ p. p.bytes) page.bytes

-- the same bytes, one by one
unfoldable pub are_same : List ℕ → List ℕ → Bool
are_same [] [] = true
are_same [] (b ∷ bs) = false
are_same (a ∷ rest) [] = false
are_same (a ∷ rest) (b ∷ bs) = (a == b) && are_same rest bs

abbrev pub is_same_page : Option (List ℕ) → Option (List ℕ) → Bool
is_same_page None None = true
is_same_page None (Some b) = false
is_same_page (Some a) None = false
is_same_page (Some a) (Some b) = are_same a b

-- whether a page comes before another one
abbrev pub comes_before : PageNumber → PageNumber → Bool
comes_before a b =
    nat_lt a.segment b.segment || ((a.segment == b.segment) && nat_lt a.page b.page)

-- a log has these pages as they were handed in
abbrev pub has_pages : DiskState → List HandedPage → Bool
has_pages state pages =
    list_all (λ page. is_same_page (page_of_log state page.number) (bytes_handed page)) pages

-- a log that was only read
abbrev pub read_tape : DiskState → Tape
read_tape state = record { at_first = state; calls = [] }

-- a log that was only read, if it is told: no call is on its tape
pub counts_no_call : (state : DiskState) (told : Bool)
    → IfSome (if told then Some (read_tape state) else None) (λ t. 0 ≡ length t.calls)
counts_no_call state true = refl
counts_no_call state false = tt

module _ {L : Type 0} where
  -- the pages that are held
  abbrev pub pages_held : HandedPages L → List HandedPage
  pages_held disk = disk.pages.items

  -- the log has the pages that are held as they were handed in
  abbrev pub HoldsPagesOf : DiskState → HandedPages L → Type 0
  HoldsPagesOf state disk = has_pages state (pages_held disk) ≡ true

  -- the disk tells this log, as long as the log has the pages that are held
  abbrev pub handed_tape : DiskState → HandedPages L → Option Tape
  handed_tape state disk =
      if has_pages state (pages_held disk) then Some (read_tape state) else None

  -- no call of it is counted
  abbrev pub handed_moment : HandedPages L → ℕ
  handed_moment disk = 0

  -- how often it has failed
  abbrev pub handed_faults : HandedPages L → ℕ
  handed_faults disk = disk.faults

-- What a crash leaves of a log: the pages below a position whole and as they were put, and nothing
-- anywhere but what was put.
use Rattle.std.specs.Prelude.{◌≡◌, ℕ, ◌+◌, ◌*◌, ◌<◌, ◌≤◌, ◌⊎◌, List, [], ◌∷◌, ◌==◌, if◌then◌else◌}
use Rattle.segment_disk.specs.Tape.{zero_page}
use Rattle.segment_disk.specs.DiskImage.{word_of}
use Rattle.flush_core.specs.Pages.{PutPages}

-- ---- the pages below a position are kept

-- a word that ends at the position or below is as it was put
abbrev pub IsKeptWord : ℕ → PutPages → ℕ → ℕ → List ℕ → Type 0
IsKeptWord position pages page word bytes =
    page * 8192 + 8 * word + 8 ≤ position → bytes ≡ word_of (pages page) word

-- two pages of this number have the same words below the position
abbrev pub SameBelow : ℕ → ℕ → List ℕ → List ℕ → Type 0
SameBelow position page one other =
    (word : ℕ) → word < 1024 → page * 8192 + 8 * word + 8 ≤ position
    → word_of one word ≡ word_of other word

-- ---- nothing is left but what was put

-- all that was put in each page, the last first
abbrev pub PutHistory : Type 0
PutHistory = ℕ → List (List ℕ)

abbrev pub no_puts : PutHistory
no_puts page = []

-- each page as it was there at first
abbrev pub first_puts : PutPages → PutHistory
first_puts pages page = pages page ∷ []

abbrev pub with_put : PutHistory → ℕ → List ℕ → PutHistory
with_put puts number bytes page = if page == number then bytes ∷ puts page else puts page

-- a word is that of one of these pages, or of zeros
abbrev pub IsWordOf : List (List ℕ) → ℕ → List ℕ → Type 0
IsWordOf [] word bytes = bytes ≡ word_of zero_page word
IsWordOf (page ∷ pages) word bytes = (bytes ≡ word_of page word) ⊎ IsWordOf pages word bytes

-- a word of a page was put there, or is zeros
abbrev pub IsWordPut : PutHistory → ℕ → ℕ → List ℕ → Type 0
IsWordPut puts page word bytes = IsWordOf (puts page) word bytes

-- The page that a reader holds, beside the pages of the log.
use Rattle.std.specs.Prelude.{◌≡◌, ℕ, ◌+◌, ◌/◌, ◌^◌, ◌≤◌, Bool, true, false, List, Option, Some, None, IfSome}
use Rattle.segment_disk.specs.DiskImage.{image_as_read}
use Rattle.segment_disk.specs.Tape.{Tape, state_now}
use Rattle.wal_reader.specs.declared.page_cache.PageCache.{PageCache}
use Rattle.wal_reader.specs.Pages.{Pages, pages_in}

-- the pages of a disk's log, as they are read
abbrev pub log_of : Tape → ℕ → Pages
log_of tape size = pages_in size (image_as_read (state_now tape))

-- the page that is held is the log's
abbrev pub Caches : PageCache → Pages → Type 0
Caches cache pages = IfSome cache.number (λ number. pages number ≡ Some cache.bytes.value)

-- the page of an address is held, and it is the last one that is read: it ends at address 2 ^ 60
abbrev pub HoldsLastPage : Option ℕ → ℕ → Type 0
HoldsLastPage held address = (held ≡ Some (address / 8192)) × (2 ^ 47 ≤ address / 8192 + 1)

-- a page was asked for: it is there and held, or it is not there
abbrev pub IsLoaded : Option (List ℕ) → ℕ → Bool → PageCache → Type 0
IsLoaded bytes page true cache = (cache.number ≡ Some page) × (bytes ≡ Some cache.bytes.value)
IsLoaded bytes page false cache = bytes ≡ None

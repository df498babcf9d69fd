-- Neighbouring pages of a segment, as bytes in memory.
use Rattle.std.specs.Prelude.{◌≡◌, ◌≢◌, ℕ, ◌+◌, ◌-◌, ◌*◌, ◌<◌, ◌≤◌, ◌^◌, List, [], take, drop}
use Rattle.segment_files.specs.declared.pages.PagesAhead.{PagesAhead}

-- the first of the pages that are held stays the first; where none was held it is the one put
pub record HoldsFrom (old : ℕ) (held : List ℕ) (page new : ℕ) : Type 0 where
  pub first : held ≡ [] → new ≡ page
  pub further : held ≢ [] → new ≡ old

-- a page that was read ahead and not given yet is given: its bytes, where it stands among them
pub record GivesPage (old new : PagesAhead) (page : ℕ) (bytes : List ℕ) : Type 0 where
  pub low : old.first ≤ page
  pub high : page < old.first + old.count
  pub not_given : old.next ≤ page
  pub given : page < 2 ^ 32 - 1 → page < new.next
  pub bytes_are : bytes ≡ take 8192 (drop ((page - old.first) * 8192) old.bytes.items)

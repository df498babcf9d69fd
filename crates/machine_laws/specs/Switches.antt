-- What stands beside a segment switch in flight, and what lies behind its record.
use Rattle.std.specs.Prelude.{◌≡◌, ◌≢◌, ℕ, ◌+◌, ◌<◌, ◌≤◌, List, ◌∷◌, ◌++◌}
use Rattle.byte_position.specs.Position.{position_of}
use Rattle.wal_spelling.specs.Record.{switch_record}
use Rattle.wal_page.specs.EntryWords.{address_of_word}
use Rattle.wal_page.specs.Order.{Entry, position_behind}
use Rattle.machine_state.specs.Views.{Copy, HasAt, Landed, View}
use Rattle.machine_state.specs.Words.{lock_word}
use Rattle.machine_laws.specs.SoundLocks.{HoldsLock}

-- the view with this number, which copies an entry, holds all eight insertion locks; what each of
-- them tells is one more than an address that lies not past the entry's next word; and no other
-- view has an entry in flight
pub record CopiesBehindAllLocks (size : ℕ) (words : List ℕ) (views : List View) (id : ℕ) (v : View)
    (c : Copy) : Type 0 where
  pub holds : (lock : ℕ) → lock < 8 → HoldsLock lock v
  pub tells : (lock : ℕ) → lock < 8
      → lock_word words lock ≤ address_of_word size c.entry c.copied + 1
  pub alone : (other : ℕ) (w : View) → HasAt views other w → other ≢ id
      → (w.working).flight ≡ Landed

-- an address behind the 24 bytes of an order's switch, and before the next entry's start; those of
-- a page's header go with the page's first other byte
pub record IsBehindSwitch (size : ℕ) (order : List Entry) (address : ℕ) : Type 0 where
  pub front : List Entry
  pub back : List Entry
  pub entry : Entry
  pub are : order ≡ front ++ entry ∷ back
  pub switches : entry.value ≡ switch_record
  pub behind : entry.start + 24 ≤ position_of size address
  pub before_next : position_of size address < position_behind size entry

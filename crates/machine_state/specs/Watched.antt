-- What a watcher knows of the copies under the insertion locks that it has visited (PostgreSQL's
-- xlog.c, WaitXLogInsertionsToFinish). It sees a reserved end first, and then visits the eight
-- locks in turn. An entry that is reserved later lies behind that end. One that was reserved before
-- is copied, or stands under a lock that is held and tells no more than is copied of it. So once
-- all eight are visited no word below the bound is still to copy. With the locks visited first an
-- entry that is reserved between would be missed.
use Rattle.std.specs.Prelude.{◌≡◌, ℕ, ◌<◌, ◌≤◌, List, Contains}
use Rattle.wal_page.specs.EntryWords.{address_of_word}
use Rattle.machine_state.specs.Views.{HasAt, Copy, Copying, Working, Watching}

-- an entry in flight of which any lock was visited, and of which a word lies below the end watched
-- for, has all its words below the bound copied
abbrev pub IsCopiedToBound : ℕ → Watching → Working → Type 0
IsCopiedToBound size watch work = (c : Copy) (lock : ℕ) → work.flight ≡ Copying c
    → Contains c.locks lock
    → lock < watch.visited → address_of_word size c.entry 0 < watch.end
    → watch.bound ≤ address_of_word size c.entry c.copied

-- `end` is the order's end, as an address
pub record WatchHolds (size end : ℕ) (works : List Working) (watches : List Watching) : Type 0
  where
    pub reserved : (id : ℕ) (x : Watching) → HasAt watches id x
        → (x.end ≤ end) × (x.bound ≤ x.end)
    pub behind : (id j : ℕ) (x : Watching) (w : Working) → HasAt watches id x → HasAt works j w
        → IsCopiedToBound size x w

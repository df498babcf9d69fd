-- What every sound state shows of watchers: up to where the log is copied under the insertion locks
-- that they have visited.
use Rattle.std.specs.Prelude.{◌≡◌, ℕ, ◌<◌, ◌≤◌, true, Contains, List}
use Rattle.wal_page.specs.EntryWords.{address_of_word, words_owned}
use Rattle.machine_state.specs.declared.setup.Setup.{Setup}
use Rattle.machine_state.specs.Words.{end_form}
use Rattle.machine_state.specs.Views.{HasAt, Copy, Copying, View}

-- an entry in flight under a lock that this view has visited, of which a word lies below the end
-- watched for, has all its words below the bound copied
abbrev pub SeesCopied : ℕ → View → Copy → Type 0
SeesCopied size v c = (lock m n : ℕ) → Contains c.locks lock → lock < (v.watching).visited
    → m < words_owned size c.entry → address_of_word size c.entry m < (v.watching).end
    → n < words_owned size c.entry → address_of_word size c.entry n < (v.watching).bound
    → n < c.copied

-- a pass watches for no more than it has seen reserved, knows no more than it watches for, and sees
-- so much copied of each entry in flight
pub record WatchersSeeCopies (setup : Setup) (views : List View) : Type 0 where
  pub seen : (id : ℕ) (v : View) → HasAt views id v → (v.reserving).live ≡ true
      → (v.watching).end ≤ end_form setup (v.reserving).seen
  pub bound_low : (id : ℕ) (v : View) → HasAt views id v
      → (v.watching).bound ≤ (v.watching).end
  pub copied : (id other : ℕ) (v w : View) (c : Copy) → HasAt views id v
      → HasAt views other w → (w.working).flight ≡ Copying c
      → SeesCopied setup.seg_size v c

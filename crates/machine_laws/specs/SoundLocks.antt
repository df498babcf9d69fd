-- What every sound state shows of the insertion locks, of the entries that stand under them, and of
-- the turns to map and to write.
use Rattle.std.specs.Prelude.{◌≡◌, ◌≢◌, ◌⊎◌, ◌↔◌, ℕ, ◌+◌, ◌<◌, ◌≤◌, Contains, List}
use mathlib.Core.Option.{Option, none}
use Rattle.wal_page.specs.Order.{Entry, finish_of}
use Rattle.wal_page.specs.EntryWords.{address_of_word, words_owned}
use Rattle.machine_state.specs.Words.{lock_word, mapping_turn, write_turn, Opening}
use Rattle.machine_state.specs.Views.{HasAt, AreSomeOf, Copy, Copying, Lent, Out, Plain, View}
use Rattle.machine_state.specs.Locked.{HasTurn, HasWriteTurn}
use Rattle.machine_state.specs.Shown.{HasLogWord, IsInNoFlight}

-- this holds of some view; and it holds of no two
abbrev pub SomeView : List View → (View → Type 0) → Type 0
SomeView views P = (id : ℕ) × (v : View) × HasAt views id v × P v

abbrev pub OneAtMost : List View → (View → Type 0) → Type 0
OneAtMost views P = (id other : ℕ) (v w : View) → HasAt views id v → HasAt views other w → P v
    → P w → id ≡ other

-- ---- the insertion locks

-- a view holds this insertion lock
abbrev pub HoldsLock : ℕ → View → Type 0
HoldsLock lock v = Contains (v.working).locks lock

-- a lock's word is not 0 exactly where one view holds the lock, and no two hold it
pub record LocksHaveHolders (words : List ℕ) (views : List View) : Type 0 where
  pub held : (lock : ℕ) → lock < 8
      → (lock_word words lock ≢ 0) ↔ SomeView views (HoldsLock lock)
  pub by_one : (lock : ℕ) → OneAtMost views (HoldsLock lock)
  pub eight : (id lock : ℕ) (v : View) → HasAt views id v → HoldsLock lock v → lock < 8

-- what is told is one more than an address that lies not past the next word to copy of an entry
-- which this view has in flight under the lock, and not past the entry's end where none is left
pub record IsToldBy (size lock told : ℕ) (v : View) : Type 0 where
  pub copy : Copy
  pub in_flight : (v.working).flight ≡ Copying copy
  pub under : Contains copy.locks lock
  pub next : copy.copied < words_owned size copy.entry
      → told ≤ address_of_word size copy.entry copy.copied + 1
  pub none_left : words_owned size copy.entry ≤ copy.copied
      → told ≤ finish_of size copy.entry + 1

-- or, where this view has nothing in flight under the lock, it lies not past the reserved end
pub record IsToldAhead (end lock told : ℕ) (v : View) : Type 0 where
  pub none_under : (c : Copy) → (v.working).flight ≡ Copying c → Contains c.locks lock → ⊥
  pub within : told ≤ end + 1

-- a lock's word above 1 is told by the view that holds the lock; `end` is the reserved end, as an
-- address
abbrev pub LocksTellCopies : (size end : ℕ) → List ℕ → List View → Type 0
LocksTellCopies size end words views = (lock : ℕ) → lock < 8 → 1 < lock_word words lock
    → SomeView views (λ v. HoldsLock lock v × (IsToldBy size lock (lock_word words lock) v
    ⊎ IsToldAhead end lock (lock_word words lock) v))

-- ---- entries

-- a view has an entry in flight, under locks that it holds, at least one
abbrev pub HasInFlight : Entry → View → Type 0
HasInFlight e v = (c : Copy) × ((v.working).flight ≡ Copying c) × (c.entry ≡ e)
    × AreSomeOf c.locks (v.working).locks

-- all words of an entry are copied: each is the log's where the ring has its page
abbrev pub IsCopiedWhole : Opening → List Entry → List ℕ → Entry → Type 0
IsCopiedWhole opening order words e = (n : ℕ) → n < words_owned opening.setup.seg_size e
    → HasLogWord opening order words (address_of_word opening.setup.seg_size e n)

-- an entry of the order is whole and in flight nowhere, or is in flight in one view; and no other
-- entry is in flight
pub record EntriesAreWholeOrInFlight (opening : Opening) (order : List Entry) (words : List ℕ)
    (views : List View) : Type 0 where
  pub each : (e : Entry) → Contains order e
      → (IsInNoFlight views e × IsCopiedWhole opening order words e)
      ⊎ SomeView views (HasInFlight e)
  pub by_one : (e : Entry) → OneAtMost views (HasInFlight e)
  pub reserved : (id : ℕ) (v : View) (c : Copy) → HasAt views id v
      → (v.working).flight ≡ Copying c → Contains order c.entry × HasInFlight c.entry v
      × (c.copied ≤ words_owned opening.setup.seg_size c.entry)

-- ---- the turns

-- a view has the turn to map a page, and the turn to write
abbrev pub HasMappingTurn : View → Type 0
HasMappingTurn v = HasTurn (v.mapping).stage

abbrev pub HasTurnToWrite : View → Type 0
HasTurnToWrite v = HasWriteTurn (v.writing).hold

-- a view has the writer in hand
abbrev pub HasWriterOut : View → Type 0
HasWriterOut v = (l : Lent) × ((v.writing).hold ≡ Out l)

-- a turn's word is 0, or one more than the number of the one view that has the turn
pub record TurnHasHolder (turn : ℕ) (views : List View) (Has : View → Type 0) : Type 0 where
  pub word : (turn ≡ 0) ⊎ SomeView views (λ v. Has v × (turn ≡ (v.reserving).number + 1))
  pub told : (id : ℕ) (v : View) → HasAt views id v → Has v → turn ≡ (v.reserving).number + 1
  pub by_one : OneAtMost views Has

-- each of the two turns has one holder at most, and the writer is away exactly where some view has
-- it in hand, which has the turn to write
pub record TurnsHaveHolders (words : List ℕ) (home : Option Plain) (views : List View) : Type 0
  where
    pub mapping : TurnHasHolder (mapping_turn words) views HasMappingTurn
    pub writing : TurnHasHolder (write_turn words) views HasTurnToWrite
    pub away : (home ≡ none) ↔ SomeView views HasWriterOut
    pub out : (id : ℕ) (v : View) → HasAt views id v → HasWriterOut v
        → HasTurnToWrite v × (write_turn words ≡ (v.reserving).number + 1)

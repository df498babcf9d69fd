-- The reserved order: the entries of all passes without a gap, in the position word, the word of
-- the last start, and what each pass has of it (PostgreSQL's xlog.c, ReserveXLogInsertLocation). It
-- grows at its end alone, by who has the position locked: by the store that unlocks it. So an entry
-- has its place for good, whatever fails later, and nobody else stores into either word meanwhile.
-- While the position is locked the word of the last start may be the next entry's already. Whose an
-- entry is, its pass's number says, which no other pass has, also once its pass was taken in.
use Rattle.std.specs.Prelude.{◌≡◌, ◌≢◌, ℕ, ◌+◌, ◌%◌, ◌<◌, ◌≤◌, Bool, true, false, All, AllPairs, Contains, List, [], ◌∷◌, ◌++◌, take, length, Option, Some, None, IsSome, ◌==◌, if◌then◌else◌}
use Rattle.byte_position.specs.Position.{address_of, end_address_of}
use Rattle.wal_page.specs.Order.{Entry}
use Rattle.wal_page.specs.LogPlace.{IsPlace}
use Rattle.machine_state.specs.Words.{Opening, GoesOnAtPlace, last_start, log_limit, order_end}
use Rattle.machine_state.specs.Views.{HasAt, Place, Free, Locked, Loaded, Stored, AtSegmentStart, Stop, Joined, Reserving}

-- whether an entry is of the pass with this number; one that a restart finds has no pass, and is in
-- no order of the machine
abbrev pub is_pass : ℕ → Option ℕ → Bool
is_pass number None = false
is_pass number (Some pass) = pass == number

-- the entries of an order that a pass reserved
abbrev pub entries_under : ℕ → List Entry → List Entry
entries_under number [] = []
entries_under number (e ∷ es) =
    if is_pass number e.pass then e ∷ entries_under number es else entries_under number es

-- what has become of a pass's number: the view that goes by it, the view that may give it away, the
-- view that took its pass in, or none, since it was not given to anybody
pub data Role : Type 0 where
  active : ℕ → Role
  spare : ℕ → Role
  ended : ℕ → Role
  unborn : Role

-- nobody reserves under this number
abbrev pub IsUnused : Role → Type 0
IsUnused (active id) = ⊥
IsUnused (spare id) = Unit {0}
IsUnused (ended id) = ⊥
IsUnused unborn = Unit {0}

-- a pass stopped where an order's front ends that holds all that the pass had reserved by then; and
-- at a segment's start, where it tells that the log stood there
pub record FrontEndsAt (opening : Opening) (number : ℕ) (order entries : List Entry) (stop : Stop)
    : Type 0 where
  pub front : List Entry
  pub back : List Entry
  pub are : order ≡ front ++ back
  pub end : stop.position ≡ order_end opening front
  pub own : entries_under number front ≡ take stop.entries entries
  pub within : stop.entries ≤ length entries
  pub at_start : stop.cause ≡ AtSegmentStart
      → end_address_of opening.setup.seg_size stop.position % opening.setup.seg_size ≡ 0

-- a pass that this view took in reserves no more, and its log is all that it reserved
pub record IsEnded (opening : Opening) (order : List Entry) (role : ℕ → Role) (id : ℕ) (j : Joined)
    : Type 0 where
  pub role_is : role j.number ≡ ended id
  pub entries_are : j.entries ≡ entries_under j.number order
  pub stops : All (FrontEndsAt opening j.number order j.entries) j.stops

-- passes that were taken in have numbers that differ
abbrev pub AreApart : List Joined → Type 0
AreApart joined = AllPairs (λ i j. i.number ≢ j.number) joined

-- what is said of a live view
pub record IsPartOf (opening : Opening) (order : List Entry) (role : ℕ → Role) (id : ℕ)
    (r : Reserving) : Type 0 where
  pub own : role r.number ≡ active id
  pub entries_are : r.entries ≡ entries_under r.number order
  pub spares : (n : ℕ) → r.spare ≤ n → n < r.spare_end → role n ≡ spare id
  pub seen : r.seen ≤ order_end opening order
  pub stops : All (FrontEndsAt opening r.number order r.entries) r.stops
  pub joined : All (IsEnded opening order role id) r.joined
  pub apart : AreApart r.joined

-- a live view is there, and of it this holds
abbrev pub HasLive : List Reserving → ℕ → (Reserving → Type 0) → Type 0
HasLive parts id P = (r : Reserving) × HasAt parts id r × (r.live ≡ true) × P r

-- a view took in the pass with this number
abbrev pub TookIn : ℕ → Reserving → Type 0
TookIn number r = (j : Joined) × Contains r.joined j × (j.number ≡ number)

-- how the words stand with a view that has locked the position: the order's end and last start, the
-- word of the last start, the lock bit, and who set it
module _ (size end last prev locked holder id : ℕ) where
  abbrev pub AtPlace : Place → Type 0
  AtPlace Free = Unit {0}
  AtPlace (Locked at) = (locked ≡ 1) × (holder ≡ id) × (at ≡ end) × (prev ≡ last)
  AtPlace (Loaded at met) =
      (locked ≡ 1) × (holder ≡ id) × (at ≡ end) × (prev ≡ last) × (met ≡ last)
  AtPlace (Stored at met) =
      (locked ≡ 1) × (holder ≡ id) × (at ≡ end) × (prev ≡ address_of size at) × (met ≡ last)

-- Every view but those that gave up is one that is live or was taken in. `locked` is the lock bit,
-- `holder` the view that set it, `keeper` the one that has spare numbers. No entry is in the order
-- but those of live views and of the passes that these took in
pub record OrderHolds (opening : Opening) (order : List Entry) (position prev : ℕ)
    (parts : List Reserving) : Type 0 where
  pub role : ℕ → Role
  pub locked : ℕ
  pub holder : ℕ
  pub keeper : ℕ
  pub placed : IsPlace opening.setup.seg_size opening.place
  pub chained : GoesOnAtPlace opening order
  pub owned : All (λ e. IsSome e.pass) order
  pub within : order_end opening order ≤ log_limit opening.setup
  pub position_is : position ≡ order_end opening order + locked
  pub one_bit : locked ≤ 1
  pub at_rest : locked ≡ 0 → prev ≡ last_start opening order
  pub unused : (n : ℕ) → IsUnused (role n) → entries_under n order ≡ []
  pub beyond : (n : ℕ) → opening.setup.passes ≤ n → role n ≡ unborn
  pub views : (id : ℕ) (r : Reserving) → HasAt parts id r → r.live ≡ true
      → IsPartOf opening order role id r
  pub places : (id : ℕ) (r : Reserving) → HasAt parts id r → r.live ≡ true
      → AtPlace opening.setup.seg_size (order_end opening order)
      (last_start opening order) prev locked holder id r.place
  pub spares : (id : ℕ) (r : Reserving) → HasAt parts id r → r.live ≡ true
      → r.spare < r.spare_end → id ≡ keeper
  pub goes_by : (n id : ℕ) → role n ≡ active id → HasLive parts id (λ r. r.number ≡ n)
  pub took_in : (n id : ℕ) → role n ≡ ended id → HasLive parts id (TookIn n)
  pub held : locked ≡ 1 → HasLive parts holder (λ r. r.place ≢ Free)

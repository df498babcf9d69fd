-- What every sound state shows of the reserved order: whose numbers there are, where the order
-- ends, which entry was the last, and whose entries it holds.
use Rattle.std.specs.Prelude.{◌≡◌, ◌≢◌, ◌⊎◌, ℕ, ◌-◌, ◌%◌, ◌<◌, ◌≤◌, true, All, Contains, List, IsSome}
use Rattle.byte_position.specs.Position.{address_of}
use Rattle.wal_page.specs.Order.{Entry}
use Rattle.machine_state.specs.Words.{Opening, log_limit, position_word, prev_word, order_end, last_start, GoesOnAtPlace}
use Rattle.machine_state.specs.Views.{HasAt, Place, Free, Locked, Loaded, Stored, Joined, Reserving, View}
use Rattle.machine_state.specs.Ordered.{entries_under, AreApart, FrontEndsAt, TookIn}

-- a number that a pass may give to another one; and one that is its own, to give, or of a pass that
-- it took in
abbrev pub IsSpare : ℕ → Reserving → Type 0
IsSpare number r = (r.spare ≤ number) × (number < r.spare_end)

abbrev pub HasNumber : ℕ → Reserving → Type 0
HasNumber number r = (number ≡ r.number) ⊎ IsSpare number r ⊎ TookIn number r

-- the numbers of one pass: none of them stands twice
pub record NumbersDiffer (r : Reserving) : Type 0 where
  pub own_to_give : IsSpare r.number r → ⊥
  pub own_taken_in : TookIn r.number r → ⊥
  pub taken_in_to_give : (n : ℕ) → IsSpare n r → TookIn n r → ⊥
  pub taken_in : AreApart r.joined

-- what a view that locked the position tells: where the order ends, and whether the word of the
-- last start is that of the order's last entry still, or that of the next one already
abbrev pub TellsLastStart : Opening → List Entry → ℕ → Place → Type 0
TellsLastStart opening order prev Free = ⊥
TellsLastStart opening order prev (Locked at) =
    (at ≡ order_end opening order) × (prev ≡ last_start opening order)
TellsLastStart opening order prev (Loaded at met) =
    (at ≡ order_end opening order) × (prev ≡ last_start opening order)
    × (met ≡ last_start opening order)
TellsLastStart opening order prev (Stored at met) =
    (at ≡ order_end opening order) × (prev ≡ address_of opening.setup.seg_size at)
    × (met ≡ last_start opening order)

module _ (opening : Opening) (order : List Entry) (words : List ℕ) (views : List View) where
  -- a live view of which this holds
  abbrev pub SomeLive : (Reserving → Type 0) → Type 0
  SomeLive P = (id : ℕ) × (v : View) × HasAt views id v × ((v.reserving).live ≡ true)
      × P v.reserving

  -- what is said of each live view
  pub record HasItsPart (r : Reserving) : Type 0 where
    pub below : (n : ℕ) → HasNumber n r → n < (opening.setup).passes
    pub numbers : NumbersDiffer r
    pub seen : r.seen ≤ order_end opening order
    -- its log, and the logs that it took in
    pub entries : r.entries ≡ entries_under r.number order
    pub joined : All (λ j. j.entries ≡ entries_under j.number order) r.joined
    -- each position at which one of them met a full log
    pub stops : All (FrontEndsAt opening r.number order r.entries) r.stops
    pub joined_stops : All
        (λ j. All (FrontEndsAt opening j.number order j.entries) j.stops) r.joined

  pub record OrderIsShared : Type 0 where
    pub each : (id : ℕ) (v : View) → HasAt views id v → (v.reserving).live ≡ true
        → HasItsPart v.reserving
    pub one_owner : (id other : ℕ) (v w : View) (n : ℕ) → HasAt views id v
        → (v.reserving).live ≡ true → HasAt views other w → (w.reserving).live ≡ true
        → HasNumber n v.reserving → HasNumber n w.reserving → id ≡ other
    -- there is no gap, and each entry is some pass's
    pub chained : GoesOnAtPlace opening order
    pub owned : All (λ e. IsSome e.pass) order
    pub end : order_end opening order ≡ position_word words - position_word words % 2
    pub within : order_end opening order ≤ log_limit opening.setup
    pub last : position_word words % 2 ≡ 0 → prev_word words ≡ last_start opening order
    -- one view has the position locked, where it is locked, and none else
    pub locked : position_word words % 2 ≡ 1 → SomeLive (λ r. r.place ≢ Free)
    pub tells : (id : ℕ) (v : View) → HasAt views id v → (v.reserving).live ≡ true
        → (v.reserving).place ≢ Free → (position_word words % 2 ≡ 1)
        × TellsLastStart opening order (prev_word words) (v.reserving).place
    pub one_holder : (id other : ℕ) (v w : View) → HasAt views id v
        → (v.reserving).live ≡ true → HasAt views other w → (w.reserving).live ≡ true
        → (v.reserving).place ≢ Free → (w.reserving).place ≢ Free → id ≡ other
    -- each entry is of a view, or of a pass that one took in
    pub no_other : (e : Entry) → Contains order e → SomeLive (λ r. Contains r.entries e)
        ⊎ SomeLive (λ r. (j : Joined) × Contains r.joined j × Contains j.entries e)

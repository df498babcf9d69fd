-- The end of a log: what holds once one pass has all numbers of it, and is about nothing.
use Rattle.std.specs.Prelude.{◌≡◌, ◌≢◌, ℕ, ◌*◌, ◌/◌, ◌<◌, ◌≤◌, true, List, [], ◌∷◌, length, IfSome, All, IsSome}
use mathlib.Core.Option.{Option, some}
use Rattle.segment_disk.specs.Tape.{DiskState, state_now}
use Rattle.wal_page.specs.Order.{Entry}
use Rattle.machine_state.specs.Words.{Opening, position_word, prev_word, lock_word, mapping_turn, write_turn, written_word, flushed_word, moment_word, down_word, word_of_ring, end_form, log_limit, order_end, last_start, GoesOnAtPlace}
use Rattle.machine_state.specs.Suited.{IfSuited}
use Rattle.machine_state.specs.Views.{HasAt, Landed, Plain, Reserving, View, receipts_of}
use Rattle.machine_state.specs.Ordered.{entries_under, TookIn}
use Rattle.machine_state.specs.Ringed.{log_word_of}
use Rattle.machine_state.specs.Positioned.{ReadsBelow}
use Rattle.machine_state.specs.Durable.{IsOnDisk, one_if_some, setters_of}
use Rattle.machine_state.specs.Steps.{IsResting, ring_place}
use Rattle.machine_state.specs.Shown.{IsPresent}
use Rattle.machine_laws.specs.SharedOrders.{HasItsPart, HasNumber}
use Rattle.machine_laws.specs.Crashes.{CrashesLeave, DownTells}

-- each number that a pass may have is this one's own, one that it may give away, or that of a pass
-- that it took in
abbrev pub HasAllNumbers : ℕ → Reserving → Type 0
HasAllNumbers passes r = (number : ℕ) → number < passes → HasNumber number r

-- a pass that is left alone: it is live, about nothing, and has all numbers
pub record IsLastPass (opening : Opening) (v : View) : Type 0 where
  pub live : (v.reserving).live ≡ true
  pub rests : IsResting v
  pub numbers : HasAllNumbers (opening.setup).passes v.reserving

module _ (opening : Opening) (order : List Entry) (words : List ℕ) where
  abbrev size : ℕ
  size = (opening.setup).seg_size

  -- the position is not locked, nobody has a turn, and the words tell the order's end
  pub record WordsAreFree : Type 0 where
    pub position : position_word words ≡ order_end opening order
    pub last : prev_word words ≡ last_start opening order
    pub mapping : mapping_turn words ≡ 0
    pub writing : write_turn words ≡ 0

  -- the order is without a gap what this pass reserved, and what those did that it took in
  pub record OrderIsAccounted (views : List View) (r : Reserving) : Type 0 where
    pub chained : GoesOnAtPlace opening order
    pub owned : All (λ e. IsSome e.pass) order
    pub within : order_end opening order ≤ log_limit opening.setup
    -- their logs are their entries of the order, also where one found the log full
    pub part : HasItsPart opening order words views r
    pub no_other : (number : ℕ) → number ≢ r.number → (TookIn number r → ⊥)
        → entries_under number order ≡ []

  -- no pass has a lock or an entry in flight, and the ring has the log from the written address on
  pub record AllIsCopied (views : List View) : Type 0 where
    pub landed : (id : ℕ) (v : View) → HasAt views id v
        → ((v.working).locks ≡ []) × ((v.working).flight ≡ Landed)
    pub locks : (lock : ℕ) → lock < 8 → lock_word words lock ≡ 0
    pub unwritten : (k : ℕ) → written_word words ≤ 8 * k
        → 8 * k < end_form opening.setup (order_end opening order)
        → IsPresent opening.setup words (k / 1024)
    pub ring : (k : ℕ) → IsPresent opening.setup words (k / 1024)
        → word_of_ring opening.setup words (ring_place opening.setup k)
        ≡ log_word_of opening order (8 * k)

-- what a disk held at first, with that
module _ (first : DiskState) (opening : Opening) (order : List Entry) (words : List ℕ) where
  -- what is durable is written, what is written is reserved, and the disk reads as the log below
  pub record PositionsAreLast (writer : Plain) : Type 0 where
    pub begun : (opening.setup).seg_size ≤ flushed_word words
    pub flushed_low : flushed_word words ≤ written_word words
    pub written_low : written_word words ≤ writer.written
    pub written_is : down_word words ≡ 0 → written_word words ≡ writer.written
    pub reserved : writer.written ≤ end_form opening.setup (order_end opening order)
    pub reads : IfSuited first opening writer
        (λ t. ReadsBelow opening order writer.written (state_now t))

  -- what a crash leaves, whenever it comes, with the promises made to this pass and to those that
  -- it took in; what the down value tells of the disk; and that one of these passes set it, where
  -- it is set, and no other
  pub record LogIsDurable (writer : Plain) (v : View) : Type 0 where
    pub counted : IfSome writer.calls (λ calls. writer.moment ≡ length calls)
    pub since : opening.moment ≤ moment_word words
    pub moment_low : moment_word words ≤ writer.moment
    pub on_disk : IfSuited first opening writer (IsOnDisk opening order writer)
    pub crashes : IfSuited first opening writer (λ t. CrashesLeave opening order
        (flushed_word words)
        (moment_word words) t (receipts_of v ∷ []))
    pub down : DownTells opening (down_word words) (some writer) writer (receipts_of v ∷ [])
    pub set_once : setters_of (receipts_of v) ≡ one_if_some (down_word words)

  -- the log is at rest in the hand of one pass, with its writer at home
  pub record IsClosed (home : Option Plain) (writer : Plain) (views : List View) (id : ℕ)
      (v : View) : Type 0 where
    pub alone : (other : ℕ) (w : View) → HasAt views other w → (w.reserving).live ≡ true
        → other ≡ id
    pub at_home : home ≡ some writer
    pub free : WordsAreFree opening order words
    pub accounted : OrderIsAccounted opening order words views v.reserving
    -- behind a fault of the disk a pass may have given up its copy
    pub copied : down_word words ≡ 0 → AllIsCopied opening order words views
    pub positions : PositionsAreLast writer
    pub durable : LogIsDurable writer v

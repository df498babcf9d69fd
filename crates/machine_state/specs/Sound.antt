-- The invariant of the words that all backends share, the writer, and what every pass knows. It
-- holds between any two steps, in whatever order the passes' steps come. Each part reads its own
-- words and its own part of each view, so that a step keeps without a word each part that it does
-- not touch. docs/COMMIT.md tells why each part is kept.
use Rattle.std.specs.Prelude.{◌≡◌, ◌≢◌, ◌≤◌, ◌⊎◌, ℕ, true, false, List, [], length, map}
use mathlib.Core.Option.{Option}
use Rattle.segment_disk.specs.Tape.{DiskState}
use Rattle.byte_position.specs.Geometry.{IsSegmentSize}
use Rattle.wal_page.specs.Order.{Entry}
use Rattle.machine_state.specs.declared.setup.Setup.{Setup}
use Rattle.machine_state.specs.Words.{Opening, position_word, prev_word, lock_word, mapping_turn, write_turn, initialised_word, written_word, flushed_word, moment_word, down_word, end_word, word_of_ring, word_count, async_word, end_form, order_end}
use Rattle.machine_state.specs.Views.{HasAt, Landed, Away, Idle, Plain, View, Stage, reserving_of, working_of, flight_of, watching_of, mapper_of, confirmed_of, writer_of, writing_of, receipts_of, async_met_of}
use Rattle.machine_state.specs.Ordered.{OrderHolds}
use Rattle.machine_state.specs.Locked.{LocksHold, ProgressHolds, SwitchesStandAlone}
use Rattle.machine_state.specs.Ringed.{RingHolds}
use Rattle.machine_state.specs.Paged.{PagesHold}
use Rattle.machine_state.specs.Watched.{WatchHolds}
use Rattle.machine_state.specs.Positioned.{PositionsHold}
use Rattle.machine_state.specs.Durable.{DurabilityHolds}
use Rattle.machine_state.specs.Reading.{ReadingHolds}
use Rattle.machine_state.specs.Async.{AsyncHolds}
use Rattle.machine_state.specs.Aligned.{AlignmentHolds}
use Rattle.machine_state.specs.Failed.{FaultIsKnown}

-- the setup is one that a log can have: 4 to 64 pages of ring, 1 to 4,096 segments, 1 to 65,536
-- passes
pub record IsSetup (setup : Setup) : Type 0 where
  pub size : IsSegmentSize setup.seg_size
  pub ring_low : 4 ≤ setup.ring_pages
  pub ring_high : setup.ring_pages ≤ 64
  pub cap_low : 1 ≤ setup.cap_segments
  pub cap_high : setup.cap_segments ≤ 4096
  pub named : setup.sysid ≢ 0
  pub passes_low : 1 ≤ setup.passes
  pub passes_high : setup.passes ≤ 65536

-- a view that is live knows what is fixed, and watches for no more than it has seen reserved; one
-- that is not has no turn, took in no pass and set nothing, and has locks or an entry in flight
-- only where the disk has failed
pub record IsGrounded (opening : Opening) (down : ℕ) (v : View) : Type 0 where
  pub opening_is : (v.reserving).live ≡ true → v.opening ≡ opening
  pub watches : (v.reserving).live ≡ true
      → (v.watching).end ≤ end_form opening.setup (v.reserving).seen
  pub at_rest : (v.reserving).live ≡ false
      → ((v.mapping).stage ≡ Away) × ((v.writing).hold ≡ Idle)
  pub set_none : (v.reserving).live ≡ false
      → ((v.writing).down_set ≡ 0) × ((v.reserving).joined ≡ [])
  pub left : (v.reserving).live ≡ false
      → ((v.working).locks ≢ []) ⊎ ((v.working).flight ≢ Landed) → down ≢ 0

-- the parts, all over one reserved order, one memory of the log's words and one writer, wherever it
-- is
pub record IsSound (first : DiskState) (opening : Opening) (words : List ℕ) (home : Option Plain)
    (views : List View)
    : Type 0 where
  pub order : List Entry
  pub memory : ℕ → ℕ
  pub reach : ℕ
  pub stage : Stage
  pub writer : Plain
  pub setup_is : IsSetup opening.setup
  pub wide : length words ≡ word_count opening.setup
  pub grounded : (id : ℕ) (v : View) → HasAt views id v
      → IsGrounded opening (down_word words) v
  -- the order without a gap, up to the position, and each pass's log its entries of it
  pub reserved : OrderHolds opening order (position_word words)
      (prev_word words) (map reserving_of views)
  -- no lock and no turn has two holders, and the writer is at home or with who has its turn
  pub locks : LocksHold (lock_word words) (map working_of views)
      (mapping_turn words) stage (map mapper_of views)
      (write_turn words) home writer (map writer_of views)
  -- no lock tells more than is copied under it
  pub progress : ProgressHolds opening.setup.seg_size
      (end_form opening.setup (order_end opening order))
      (lock_word words) (map working_of views)
  -- a segment switch in flight stands under all eight locks, until its last word is copied
  pub alone : SwitchesStandAlone opening.setup.seg_size (map working_of views)
  -- each word in memory is the log's, or 0 and still to be copied
  pub ring : RingHolds opening order reach memory (map flight_of views)
  -- the buffers hold a window of pages with these words; what was given up is written
  pub pages : PagesHold opening.setup.ring_pages reach stage (initialised_word words)
      (written_word words) (end_word words) (word_of_ring opening.setup words) memory
      (map confirmed_of views)
  -- flushed, written, copied, reserved: each is at most the next one
  pub positions : PositionsHold first opening order (written_word words) (flushed_word words)
      (down_word words) home writer (map flight_of views) (map writing_of views)
  -- what crashes leave, and what was promised of it
  pub durable : DurabilityHolds first opening order (flushed_word words) (moment_word words)
      (down_word words) home writer (map receipts_of views)
  -- what is read of the disk is zeros or the word in memory, and calls only add to it
  pub reading : ReadingHolds first opening memory writer (map writing_of views)
  -- what watchers have found to be copied is so
  pub watching : WatchHolds opening.setup.seg_size
      (end_form opening.setup (order_end opening order))
      (map working_of views) (map watching_of views)
  -- up to where commits are told ahead is reserved, and no pass counts on more
  pub async : AsyncHolds (async_word opening.setup words)
      (end_form opening.setup (order_end opening order))
      (map async_met_of views)
  -- addresses that passes learn are multiples of 8
  pub aligned : AlignmentHolds (lock_word words) (written_word words) (flushed_word words) writer
      views
  -- where the disk is told to have failed, a live pass knows it
  pub failed : FaultIsKnown (down_word words) views

-- Promises come before what they do not speak of is written.
use Rattle.std.specs.Prelude.{◌≡◌, ℕ, ◌≤◌, All, List, drop, length, take, Some, slice_get}
use Rattle.segment_disk.specs.Tape.{Tape}
use Rattle.wal_page.specs.Order.{Entry}
use Rattle.run_laws.specs.Crash.{WritesNone}
use Rattle.machine_state.specs.Words.{Opening}
use Rattle.machine_state.specs.Views.{FlushPromise}

-- a log was promised this at a moment of the disk since the opening, and no call from the opening
-- up to that moment writes a word of an entry that the log had not yet
pub record IsTimely (opening : Opening) (order : List Entry) (t : Tape) (entries : List Entry)
    (p : FlushPromise) : Type 0 where
  pub since : opening.moment ≤ p.moment
  pub passed : p.moment ≤ length t.calls
  pub unwritten : (k : ℕ) (e : Entry) → p.entries ≤ k → slice_get entries k ≡ Some e
      → All (WritesNone (opening.setup).seg_size order e)
      (drop opening.moment (take p.moment t.calls))

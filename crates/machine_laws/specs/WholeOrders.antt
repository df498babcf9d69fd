-- An order that goes on at a place, with all that lies below it: where what was found is known
-- entry by entry, the found entries and those reserved behind them are one order from the log's
-- start on.
use Rattle.std.specs.Prelude.{◌≡◌, ℕ, ◌%◌, ◌<◌, All, List, None}
use Rattle.wal_page.specs.Order.{Entry, IsChained, end_position, prev_of}
use Rattle.wal_page.specs.Log.{log_word}
use Rattle.wal_page.specs.LogPlace.{word_below}
use Rattle.machine_state.specs.Words.{Opening, end_form, order_end}
use Rattle.machine_state.specs.Ringed.{log_word_of}

-- the opening's place lies behind these entries: they end there without a gap from the log's start
-- on, the last of them starts where the place says, and the words below are theirs. They are no
-- pass's
pub record LiesBehind (opening : Opening) (front : List Entry) : Type 0 where
  pub chained : IsChained opening.setup.seg_size front
  pub position_is : opening.place.position ≡ end_position opening.setup.seg_size front
  pub prev_is : opening.place.prev ≡ prev_of opening.setup.seg_size 0 front
  pub words_are : (address : ℕ) → address % 8 ≡ 0
      → address < end_form opening.setup opening.place.position
      → word_below opening.setup.seg_size opening.place address
      ≡ log_word opening.setup.seg_size opening.setup.sysid front address
  pub nobodys : All (λ e. e.pass ≡ None) front

-- an order of a log from its start on that ends where this one does, and has its words
pub record IsWholeOrder (opening : Opening) (order whole : List Entry) : Type 0 where
  pub chained : IsChained opening.setup.seg_size whole
  pub end : end_position opening.setup.seg_size whole ≡ order_end opening order
  pub words : (address : ℕ) → address % 8 ≡ 0 → log_word_of opening order address
      ≡ log_word opening.setup.seg_size opening.setup.sysid whole address

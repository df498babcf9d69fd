-- A page of the log as it is when all of an order's words are in it.
use Rattle.std.specs.Prelude.{◌≡◌, ℕ, ◌+◌, ◌*◌, ◌<◌, List, length, slice_index}
use Rattle.wal_page.specs.Order.{Entry}
use Rattle.wal_page.specs.Log.{log_byte}

-- these are a page's 8192 bytes, each the log's at its address; `page` counts from the log's byte 0
pub record IsLogPage (size sysid : ℕ) (es : List Entry) (page : ℕ) (bytes : List ℕ) : Type 0 where
  pub long : length bytes ≡ 8192
  pub each : (k : ℕ) → k < 8192 → slice_index bytes k ≡ log_byte size sysid es (page * 8192 + k)

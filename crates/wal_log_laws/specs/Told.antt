-- What a pass was told of flushes, and the entries and promises that it has once it took others in.
use Rattle.std.specs.Prelude.{ℕ, ◌≤◌, Contains, length}
use Rattle.wal_page.specs.Order.{Entry}
use Rattle.machine_state.specs.Views.{FlushPromise, View}
use Rattle.wal_log.specs.PassLogs.{PassLog}
use Rattle.wal_log_laws.specs.Growing.{HasLog}

-- that all below an address is durable from a moment on, as it is promised to a log
abbrev pub promise_to : PassLog → (upto moment : ℕ) → FlushPromise
promise_to l upto moment =
    record { upto = upto; moment = moment; entries = length l.entries }

-- a promise to a log reaches an address
pub record Promises (l : PassLog) (address : ℕ) (p : FlushPromise) : Type 0 where
  pub in_log : Contains l.promises p
  pub reaches : address ≤ p.upto

-- a pass has an entry: it stands in a log that the pass has
abbrev pub HasEntry : Entry → View → Type 0
HasEntry e v = (l : PassLog) × HasLog l v × Contains l.entries e

-- a pass has a promise that reaches an address: it was made to a log that the pass has
abbrev pub HasPromise : ℕ → FlushPromise → View → Type 0
HasPromise address p v = (l : PassLog) × HasLog l v × Promises l address p

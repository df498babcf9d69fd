-- Commits that are answered before they are durable (PostgreSQL's asynchronous commit: xlog.c,
-- XLogSetAsyncXactLSN, keeps the address up to which one was answered last). The last word tells
-- up to where: whoever answers such a commit raises it to the commit's end first, and who flushes
-- behind takes it as its goal. It is only raised, so what a pass met or stored of it stays at or
-- below it, and so do the pass's entries that end there or before.
use Rattle.std.specs.Prelude.{◌≡◌, ℕ, ◌%◌, ◌≤◌, List}
use Rattle.machine_state.specs.Views.{HasAt}

-- `async` is the word, `end` the order's end as an address, `met_of` what each view met or stored
pub record AsyncHolds (async end : ℕ) (met_of : List ℕ) : Type 0 where
  pub reserved : async ≤ end
  pub aligned : async % 8 ≡ 0
  pub met : (id n : ℕ) → HasAt met_of id n → (n ≤ async) × (n % 8 ≡ 0)

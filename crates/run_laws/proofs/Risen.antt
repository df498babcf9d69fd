-- The entries of one number rise, since the order has no gap.
use Rattle.std.proofs.Common.{ℕ, ◌≤◌, cond, Bool, true, false, List, [], ◌∷◌, arith}
use Rattle.wal_page.specs.Order.{Entry, FollowsFrom, position_behind}
use Rattle.machine_state.specs.Words.{Opening}
use Rattle.machine_state.specs.Views.{Reserving, View}
use Rattle.machine_state.specs.Ordered.{entries_under, is_pass}
use Rattle.machine_laws.specs.ClosedLogs.{OrderIsAccounted}
use Rattle.run_laws.specs.Rising.{LogsAreOfOrder, RiseFrom}

-- with the first entry, or without it
with_first : (size low : ℕ) (has : Bool) (e : Entry) (rest : List Entry) → low ≤ e.start
    → RiseFrom size (position_behind size e) rest → RiseFrom size low rest
    → RiseFrom size low (cond has (e ∷ rest) rest)
with_first size low true e rest within behind others = (within, behind)
with_first size low false e rest within behind others = others

entries_rise : (size number position low : ℕ) (es : List Entry) → FollowsFrom size position es
    → low ≤ position → RiseFrom size low (entries_under number es)
entries_rise size number position low [] follows within = tt
entries_rise size number position low (e ∷ es) follows within =
    let behind = position_behind size e in
    with_first size low (is_pass number e.pass) e (entries_under number es)
    (omega (arith, follows.0, within))
    (entries_rise size number behind behind es follows.2 (omega arith))
    (entries_rise size number behind low es follows.2 (omega (arith, follows.0, within)))

pub risen : (opening : Opening) (order : List Entry) (words : List ℕ) (views : List View)
    (r : Reserving) → OrderIsAccounted opening order words views r
    → LogsAreOfOrder opening order r
risen opening order words views r accounted =
    let first = (opening.place).position in
    record {
      rise = λ number. entries_rise (opening.setup).seg_size number first first order
          accounted.chained (omega arith);
      own = (accounted.part).entries;
      joined = (accounted.part).joined;
      no_other = accounted.no_other;
    }

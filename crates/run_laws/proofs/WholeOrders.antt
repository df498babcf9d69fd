-- An order behind entries that lie below its place: with them it is one from the log's start on.
use Rattle.std.proofs.Common.{ℕ, List, ◌++◌, subst}
use Rattle.byte_position.specs.Position.{first_position}
use Rattle.wal_page.specs.Order.{Entry, FollowsFrom, IsChained}
use Rattle.wal_page.proofs.OrderLaws.{FollowsFrom-append}
use Rattle.machine_state.specs.Words.{GoesOnAtPlace, Opening}
use Rattle.machine_laws.specs.WholeOrders.{LiesBehind}

pub chained_whole : (opening : Opening) (front : List Entry) → LiesBehind opening front
    → (order : List Entry) → GoesOnAtPlace opening order
    → IsChained (opening.setup).seg_size (front ++ order)
chained_whole opening front lies order follows =
    let size = (opening.setup).seg_size in
    FollowsFrom-append size (first_position size) front order lies.chained
    (subst (λ (p : ℕ). FollowsFrom size p order) lies.position_is follows)

-- The orders that a log can have.
use Rattle.std.specs.Prelude.{ℕ, ◌^◌, ◌<◌, ◌≤◌, List}
use Rattle.byte_position.specs.Geometry.{IsSegmentSize}
use Rattle.byte_position.specs.Position.{end_address_of}
use Rattle.wal_page.specs.Order.{Entry, IsChained, end_position}

-- an order that a log can have, with its system id
pub record IsLogOrder (size sysid : ℕ) (es : List Entry) : Type 0 where
  pub valid : IsSegmentSize size
  pub known : 0 < sysid
  pub narrow : sysid < 2 ^ 64
  pub chained : IsChained size es
  pub bounded : end_address_of size (end_position size es) ≤ 2 ^ 60

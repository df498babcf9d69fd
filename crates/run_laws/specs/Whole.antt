-- A disk that holds all of a log for good.
use Rattle.std.specs.Prelude.{ℕ, List}
use Rattle.segment_disk.specs.DiskImage.{DiskImage, MayLeave, image_as_read}
use Rattle.segment_disk.specs.Tape.{Tape, state_now}
use Rattle.wal_page.specs.Order.{Entry}
use Rattle.run_laws.specs.WholeOrders.{DecodesTo}

-- every image that a crash may leave now, and the disk as it is read, decode to all of an order and
-- then to a clean end
pub record HoldsWhole (size : ℕ) (t : Tape) (order : List Entry) : Type 0 where
  pub left : (image : DiskImage) → MayLeave (state_now t) image → DecodesTo size image order
  pub read : DecodesTo size (image_as_read (state_now t)) order

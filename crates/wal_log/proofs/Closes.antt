-- The position of a closed log is far below the last number of 64 bits.
use Rattle.std.proofs.Common.{ℕ, ◌<◌, ◌^◌, Option, arith}
use Rattle.segment_disk.specs.Tape.{Tape}
use Rattle.machine_state.proofs.Bounds.{limit_low}
use Rattle.machine_state.specs.Words.{Opening}
use Rattle.wal_rule.specs.declared.writer.LogWriter.{LogWriter}
use Rattle.wal_rule.specs.Closing.{ClosesWith}
use Rattle.machine_state.specs.Views.{View}

module _ {D : Type 0} (tape : D → Option Tape) (moment faults : D → ℕ) (began : Option Tape)
    (opening : Opening) where
  pub position_low : (v : View) (w : LogWriter D) (position : ℕ)
      → ClosesWith tape moment faults began opening v w position → position < 2 ^ 60
  position_low v w position ends =
      let low = limit_low opening.setup (ends.sound).setup_is in
      let free = (ends.closed).free in
      let accounted = (ends.closed).accounted in
      omega (arith, low, ends.position_is, free.position, accounted.within)

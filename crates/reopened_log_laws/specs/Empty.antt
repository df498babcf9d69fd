-- A disk that holds nothing, as the one on which a log begins.
use Rattle.std.specs.Prelude.{ℕ, ◌^◌, ◌<◌, [], Some}
use Rattle.byte_position.specs.Geometry.{IsSegmentSize}
use Rattle.segment_disk.specs.Tape.{Tape}
use Rattle.flush_core.specs.Pages.{HoldsNothing}
use Rattle.reopened_log_laws.specs.WasLeft.{WasLeftOf}

-- such a disk counts as left by this program, with the log of no entries: of these none is torn,
-- whatever a crash leaves
abbrev pub EmptyDisksWereLeft : Type 0
EmptyDisksWereLeft =
    (size sysid : ℕ) (t : Tape) → IsSegmentSize size → 0 < sysid → sysid < 2 ^ 64
    → HoldsNothing (Some t) → WasLeftOf size sysid [] t []

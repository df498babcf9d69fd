-- Redo that is made again.
use Rattle.std.specs.Prelude.{◌≡◌, ℕ, Option, Ok, Err}
use Rattle.byte_position.specs.Geometry.{IsSegmentSize}
use Rattle.segment_disk.specs.Tape.{Tape}
use Rattle.wal_redo.specs.declared.redoing.RedoErr.{RedoErr}
use Rattle.wal_redo.specs.BlockMap.{BlockMap}
use Rattle.wal_redo.specs.Redo.{IsRedo}

-- behind a redo of all another one changes nothing, and puts as many images
abbrev pub RedoAgainChangesNothing : Type 0
RedoAgainChangesNothing =
    (size start : ℕ) (t : Tape) (old once twice : Option BlockMap) (count again : ℕ)
    → IsSegmentSize size → IsRedo size start old once (Ok count) t
    → IsRedo size start once twice (Ok again) t → (twice ≡ once) × (again ≡ count)

-- behind a redo that was refused one of all leaves what it would have left without the first
abbrev pub RedoGoesOnBehindARefusal : Type 0
RedoGoesOnBehindARefusal =
    (size start : ℕ) (t : Tape) (old between new : Option BlockMap) (error : RedoErr) (count : ℕ)
    → IsSegmentSize size → IsRedo size start old between (Err error) t
    → IsRedo size start between new (Ok count) t → IsRedo size start old new (Ok count) t

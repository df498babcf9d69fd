-- The disks that this program left, crashed or not. `size` is that of a segment in bytes, `sysid`
-- the log's system id.
use Rattle.std.specs.Prelude.{◌≡◌, ℕ, ◌/◌, ◌^◌, ◌<◌, List}
use Rattle.segment_disk.specs.Tape.{Tape, state_now}
use Rattle.wal_page.specs.Order.{Entry}
use Rattle.flush_core.specs.Settled.{HaveWholePages}
use Rattle.flush_core.specs.SettledLog.{AreOnly}
use Rattle.wal_reader.specs.declared.found.FoundRecord.{FoundRecord}
use Rattle.written_log_laws.specs.FoundLog.{ReadsUntorn}
use Rattle.written_log_laws.specs.SettledFound.{NextIsNeverWhole}

-- the disk holds what was written of the log of some order, in the segments from 1 to `count` and
-- in no other, and these records are read of it: each word that a crash may leave is 0 or the
-- log's, and it never leaves the entry behind these records whole. No torn record passes its CRC
-- as the disk is read
pub record WasLeft (size sysid : ℕ) (t : Tape) (found : List FoundRecord) : Type 0 where
  pub order : List Entry
  pub count : ℕ
  pub has_found : ReadsUntorn size sysid count order (state_now t) found
  pub only : AreOnly count (state_now t)
  pub never_whole : NextIsNeverWhole size sysid order found (state_now t)
  pub whole : HaveWholePages size (state_now t)
  -- segment `count` ends at address 2 ^ 60 or below
  pub low : count < 2 ^ 60 / size

-- so that the order was this one
abbrev pub WasLeftOf : (size sysid : ℕ) → List Entry → Tape → List FoundRecord → Type 0
WasLeftOf size sysid order t found = (left : WasLeft size sysid t found) × (left.order ≡ order)

-- What the calls that do not wait answer a pass that has all numbers of its log: whatever else they
-- tell, another pass was not in the way.
use Rattle.std.specs.Prelude.{◌≡◌, Result, Ok, Err}
use Rattle.wal_types.specs.declared.answers.Hard.{Hard}
use Rattle.machine_state.specs.Views.{View}
use Rattle.machine_laws.specs.LonePasses.{IsLone}
use Rattle.wal_rule.specs.declared.pass.Pass.{Pass}
use Rattle.wal_log.specs.declared.beginning.TryErr.{TryErr}
use Rattle.wal_log.specs.declared.beginning.TryErr.TheVariants as begins
use Rattle.wal_log.specs.declared.copying.CopyStop.{CopyStop}
use Rattle.wal_log.specs.declared.copying.CopyStop.TheVariants as stops
use Rattle.wal_log.specs.declared.flushing.TryFlushErr.{TryFlushErr}
use Rattle.wal_log.specs.declared.flushing.TryFlushErr.TheVariants as flushes
use Rattle.wal_log.specs.declared.in_flight.Inflight.{Inflight}

-- a pass has all numbers of its log
abbrev pub IsLonePass : View → Type 0
IsLonePass v = IsLone v.opening v

-- the position was not locked or moved, and a lock was free
abbrev pub IsNotHeldUp : TryErr → Type 0
IsNotHeldUp (begins.Busy seen) = ⊥
IsNotHeldUp (begins.AllHeld seen) = ⊥
IsNotHeldUp (begins.Full free) = Unit {0}
IsNotHeldUp (begins.Down faults) = Unit {0}

abbrev pub BeginsUnhindered : Result Inflight (TryErr × Pass) → Type 0
BeginsUnhindered (Ok flight) = Unit {0}
BeginsUnhindered (Err refused) = IsNotHeldUp refused.0

-- no lock held the flush back, and the turn to write was free
abbrev pub IsNotHeldBack : TryFlushErr → Type 0
IsNotHeldBack (flushes.Disk faults) = Unit {0}
IsNotHeldBack (flushes.Down faults) = Unit {0}
IsNotHeldBack (flushes.Unreserved end) = Unit {0}
IsNotHeldBack (flushes.Behind lock word) = ⊥
IsNotHeldBack (flushes.Turn turn) = ⊥

abbrev pub FlushesUnhindered : Result Hard TryFlushErr → Type 0
FlushesUnhindered (Ok hard) = Unit {0}
FlushesUnhindered (Err e) = IsNotHeldBack e

-- the turn to map was free
abbrev pub StopsUnhindered : CopyStop → Type 0
StopsUnhindered stops.Asked = Unit {0}
StopsUnhindered stops.Whole = Unit {0}
StopsUnhindered (stops.Absent page end turn written) = turn ≡ 0

-- What the log has promised to a pass, and when it is told.
use Rattle.std.specs.Prelude.{◌≡◌, ◌⊎◌, ℕ, ◌≤◌, Contains, Result, Ok, Err}
use Rattle.wal_types.specs.declared.answers.Hard.{Hard}
use Rattle.machine_state.specs.Views.{FlushPromise, View}
pub use Rattle.wal_rule.specs.Downs.{KnowsDown}
use Rattle.wal_log.specs.declared.behind.Caught.{Caught}
use Rattle.wal_log.specs.declared.behind.Caught.TheVariants.{Flushed, Idle}
use Rattle.wal_log.specs.declared.flushing.TryFlushErr.{TryFlushErr}
use Rattle.wal_log.specs.declared.flushing.TryFlushErr.TheVariants as tries
use Rattle.wal_log.specs.Behind.{FindsNothing, FindsTarget, TellsBehindTry}
use Rattle.wal_log.specs.Flushing.{TellsFlushTry}
use Rattle.wal_log.specs.PassLogs.{PassLog, log_of_pass}
use Rattle.wal_log.specs.Standing.{KeepsPass}
use Rattle.wal_log_laws.specs.Growing.{GrowsTo}
use Rattle.embedded_log.specs.declared.flushing.FlushRefusal.{FlushRefusal}
use Rattle.embedded_log.specs.declared.flushing.FlushRefusal.TheVariants.{Behind, Busy, Down, Unreserved}
use Rattle.embedded_log.specs.declared.shared.FlushBusy.TheVariants.{Flushing, Lock, Queue, Turn}
use Rattle.embedded_log.specs.declared.shared.FlushStop.{FlushStop}
use Rattle.embedded_log.specs.declared.shared.FlushStop.TheVariants as stops

-- a log was promised that all below this address is durable from this moment on
pub record IsPromisedHard (hard : Hard) (l : PassLog) : Type 0 where
  pub promise : FlushPromise
  pub in_log : Contains l.promises promise
  pub upto_is : promise.upto ≡ hard.upto.0
  pub moment_is : promise.moment ≡ hard.moment

-- ---- why a flush told nothing

-- the stop that a refusal of the log's own is, and the refusal that a session tells of a stop
abbrev pub stop_of_try : TryFlushErr → FlushStop
stop_of_try (tries.Disk faults) = stops.Down faults
stop_of_try (tries.Down faults) = stops.Down faults
stop_of_try (tries.Unreserved end) = stops.Unreserved end
stop_of_try (tries.Behind lock word) = stops.Busy (Lock lock word)
stop_of_try (tries.Turn word) = stops.Busy (Turn word)

abbrev pub refusal_of_stop : FlushStop → FlushRefusal
refusal_of_stop (stops.Busy busy) = Busy busy
refusal_of_stop (stops.Unreserved end) = Unreserved end
refusal_of_stop (stops.Down faults) = Down faults

-- a refusal is told as the log's own refusal is (`tells`). That another session was at a flush, or
-- that the queue had no room, no clause says more of; what is Behind, `SaysHeldBack` says
abbrev pub TellsRefusal : (TryFlushErr → Type 0) → FlushRefusal → Type 0
TellsRefusal tells (Busy Queue) = Unit {0}
TellsRefusal tells (Busy Flushing) = Unit {0}
TellsRefusal tells (Busy (Lock lock word)) = tells (tries.Behind lock word)
TellsRefusal tells (Busy (Turn word)) = tells (tries.Turn word)
TellsRefusal tells (Behind upto moment made) = Unit {0}
TellsRefusal tells (Unreserved end) = tells (tries.Unreserved end)
TellsRefusal tells (Down faults) = tells (tries.Disk faults) ⊎ tells (tries.Down faults)

-- the log's own try came behind a load of the flushed address, if any did: between them the pass
-- had some view
abbrev pub RefusesTry : ℕ → View → View → TryFlushErr → Type 0
RefusesTry asked old new e = (mid : View) × KeepsPass old mid × TellsFlushTry asked mid new e

-- a flush of this address, and a flush behind
abbrev pub RefusesFlush : ℕ → View → View → FlushRefusal → Type 0
RefusesFlush asked old new e = TellsRefusal (λ t. RefusesTry asked old new t) e

abbrev pub RefusesWriteBehind : View → View → FlushRefusal → Type 0
RefusesWriteBehind old new e = TellsRefusal (λ t. TellsBehindTry old new t) e

-- ---- what a try told

-- a try of a flush: at Ok all below an address that is no less than the one asked for was promised
abbrev pub TellsPromised : ℕ → Result Hard FlushStop → View → View → Type 0
TellsPromised asked (Ok hard) old new =
    (asked ≤ hard.upto.0) × IsPromisedHard hard (log_of_pass new)
TellsPromised asked (Err stop) old new = RefusesFlush asked old new (refusal_of_stop stop)

-- .. and the pass's log has grown
pub record TriesToFlush (asked : ℕ) (old : View) (answer : Result Hard FlushStop) (new : View)
    : Type 0 where
  pub told : TellsPromised asked answer old new
  pub grows : GrowsTo (log_of_pass old) (log_of_pass new)

-- the host has said that it has made as many calls of the disk as a moment names
pub record HasMade (made : ℕ → Type 0) (moment : ℕ) : Type 0 where
  pub count : ℕ
  pub said : made count
  pub within : moment ≤ count

-- what is told: it was promised to the pass, reaches the address asked for, and the host has made
-- the calls that make it so
pub record IsToldMade (made : ℕ → Type 0) (asked : ℕ) (hard : Hard) (v : View) : Type 0 where
  pub reached : asked ≤ hard.upto.0
  pub promised : IsPromisedHard hard (log_of_pass v)
  pub host : HasMade made hard.moment

-- what is refused as held back was promised
abbrev pub SaysHeldBack : FlushRefusal → View → Type 0
SaysHeldBack (Behind upto moment made) v =
    IsPromisedHard (record { upto = upto; moment = moment }) (log_of_pass v)
SaysHeldBack other v = Unit {0}

-- a refusal is of what is held back
abbrev pub SaysBehind : FlushRefusal → Type 0
SaysBehind (Behind upto moment made) = Unit {0}
SaysBehind other = ⊥

-- a flush behind tells this of the target that was found; or that nothing was to be flushed
abbrev pub TellsMade : (ℕ → Type 0) → Caught → View → View → Type 0
TellsMade made (Flushed hard) old new =
    (target : ℕ) × FindsTarget target old × IsToldMade made target hard new
TellsMade made (Idle upto) old new = FindsNothing upto.0 old new

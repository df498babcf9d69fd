-- What is received, as steps of what is sent to a standby.
use Rattle.std.specs.Prelude.{◌≡◌, ℕ, All, List, [], ◌∷◌, ◌++◌, Option}
use Rattle.segment_disk.specs.Tape.{Tape}
use Rattle.wal_page.specs.Order.{Entry}
use Rattle.wal_stream.specs.Following.{AreSentSteps, ComesOfLog, SentStep, promises_of, standby_behind}
use Rattle.wal_stream.specs.Standby.{standby_disk}
use Rattle.wal_stream.specs.declared.standby.Standby.{Standby}
use Rattle.wal_stream.specs.Fetched.{SourceState, frames_in}
use Rattle.wal_stream.specs.declared.outcome.ReceivingEnd.{ReceivingEnd}
use Rattle.wal_stream.specs.declared.outcome.ReceivingEnd.TheVariants.{Source, TooMany, Diverged, SourceFault, Disk}
use Rattle.wal_stream.specs.declared.outcome.Received.{Received}

-- what a source hands out in between are frames of a log, or none at all
abbrev pub HandsOutLog : ℕ → ℕ → List Entry → ℕ → SourceState → SourceState → Type 0
HandsOutLog size sysid es hardened before after =
    (bytes : List ℕ) → after.handed ≡ before.handed ++ bytes
    → All (ComesOfLog size sysid es hardened) (frames_in bytes)

-- it ended with another log's frame
abbrev pub Diverges : ReceivingEnd → Type 0
Diverges Source = ⊥
Diverges TooMany = ⊥
Diverges (Diverged at) = Unit {0}
Diverges SourceFault = ⊥
Diverges (Disk told) = ⊥

-- what is promised once it is received: where it was hardened, that it is durable from now on
abbrev pub promised_at : ReceivingEnd → ℕ → ℕ → List (ℕ × ℕ)
promised_at Source moment upto = (moment, upto) ∷ []
promised_at TooMany moment upto = (moment, upto) ∷ []
promised_at (Diverged at) moment upto = (moment, upto) ∷ []
promised_at SourceFault moment upto = []
promised_at (Disk told) moment upto = []

-- what is received is a run of steps of what is sent to a standby: frames of the log come, and it
-- hardens or cannot
pub record IsSentRun {D : Type 0} (tape : D → Option Tape) (moment faults : D → ℕ) (sysid : ℕ)
    (es : List Entry) (hardened : ℕ) (old new : Standby D) (received : Received) : Type 0 where
  pub steps : List (SentStep × Standby D)
  pub are : AreSentSteps tape moment faults sysid es hardened old steps
  pub behind : standby_behind old steps ≡ new
  pub promised : promises_of moment steps
      ≡ promised_at received.ended (moment (standby_disk new)) received.upto.0

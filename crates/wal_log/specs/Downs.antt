-- What a pass knows of the disk in a call: that it has not failed, or that it failed in this call.
use Rattle.std.specs.Prelude.{◌≡◌, ◌≢◌, ℕ}
use Rattle.machine_state.specs.Views.{View}
use Rattle.wal_log.specs.declared.fault.Fault.{Fault}
use Rattle.wal_log.specs.declared.fault.Fault.TheVariants.{Disk, Down}

-- a pass met no down value last, and set none
pub record KnowsNoFault (v : View) : Type 0 where
  pub met : v.writing.down_met ≡ 0
  pub set : v.writing.down_set ≡ 0

-- it met this count of faults as the down value, which is not 0, and set none in the call
pub record MeetsDown (faults : ℕ) (old new : View) : Type 0 where
  pub met : new.writing.down_met ≡ faults
  pub some : faults ≢ 0
  pub set_none : new.writing.down_set ≡ old.writing.down_set

-- it set this count of faults, which is not 0
pub record SetsDownItself (faults : ℕ) (v : View) : Type 0 where
  pub set : v.writing.down_set ≡ faults
  pub some : faults ≢ 0

-- what a call tells of a failed disk: it set the down value itself, or met it and set none
abbrev pub MeetsFault : View → View → Fault → Type 0
MeetsFault old new (Disk faults) = SetsDownItself faults new
MeetsFault old new (Down faults) = MeetsDown faults old new

-- what is told where no device call is made: it met the down value
abbrev pub FindsDown : View → View → Fault → Type 0
FindsDown old new (Disk faults) = ⊥
FindsDown old new (Down faults) = MeetsDown faults old new

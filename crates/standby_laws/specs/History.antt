-- The whole life of a standby's disk: standbys are opened on it and closed, are sent frames of one
-- log, and harden; openings fail; the disk crashes, and processes are killed.
use Rattle.std.specs.Prelude.{◌≡◌, ℕ, ◌/◌, ◌^◌, ◌<◌, ◌≤◌, ◌⊎◌, All, List, [], ◌∷◌, ◌++◌, Option, Some, None, IfSome, map, nat_lt, slice_get, if◌then◌else◌, Result}
use Rattle.segment_disk.specs.Assured.{StateAssures}
use Rattle.segment_disk.specs.DiskImage.{DiskImage, LeftAt, image_as_read}
use Rattle.segment_disk.specs.Tape.{Tape, state_now}
use Rattle.flush_core.specs.Settled.{HaveWholePages, IsAmong}
use Rattle.flush_core.specs.SettledLog.{AreOnly, IsZeroOrLogWord}
use Rattle.found_log.specs.Found.{LeavesUnsettled}
use Rattle.found_log.specs.declared.fault.FindFault.{FindFault}
use Rattle.wal_page.specs.Order.{Entry, finish_of}
use Rattle.wal_reader.specs.declared.found.Answer.{Answer}
use Rattle.wal_reader.specs.declared.found.FoundRecord.{FoundRecord}
use Rattle.wal_reader.specs.Decodes.{Decodes}
use Rattle.wal_reader.specs.Pages.{pages_in}
use Rattle.written_log_laws.specs.LawfulLog.{IsFrontUpto}
use Rattle.written_log_laws.specs.SettledFound.{NothingWaits}
use Rattle.written_log_laws.specs.Torn.{NoTornPass}
use Rattle.wal_stream.specs.FollowedLog.{IsLogOrder}
use Rattle.wal_stream.specs.Following.{ComesOfLog}
use Rattle.wal_stream.specs.Opened.{StandsAtFound}
use Rattle.wal_stream.specs.Standby.{AnswersDiverged, AnswersFrame, FailsToHarden, HasHardenedLog, standby_disk, standby_end}
use Rattle.wal_stream.specs.declared.answers.Accepted.{Accepted}
use Rattle.wal_stream.specs.declared.answers.StandbyErr.{StandbyErr}
use Rattle.wal_stream.specs.declared.standby.Standby.{Standby}
use Rattle.reopened_log_laws.specs.Again.{IsLeftByCrash}
use Rattle.reopened_log_laws.specs.StopsAt.{StopsAt}

-- ---- where it stands

-- a disk on which no standby is open, or a standby
pub data StandbyState (D : Type 0) : Type 0 where
  Closed : (disk : D) → StandbyState D
  Open : (standby : Standby D) → StandbyState D

abbrev pub disk_standing : {D : Type 0} → StandbyState D → D
disk_standing (Closed disk) = disk
disk_standing (Open standby) = standby_disk standby

abbrev pub IfOpen : {D : Type 0} → StandbyState D → (Standby D → Type 0) → Type 0
IfOpen (Closed disk) Holds = Unit {0}
IfOpen (Open standby) Holds = Holds standby

-- what was told by a moment, by an opening of what it found or by a harden: promises, each a moment
-- and up to where the log is durable from it on
abbrev pub told_by : ℕ → List (ℕ × ℕ) → List (ℕ × ℕ)
told_by at [] = []
told_by at (promise ∷ told) =
    if nat_lt at promise.0 then told_by at told else promise ∷ told_by at told

-- .. and all of it as of another moment
abbrev pub told_since : ℕ → List (ℕ × ℕ) → List (ℕ × ℕ)
told_since since told = map (λ promise. (since, promise.1)) told

-- ---- the history

-- a disk with which it may begin: each word that a crash may leave is 0 or the order's log's, in
-- whole pages of the segments from 1 to some number, which end at address 2 ^ 60 or below; no other
-- is there
pub record MayFollow (size sysid : ℕ) (es : List Entry) (t : Tape) : Type 0 where
  pub order : IsLogOrder size sysid es
  pub count : ℕ
  pub lawful : StateAssures size (IsAmong count) (IsZeroOrLogWord size sysid es) (state_now t)
  pub only : AreOnly count (state_now t)
  pub whole : HaveWholePages size (state_now t)
  pub low : count < 2 ^ 60 / size

-- no torn record of the order passes its CRC as the disk is read
abbrev pub NoneTornRead : ℕ → List Entry → Option Tape → Type 0
NoneTornRead size es tape =
    IfSome tape (λ t. NoTornPass size (pages_in size (image_as_read (state_now t))) es)

-- from which moment on all is durable that an opening found: from its end on, and where nothing
-- waited for a sync, as behind a crash, since the disk was handed in
abbrev pub IsFoundSince : {D : Type 0} → (D → Option Tape) → (D → ℕ) → D → D → ℕ → Type 0
IsFoundSince tape moment disk opened from = (from ≡ moment opened)
    ⊎ ((from ≡ moment disk) × IfSome (tape disk) (λ t. NothingWaits (state_now t)))

-- all of it since a moment of the disk, with what was told, and where it stands then. A crash or a
-- kill comes at any moment of that time, in the midst of an opening or a frame too. Frames of the
-- log are sent no further than `hardened`
pub data Lived {D : Type 0} (tape : D → Option Tape) (moment faults : D → ℕ) (size sysid : ℕ)
    (es : List Entry) : ℕ → List (ℕ × ℕ) → StandbyState D → Type 0 where
  begins : (disk : D) (t : Tape) → tape disk ≡ Some t → MayFollow size sysid es t
      → Lived tape moment faults size sysid es (moment disk) [] (Closed disk)
  opens : (since : ℕ) (told : List (ℕ × ℕ)) (cap from : ℕ) (disk : D) (s : Standby D)
      → Lived tape moment faults size sysid es since told (Closed disk) → cap ≤ 4096
      → NoneTornRead size es (tape disk)
      → StandsAtFound tape moment faults size cap disk s
      → IsFoundSince tape moment disk (standby_disk s) from
      → Lived tape moment faults size sysid es since (told ++ (from, standby_end s) ∷ []) (Open s)
  fails_to_open : (since : ℕ) (told : List (ℕ × ℕ)) (cap : ℕ) (disk refused : D)
      (fault : FindFault) → Lived tape moment faults size sysid es since told (Closed disk)
      → cap ≤ 4096
      → NoneTornRead size es (tape disk)
      → LeavesUnsettled size cap (tape disk) (tape refused) (moment disk) (moment refused)
      fault
      → Lived tape moment faults size sysid es since told (Closed refused)
  is_offered : (since : ℕ) (told : List (ℕ × ℕ)) (hardened : ℕ) (old new : Standby D)
      (bytes : List ℕ) (answer : Result Accepted StandbyErr)
      → Lived tape moment faults size sysid es since told (Open old)
      → ComesOfLog size sysid es hardened bytes
      → AnswersFrame tape moment faults old new bytes answer
      → Lived tape moment faults size sysid es since told (Open new)
  hardens : (since : ℕ) (told : List (ℕ × ℕ)) (upto : ℕ) (old new : Standby D)
      → Lived tape moment faults size sysid es since told (Open old)
      → HasHardenedLog tape moment faults old new upto
      → Lived tape moment faults size sysid es since
      (told ++ (moment (standby_disk new), upto) ∷ []) (Open new)
  fails_to_harden : (since : ℕ) (told : List (ℕ × ℕ)) (count : ℕ) (old new : Standby D)
      → Lived tape moment faults size sysid es since told (Open old)
      → FailsToHarden tape moment faults old new count
      → Lived tape moment faults size sysid es since told (Open new)
  closes : (since : ℕ) (told : List (ℕ × ℕ)) (s : Standby D)
      → Lived tape moment faults size sysid es since told (Open s)
      → Lived tape moment faults size sysid es since told (Closed (standby_disk s))
  crashes : (since : ℕ) (told : List (ℕ × ℕ)) (standing : StandbyState D) (at : ℕ) (t left : Tape)
      (disk : D) → Lived tape moment faults size sysid es since told standing
      → tape (disk_standing standing) ≡ Some t → since ≤ at → IsLeftByCrash t at left
      → tape disk ≡ Some left
      → Lived tape moment faults size sysid es (moment disk)
      (told_since (moment disk) (told_by at told)) (Closed disk)
  is_killed : (since : ℕ) (told : List (ℕ × ℕ)) (standing : StandbyState D) (at : ℕ)
      (t stopped : Tape)
      (disk : D) → Lived tape moment faults size sysid es since told standing
      → tape (disk_standing standing) ≡ Some t → since ≤ at → StopsAt t at stopped
      → tape disk ≡ Some stopped
      → Lived tape moment faults size sysid es since (told_by at told) (Closed disk)

-- ---- what holds of it

-- each entry that ends at or below an address ends at or below another one
abbrev pub ReachesEntries : ℕ → List Entry → ℕ → ℕ → Type 0
ReachesEntries size es upto end = (i : ℕ) (e : Entry) → slice_get es i ≡ Some e
    → finish_of size e ≤ upto → finish_of size e ≤ end

-- whatever a crash leaves since then, in which no torn record passes its CRC, decodes to a front of
-- the order, which holds each entry under a promise by then; an open standby stands at or behind
-- all of these, and never says that a frame of the log is of another one
pub record KeepsStandbyPromises {D : Type 0} (tape : D → Option Tape) (size sysid : ℕ)
    (es : List Entry) (since : ℕ) (told : List (ℕ × ℕ)) (standing : StandbyState D) : Type 0 where
  pub left : IfSome (tape (disk_standing standing)) (λ t. (at : ℕ) (image : DiskImage) → since ≤ at
      → LeftAt t at image → NoTornPass size (pages_in size image) es
      → (found : List FoundRecord) (answer : Answer)
      → Decodes size (pages_in size image) size None found answer
      → IsFrontUpto size es 0 found
      × All (λ promise. promise.0 ≤ at → IsFrontUpto size es promise.1 found) told)
  pub stands : IfOpen standing (λ s.
      All (λ promise. ReachesEntries size es promise.1 (standby_end s)) told)
  pub never_diverges : IfOpen standing (λ s. (new : Standby D) (hardened at : ℕ) (bytes : List ℕ)
      → ComesOfLog size sysid es hardened bytes → AnswersDiverged s new bytes at → ⊥)

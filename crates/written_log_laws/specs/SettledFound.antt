-- What images decode to that a crash leaves while a log is settled that was found on a disk, and
-- behind it.
use Rattle.std.specs.Prelude.{◌≡◌, ◌≢◌, ℕ, ◌+◌, ◌*◌, ◌<◌, ◌≤◌, ◌⊎◌, List, [], ◌++◌, length, take, None, IfSome}
use Rattle.segment_disk.specs.Assured.{IsNowhere, StateAssures, TapeAssures}
use Rattle.segment_disk.specs.DiskImage.{DiskImage, LeftAt, image_as_read}
use Rattle.segment_disk.specs.ImageWords.{zero_word}
use Rattle.segment_disk.specs.Tape.{DiskState, Tape}
use Rattle.wal_page.specs.Log.{log_word}
use Rattle.wal_page.specs.Order.{Entry}
use Rattle.flush_core.specs.Settled.{AreThere, IsAmong, IsAsRead, KeepsOld, KeepsRead, MayStand, StaysSettled}
use Rattle.flush_core.specs.SettledLog.{AreOnly, IsZeroOrLogWord}
use Rattle.wal_reader.specs.declared.found.Answer.{Answer}
use Rattle.wal_reader.specs.declared.found.Answer.TheVariants.{End}
use Rattle.wal_reader.specs.declared.found.FoundRecord.{FoundRecord}
use Rattle.wal_reader.specs.Pages.{pages_in}
use Rattle.wal_reader.specs.Decodes.{Decodes}
use Rattle.written_log_laws.specs.FoundLog.{ReadsUntorn, end_behind}
use Rattle.written_log_laws.specs.Torn.{NoTornPass}

-- ---- what waits for a sync when a log is found

-- the log of entries has a word in whose place a crash leaves nothing but zeros: whatever it
-- leaves, they are not all whole there
pub record AreNeverWhole (size sysid : ℕ) (es : List Entry) (state : DiskState) : Type 0 where
  pub page : ℕ
  pub word : ℕ
  pub small : word < 1024
  pub wanted : log_word size sysid es (page * 8192 + 8 * word) ≢ 0
  pub lacked : (bytes : List ℕ) → MayStand size state page word bytes → bytes ≡ zero_word

-- the entry behind those that were found, if there is one, is never whole
abbrev pub NextIsNeverWhole : ℕ → ℕ → List Entry → List FoundRecord → DiskState → Type 0
NextIsNeverWhole size sysid es found state =
    length found < length es → AreNeverWhole size sysid (take (length found + 1) es) state

-- a word that a crash may leave is as it is read, or zeros
abbrev pub IsReadOrLost : ℕ → DiskState → ℕ → ℕ → List ℕ → Type 0
IsReadOrLost size state page word bytes = IsAsRead size state page word bytes ⊎ (bytes ≡ zero_word)

abbrev pub MayOnlyLose : ℕ → ℕ → DiskState → Type 0
MayOnlyLose size count state = StateAssures size (IsAmong count) (IsReadOrLost size state) state

-- so a word that the next entry lacks as it is read it always lacks
abbrev pub LossesNeverMakeNextWhole : Type 0
LossesNeverMakeNextWhole =
    (size sysid count : ℕ) (es : List Entry) (state : DiskState) (found : List FoundRecord)
    → ReadsUntorn size sysid count es state found → AreOnly count state
    → MayOnlyLose size count state → NextIsNeverWhole size sysid es found state

-- no write waits, as on a disk that a crash left
abbrev pub NothingWaits : DiskState → Type 0
NothingWaits state = (segment : ℕ) → IfSome (state segment) (λ s. s.writes ≡ [])

-- ---- an image that a crash leaves, in which no torn record passes its CRC

-- it decodes to a front of what was found, if the entry behind that was never whole
abbrev pub UnsyncedLogsDecodeToFronts : Type 0
UnsyncedLogsDecodeToFronts =
    (size sysid count moment m : ℕ) (es : List Entry) (before : DiskState)
    (found : List FoundRecord) (tape : Tape) (image : DiskImage)
    → ReadsUntorn size sysid count es before found → AreOnly count before
    → NextIsNeverWhole size sysid es found before
    → KeepsOld size before count (end_behind size found) moment tape
    → moment ≤ m → LeftAt tape m image → NoTornPass size (pages_in size image) es
    → (told : List FoundRecord) (answer : Answer)
    → Decodes size (pages_in size image) size None told answer
    → (behind : List FoundRecord) × (found ≡ told ++ behind)

-- it decodes to just what was found, where nothing waited for a sync ..
abbrev pub QuietLogsDecodeToFound : Type 0
QuietLogsDecodeToFound =
    (size sysid count moment m : ℕ) (es : List Entry) (before : DiskState)
    (found : List FoundRecord) (tape : Tape) (image : DiskImage)
    → ReadsUntorn size sysid count es before found → AreOnly count before → NothingWaits before
    → KeepsOld size before count (end_behind size found) moment tape
    → moment ≤ m → LeftAt tape m image → NoTornPass size (pages_in size image) es
    → (told : List FoundRecord) (answer : Answer)
    → Decodes size (pages_in size image) size None told answer → told ≡ found

-- .. and on any disk from the end of the first syncs on
abbrev pub SyncedLogsDecodeToFound : Type 0
SyncedLogsDecodeToFound =
    (size sysid count since moment m : ℕ) (es : List Entry) (before : DiskState)
    (found : List FoundRecord) (tape : Tape) (image : DiskImage)
    → ReadsUntorn size sysid count es before found → AreOnly count before
    → KeepsOld size before count (end_behind size found) since tape
    → KeepsRead size before count (end_behind size found) moment tape
    → since ≤ m → moment ≤ m → LeftAt tape m image → NoTornPass size (pages_in size image) es
    → (told : List FoundRecord) (answer : Answer)
    → Decodes size (pages_in size image) size None told answer → told ≡ found

-- once the log is settled it decodes to what was found, and then the log ends: no torn record is
-- left that might pass its CRC
abbrev pub SettledLogsDecodeToFound : Type 0
SettledLogsDecodeToFound =
    (size sysid count since moment m : ℕ) (es : List Entry) (before : DiskState)
    (found : List FoundRecord) (tape : Tape) (image : DiskImage)
    → ReadsUntorn size sysid count es before found → AreOnly count before
    → KeepsOld size before count (end_behind size found) since tape
    → StaysSettled size before count (end_behind size found) moment tape
    → since ≤ m → moment ≤ m → LeftAt tape m image
    → Decodes size (pages_in size image) size None found
    (End (record { 0 = end_behind size found }))

-- ---- a disk that a crash left, on which nothing waits

-- if the one before never held anything but words of an order, it may hold that order's log: so
-- what is asked of a disk on which a log is found is met where one was written
abbrev pub CrashedDisksMayHoldLog : Type 0
CrashedDisksMayHoldLog =
    (size sysid count moment m : ℕ) (es : List Entry) (state : DiskState) (tape : Tape)
    → TapeAssures size IsNowhere (IsZeroOrLogWord size sysid es) moment tape → moment ≤ m
    → NothingWaits state → LeftAt tape m (image_as_read state) → AreThere state count
    → StateAssures size (IsAmong count) (IsZeroOrLogWord size sysid es) state

-- what a crash leaves while a log is settled is a disk on which a log was found as on the one
-- before, with the same order: so it may be settled as often as it takes
abbrev pub CrashedLogsAreFoundAgain : Type 0
CrashedLogsAreFoundAgain =
    (size sysid count moment m : ℕ) (es : List Entry) (before state : DiskState)
    (found : List FoundRecord) (tape : Tape) → ReadsUntorn size sysid count es before found
    → AreOnly count before → KeepsOld size before count (end_behind size found) moment tape
    → moment ≤ m → NothingWaits state → LeftAt tape m (image_as_read state)
    → NoTornPass size (pages_in size (image_as_read state)) es
    → (told : List FoundRecord) (answer : Answer)
    → Decodes size (pages_in size (image_as_read state)) size None told answer
    → ReadsUntorn size sysid count es state told × AreOnly count state

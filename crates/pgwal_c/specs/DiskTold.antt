-- What the exported call of a disk's owner tells: what its queue's own call says, by what was asked
-- and what was answered.
use Rattle.std.specs.Prelude.{◌≡◌, ◌≢◌, ℕ, ◌<◌, ◌-◌, ◌*◌, ◌^◌, ◌≤◌, ◌==◌, min, true, false, List, [], ◌∷◌, ◌++◌, length, Option, Some, None, IsSomeAnd, if◌then◌else◌}
use Rattle.segment_disk.specs.declared.disk.Call.{Call}
use Rattle.segment_disk.specs.declared.disk.CallKind.{CallKind}
use Rattle.segment_disk.specs.declared.disk.CallKind.TheVariants.{Create, Sync, Write}
use Rattle.handed_pages.specs.Handed.{bytes_handed}
use Rattle.handed_pages.specs.declared.page.HandedPage.{HandedPage}
use Rattle.hosted_disk.specs.Hosted.{GoesOnTaking, calls_taken, has_failed}
use Rattle.pgwal_c.specs.declared.answers.TheConstants.{DONE, MISUSE}
use Rattle.pgwal_c.specs.declared.disk_handle.DiskCall.{DiskCall}
use Rattle.pgwal_c.specs.declared.disk_handle.DiskHandle.{DiskHandle}
use Rattle.pgwal_c.specs.declared.disk_handle.TheConstants.{ACKNOWLEDGE, CREATE, FAIL, HAND_IN_FIRST, LEAVE, OPEN, SYNC, TAKE, WRITE}
use Rattle.pgwal_c.specs.OpenTold.{ProgramCalls, TellsOpen}

-- this is told of a call of the disk: which it is, and if a page is written its number and bytes
abbrev pub TellsKind : CallKind → DiskCall → Type 0
TellsKind (Create made) told = told.kind ≡ CREATE
TellsKind (Write page bytes) told =
    (told.kind ≡ WRITE) × (told.page ≡ page) × (told.bytes ≡ bytes.bytes)
TellsKind Sync told = told.kind ≡ SYNC

-- the next call was taken out of the queue, and is told, with how many were taken
pub record TakesTold (old new : ProgramCalls) (told : DiskCall) : Type 0 where
  pub call : Call
  pub taken : calls_taken new ≡ calls_taken old ++ call ∷ []
  pub up : has_failed old ≢ true
  pub kind : TellsKind call.kind told
  pub segment : told.segment ≡ call.segment
  pub seg_size : told.seg_size ≡ call.geometry
  pub count : told.count ≡ length (calls_taken new)

-- a call is taken, if it is answered DONE, else none is
pub record TellsTake (old new : ProgramCalls) (told : DiskCall) (answer : ℕ) : Type 0 where
  pub done : answer ≡ DONE → TakesTold old new told
  pub none : answer ≢ DONE → calls_taken new ≡ calls_taken old
  pub goes_on : GoesOnTaking old new

-- so many calls are said to be made, if it is answered DONE: at least as many as before, and at
-- most those taken, of which none has failed; else nothing is said
pub record TellsAcknowledge (count : ℕ) (old new : ProgramCalls) (answer : ℕ) : Type 0 where
  pub done : answer ≡ DONE → (new.acknowledged ≡ count) × (old.acknowledged ≤ count)
      × (count ≤ length (calls_taken old)) × (has_failed old ≡ false)
  pub same : answer ≢ DONE → new ≡ old
  pub taken : calls_taken new ≡ calls_taken old

-- a call is said to have failed, and nothing else
pub record TellsFailed (answer : ℕ) (old new : ProgramCalls) : Type 0 where
  pub done : answer ≡ DONE
  pub failed : has_failed new ≡ true
  pub taken : calls_taken new ≡ calls_taken old
  pub acknowledged : new.acknowledged ≡ old.acknowledged

-- this holds of the queue before and behind a call, if a log was opened on the disk; else it is
-- answered that the call has no meaning
abbrev pub HoldsOfQueue : (ProgramCalls → ProgramCalls → Type 0) → ℕ → Option ProgramCalls
    → Option ProgramCalls → Type 0
HoldsOfQueue P answer None new = (answer ≡ MISUSE) × (new ≡ None)
HoldsOfQueue P answer (Some c) None = ⊥
HoldsOfQueue P answer (Some c) (Some d) = P c d

-- this holds of a call before a log was opened on the disk; behind that it is answered that the
-- call has no meaning
abbrev pub HoldsUnopened : Type 0 → ℕ → Option ProgramCalls → Type 0
HoldsUnopened P answer None = P
HoldsUnopened P answer (Some c) = answer ≡ MISUSE

-- a page is held from now on
pub record HoldsHanded (asked : DiskCall) (old new : List HandedPage) : Type 0 where
  pub page : HandedPage
  pub held : new ≡ old ++ page ∷ []
  pub number : page.number ≡ record { segment = asked.segment; page = asked.page }
  pub bytes : bytes_handed page ≡ (if asked.there == 0 then None else Some asked.bytes)

-- what a call of the disk's owner tells: the disk before and behind it, the call as it was handed
-- in and as it came back, and the answer
pub record TellsDiskCall (old new : DiskHandle) (asked told : DiskCall) (answer : ℕ) : Type 0 where
  pub take : asked.asked ≡ TAKE
      → HoldsOfQueue (λ c d. TellsTake c d told answer) answer old.calls new.calls
  pub acknowledge : asked.asked ≡ ACKNOWLEDGE
      → HoldsOfQueue (λ c d. TellsAcknowledge asked.count c d answer) answer old.calls new.calls
  pub fail : asked.asked ≡ FAIL → HoldsOfQueue (TellsFailed answer) answer old.calls new.calls
  pub hand_in : asked.asked ≡ HAND_IN_FIRST → HoldsUnopened
      (answer ≡ DONE → HoldsHanded asked (old.pages).items (new.pages).items) answer old.calls
  pub opens : asked.asked ≡ OPEN → HoldsUnopened
      (TellsOpen (old.pages).items asked told answer new.calls) answer old.calls
  pub leave : asked.asked ≡ LEAVE → (answer ≡ DONE) × (new.calls ≡ None)
  pub other : OPEN < asked.asked → (answer ≡ MISUSE) × (new ≡ old)

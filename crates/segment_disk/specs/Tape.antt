-- What a disk holds: a function of its tape, which is what was there at first and the list of the
-- counted calls since; and how a disk answers a call.
use Rattle.std.specs.Prelude.{◌≡◌, ℕ, ◌+◌, ◌/◌, ◌⊎◌, Bool, true, false, List, [], ◌∷◌, ◌++◌, take, replicate, Option, Some, None, ◌==◌, nat_lt, if◌then◌else◌, Result, MatchResult}
use Rattle.segment_disk.specs.declared.disk.Call.{Call}
use Rattle.segment_disk.specs.declared.disk.CallKind.{CallKind}
use Rattle.segment_disk.specs.declared.disk.CallKind.TheVariants.{Create, Write, Sync}

-- a segment: how many pages it has, what is durable of each, and the page writes since its last
-- sync, in order
pub record Segment : Type 0 where
  pub pages : ℕ
  pub durable : ℕ → List ℕ
  pub writes : List (ℕ × List ℕ)

-- the segments that are there, by their numbers
abbrev pub DiskState : Type 0
DiskState = ℕ → Option Segment

-- what was there at first, and each counted call since
pub record Tape : Type 0 where
  pub at_first : DiskState
  pub calls : List Call

-- no segment is there
abbrev pub empty_state : DiskState
empty_state segment = None

-- a page of zeros
abbrev pub zero_page : List ℕ
zero_page = replicate 8192 0

-- a segment of zeros, durable
abbrev pub new_segment : ℕ → Segment
new_segment size = record { pages = size / 8192; durable = λ page. zero_page; writes = [] }

-- the bytes of a page after writes to a segment
abbrev pub after_writes : List (ℕ × List ℕ) → ℕ → List ℕ → List ℕ
after_writes [] page bytes = bytes
after_writes (w ∷ ws) page bytes = after_writes ws page (if w.0 == page then w.1 else bytes)

-- the page as of its last write since the sync, a failed one too, or its durable bytes
abbrev pub page_as_read : Segment → ℕ → List ℕ
page_as_read s page = after_writes s.writes page (s.durable page)

-- what a call leaves of its segment: a write, a failed one too, stands behind the others and is not
-- durable; a sync that is done makes the last writes durable
abbrev pub segment_after : CallKind → ℕ → Bool → Option Segment → Option Segment
segment_after (Create made) size done s = if made then Some (new_segment size) else s
segment_after (Write page bytes) size done None = None
segment_after (Write page bytes) size done (Some s) =
    Some (record s { writes = s.writes ++ (page, bytes.bytes) ∷ [] })
segment_after Sync size done None = None
segment_after Sync size true (Some s) = Some (record s { durable = page_as_read s; writes = [] })
segment_after Sync size false (Some s) = Some s

-- the state after a call
abbrev pub after_call : DiskState → Call → DiskState
after_call state call segment =
    if segment == call.segment
    then segment_after call.kind call.geometry call.done (state segment)
    else state segment

-- the state after a list of calls
abbrev pub after_calls : DiskState → List Call → DiskState
after_calls state [] = state
after_calls state (call ∷ calls) = after_calls (after_call state call) calls

-- the state at a moment: after that many of the calls
abbrev pub state_at : Tape → ℕ → DiskState
state_at tape moment = after_calls tape.at_first (take moment tape.calls)

-- the state after all calls
abbrev pub state_now : Tape → DiskState
state_now tape = after_calls tape.at_first tape.calls

-- what a read of a page gives: nothing where the segment has no such page
abbrev pub page_of_segment : Option Segment → ℕ → Option (List ℕ)
page_of_segment None page = None
page_of_segment (Some s) page = if nat_lt page s.pages then Some (page_as_read s page) else None

-- the answer of a read, and the bytes that it leaves in the buffer
abbrev pub IsPageRead : Option (List ℕ) → Bool → List ℕ → Type 0
IsPageRead None there buffer = there ≡ false
IsPageRead (Some page) there buffer = (there ≡ true) × (buffer ≡ page)

-- the disk with one call more
abbrev pub with_call : Option Tape → Call → Option Tape
with_call None call = None
with_call (Some t) call = Some (record t { calls = t.calls ++ call ∷ [] })

-- a call that was made: it is the next on the tape
pub record IsMade (old new : Option Tape) (old_moment new_moment : ℕ) (call : Call) : Type 0 where
  pub tape : new ≡ with_call old call
  pub moment : new_moment ≡ old_moment + 1

-- no counted call was made: tape and moment are as they were
pub record IsNotMade (old new : Option Tape) (old_moment new_moment : ℕ) : Type 0 where
  pub same_tape : new ≡ old
  pub same_moment : new_moment ≡ old_moment

-- the same of a disk
abbrev pub IsUncalled : {D : Type 0} → (D → Option Tape) → (D → ℕ) → D → D → Type 0
IsUncalled tape moment old new = IsNotMade (tape old) (tape new) (moment old) (moment new)

-- ---- how a disk answers

-- the calls, each done
abbrev pub create_call : ℕ → ℕ → Call
create_call size segment =
    record { geometry = size; segment = segment; kind = Create true; done = true }

abbrev pub write_call : ℕ → ℕ → ℕ → List ℕ → Call
write_call size segment page bytes = record {
  geometry = size;
  segment = segment;
  kind = Write page (record { bytes = bytes });
  done = true;
}

abbrev pub sync_call : ℕ → ℕ → Call
sync_call size segment = record { geometry = size; segment = segment; kind = Sync; done = true }

-- a call as it is counted where it failed; a create may have left its segment made or not
abbrev pub failed_call : Bool → Call → Call
failed_call made call = record call { kind = kind_of call.kind; done = false }
  where
    kind_of : CallKind → CallKind
    kind_of (Create any) = Create made
    kind_of (Write page bytes) = Write page bytes
    kind_of Sync = Sync

-- a call failed: it was made and counted as failed, or it was not made
abbrev pub Fails : Option Tape → Option Tape → ℕ → ℕ → Call → Type 0
Fails old new old_moment new_moment call =
    ((made : Bool) × IsMade old new old_moment new_moment (failed_call made call))
    ⊎ IsNotMade old new old_moment new_moment

-- how a disk answers a call: at Ok it was made, and at Err it failed
abbrev pub Answers : {D E : Type 0} → (D → Option Tape) → (D → ℕ) → D → D → Call → Result Unit E
    → Type 0
Answers tape moment old new call result =
    MatchResult result (λ _. IsMade (tape old) (tape new) (moment old) (moment new) call)
    (λ _. Fails (tape old) (tape new) (moment old) (moment new) call)

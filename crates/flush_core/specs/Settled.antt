-- A log that a crash left is settled before it is gone on with: what is read of it is made durable,
-- and each word at or above its end becomes zeros. `size` is that of a segment in bytes, `end` the
-- address at which the log was found to end.
use Rattle.std.specs.Prelude.{◌≡◌, ℕ, ◌+◌, ◌-◌, ◌*◌, ◌/◌, ◌%◌, ◌^◌, ◌<◌, ◌≤◌, ◌⊎◌, Bool, true, false, not, List, [], ◌∷◌, ◌++◌, length, map, take, drop, min, replicate, Option, Some, None, IfSome, IsSome, ◌==◌, if◌then◌else◌}
use Rattle.std.specs.List.{filter, flat_map, list_any, range_with_len}
use Rattle.std.specs.Option.{IsSomeAnd}
use Rattle.byte_position.specs.Geometry.{pages_of}
use Rattle.segment_disk.specs.declared.disk.Call.{Call}
use Rattle.segment_disk.specs.Cause.{Rose}
use Rattle.segment_disk.specs.Tape.{DiskState, Tape, Fails, IsNotMade, page_as_read, page_of_segment, state_now, sync_call, write_call}
use Rattle.segment_disk.specs.DiskImage.{word_of, IsWritten}
use Rattle.segment_disk.specs.ImageWords.{zero_word}
use Rattle.segment_disk.specs.Assured.{TapeAssures}
use Rattle.flush_core.specs.Calls.{AreMade, with_calls}
use Rattle.flush_core.specs.declared.settling.SettleFault.{SettleFault}
use Rattle.flush_core.specs.declared.settling.SettleFault.TheVariants.{Memory, Disk}

-- ---- which segments

abbrev pub IsAmong : ℕ → ℕ → Type 0
IsAmong count segment = (1 ≤ segment) × (segment ≤ count)

-- a segment is there where its page 0 reads as there: so are those from 1 to a last one ..
abbrev pub AreThere : DiskState → ℕ → Type 0
AreThere state count =
    (segment : ℕ) → IsAmong count segment → IsSome (page_of_segment (state segment) 0)

-- .. and the next one is not, if it would end at address 2 ^ 60 or below; none of them ends above
-- that
pub record AreAllThere (size : ℕ) (state : DiskState) (count : ℕ) : Type 0 where
  pub there : AreThere state count
  pub low : count < 2 ^ 60 / size
  pub others : count + 1 < 2 ^ 60 / size → page_of_segment (state (count + 1)) 0 ≡ None

-- ---- the calls

-- how many bytes of a segment lie below the end
abbrev pub kept_of : ℕ → ℕ → ℕ → ℕ
kept_of size end segment = end - segment * size

-- the first page that has a word at or above the end, and where its first such word stands
abbrev pub first_to_clear : ℕ → ℕ → ℕ
first_to_clear size kept = min (kept / 8192) (pages_of size)

abbrev pub clear_from : ℕ → ℕ → ℕ
clear_from kept page = (kept - page * 8192 + 7) / 8 * 8

abbrev pub cleared : ℕ → List ℕ → List ℕ
cleared from bytes = take from bytes ++ replicate (8192 - from) 0

-- the write that clears a page from a byte on, where one is not 0 there
abbrev pub clear_calls : ℕ → ℕ → ℕ → ℕ → Option (List ℕ) → List Call
clear_calls size segment page from None = []
clear_calls size segment page from (Some bytes) =
    if list_any (λ b. not (b == 0)) (drop from bytes)
    then write_call size segment page (cleared from bytes) ∷ [] else []

-- those of a segment's pages from one on
abbrev pub page_clears : ℕ → ℕ → ℕ → DiskState → ℕ → ℕ → List Call
page_clears size segment kept state from count =
    flat_map (λ page. clear_calls size segment page (clear_from kept page)
    (page_of_segment (state segment) page)) (range_with_len from count)

abbrev pub segment_clears : ℕ → ℕ → DiskState → ℕ → List Call
segment_clears size end state segment =
    let kept = kept_of size end segment in
    let first = first_to_clear size kept in
    page_clears size segment kept state first (pages_of size - first)

abbrev pub has_calls : List Call → Bool
has_calls [] = false
has_calls (call ∷ calls) = true

-- the segments of the first ones in which a page is cleared
abbrev pub segments_cleared : ℕ → ℕ → DiskState → ℕ → List ℕ
segments_cleared size end state count =
    filter (λ segment. has_calls (segment_clears size end state segment)) (range_with_len 1 count)

abbrev pub sync_calls : ℕ → List ℕ → List Call
sync_calls size segments = map (sync_call size) segments

-- all of them: each segment that is there is synced, each page with a word at or above the end is
-- cleared, and the segments of these pages are synced again
abbrev pub settle_calls : ℕ → ℕ → ℕ → DiskState → List Call
settle_calls size end count state =
    sync_calls size (range_with_len 1 count)
    ++ (flat_map (segment_clears size end state) (range_with_len 1 count)
    ++ sync_calls size (segments_cleared size end state count))

-- just these calls were made; what is said of them holds where the disk tells what it holds
pub record MakesCalls (old new : Option Tape) (old_moment new_moment : ℕ)
    (said : DiskState → List Call) : Type 0 where
  pub calls : List Call
  pub made : AreMade old new old_moment new_moment calls
  pub are : IfSome old (λ t. calls ≡ said (state_now t))

-- the next of these calls failed
abbrev pub NextFails : Option Tape → Option Tape → ℕ → ℕ → List Call → Type 0
NextFails old new old_moment new_moment [] = ⊥
NextFails old new old_moment new_moment (next ∷ others) = Fails old new old_moment new_moment next

-- a front of these calls was made and no other, but for the next one, which may have failed
pub record StopsCalls (old new : Option Tape) (old_moment new_moment : ℕ)
    (said : DiskState → List Call) : Type 0 where
  pub front : List Call
  pub others : List Call
  pub ends : AreMade old new old_moment new_moment front
      ⊎ NextFails (with_calls old front) new (old_moment + length front) new_moment others
  pub are : IfSome old (λ t. front ++ others ≡ said (state_now t))

-- ---- what they leave

-- each segment that is there has all pages of this size, and these are whole
abbrev pub HaveWholePages : ℕ → DiskState → Type 0
HaveWholePages size state = (segment : ℕ) → IfSome (state segment) (λ s. (s.pages ≡ pages_of size)
    × ((page : ℕ) → page < s.pages → length (page_as_read s page) ≡ 8192))

-- the word of a page as it is read; by its page's number in the log
abbrev pub IsAsRead : ℕ → DiskState → ℕ → ℕ → List ℕ → Type 0
IsAsRead size state page word bytes = IsSomeAnd (state (page / pages_of size))
    (λ s. bytes ≡ word_of (page_as_read s (page % pages_of size)) word)

-- a word that a crash may leave in this state
abbrev pub MayStand : ℕ → DiskState → ℕ → ℕ → List ℕ → Type 0
MayStand size state page word bytes = IsSomeAnd (state (page / pages_of size))
    (λ s. (bytes ≡ word_of (s.durable (page % pages_of size)) word)
    ⊎ IsWritten s.writes (page % pages_of size) word bytes)

-- a word of a segment that was there: one that a crash might have left before, or at or above the
-- end zeros
abbrev pub IsOldOrZero : ℕ → DiskState → ℕ → ℕ → ℕ → List ℕ → Type 0
IsOldOrZero size before end page word bytes = IsSome (before (page / pages_of size))
    × (MayStand size before page word bytes
    ⊎ ((end ≤ page * 8192 + 8 * word) × (bytes ≡ zero_word)))

-- in the segments that were there a word is as it was read, or at or above the end zeros
abbrev pub IsReadOrZero : ℕ → DiskState → ℕ → ℕ → ℕ → ℕ → List ℕ → Type 0
IsReadOrZero size before count end page word bytes = IsAmong count (page / pages_of size)
    → IsAsRead size before page word bytes
    ⊎ ((end ≤ page * 8192 + 8 * word) × (bytes ≡ zero_word))

-- .. and one at or above the end is zeros
abbrev pub IsSettledWord : ℕ → DiskState → ℕ → ℕ → ℕ → ℕ → List ℕ → Type 0
IsSettledWord size before count end page word bytes =
    IsReadOrZero size before count end page word bytes
    × (IsAmong count (page / pages_of size) → end ≤ page * 8192 + 8 * word → bytes ≡ zero_word)

-- whatever a crash leaves since: below the end nothing but what it might have left before
abbrev pub KeepsOld : ℕ → DiskState → ℕ → ℕ → ℕ → Tape → Type 0
KeepsOld size before count end moment tape =
    TapeAssures size (IsAmong count) (IsOldOrZero size before end) moment tape

-- from the moment on at which the first syncs are done: below the end just what was read, and at or
-- above it that or zeros
abbrev pub KeepsRead : ℕ → DiskState → ℕ → ℕ → ℕ → Tape → Type 0
KeepsRead size before count end moment tape =
    TapeAssures size (IsAmong count) (IsReadOrZero size before count end) moment tape

-- from the end of all calls on: that, and zeros from the end of the log on
abbrev pub StaysSettled : ℕ → DiskState → ℕ → ℕ → ℕ → Tape → Type 0
StaysSettled size before count end moment tape =
    TapeAssures size (IsAmong count) (IsSettledWord size before count end) moment tape

-- of a disk whose pages were whole this holds now
abbrev pub IfWhole : ℕ → Option Tape → Option Tape → (DiskState → Tape → Type 0) → Type 0
IfWhole size old new P =
    IfSome old (λ t. HaveWholePages size (state_now t) → IfSome new (P (state_now t)))

-- a log was settled, of which the segments from 1 to `count` were there
pub record HasSettled (size end count : ℕ) (old new : Option Tape) (old_moment new_moment : ℕ)
    : Type 0 where
  pub there : IfSome old (λ t. AreAllThere size (state_now t) count)
  pub calls : MakesCalls old new old_moment new_moment (settle_calls size end count)
  pub keeps_old : IfWhole size old new
      (λ before. KeepsOld size before count end old_moment)
  pub keeps_read : IfWhole size old new
      (λ before. KeepsRead size before count end (old_moment + count))
  pub settled : IfWhole size old new (λ before. StaysSettled size before count end new_moment)

-- what a fault tells: the disk's count of faults, which rose, or that no call was made
abbrev pub TellsSettleFault : Option Tape → Option Tape → ℕ → ℕ → ℕ → ℕ → SettleFault → Type 0
TellsSettleFault old new old_moment new_moment old_faults new_faults Memory =
    IsNotMade old new old_moment new_moment × (new_faults ≡ old_faults)
TellsSettleFault old new old_moment new_moment old_faults new_faults (Disk faults) =
    (faults ≡ new_faults) × Rose old_faults new_faults

-- a log was not settled: a front of the calls was made, of the segments that are there; where they
-- could not be counted no call was made
pub record HasNotSettled (size end : ℕ) (old new : Option Tape) (old_moment new_moment : ℕ)
    : Type 0 where
  pub count : ℕ
  pub there : IfSome old (λ t. AreAllThere size (state_now t) count)
      ⊎ ((count ≡ 0) × IsNotMade old new old_moment new_moment)
  pub calls : StopsCalls old new old_moment new_moment (settle_calls size end count)
  pub keeps_old : IfWhole size old new
      (λ before. KeepsOld size before count end old_moment)
  pub keeps_read : count ≤ length calls.front → IfWhole size old new
      (λ before. KeepsRead size before count end (old_moment + count))

-- The calls that a writer makes of its disk.
use Rattle.std.specs.Prelude.{◌≡◌, ℕ, zero, suc, ◌+◌, ◌-◌, ◌*◌, ◌/◌, ◌%◌, max, min, Bool, true, false, not, ◌&&◌, List, [], ◌∷◌, ◌++◌, length, Option, Some, None, ◌==◌, nat_lt, if◌then◌else◌}
use mathlib.Core.Option.{none, some}
use Rattle.byte_position.specs.Geometry.{pages_of}
use Rattle.segment_disk.specs.declared.disk.Call.{Call}
use Rattle.flush_core.specs.declared.protocol.NextCall.{NextCall}
use Rattle.flush_core.specs.declared.protocol.NextCall.TheVariants.{Sync, Create, Write}
use Rattle.segment_disk.specs.Tape.{Tape, Fails, create_call, sync_call, with_call, write_call}

-- ---- of one page

-- the call that makes a segment, where it is new
abbrev pub make_calls : ℕ → ℕ → Bool → List Call
make_calls size segment is_new = if is_new then create_call size segment ∷ [] else []

-- the calls that store a page: its segment is made before where it is new, and synced behind where
-- it is full
abbrev pub store_calls : ℕ → ℕ → ℕ → Bool → Bool → List ℕ → List Call
store_calls size segment page is_new is_full bytes =
    make_calls size segment is_new
    ++ write_call size segment page bytes ∷ []
    ++ (if is_full then sync_call size segment ∷ [] else [])

-- the calls that put a page: its segment is new where none as high is made yet, and full where then
-- all of it is written
abbrev pub put_calls : ℕ → ℕ → ℕ → ℕ → List ℕ → List Call
put_calls size made page upto bytes =
    store_calls size (page / pages_of size) (page % pages_of size)
    (nat_lt made (page / pages_of size)) (upto % size == 0) bytes

-- the call that syncs the segment of which writes wait for it, where one does
abbrev pub waiting_calls : ℕ → mathlib.Core.Option.Option ℕ → List Call
waiting_calls size none = []
waiting_calls size (some segment) = sync_call size segment ∷ []

-- the calls that harden what is written: one sync of the segment under way, where something waits
-- for it
abbrev pub harden_calls : ℕ → ℕ → Bool → List Call
harden_calls size written unsynced =
    waiting_calls size (if unsynced then some (written / size) else none)

-- a value that may be there, as contracts and as the machine have it
abbrev pub maybe : Option ℕ → mathlib.Core.Option.Option ℕ
maybe None = none
maybe (Some n) = some n

-- ---- of all pages, by a writer that does not know which segment waits when it begins

abbrev pub is_create : NextCall → Bool
is_create (Sync segment) = false
is_create Create = true
is_create Write = false

abbrev pub to_sync : NextCall → Option ℕ
to_sync (Sync segment) = Some segment
to_sync Create = None
to_sync Write = None

-- what is called next on the way to a page of a segment, where the segments up to one are made:
-- what waits is synced, unless it is of that segment, which is there; then the segment is made
-- where it is new
abbrev pub next_call : (made : ℕ) → mathlib.Core.Option.Option ℕ → (segment : ℕ) → NextCall
next_call made none segment = if nat_lt made segment then Create else Write
next_call made (some other) segment =
    if (other == segment) && not (nat_lt made segment) then Write else Sync other

-- what is called next behind a page that was written up to an address: its segment is synced where
-- that ends there
abbrev pub next_behind : (size page upto : ℕ) → NextCall
next_behind size page upto = if upto % size == 0 then Sync (page / pages_of size) else Write

-- the calls before anything of a segment is made or written
abbrev pub calls_before : ℕ → ℕ → mathlib.Core.Option.Option ℕ → ℕ → List Call
calls_before size made waiting segment =
    waiting_calls size (maybe (to_sync (next_call made waiting segment)))

-- the calls behind a page that was written up to an address
abbrev pub calls_behind : (size page upto : ℕ) → List Call
calls_behind size page upto = waiting_calls size (maybe (to_sync (next_behind size page upto)))

-- the calls that put a page behind that
abbrev pub page_calls : ℕ → ℕ → mathlib.Core.Option.Option ℕ → ℕ → ℕ → List ℕ → List Call
page_calls size made waiting page upto bytes =
    calls_before size made waiting (page / pages_of size) ++ put_calls size made page upto bytes

-- up to where a page is written, of a log of which all is known below an address
abbrev pub page_upto : ℕ → ℕ → ℕ
page_upto known page = min known ((page + 1) * 8192)

-- what waits for a sync where a page was put up to an address: its segment, unless that ends there
abbrev pub waiting_behind : ℕ → ℕ → mathlib.Core.Option.Option ℕ
waiting_behind size upto = if upto % size == 0 then none else some (upto / size)

-- the calls that write so many pages in rising order, from one on, each once; a page has these
-- bytes
abbrev pub calls_of_pages : (count size made : ℕ) → mathlib.Core.Option.Option ℕ → (page known : ℕ)
    → (ℕ → List ℕ) → List Call
calls_of_pages zero size made waiting page known bytes = []
calls_of_pages (suc count) size made waiting page known bytes =
    page_calls size made waiting page (page_upto known page) (bytes page)
    ++ calls_of_pages count size (max made (page / pages_of size))
    (waiting_behind size (page_upto known page)) (page + 1) known bytes

-- how many pages hold a byte from one address on that lies below another one
abbrev pub pages_between : ℕ → ℕ → ℕ
pages_between written known =
    if nat_lt written known then (known + 8191) / 8192 - written / 8192 else 0

-- the calls that write a log from the written address up to a known one, the last page as it stands
abbrev pub calls_of_writing : (size made : ℕ) → mathlib.Core.Option.Option ℕ → (written known : ℕ)
    → (ℕ → List ℕ) → List Call
calls_of_writing size made waiting written known bytes =
    calls_of_pages (pages_between written known) size made waiting (written / 8192) known bytes

-- the calls that flush it: these, then one sync where something waits for it then
abbrev pub calls_of_flush : (size made : ℕ) → mathlib.Core.Option.Option ℕ → (written known : ℕ)
    → (ℕ → List ℕ) → List Call
calls_of_flush size made waiting written known bytes =
    calls_of_writing size made waiting written known bytes
    ++ waiting_calls size (if nat_lt written known then waiting_behind size known else waiting)

-- ---- what was called

-- the disk with these calls more
abbrev pub with_calls : Option Tape → List Call → Option Tape
with_calls tape [] = tape
with_calls tape (call ∷ calls) = with_calls (with_call tape call) calls

-- all of these calls were made, and nothing else
pub record AreMade (old new : Option Tape) (old_moment new_moment : ℕ) (calls : List Call)
    : Type 0 where
  pub tape : new ≡ with_calls old calls
  pub moment : new_moment ≡ old_moment + length calls

-- a front of these calls was made, the next one failed, and no other was made
pub record BreaksOff (old new : Option Tape) (old_moment new_moment : ℕ) (calls : List Call)
    : Type 0 where
  pub front : List Call
  pub next : Call
  pub others : List Call
  pub are : calls ≡ front ++ next ∷ others
  pub fails : Fails (with_calls old front) new (old_moment + length front) new_moment next

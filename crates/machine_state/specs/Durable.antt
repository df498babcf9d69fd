-- What a crash leaves at any moment since the opening, and what it leaves from a moment on that a
-- pass was told (PostgreSQL's xlog.c, XLogFlush). On a disk on which a log may begin (`IfSuited`)
-- it leaves 0 or the log's word at each place, since nothing else is ever written. Who has the
-- writer in hand syncs, stores the disk's moment then, and behind it the flushed address: from that
-- moment on all below that address is there, and a later write of the same page leaves it so. Who
-- loads the flushed address and then the moment meets that moment or a later one: so a promise is
-- kept, whoever else stores meanwhile. No call follows a fault, and no promise that was made is
-- taken back by one. What was found at the opening is durable from the opening on, promised or not.
-- Down is set once, by one pass: its number stays with the view that took the pass in.
use Rattle.std.specs.Prelude.{◌≡◌, ◌≢◌, ◌⊎◌, ℕ, ◌+◌, ◌*◌, ◌<◌, ◌≤◌, All, List, [], ◌∷◌, drop, length, slice_get, take, IfSome, IsSomeAnd, Some, ◌==◌, if◌then◌else◌}
use mathlib.Core.Option.{Option, none, some}
use Rattle.segment_disk.specs.declared.disk.Call.{Call}
use Rattle.segment_disk.specs.declared.disk.CallKind.{CallKind}
use Rattle.segment_disk.specs.declared.disk.CallKind.TheVariants.{Create, Write, Sync}
use Rattle.segment_disk.specs.Cause.{Rose}
use Rattle.segment_disk.specs.DiskImage.{word_of}
use Rattle.segment_disk.specs.Tape.{DiskState, Tape, state_now}
use Rattle.segment_disk.specs.Assured.{IsMadeUpto, IsNowhere, SegmentAssures, TapeAssures}
use Rattle.byte_position.specs.Geometry.{pages_of}
use Rattle.wal_page.specs.Order.{Entry, finish_of}
use Rattle.wal_page.specs.EntryWords.{address_of_word}
use Rattle.segment_disk.specs.ImageWords.{zero_word}
use Rattle.machine_state.specs.Words.{Opening, found_end}
use Rattle.machine_state.specs.Made.{MakeInTurn}
use Rattle.machine_state.specs.Suited.{IfSuited}
use Rattle.machine_state.specs.Ringed.{log_bytes_of, log_word_of}
use Rattle.machine_state.specs.Views.{HasAt, Joined, FlushPromise, Plain, Lent, Out, Receipts}

-- ---- words of the disk, by page and number

module _ (opening : Opening) (order : List Entry) where
  -- each is 0 or the log's
  abbrev pub IsLawfulAt : ℕ → ℕ → List ℕ → Type 0
  IsLawfulAt page word bytes =
      (bytes ≡ zero_word) ⊎ (bytes ≡ log_bytes_of opening order (page * 8192 + 8 * word))

  -- each below an address is the log's
  abbrev pub IsLogBelow : ℕ → ℕ → ℕ → List ℕ → Type 0
  IsLogBelow address page word bytes = page * 8192 + 8 * word < address
      → bytes ≡ log_bytes_of opening order (page * 8192 + 8 * word)

  -- whatever a crash leaves from a moment on is the log below an address, in segments that are
  -- there
  abbrev pub IsFirm : ℕ → ℕ → Tape → Type 0
  IsFirm address moment tape = TapeAssures opening.setup.seg_size
      (IsMadeUpto opening.setup.seg_size address) (IsLogBelow address) moment tape

  -- a word of the ring that was loaded: 0 or the log's, and the log's below an address
  pub record IsStaged (known : ℕ) (staged : ℕ × ℕ) : Type 0 where
    pub lawful : (staged.1 ≡ 0) ⊎ (staged.1 ≡ log_word_of opening order (8 * staged.0))
    pub below : 8 * staged.0 < known → staged.1 ≡ log_word_of opening order (8 * staged.0)

-- a call to a segment puts zeros where it writes a word of an entry
abbrev pub PutsNone : ℕ → Entry → ℕ → CallKind → Type 0
PutsNone size e segment (Create made) = Unit {0}
PutsNone size e segment (Write page bytes) = (n : ℕ) → n < 1024
    → address_of_word size e 0 ≤ segment * size + page * 8192 + 8 * n
    → segment * size + page * 8192 + 8 * n < finish_of size e → word_of bytes.bytes n ≡ zero_word
PutsNone size e segment Sync = Unit {0}

-- the calls between the opening and a moment put nothing but zeros where an entry lies
abbrev pub IsUnwritten : ℕ → ℕ → Tape → ℕ → Entry → Type 0
IsUnwritten size opened tape moment e =
    All (λ (c : Call). PutsNone size e c.segment c.kind) (drop opened (take moment tape.calls))

-- a promise made to a log since the opening: what it names is firm, and nothing but zeros was put
-- before where an entry lies that came later
pub record IsPromiseKept (opening : Opening) (order : List Entry) (tape : Tape)
    (entries : List Entry)
    (p : FlushPromise) : Type 0 where
  pub since : opening.moment ≤ p.moment
  pub firm : IsFirm opening order p.upto p.moment tape
  pub later : (k : ℕ) (e : Entry) → p.entries ≤ k → slice_get entries k ≡ Some e
      → IsUnwritten opening.setup.seg_size opening.moment tape p.moment e

abbrev pub AreKept : Opening → List Entry → Tape → List Entry → List FlushPromise → Type 0
AreKept opening order tape entries promises =
    All (IsPromiseKept opening order tape entries) promises

-- with the writer in hand: what was loaded is lawful, and below which address all is durable from
-- the moment on that was stored, where one was
pub record IsInHand (first : DiskState) (opening : Opening) (order : List Entry) (moment : ℕ)
    (writer : Plain)
    (l : Lent) : Type 0 where
  pub staged : All (IsStaged opening order l.known) l.staged
  pub hard_low : l.hard ≤ writer.written
  pub moment_low : l.hard_moment ≤ moment
  pub since : l.hard ≢ 0 → opening.moment ≤ l.hard_moment
  pub firm : l.hard ≢ 0
      → IfSuited first opening writer (IsFirm opening order l.hard l.hard_moment)

-- what a promise names is not above what the words say now
pub record IsPromised (flushed moment : ℕ) (p : FlushPromise) : Type 0 where
  pub upto_low : p.upto ≤ flushed
  pub moment_low : p.moment ≤ moment

-- what is said of one view
pub record IsToldRightly (first : DiskState) (opening : Opening) (order : List Entry)
    (flushed moment down : ℕ)
    (writer : Plain) (x : Receipts) : Type 0 where
  pub own_promised : All (IsPromised flushed moment) (x.writing).promises
  pub joined_promised : All (λ (j : Joined). All (IsPromised flushed moment) j.promises) x.joined
  pub own : IfSuited first opening writer (λ t. AreKept opening order t x.entries
      (x.writing).promises)
  pub joined : IfSuited first opening writer (λ t.
      All (λ (j : Joined). AreKept opening order t j.entries j.promises) x.joined)
  pub in_hand : (l : Lent) → (x.writing).hold ≡ Out l
      → IsInHand first opening order moment writer l
  pub down_met : (x.writing).down_met ≢ 0 → (x.writing).down_met ≡ down
  pub down_set : (x.writing).down_set ≢ 0 → (x.writing).down_set ≡ down
  pub up_in_hand : (l : Lent) → (x.writing).hold ≡ Out l → (x.writing).down_met ≡ 0
      → (x.writing).down_set ≡ 0 → down ≡ 0

-- ---- how many passes set the down word

-- 1 for a number that is not 0
abbrev pub one_if_some : ℕ → ℕ
one_if_some number = if number == 0 then 0 else 1

-- of passes that were taken in; of a view's own pass and those that it took in; of all views
abbrev pub setters_among : List Joined → ℕ
setters_among [] = 0
setters_among (j ∷ js) = one_if_some j.down_set + setters_among js

abbrev pub setters_of : Receipts → ℕ
setters_of x = one_if_some (x.writing).down_set + setters_among x.joined

abbrev pub setters : List Receipts → ℕ
setters [] = 0
setters (x ∷ xs) = setters_of x + setters xs

-- the segments up to the last one made are there, and in each but the one that waits for a sync the
-- log is durable below what is written
pub record IsOnDisk (opening : Opening) (order : List Entry) (writer : Plain) (tape : Tape)
    : Type 0 where
  pub firm : (segment : ℕ) → writer.waiting ≢ some segment
      → SegmentAssures opening.setup.seg_size
      (IsMadeUpto opening.setup.seg_size writer.written)
      (IsLogBelow opening order writer.written) segment (state_now tape segment)
  pub there : (segment : ℕ) → 1 ≤ segment → segment ≤ writer.made
      → IsSomeAnd (state_now tape segment) (λ s. s.pages ≡ pages_of opening.setup.seg_size)

-- since the opening one segment was made behind another, up to the last one that the writer made
-- unless it failed, and each only where all below it is written
pub record IsMadeInTurn (opening : Opening) (writer : Plain) (calls : List Call) : Type 0 where
  pub last : ℕ
  pub in_turn : MakeInTurn opening.made (drop opening.moment calls) last
  pub known : writer.fault ≡ none → last ≡ writer.made
  pub low : (last ≡ opening.made) ⊎ (last * opening.setup.seg_size ≤ writer.written)

pub record DurabilityHolds (first : DiskState) (opening : Opening) (order : List Entry)
    (flushed moment down : ℕ) (home : Option Plain) (writer : Plain) (parts : List Receipts)
    : Type 0 where
  pub counted : IfSome writer.calls (λ calls. writer.moment ≡ length calls)
  pub moment_low : moment ≤ writer.moment
  pub begun : opening.moment ≤ moment
  pub reached : writer.written ≤ writer.made * opening.setup.seg_size
      + opening.setup.seg_size
  pub made : IfSome writer.calls (IsMadeInTurn opening writer)
  pub lawful : IfSuited first opening writer (TapeAssures opening.setup.seg_size IsNowhere
      (IsLawfulAt opening order) opening.moment)
  pub found_low : found_end opening ≤ flushed
  pub found : IfSuited first opening writer
      (IsFirm opening order (found_end opening) opening.moment)
  pub firm : IfSuited first opening writer (IsFirm opening order flushed moment)
  pub on_disk : IfSuited first opening writer (IsOnDisk opening order writer)
  pub down_is : down ≢ 0 → writer.fault ≡ some down
  pub down_at_home : home ≡ some writer → down ≡ 0 → writer.fault ≡ none
  pub set_once : setters parts ≡ one_if_some down
  pub fault_rose : (f : ℕ) → writer.fault ≡ some f → Rose opening.faults f
  pub views : (id : ℕ) (x : Receipts) → HasAt parts id x
      → IsToldRightly first opening order flushed moment down writer x

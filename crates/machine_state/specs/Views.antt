-- What a pass knows and is about, in parts, one for each concern. A view changes by its own pass's
-- steps alone, but where its pass is taken in. It has what the pass holds (locks, a turn, the
-- writer), how far the pass is with a reservation, a copy, a watch, a page or a write, and what it
-- has met. What a step may do rests on the view alone (`MayStep` of Steps): so no step of others
-- takes from a pass what its view lets it do. What the words hold now is said by the invariant.
use Rattle.std.specs.Prelude.{◌≡◌, ◌≢◌, ◌⊎◌, ℕ, ◌+◌, ◌≤◌, Bool, List, [], ◌∷◌, length, Contains, ◌==◌}
use Rattle.std.specs.List.{list_any}
use mathlib.Core.Option.{Option, some}
use lib.ListN.{get_elem?}
use Rattle.segment_disk.specs.declared.disk.Call.{Call}
use Rattle.wal_page.specs.Order.{Entry}
use Rattle.machine_state.specs.Words.{Opening}

-- a list has this at that index
abbrev pub HasAt : {A : Type 0} → List A → ℕ → A → Type 0
HasAt xs index x = get_elem? xs index ≡ some x

-- ---- reserving

-- how far a pass is with a reservation: the position that it locked, the start of the record before
-- that it loaded, its own start that it stored for the next one
pub data Place : Type 0 where
  Free : Place
  Locked : ℕ → Place
  Loaded : ℕ → ℕ → Place
  Stored : ℕ → ℕ → Place

-- where a pass locked the position and reserved nothing: too few bytes were left, or the log stood
-- at a segment's start; with the byte position, and how many entries it had then
pub data StopCause : Type 0 where
  LogFull : StopCause
  AtSegmentStart : StopCause

pub record Stop : Type 0 where
  pub cause : StopCause
  pub position : ℕ
  pub entries : ℕ

-- what a pass was told of a flush: all below the address `upto` is durable from the moment on; and
-- how many entries it had then
pub record FlushPromise : Type 0 where
  pub upto : ℕ
  pub moment : ℕ
  pub entries : ℕ

-- a pass that was taken in: its number, its log, and what it set the down word to (0 for nothing)
pub record Joined : Type 0 where
  pub number : ℕ
  pub entries : List Entry
  pub stops : List Stop
  pub promises : List FlushPromise
  pub down_set : ℕ

-- the pass's number, the numbers from `spare` up to `spare_end` that it may give to others, the
-- entries that it reserved in order, where it stopped and reserved nothing, a reserved end that it
-- has seen, and the passes that it took in. A pass that was taken in is not live
pub record Reserving : Type 0 where
  pub live : Bool
  pub number : ℕ
  pub spare : ℕ
  pub spare_end : ℕ
  pub entries : List Entry
  pub stops : List Stop
  pub seen : ℕ
  pub joined : List Joined
  pub place : Place

-- ---- copying

-- a reserved entry that is being copied: the start of the one before, the insertion locks under
-- which it stands, and how many of its words are copied
pub record Copy : Type 0 where
  pub entry : Entry
  pub prev : ℕ
  pub locks : List ℕ
  pub copied : ℕ

pub data Flight : Type 0 where
  Landed : Flight
  Copying : Copy → Flight

-- whether a lock is one of these
abbrev pub is_among : List ℕ → ℕ → Bool
is_among locks lock = list_any (λ one. lock == one) locks

-- at least one lock, and each of them is one of those
abbrev pub AreSomeOf : List ℕ → List ℕ → Type 0
AreSomeOf few all = (1 ≤ length few) × ((lock : ℕ) → Contains few lock → Contains all lock)

-- the insertion locks held, and the entry in flight
pub record Working : Type 0 where
  pub locks : List ℕ
  pub flight : Flight

-- ---- watching

-- the address watched for, how many locks were visited, and the address below which all is copied
-- of what these guard
pub record Watching : Type 0 where
  pub end : ℕ
  pub visited : ℕ
  pub bound : ℕ

-- ---- mapping

-- how far a pass is with mapping a page: the initialised end that it loaded, which is where the
-- page begins; the written position that it loaded; how many words it zeroed
pub data Stage : Type 0 where
  Away : Stage
  Taken : Stage
  Looked : ℕ → Stage
  Ready : ℕ → ℕ → Stage
  Zeroing : ℕ → ℕ → Stage
  Published : ℕ → Stage

-- the highest end of a page that a pass met, and how far it is with mapping
pub record Mapping : Type 0 where
  pub confirmed : ℕ
  pub stage : Stage

-- ---- writing

-- the writer as plain data: the counted calls of its disk, where they are told, and its moment; up
-- to where the log is written, the last segment made, the segment of which writes wait for a sync,
-- and the disk's count of faults when it failed. What the disk held at first is a function, and no
-- pass can know it: it is a parameter of the invariant
pub record Plain : Type 0 where
  pub calls : Rattle.std.specs.Prelude.Option (List Call)
  pub moment : ℕ
  pub written : ℕ
  pub made : ℕ
  pub waiting : Option ℕ
  pub fault : Option ℕ

-- with the writer in hand: it, as last kept; the address below which all is copied; the words that
-- were loaded from the ring, by their numbers in the log, the latest first; the address below which
-- all is durable from the moment on that was stored last, and that moment (0 where none was
-- stored); and the address that was stored as written
pub record Lent : Type 0 where
  pub writer : Plain
  pub known : ℕ
  pub staged : List (ℕ × ℕ)
  pub hard : ℕ
  pub hard_moment : ℕ
  pub stored : ℕ

-- of a word of the log this was loaded last
abbrev pub IsLoadedLast : (k word : ℕ) → List (ℕ × ℕ) → Type 0
IsLoadedLast k word [] = ⊥
IsLoadedLast k word (s ∷ staged) =
    ((s.0 ≡ k) × (s.1 ≡ word)) ⊎ ((s.0 ≢ k) × IsLoadedLast k word staged)

-- what a pass has of the write turn
pub data Hold : Type 0 where
  Idle : Hold
  Turned : Hold
  Out : Lent → Hold

-- the written and flushed addresses that a pass loaded, the down values that it met and set itself
-- (0 for none), what it was told of flushes, and what it has of the write turn. It met also what a
-- pass set that it took in, and the fault of a writer that had failed when it took it in hand
pub record Writing : Type 0 where
  pub written : ℕ
  pub flushed : ℕ
  pub down_met : ℕ
  pub down_set : ℕ
  pub promises : List FlushPromise
  pub hold : Hold

-- ---- the whole

-- beside the parts, what the pass told last of a lock that it holds, and under which locks it told
-- just that (no other step changes either), and the highest async address that it met or stored: up
-- to there its own entries count as those of commits that were told ahead of the disk, those of
-- plain inserts too, since they then lie before such a commit
pub record View : Type 0 where
  pub opening : Opening
  pub reserving : Reserving
  pub working : Working
  pub watching : Watching
  pub mapping : Mapping
  pub writing : Writing
  pub told : ℕ
  pub told_under : List ℕ
  pub async_met : ℕ

abbrev pub reserving_of : View → Reserving
reserving_of v = v.reserving

abbrev pub working_of : View → Working
working_of v = v.working

abbrev pub flight_of : View → Flight
flight_of v = v.working.flight

abbrev pub watching_of : View → Watching
watching_of v = v.watching

-- a pass's number and how far it is with mapping
abbrev pub mapper_of : View → ℕ × Stage
mapper_of v = (v.reserving.number, v.mapping.stage)

abbrev pub confirmed_of : View → ℕ
confirmed_of v = v.mapping.confirmed

-- a pass's number and what it has of the write turn
abbrev pub writer_of : View → ℕ × Hold
writer_of v = (v.reserving.number, v.writing.hold)

abbrev pub writing_of : View → Writing
writing_of v = v.writing

abbrev pub async_met_of : View → ℕ
async_met_of v = v.async_met

-- a pass's entries and those that it took in, with what was promised to it and to them
pub record Receipts : Type 0 where
  pub entries : List Entry
  pub joined : List Joined
  pub writing : Writing

abbrev pub receipts_of : View → Receipts
receipts_of v = record {
  entries = v.reserving.entries;
  joined = v.reserving.joined;
  writing = v.writing;
}

-- A log's reader as contracts see it: where it stands, and what it gives from there on.
use Rattle.std.specs.Prelude.{◌≡◌, ℕ, ◌<◌, ◌≤◌, ◌⊎◌, ◌^◌, List, [], ◌∷◌, Option, option_map, Result, Ok, Err}
use Rattle.wal_reader.specs.declared.found.FoundRecord.{FoundRecord}
use Rattle.wal_reader.specs.declared.found.Answer.{Answer}
use Rattle.wal_reader.specs.declared.found.Answer.TheVariants as answers
use Rattle.wal_reader.specs.declared.standing.Standing.{Standing}
use Rattle.wal_reader.specs.declared.standing.Standing.TheVariants.{NotBegun, At, Stopped}
use Rattle.wal_reader.specs.declared.standing.Step.{Step}
use Rattle.wal_reader.specs.declared.standing.Step.TheVariants as steps
use Rattle.wal_reader.specs.declared.standing.ReadErr.{ReadErr}
use Rattle.wal_reader.specs.declared.standing.ReadErr.TheVariants as reading
use Rattle.wal_reader.specs.declared.log_reader.Reader.{Reader}
use Rattle.wal_reader.specs.Decodes.{Decodes}
use Rattle.byte_position.specs.Position.{address_of}
use Rattle.wal_reader.specs.Cache.{HoldsLastPage}
use Rattle.wal_reader.specs.Buffers.{HoldsPageOf, page_in, room_in}
use Rattle.wal_reader.specs.Pages.{Pages}
use Rattle.wal_reader.specs.RecordRead.{IsBehind}
use Rattle.wal_reader.specs.Standings.{found_as, left_at}
use Rattle.wal_reader.specs.RecordPlace.{IsOutOfReach}
use Rattle.wal_reader.specs.Steps.{GivesFrom}

-- the segment size of the log, the addresses between which records are given, and where the reader
-- stands
pub record ReaderState : Type 0 where
  pub size : ℕ
  pub start : ℕ
  pub end : Option ℕ
  pub standing : Standing

abbrev pub reader_state : Reader → ReaderState
reader_state reader =
    record {
      size = reader.geometry;
      start = reader.start.0;
      end = option_map
          (λ address. address.0) reader.end;
      standing = reader.standing;
    }

-- what the room has in which a reader puts the bytes of a record together
abbrev pub reader_room : Reader → List ℕ
reader_room reader = room_in reader.buffers

-- the page that a reader holds is one of these
abbrev pub Knows : Reader → Pages → Type 0
Knows reader pages = HoldsPageOf reader.geometry reader.buffers pages

abbrev pub GivesAt : Pages → ReaderState → Standing → List FoundRecord → Answer → Type 0
GivesAt pages state NotBegun found answer =
    Decodes state.size pages state.start state.end found answer
GivesAt pages state (At place) found answer =
    GivesFrom state.size pages state.start state.end place found answer
GivesAt pages state (Stopped stop) found answer = (found ≡ []) × (answer ≡ answers.Stopped stop)

-- what a reader still gives of these pages: before it has begun all that they decode to, and once
-- it has stopped that answer alone
abbrev pub GivesRecords : Pages → ReaderState → List FoundRecord → Answer → Type 0
GivesRecords pages state found answer = GivesAt pages state state.standing found answer

-- a step is the next of what a reader gives of these pages
abbrev pub IsNext : Pages → ReaderState → ReaderState → Result Step ReadErr → Type 0
IsNext pages old new (Ok (steps.Record start end prev total value)) =
    let found = found_as start end prev total value in
    (others : List FoundRecord) (answer : Answer) → GivesRecords pages new others answer
    → GivesRecords pages old (found ∷ others) answer
IsNext pages old new (Ok (steps.End at)) = GivesRecords pages old [] (answers.End at)
IsNext pages old new (Err (reading.Stopped stop)) = GivesRecords pages old [] (answers.Stopped stop)
IsNext pages old new (Err reading.Memory) = Unit {0}
IsNext pages old new (Err (reading.Disk faults)) = Unit {0}

abbrev pub left_of : ReaderState → ℕ
left_of state = left_at state.standing

-- where a step leaves a reader: behind its record, stopped for good, and else where it was
abbrev pub LeavesReader : ReaderState → ReaderState → Result Step ReadErr → Type 0
LeavesReader old new (Ok (steps.Record start end prev total value)) =
    (new ≡ record old { standing = new.standing }) × (left_of new < left_of old)
LeavesReader old new (Ok (steps.End at)) = new ≡ old
LeavesReader old new (Err (reading.Stopped stop)) = new ≡ record old { standing = Stopped stop }
LeavesReader old new (Err reading.Memory) = new ≡ old
LeavesReader old new (Err (reading.Disk faults)) = new ≡ old

abbrev pub StandsBehindRecord : ℕ → FoundRecord → Standing → Type 0
StandsBehindRecord size found NotBegun = ⊥
StandsBehindRecord size found (At at) = IsBehind size found at
StandsBehindRecord size found (Stopped stop) = ⊥

-- after a record a reader stands just behind it
abbrev pub StandsAfter : ℕ → Standing → Result Step ReadErr → Type 0
StandsAfter size standing (Ok (steps.Record start end prev total value)) =
    StandsBehindRecord size (found_as start end prev total value) standing
StandsAfter size standing (Ok (steps.End at)) = Unit {0}
StandsAfter size standing (Err error) = Unit {0}

-- a reader holds no page, so that it reads anew whatever stands there next
abbrev pub HoldsNoPage : Reader → Type 0
HoldsNoPage reader = (pages : Pages) → Knows reader pages

-- what holds at an end
abbrev pub OnEnd : Result Step ReadErr → Type 0 → Type 0
OnEnd (Ok (steps.Record start end prev total value)) fact = Unit {0}
OnEnd (Ok (steps.End at)) fact = fact
OnEnd (Err error) fact = Unit {0}

-- which page a reader holds, if any
abbrev pub reader_page : Reader → Option ℕ
reader_page reader = page_in reader.buffers

-- a reader that needs no page beside the one that it holds: it has stopped, or it is where nothing
-- is read, or it stands in the last page that is read and holds it, so that a record which
-- continues behind that page is not read on; or before it has begun the address that it looks for
-- lies in a page that ends above address 2 ^ 60
abbrev pub NeedsNoPage : ReaderState → Option ℕ → Standing → Type 0
NeedsNoPage state held NotBegun = 2 ^ 60 ≤ state.start
NeedsNoPage state held (At at) =
    IsOutOfReach state.size state.end at.position
    ⊎ HoldsLastPage held (address_of state.size at.position)
NeedsNoPage state held (Stopped stop) = Unit {0}

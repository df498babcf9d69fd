-- The headline: what a run that opened its log leaves behind, however the steps of its backends
-- interleaved.
--
-- `size` is the size of a segment in bytes. The log begins with segment 1, at the address `size`.
-- `script` has each backend's lines, `told` what each line was told. `opening` is the disk's moment
-- at the call; `before` and `after` are what the disk tells before the call and after it.
use Rattle.std.specs.Prelude.{◌≡◌, ℕ, ◌≤◌, IfSome, IsTrue, List, [], ◌∷◌, Option, Some, None}
use Rattle.std.specs.List.Sorted.{IsPermutation}
use Rattle.byte_position.specs.Geometry.{is_segment_size}
use Rattle.byte_position.specs.Position.{address_of, position_of}
use Rattle.wal_spelling.specs.Record.{switch_record}
use Rattle.segment_disk.specs.DiskImage.{DiskImage, LeftAt}
use Rattle.segment_disk.specs.Tape.{Tape, after_calls}
use Rattle.wal_page.specs.Order.{Entry, FollowsFrom}
use Rattle.wal_reader.specs.declared.found.FoundRecord.{FoundRecord}
use Rattle.wal_reader.specs.Finds.{FindsRecords}
use Rattle.wal_reader.specs.Pages.{pages_in}
use Rattle.written_log_laws.specs.Torn.{NoTornPass}
use Rattle.run_script.specs.Asked.{Asked, AskedLine, Commit, CommitAsync, Flush, Insert, Switch, WriteBehind}
use Rattle.run_laws.specs.declared.told.Told.{Told}
use Rattle.run_laws.specs.declared.told.Told.TheVariants.{Wrote, Hard, Flushed, Async, Idle, Switched, Stayed, Refused}
use Rattle.run_laws.specs.Crash.{IsFrontWithTold}
use Rattle.run_laws.specs.Told.{IsPlaced, RiseInLineOrder, entries_from}

-- what each kind of line may be told: an insert, a commit or a commit that is answered ahead, where
-- its own record starts and ends (that of a commit is durable too), and so a segment switch, or
-- that the log ended at a segment's start already; a flush or a flush behind, up to where all is
-- durable, or the latter that all was so already; each, that it is refused, and if its record has a
-- place all the same, where that starts
abbrev pub NamesOwnPlace : ℕ → Asked → Told → Type 0
NamesOwnPlace size (Insert value) (Wrote start end) = IsPlaced size value start.0 end.0
NamesOwnPlace size (Commit value) (Hard start end moment) = IsPlaced size value start.0 end.0
NamesOwnPlace size Flush (Flushed upto moment) = Unit {0}
NamesOwnPlace size (CommitAsync value) (Async start end) = IsPlaced size value start.0 end.0
NamesOwnPlace size WriteBehind (Flushed upto moment) = Unit {0}
NamesOwnPlace size WriteBehind (Idle upto) = Unit {0}
NamesOwnPlace size Switch (Switched start end) = IsPlaced size switch_record start.0 end.0
NamesOwnPlace size Switch (Stayed end) = Unit {0}
NamesOwnPlace size asked (Refused cause reserved) =
    IfSome reserved (λ start. start.0 ≡ address_of size (position_of size start.0))
NamesOwnPlace size asked others = ⊥

-- each line of a backend has its answer, in the order of its lines, and what is told of a record
-- names its own place
abbrev pub AnswersLines : ℕ → List AskedLine → List Told → Type 0
AnswersLines size [] [] = Unit {0}
AnswersLines size (line ∷ lines) (answer ∷ answers) =
    NamesOwnPlace size line.asked answer × AnswersLines size lines answers
AnswersLines size lines answers = ⊥

-- so it is for each backend
abbrev pub AnswersScript : ℕ → List (List AskedLine) → List (List Told) → Type 0
AnswersScript size [] [] = Unit {0}
AnswersScript size (lines ∷ script) (answers ∷ told) =
    AnswersLines size lines answers × AnswersScript size script told
AnswersScript size script told = ⊥

-- a crash at a moment, and the records that the reader finds behind it
pub record FoundAfterCrash (size opening : ℕ) (order : List Entry) (before after : Option Tape)
    (moment : ℕ) (found : List FoundRecord) : Type 0 where
  -- behind the call the disk tells what it holds
  pub tape : Tape
  pub disk_tells : after ≡ Some tape
  -- if it told so before the call, it held no segment then
  pub starts_empty :
      IfSome before (λ t. (segment : ℕ) → after_calls t.at_first t.calls segment ≡ None)
  -- a crash at this moment, which is not before the call, may leave this image of the disk
  pub image : DiskImage
  pub since_opening : opening ≤ moment
  pub left : LeftAt tape moment image
  -- no torn record passes its CRC there
  pub no_torn_pass : NoTornPass size (pages_in size image) order
  -- the reader, from the start of segment 1 on, finds these records there
  pub finds :
      let log_start = size in FindsRecords size (pages_in size image) log_start found

pub record Headline (size opening : ℕ) (script : List (List AskedLine)) (told : List (List Told))
    (before after : Option Tape) : Type 0 where
  -- segments have a size that they can have, and each line of each backend has its answer
  pub sized : IsTrue (is_segment_size size)
  pub receipts : AnswersScript size script told
  -- the records that the run reserved, all of them and no other, in an order in which they
  pub order : List Entry
  pub reserved :
      let first_pass : ℕ = 1 in IsPermutation (entries_from size first_pass script told) order
  -- follow each other without a gap, from the log's start on;
  pub gapless : let log_start = size in FollowsFrom size (position_of size log_start) order
  -- each backend's start higher from line to line;
  pub in_line_order : let first_pass : ℕ = 1 in RiseInLineOrder size first_pass script told
  -- and a crash at any moment leaves segments that the reader decodes to a prefix of them, each
  -- record whole, holding every commit whose receipt names that moment or an earlier one
  pub crash : (moment : ℕ) (found : List FoundRecord)
      → FoundAfterCrash size opening order before after moment found
      → IsFrontWithTold size moment order told found

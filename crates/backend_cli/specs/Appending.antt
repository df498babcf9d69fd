-- What a run promises that goes on with a log that is there.
use Rattle.std.specs.Prelude.{◌≡◌, ◌⊎◌, ℕ, ◌+◌, ◌≤◌, IfSome, IsSome, IsTrue, List, [], ◌∷◌, ◌++◌, length, take, Err, Ok, Option, Some}
use Rattle.std.specs.List.Sorted.{IsPermutation}
use Rattle.byte_position.specs.Geometry.{is_segment_size}
use Rattle.byte_position.specs.Position.{end_address_of, first_position}
use Rattle.segment_disk.specs.Cause.{Rose, RoseByOne}
use Rattle.segment_disk.specs.DiskImage.{DiskImage, LeftAt}
use Rattle.segment_disk.specs.Tape.{Tape, page_of_segment, state_now}
use Rattle.flush_core.specs.Settled.{AreAllThere, HasSettled}
use Rattle.wal_page.specs.LogPlace.{LogPlace}
use Rattle.wal_page.specs.Order.{Entry, FollowsFrom}
use Rattle.wal_reader.specs.declared.found.FoundRecord.{FoundRecord}
use Rattle.wal_reader.specs.Cache.{log_of}
use Rattle.wal_reader.specs.Finds.{FindsRecords}
use Rattle.wal_reader.specs.Pages.{pages_in}
use Rattle.written_log_laws.specs.FoundLog.{end_behind, last_start_behind}
use Rattle.written_log_laws.specs.Torn.{NoTornPass}
use Rattle.written_log_laws.specs.Written.{found_of}
use Rattle.found_log.specs.Found.{HasBegunToSettle, IsDiskLog, RefusesLog}
use Rattle.found_log.specs.declared.fault.FindFault.TheVariants as finding
use Rattle.machine_state.specs.Opened.{IsOpenable}
use Rattle.machine_laws.specs.WholeOrders.{LiesBehind}
use Rattle.wal_rule.specs.Founded.{found_log_opening}
use Rattle.run_script.specs.Asked.{AskedLine}
use Rattle.run_laws.specs.declared.told.Told.{Told}
use Rattle.run_laws.specs.Crash.{IsFrontWithTold}
use Rattle.run_laws.specs.Told.{RiseInLineOrder, entries_from, order_from}
use Rattle.run_laws.specs.Assured.{TapeGoesOn}
use Rattle.reopened_log_laws.specs.AnyLogs.{HoldsSegments}
use Rattle.reopened_log_laws.specs.FoundFirst.{AreFoundEntries}
use Rattle.reopened_log_laws.specs.WasLeft.{WasLeft}
use Rattle.cli_line.specs.declared.commands.RunOptions.{RunOptions}
use Rattle.cli_line.specs.declared.commands.ScriptRunOptions.{ScriptRunOptions}
use Rattle.backend_cli.specs.declared.outcome.Outcome.{Outcome}
use Rattle.backend_cli.specs.declared.outcome.Outcome.TheVariants.{OutOfMemory, SourceFault, ScriptRefused, BeyondCap, DiskFault, Stopped}
use Rattle.backend_cli.specs.Headline.{AnswersScript}
use Rattle.backend_cli.specs.Outside.{IsUntouched, Outside, Took}
use Rattle.backend_cli.specs.Reading.{ScriptMeans}
use Rattle.backend_cli.specs.Run.{HoldsBehind, HoldsSince, MeansSome}
use Rattle.backend_cli.specs.Setups.{run_setup, system_id}
use Rattle.backend_cli.specs.Texts.{append_text, position_behind_found}

-- ---- the headline, of the whole log
--
-- Names are those of the headline. `handed` is the disk's moment at the call.

-- a crash at a moment since the disk was handed in, and the records that the reader finds behind it
pub record CrashSinceHanded (size handed : ℕ) (order : List Entry) (before after : Option Tape)
    (moment : ℕ) (found : List FoundRecord) : Type 0 where
  -- the disk told before the call what it held, and this program had left it so, crashed or not
  pub old : Tape
  pub told_before : before ≡ Some old
  pub found_before : List FoundRecord
  pub was_left : WasLeft size system_id old found_before
  -- it tells behind the call what it holds
  pub tape : Tape
  pub disk_tells : after ≡ Some tape
  -- a crash at this moment, which is not before the call, may leave this image of the disk
  pub image : DiskImage
  pub since_handed : handed ≤ moment
  pub left : LeftAt tape moment image
  -- no torn record passes its CRC there, of the log that was left nor of the one behind the call
  pub no_torn_pass_before : NoTornPass size (pages_in size image) was_left.order
  pub no_torn_pass : NoTornPass size (pages_in size image) order
  -- the reader, from the start of segment 1 on, finds these records there
  pub finds : FindsRecords size (pages_in size image) size found

pub record AppendHeadline (size handed : ℕ) (script : List (List AskedLine))
    (told : List (List Told)) (before after : Option Tape) : Type 0 where
  pub sized : IsTrue (is_segment_size size)
  pub receipts : AnswersScript size script told
  -- the records that were found: just those that the reader finds on the disk before the call
  pub found : List FoundRecord
  pub read : IfSome before (λ t. FindsRecords size (log_of t size) size found)
  -- the records that the run reserved, all of them and no other, in an order in which they
  pub order : List Entry
  pub reserved : IsPermutation (entries_from size 1 script told) order
  -- follow those found, and each other, without a gap;
  pub gapless : FollowsFrom size (position_behind_found size found) order
  -- each backend's stand in script order;
  pub in_line_order : RiseInLineOrder size 1 script told
  -- if this program left the disk, those found are nobody's entries, and with what was reserved
  -- they follow each other without a gap from the log's first position on;
  pub whole : (t : Tape) (records : List FoundRecord) → before ≡ Some t
      → WasLeft size system_id t records
      → (front : List Entry) × AreFoundEntries size t front × (found_of size front ≡ found)
      × FollowsFrom size (first_position size) (front ++ order)
  -- and a crash at any moment since the disk was handed in leaves segments that the reader decodes
  -- to a prefix of all of them, each record whole, holding every commit whose receipt names that
  -- moment or an earlier one,
  pub crash : (front : List Entry) (moment : ℕ) (records : List FoundRecord)
      → (c : CrashSinceHanded size handed (front ++ order) before after moment records)
      → AreFoundEntries size c.old front
      → IsFrontWithTold size moment (front ++ order) told records
  -- and, once each of the segments that were there has been synced, all that was found
  pub segments : ℕ
  pub there : IfSome before (λ t. AreAllThere size (state_now t) segments)
  pub keeps_found : (front : List Entry) (moment : ℕ) (records : List FoundRecord)
      → (c : CrashSinceHanded size handed (front ++ order) before after moment records)
      → AreFoundEntries size c.old front → handed + segments ≤ moment
      → take (length found) records ≡ found

-- ---- how it ends

-- nothing was printed
pub record PrintsNothing (outside : Outside) : Type 0 where
  pub nothing_printed : outside.taken_after ≡ outside.taken_before
  pub sink_faults_same : outside.sink_after ≡ outside.sink_before

-- the disk failed while the log was settled that was found there: a front of the calls was made.
-- Whatever a crash leaves since the disk was handed in, the reader finds a front of what was found,
-- and all of it from the end of the first syncs on, if each segment that was there was synced
pub record StopsSettling (size cap : ℕ) (outside : Outside) : Type 0 where
  pub begun : HasBegunToSettle size cap outside.tape_before outside.tape_after
      outside.moment_before outside.moment_after
  pub crash : (moment : ℕ) (records : List FoundRecord)
      → (c : CrashSinceHanded size outside.moment_before [] outside.tape_before
      outside.tape_after moment records)
      → (behind : List FoundRecord) × (c.found_before ≡ records ++ behind)
  pub keeps_found : (moment : ℕ) (records : List FoundRecord)
      → (c : CrashSinceHanded size outside.moment_before [] outside.tape_before
      outside.tape_after moment records)
      → (segments : ℕ) → AreAllThere size (state_now c.old) segments
      → segments ≤ length (begun.stopped.calls).front → outside.moment_before + segments ≤ moment
      → records ≡ c.found_before

-- how a run ends that did not open the log with which it was to go on, and why; it ends in no other
-- way. No counted call of the disk is made, but where the disk fails while the log is settled
abbrev pub EndsUnappended : ScriptRunOptions → Outside → Outcome → Type 0
EndsUnappended options outside OutOfMemory =
    (outside.source_after.faults ≡ outside.source_before.faults)
    × (outside.disk_after ≡ outside.disk_before) × IsUntouched outside
EndsUnappended options outside SourceFault =
    RoseByOne outside.source_before.faults outside.source_after.faults
    × (outside.disk_after ≡ outside.disk_before) × IsUntouched outside
EndsUnappended options outside (ScriptRefused refusal) =
    ScriptMeans options.writer outside.source_before outside.source_after (Err refusal)
    × (outside.disk_after ≡ outside.disk_before) × IsUntouched outside
EndsUnappended options outside BeyondCap =
    MeansSome options.writer outside
    × IfSome outside.tape_before
    (λ t. IsSome (page_of_segment (state_now t (options.run.cap_segments + 1)) 0))
    × (outside.disk_after ≡ outside.disk_before) × IsUntouched outside
EndsUnappended options outside (Stopped stop) =
    MeansSome options.writer outside
    × IfSome outside.tape_before (RefusesLog options.run.geometry
    options.run.cap_segments (finding.Foreign stop))
    × (outside.disk_after ≡ outside.disk_before) × IsUntouched outside
EndsUnappended options outside DiskFault =
    MeansSome options.writer outside × Rose outside.disk_before outside.disk_after
    × (IsUntouched outside
    ⊎ (PrintsNothing outside
    × StopsSettling options.run.geometry options.run.cap_segments outside))
EndsUnappended options outside others = ⊥

-- this program left the disk so, crashed or not, where it tells what it holds
abbrev pub WasLeftSo : ℕ → Option Tape → Type 0
WasLeftSo size tape =
    IfSome tape (λ t. (found : List FoundRecord) × WasLeft size system_id t found)

-- .. or it held there pages of bytes, in the segments from 1 to `made` and in no other: then what
-- lay below the log's end is known word by word, whoever wrote it
abbrev pub MayGoOn : (size made : ℕ) → Option Tape → Type 0
MayGoOn size made tape = WasLeftSo size tape ⊎ IfSome tape (HoldsSegments size made)

-- a run that went on with the log, of the script with these lines
pub record HoldsAppended (outside : Outside) (options : RunOptions) (outcome : Outcome)
    (script : List (List AskedLine)) (lists : List (List Told)) : Type 0 where
  pub headline : AppendHeadline options.geometry outside.moment_before script lists
      outside.tape_before outside.tape_after
  -- the log goes on at this place, behind the records that were found; the words below it are those
  -- that were read. It was opened, so there was no reason to refuse it: the segment behind the last
  -- one allowed was not there, and the log stops as a crash of this program may let one stop
  pub place : LogPlace
  pub ends_there : end_address_of options.geometry place.position
      ≡ end_behind options.geometry headline.found
  pub prev_is : place.prev ≡ last_start_behind 0 headline.found
  pub judged : IfSome outside.tape_before (IsDiskLog options.geometry options.cap_segments
      headline.found place headline.segments)
  -- and no more segments were there than are allowed
  pub within : headline.segments ≤ options.cap_segments
  -- the log was settled: then the disk told this, and had this moment, and the log was opened
  pub began : Option Tape
  pub moment : ℕ
  pub settled : HasSettled options.geometry (end_behind options.geometry headline.found)
      headline.segments outside.tape_before began outside.moment_before moment
  pub openable : IsOpenable (found_log_opening (run_setup options (length script)) place
      headline.segments moment outside.disk_before)
  pub goes_on : TapeGoesOn began outside.tape_after
  -- up to then, from the end of the first syncs on, the reader finds just what was found, whatever
  -- a crash leaves
  pub keeps_all : (at : ℕ) (records : List FoundRecord)
      → CrashSinceHanded options.geometry outside.moment_before [] outside.tape_before began at
      records
      → outside.moment_before + headline.segments ≤ at → records ≡ headline.found
  pub since : HoldsSince (found_log_opening (run_setup options (length script)) place
      headline.segments moment outside.disk_before)
      (MayGoOn options.geometry headline.segments outside.tape_before) outside outcome script lists
  pub behind : (front : List Entry)
      → LiesBehind (found_log_opening (run_setup options (length script)) place headline.segments
      moment outside.disk_before) front
      → HoldsBehind (found_log_opening (run_setup options (length script)) place headline.segments
      moment outside.disk_before) front
      (MayGoOn options.geometry headline.segments outside.tape_before) outside script lists
  pub printed : Took outside.taken_before outside.taken_after outside.sink_before outside.sink_after
      (append_text options.geometry options.list headline.found script lists
      (order_from options.geometry 1 script lists))

-- a run of the script that the source handed out, with the run's writer, behind the log that is
-- there: without told lines that log was not opened
abbrev pub AppendHolds : Outside → ScriptRunOptions → Outcome → List (List Told) → Type 0
AppendHolds outside options outcome [] = EndsUnappended options outside outcome
AppendHolds outside options outcome (told ∷ others) =
    (script : List (List AskedLine))
    × ScriptMeans options.writer outside.source_before outside.source_after (Ok script)
    × HoldsAppended outside options.run outcome script (told ∷ others)

-- All lives of a log on one disk. A life is a call of `pgwal` that may write to the disk, and how
-- it ends: the call comes back, its process is killed, or its machine crashes. Of the call nothing
-- is said but what `pgwal` promises of it in its clause `obeys` (`RunHolds`, `GenHolds` and
-- `AppendHolds` of backend_cli).
--
-- `size` is the size of a segment in bytes. `t` is the disk's tape when a life begins, `now` the
-- one that its call leaves, `next` what is left for the next life. `order` is the log so far, and
-- `hard` are records of it that were told durable in some life. (A call that is cut short at a
-- moment is one whose later calls of the disk and answers nobody saw. That the records on a disk
-- are those of entries, `entries` of `KeepsAllHard` says, and `whole` of the call's headline.)
use Rattle.std.specs.Prelude.{◌≡◌, ℕ, ◌<◌, ◌≤◌, All, Any, Contains, IsTrue, List, [], ◌∷◌, ◌++◌, length, Some}
use Rattle.byte_position.specs.Geometry.{is_segment_size}
use Rattle.segment_disk.specs.Tape.{Tape}
use Rattle.flush_core.specs.Pages.{HoldsNothing}
use Rattle.wal_page.specs.Order.{Entry}
use Rattle.wal_reader.specs.declared.found.FoundRecord.{FoundRecord}
use Rattle.written_log_laws.specs.Written.{found_of}
use Rattle.run_laws.specs.declared.told.Told.{Told}
use Rattle.run_laws.specs.Crash.{SaysDurable}
use Rattle.run_laws.specs.Told.{order_from}
use Rattle.reopened_log_laws.specs.FoundFirst.{AreFoundEntries}
use Rattle.reopened_log_laws.specs.Lives.{LifeEndsAt}
use Rattle.run_script.specs.Generated.{generated_script}
use Rattle.cli_line.specs.declared.commands.GenOptions.{GenOptions}
use Rattle.cli_line.specs.declared.commands.RunOptions.{RunOptions}
use Rattle.cli_line.specs.declared.commands.ScriptRunOptions.{ScriptRunOptions}
use Rattle.backend_cli.specs.declared.outcome.Outcome.{Outcome}
use Rattle.backend_cli.specs.Appending.{AppendHolds}
use Rattle.backend_cli.specs.Outside.{Outside}
use Rattle.backend_cli.specs.Run.{GenHolds, RunHolds}

-- a call with segments of this size, on a disk with this tape, which it leaves with that one. The
-- disk's moment is how many calls it has counted, as each disk's is
pub record IsCalledOn (size : ℕ) (options : RunOptions) (outside : Outside) (t now : Tape)
    : Type 0 where
  pub sized : options.geometry ≡ size
  pub before : outside.tape_before ≡ Some t
  pub after : outside.tape_after ≡ Some now
  pub counted : outside.moment_before ≡ length t.calls

-- a record of the log, and by a moment some line was told that all up to its end is durable: so is
-- that of each commit whose receipt names that moment or an earlier one
abbrev pub IsToldDurable : (size moment : ℕ) → List Entry → List (List Told) → FoundRecord → Type 0
IsToldDurable size moment order lists r =
    Contains (found_of size order) r × Any (Any (SaysDurable moment r.head.end.0)) lists

-- a run that begins the log, on a disk that holds nothing
pub record BeginsLog (size : ℕ) (t next : Tape) (order : List Entry) (hard : List FoundRecord)
    : Type 0 where
  pub options : ScriptRunOptions
  pub outside : Outside
  pub outcome : Outcome
  pub told : List Told
  pub others : List (List Told)
  pub now : Tape
  pub called : IsCalledOn size options.run outside t now
  pub empty : HoldsNothing (Some t)
  pub holds : RunHolds outside options outcome (told ∷ others)
  pub order_is : order ≡ order_from size 1 holds.0 (told ∷ others)
  pub moment : ℕ
  pub since : outside.moment_before ≤ moment
  pub ends : LifeEndsAt size order now moment next
  pub told_hard : All (IsToldDurable size moment order (told ∷ others)) hard

-- the same of a run of lines that are made
pub record GeneratesLog (size : ℕ) (t next : Tape) (order : List Entry) (hard : List FoundRecord)
    : Type 0 where
  pub options : GenOptions
  pub outside : Outside
  pub outcome : Outcome
  pub told : List Told
  pub others : List (List Told)
  pub now : Tape
  pub called : IsCalledOn size options.run outside t now
  pub empty : HoldsNothing (Some t)
  pub holds : GenHolds outside options outcome (told ∷ others)
  pub order_is : order ≡ order_from size 1 (generated_script options.lines) (told ∷ others)
  pub moment : ℕ
  pub since : outside.moment_before ≤ moment
  pub ends : LifeEndsAt size order now moment next
  pub told_hard : All (IsToldDurable size moment order (told ∷ others)) hard

-- a run that goes on with it: the entries come first whose records the reader finds on the disk,
-- and behind them what was reserved
pub record ContinuesLog (size : ℕ) (t next : Tape) (order : List Entry) (hard : List FoundRecord)
    : Type 0 where
  pub options : ScriptRunOptions
  pub outside : Outside
  pub outcome : Outcome
  pub told : List Told
  pub others : List (List Told)
  pub now : Tape
  pub called : IsCalledOn size options.run outside t now
  pub holds : AppendHolds outside options outcome (told ∷ others)
  pub front : List Entry
  pub below : AreFoundEntries size t front
  pub order_is : order ≡ front ++ order_from size 1 holds.0 (told ∷ others)
  pub moment : ℕ
  pub since : (holds.2).moment ≤ moment
  pub ends : LifeEndsAt size order now moment next
  pub told_hard : All (IsToldDurable size moment order (told ∷ others)) hard

-- such a run that was cut short while what was found was settled: the log is as it was
pub record EndsSettling (size : ℕ) (t next : Tape) (order : List Entry) : Type 0 where
  pub options : ScriptRunOptions
  pub outside : Outside
  pub outcome : Outcome
  pub told : List Told
  pub others : List (List Told)
  pub now : Tape
  pub called : IsCalledOn size options.run outside t now
  pub holds : AppendHolds outside options outcome (told ∷ others)
  pub moment : ℕ
  pub since : outside.moment_before ≤ moment
  pub early : moment < (holds.2).moment
  pub ends : LifeEndsAt size order now moment next

-- one that did not open the log, since the disk failed while it was settled or for another cause
pub record FailsToOpen (size : ℕ) (t next : Tape) (order : List Entry) : Type 0 where
  pub options : ScriptRunOptions
  pub outside : Outside
  pub outcome : Outcome
  pub now : Tape
  pub called : IsCalledOn size options.run outside t now
  pub holds : AppendHolds outside options outcome []
  pub moment : ℕ
  pub since : outside.moment_before ≤ moment
  pub upto : moment ≤ outside.moment_after
  pub ends : LifeEndsAt size order now moment next

-- Such lives one behind another; in between the disk may rest, as during a listing or any other
-- call that makes no counted call of the disk, and its machine may crash then too
pub data History (size : ℕ) : Tape → List Entry → List FoundRecord → Type 0 where
  holds_nothing : {t : Tape} → IsTrue (is_segment_size size) → HoldsNothing (Some t)
      → History size t [] []
  begins : {t next : Tape} {before order : List Entry} {hard more : List FoundRecord}
      → History size t before hard → BeginsLog size t next order more
      → History size next order (hard ++ more)
  generates : {t next : Tape} {before order : List Entry} {hard more : List FoundRecord}
      → History size t before hard → GeneratesLog size t next order more
      → History size next order (hard ++ more)
  continues : {t next : Tape} {before order : List Entry} {hard more : List FoundRecord}
      → History size t before hard → ContinuesLog size t next order more
      → History size next order (hard ++ more)
  ends_settling : {t next : Tape} {order : List Entry} {hard : List FoundRecord}
      → History size t order hard → EndsSettling size t next order → History size next order hard
  fails_to_open : {t next : Tape} {order : List Entry} {hard : List FoundRecord}
      → History size t order hard → FailsToOpen size t next order → History size next order hard
  rests : {t next : Tape} {order : List Entry} {hard : List FoundRecord}
      → History size t order hard → LifeEndsAt size order t (length t.calls) next
      → History size next order hard

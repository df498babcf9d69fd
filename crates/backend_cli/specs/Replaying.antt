-- What a replay promises.
use Rattle.std.specs.Prelude.{◌≡◌, ◌⊎◌, ℕ, ◌+◌, true, false, List, [], ◌∷◌, ◌++◌, length, map, take, codes, Bool, Option, Some, Result, Ok, Err}
use Rattle.std.specs.Fmt.{decimal}
use Rattle.segment_disk.specs.Cause.{RoseByOne}
use Rattle.segment_disk.specs.DiskImage.{LeftAt, image_as_read}
use Rattle.segment_disk.specs.Picks.{IsPicked, choice_of}
use Rattle.segment_disk.specs.Stream.{with_behind}
use Rattle.segment_disk.specs.Tape.{DiskState, IsNotMade, Tape, empty_state, state_now}
use Rattle.segment_disk.specs.declared.memory.pick.Pick.{Pick}
use Rattle.segment_disk.specs.declared.memory.pick.Pick.TheVariants as picks
use Rattle.waldump_filter.specs.Keeping.{everything_from}
use Rattle.machine_state.specs.declared.setup.Setup.{Setup}
use Rattle.machine_state.specs.Opened.{AreFirstWords, IsFirstWriter}
use Rattle.machine_state.specs.Suited.{tape_from}
use Rattle.machine_state.specs.Views.{Plain}
use Rattle.wal_reader.specs.declared.standing.ReadErr.TheVariants as reading
use Rattle.machine_turns.specs.Begun.{first_machine}
use Rattle.machine_turns.specs.Doing.{Ask, Backend, Commits, Flushes, Inserts, Machine}
use Rattle.machine_turns.specs.Turned.{machine_behind}
use Rattle.wal_core.specs.Cores.{HasWriter, first_opening}
use Rattle.run_script.specs.Turns.{backends_in_turn}
use Rattle.run_script.specs.Asked.{Asked, AskedLine, Commit, CommitAsync, Flush, Insert, Switch, WriteBehind}
use Rattle.run_script.specs.Replay.{ReplayMeaning, replay_meaning}
use Rattle.waldump_text.specs.Dump.{IsDump}
use Rattle.waldump_text.specs.Put.{joined}
use Rattle.waldump_text.specs.declared.dumping.DumpErr.{DumpErr}
use Rattle.waldump_text.specs.declared.dumping.DumpErr.TheVariants.{Read, Sink}
use Rattle.cli_line.specs.declared.commands.CrashPick.{CrashPick}
use Rattle.cli_line.specs.declared.commands.CrashPick.TheVariants as crashes
use Rattle.cli_line.specs.declared.commands.ReplayOptions.{ReplayOptions}
use Rattle.backend_cli.specs.declared.outcome.Outcome.{Outcome}
use Rattle.backend_cli.specs.declared.outcome.Outcome.TheVariants.{Done, OutOfMemory, Stopped, LogFull, SinkFault}
use Rattle.run_laws.specs.declared.told.Told.{Told}
use Rattle.backend_cli.specs.Outside.{Outside}
use Rattle.backend_cli.specs.Prepared.{IsUnpreparedBy}
use Rattle.backend_cli.specs.Reading.{ScriptMeansBy}
use Rattle.backend_cli.specs.Setups.{setup_asked}

-- ---- the machine

-- what a line asks of the machine; a replay has no line that is answered ahead, flushes behind or
-- closes a segment
abbrev pub ask_of : Asked → Ask
ask_of (Insert value) = Inserts value
ask_of (Commit value) = Commits value
ask_of Flush = Flushes
ask_of (CommitAsync value) = Commits value
ask_of WriteBehind = Flushes
ask_of Switch = Flushes

abbrev pub asks_of : List AskedLine → List Ask
asks_of lines = map (λ line. ask_of line.asked) lines

-- the setup of a replay's log
abbrev pub replay_setup : ReplayOptions → ℕ → Setup
replay_setup options backends =
    setup_asked options.geometry options.ring_pages options.cap_segments backends

-- the machine as which a replay of these lines begins: the log holds nothing, nor does its disk, of
-- which no call fails
pub record BeginsReplay (options : ReplayOptions) (backends : List (List AskedLine)) (m : Machine)
    : Type 0 where
  pub words : List ℕ
  pub writer : Plain
  pub first_words : AreFirstWords (first_opening (replay_setup options (length backends))) words
  pub first_writer : IsFirstWriter (first_opening (replay_setup options (length backends))) writer
  pub calls : writer.calls ≡ Some []
  pub machine_is : m ≡ first_machine empty_state
      (first_opening (replay_setup options (length backends))) words writer []
      (map asks_of backends)

-- the machine behind a replay: each turn of the schedule is had
abbrev pub IsReplayOf : ReplayOptions → ReplayMeaning → Machine → Type 0
IsReplayOf options meaning m = (first : Machine) × BeginsReplay options meaning.backends first
    × (m ≡ machine_behind first (backends_in_turn meaning.schedule))

-- ---- the crash

abbrev pub pick_of : CrashPick → Pick
pick_of crashes.Old = picks.Old
pick_of crashes.New = picks.New
pick_of crashes.Odd = picks.Odd

-- a crash of the machine's disk, at its last moment, leaves this: of what it may leave, what is
-- picked
pub record IsCrashed (pick : CrashPick) (m : Machine) (left : DiskState) : Type 0 where
  pub writer : Plain
  pub tape : Tape
  pub is_writer : HasWriter m writer
  pub tape_is : tape_from m.first writer.calls ≡ Some tape
  pub left_then : LeftAt tape (length tape.calls) (image_as_read left)
  pub picked : IsPicked (choice_of (pick_of pick)) (state_now tape) (image_as_read left)

-- ---- what is printed

-- the line of a backend: how many of its lines are answered, of how many
abbrev pub backend_line : (number answered lines : ℕ) → List ℕ
backend_line number answered lines =
    joined (codes "backend " ∷ decimal number ∷ codes " lines " ∷ decimal answered ∷
    codes " of " ∷ decimal lines ∷ codes "\n" ∷ [])

-- of each, from a number on
abbrev pub backend_lines : ℕ → List Backend → List ℕ
backend_lines number [] = []
backend_lines number (b ∷ backends) =
    backend_line number b.answered (length b.asks) ++ backend_lines (number + 1) backends

-- a sink took a text, and behind it what a listing of all of this disk's log puts that ends so; or
-- a front of the text, where the sink failed
abbrev pub PutsBefore : List ℕ → ℕ → DiskState → Option (List ℕ) → Option (List ℕ)
    → Result ℕ DumpErr → Type 0
PutsBefore text size left old new listed =
    IsDump size (everything_from (record { 0 = size })) (with_behind old text) new listed
    (record { at_first = left; calls = [] })
    ⊎ FrontOf listed
  where
    FrontOf : Result ℕ DumpErr → Type 0
    FrontOf (Err (Sink fault)) = (n : ℕ) × (new ≡ with_behind old (take n text))
    FrontOf others = ⊥

-- a sink counted a fault just where it failed
abbrev pub HasSinkCause : ℕ → ℕ → Result ℕ DumpErr → Type 0
HasSinkCause before after (Err (Sink fault)) = RoseByOne before after
HasSinkCause before after others = after ≡ before

-- ---- how it ends

-- how a replay ends, by how the listing did and whether the log was full: the first of its causes
abbrev pub outcome_with : Result ℕ DumpErr → Bool → Outcome
outcome_with (Err (Read reading.Memory)) full = OutOfMemory
outcome_with (Err (Read (reading.Disk faults))) full = OutOfMemory
outcome_with (Err (Read (reading.Stopped stop))) full = Stopped stop
outcome_with (Ok count) true = LogFull
outcome_with (Ok count) false = Done
outcome_with (Err (Sink fault)) true = LogFull
outcome_with (Err (Sink fault)) false = SinkFault

-- the schedule of the script that the source handed out was played, and the log listed that a crash
-- left
pub record HasReplayed (outside : Outside) (options : ReplayOptions) (outcome : Outcome)
    : Type 0 where
  pub meaning : ReplayMeaning
  pub machine : Machine
  pub left : DiskState
  pub listed : Result ℕ DumpErr
  pub means : ScriptMeansBy replay_meaning outside.source_before outside.source_after (Ok meaning)
  pub played : IsReplayOf options meaning machine
  pub crashed : IsCrashed options.crash machine left
  pub printed : PutsBefore (backend_lines 0 machine.backends) options.geometry left
      outside.taken_before outside.taken_after listed
  pub cause : HasSinkCause outside.sink_before outside.sink_after listed
  pub ends : outcome ≡ outcome_with listed machine.full

-- the source failed, the script is refused or memory ran out: nothing is printed
pub record IsUnplayed (outside : Outside) (outcome : Outcome) : Type 0 where
  pub cause : IsUnpreparedBy replay_meaning outside.source_before outside.source_after outcome
  pub nothing_printed : outside.taken_after ≡ outside.taken_before
  pub sink_same : outside.sink_after ≡ outside.sink_before

abbrev pub ReplayEnds : Outside → ReplayOptions → Outcome → Type 0
ReplayEnds outside options outcome =
    IsUnplayed outside outcome ⊎ HasReplayed outside options outcome

-- a replay: of the disk no counted call is made, and nothing is told
pub record ReplayHolds (outside : Outside) (options : ReplayOptions) (outcome : Outcome)
    (lists : List (List Told)) : Type 0 where
  pub ends : ReplayEnds outside options outcome
  pub uncalled :
      IsNotMade outside.tape_before outside.tape_after outside.moment_before outside.moment_after
  pub disk_same : outside.disk_after ≡ outside.disk_before
  pub nothing_told : lists ≡ []

-- The command that the words of a command line make, each word in the place that it was given for.
use Rattle.std.specs.Prelude.{ℕ, ◌≤◌, Bool, IfSome, ◌&&◌, ◌||◌, not, List, Option, Some, None, is_some, option_and_then, option_map, codes, if◌then◌else◌}
use Rattle.std.specs.Borrow.{Bor}
use Rattle.std.specs.Str.{bytes_eq}
use Rattle.waldump_filter.specs.Keeping.{everything_from}
use Rattle.waldump_filter.specs.Names.{fork_named}
use Rattle.waldump_filter.specs.declared.Filter.{Filter}
use Rattle.cli_line.specs.Meanings.{block_number_of, cap_segments_of, crash_of, limit_of, line_count_of, lsn_of, manager_of, relation_of, ring_pages_of, segment_size_of, writer_lines_of, xid_of}
use Rattle.cli_line.specs.declared.commands.Command.{Command}
use Rattle.cli_line.specs.declared.commands.Command.TheVariants.{Run, Append, Gen, Dump, Replay, Redo, Send, Receive}
use Rattle.cli_line.specs.declared.commands.CrashPick.TheVariants.{New}
use Rattle.cli_line.specs.declared.commands.RunOptions.{RunOptions}
use Rattle.cli_line.specs.declared.commands.ScriptRunOptions.{ScriptRunOptions}
use Rattle.cli_line.specs.declared.given.GivenWords.{GivenWords}

-- the words given: of the command's name, of what stands behind it, and of each option
pub record Given : Type 0 where
  pub command : Option (List ℕ)
  pub topic : Option (List ℕ)
  pub seg : Option (List ℕ)
  pub ring : Option (List ℕ)
  pub cap : Option (List ℕ)
  pub list : Bool
  pub writer : Option (List ℕ)
  pub append : Bool
  pub crash : Option (List ℕ)
  pub from : Option (List ℕ)
  pub rmgr : Option (List ℕ)
  pub xid : Option (List ℕ)
  pub relation : Option (List ℕ)
  pub block : Option (List ℕ)
  pub fork : Option (List ℕ)
  pub fullpage : Bool
  pub start : Option (List ℕ)
  pub end : Option (List ℕ)
  pub limit : Option (List ℕ)
  pub quiet : Bool
  pub stats : Bool
  pub times : Bool

-- the text behind a reference
abbrev pub text_of : Option (Bor (List ℕ)) → Option (List ℕ)
text_of = option_map (λ text. text.now)

-- the same of the program's own value
abbrev pub given_of : GivenWords → Given
given_of words = record {
  command = text_of words.command;
  topic = text_of words.topic;
  seg = text_of words.seg;
  ring = text_of words.ring;
  cap = text_of words.cap;
  list = words.list;
  writer = text_of words.writer;
  append = words.append;
  crash = text_of words.crash;
  from = text_of words.from;
  rmgr = text_of words.rmgr;
  xid = text_of words.xid;
  relation = text_of words.relation;
  block = text_of words.block;
  fork = text_of words.fork;
  fullpage = words.fullpage;
  start = text_of words.start;
  end = text_of words.end;
  limit = text_of words.limit;
  quiet = words.quiet;
  stats = words.stats;
  times = words.times;
}

-- what an option's word means, where the option is given; none where it means nothing
abbrev pub settled : {A : Type 0} → Option (Option A) → Option (Option A)
settled None = Some None
settled (Some None) = None
settled (Some (Some a)) = Some (Some a)

abbrev pub read : {A : Type 0} → (List ℕ → Option A) → Option (List ℕ) → Option (Option A)
read meaning word = settled (option_map meaning word)

-- the same, with a value that stands where the option is not given
abbrev pub or_default : {A : Type 0} → A → (List ℕ → Option A) → Option (List ℕ) → Option A
or_default value meaning None = Some value
or_default value meaning (Some word) = meaning word

infixl 10 ◌>>=◌
abbrev ◌>>=◌ : {A B : Type 0} → Option A → (A → Option B) → Option B
None >>= next = None
(Some a) >>= next = next a

-- what holds where nothing else is given: segments of 16 MiB, a ring of 64 pages, 64 segments
abbrev pub default_segment_size : ℕ
default_segment_size = 16777216

abbrev pub default_ring_pages : ℕ
default_ring_pages = 64

abbrev pub default_cap_segments : ℕ
default_cap_segments = 64

-- an option is given that only `run` takes
abbrev pub gives_run : Given → Bool
gives_run g = is_some g.writer || g.append

-- one that only `run`, `gen` or `replay` takes
abbrev pub gives_run_form : Given → Bool
gives_run_form g = is_some g.ring || g.list || gives_run g || is_some g.crash

-- one that only these and `receive` take
abbrev pub gives_run_gen_or_replay : Given → Bool
gives_run_gen_or_replay g = is_some g.cap || gives_run_form g

-- one that says which records are listed
abbrev pub gives_selection : Given → Bool
gives_selection g =
    is_some g.rmgr || is_some g.xid || is_some g.relation || is_some g.block || is_some g.fork
    || g.fullpage

-- one that says where a listing begins and ends
abbrev pub gives_extent : Given → Bool
gives_extent g = is_some g.start || is_some g.end || is_some g.limit

-- one that says what is printed
abbrev pub gives_form : Given → Bool
gives_form g = g.quiet || g.stats || g.times

-- an option is given that only `dump` takes
abbrev pub gives_dump : Given → Bool
gives_dump g = gives_selection g || gives_extent g || gives_form g

-- one that only `dump` or only `send` takes
abbrev pub gives_dump_or_send : Given → Bool
gives_dump_or_send g = gives_dump g || is_some g.from

-- the log's shape, which `run`, `gen` and `replay` share: the segments' size, the ring's pages, and
-- how many segments it may fill
abbrev pub shape_of : Given → Option (ℕ × ℕ × ℕ)
shape_of g = do
  size ← or_default default_segment_size segment_size_of g.seg
  ring_pages ← or_default default_ring_pages ring_pages_of g.ring
  cap_segments ← or_default default_cap_segments cap_segments_of g.cap
  Some (size, ring_pages, cap_segments)

-- the options that `run` and `gen` share, where none of `dump`, `send` and `replay` is given
abbrev pub run_options_of : Given → Option RunOptions
run_options_of g = if gives_dump_or_send g || is_some g.crash then None else do
  shape ← shape_of g
  Some (record {
    geometry = shape.0;
    ring_pages = shape.1;
    cap_segments = shape.2;
    list = g.list;
  })

-- to run a script on the log that is there, or on one that is begun
abbrev pub run_command : Bool → ScriptRunOptions → Command
run_command append options = if append then Append options else Run options

-- what `run` is asked to do, with its own options alone: it has a log writer where its option is
-- given, and goes on with the log that is there where that is asked for
abbrev pub run_of : Given → Option Command
run_of g = if is_some g.topic then None else do
  options ← run_options_of g
  writer ← read writer_lines_of g.writer
  Some (run_command g.append (record { run = options; writer = writer }))

-- what `gen` is asked to do: a run, with the options that it shares with `run`, of as many lines of
-- each backend as the word behind the command's name says
abbrev pub gen_of : Given → Option Command
gen_of g = if gives_run g then None else do
  lines ← option_and_then line_count_of g.topic
  options ← run_options_of g
  Some (Gen (record { lines = lines; run = options }))

-- what `replay` is asked to do, with its own options alone; a crash leaves what was written last
-- where nothing else is given
abbrev pub replay_of : Given → Option Command
replay_of g = if is_some g.topic || gives_dump_or_send g || g.list || gives_run g then None else do
  shape ← shape_of g
  crash ← or_default New crash_of g.crash
  Some (Replay (record {
    geometry = shape.0;
    ring_pages = shape.1;
    cap_segments = shape.2;
    crash = crash;
  }))

-- a filter with the rules on a record's manager, transaction and images
abbrev pub with_record_rules : Given → Filter → Option Filter
with_record_rules g filter = do
  rmid ← read manager_of g.rmgr
  xid ← read xid_of g.xid
  Some (record filter { rmid = rmid; xid = xid; fullpage = g.fullpage })

-- a block is given without its relation
abbrev pub lacks_relation : Given → Bool
lacks_relation g = is_some g.block && not (is_some g.relation)

-- a filter with the rules on a record's blocks
abbrev pub with_block_rules : Given → Filter → Option Filter
with_block_rules g filter = if lacks_relation g then None else do
  rel ← read relation_of g.relation
  blk ← read block_number_of g.block
  fork ← read fork_named g.fork
  Some (record filter { rel = rel; blk = blk; fork = fork })

-- a filter with a listing's begin and end
abbrev pub with_extent : Given → Filter → Option Filter
with_extent g filter = do
  first ← or_default filter.start lsn_of g.start
  last ← read lsn_of g.end
  limit ← read limit_of g.limit
  Some (record filter { start = first; end = last; limit = limit })

-- and with what is printed
abbrev pub with_form : Given → Filter → Filter
with_form g filter = record filter { quiet = g.quiet; stats = g.stats; times = g.times }

-- what is listed: where no rule is given every record, from segment 1 on
abbrev pub filter_of : ℕ → Given → Option Filter
filter_of size g = do
  by_record ← with_record_rules g (everything_from (record { 0 = size }))
  by_block ← with_block_rules g by_record
  by_extent ← with_extent g by_block
  Some (with_form g by_extent)

-- what `dump` is asked to do, with its own options alone
abbrev pub dump_of : Given → Option Command
dump_of g = if is_some g.topic || gives_run_gen_or_replay g || is_some g.from then None else do
  size ← or_default default_segment_size segment_size_of g.seg
  filter ← filter_of size g
  Some (Dump (record { geometry = size; filter = filter }))

-- what `redo` is asked to do: it takes the segments' size alone
abbrev pub redo_of : Given → Option Command
redo_of g =
    if is_some g.topic || gives_run_gen_or_replay g || gives_dump_or_send g then None else do
      size ← or_default default_segment_size segment_size_of g.seg
      Some (Redo (record { geometry = size }))

-- what `send` is asked to do: it takes the segments' size, and from where on it sends, which is the
-- log's start where nothing else is given
abbrev pub send_of : Given → Option Command
send_of g = if is_some g.topic || gives_run_gen_or_replay g || gives_dump g then None else do
  size ← or_default default_segment_size segment_size_of g.seg
  from ← or_default (record { 0 = size }) lsn_of g.from
  Some (Send (record { geometry = size; from = from }))

-- what `receive` is asked to do: it takes the segments' size, and how many the log may fill
abbrev pub receive_of : Given → Option Command
receive_of g = if is_some g.topic || gives_run_form g || gives_dump_or_send g then None else do
  size ← or_default default_segment_size segment_size_of g.seg
  cap_segments ← or_default default_cap_segments cap_segments_of g.cap
  Some (Receive (record { geometry = size; cap_segments = cap_segments }))

-- by the command's name
abbrev pub named : Option (List ℕ) → Given → Option Command
named None g = None
named (Some name) g =
    if bytes_eq name (codes "run") then run_of g
    else (if bytes_eq name (codes "gen") then gen_of g
    else (if bytes_eq name (codes "replay") then replay_of g
    else (if bytes_eq name (codes "dump") then dump_of g
    else (if bytes_eq name (codes "redo") then redo_of g
    else (if bytes_eq name (codes "send") then send_of g
    else (if bytes_eq name (codes "receive") then receive_of g else None))))))

-- the command that the words make, with its own options alone
abbrev pub command_of : Given → Option Command
command_of g = named g.command g

-- a log fills 1 to 4096 segments
abbrev pub IsCapInRange : ℕ → Type 0
IsCapInRange cap_segments = (1 ≤ cap_segments) × (cap_segments ≤ 4096)

-- a log's ring has 4 to 64 pages, and it fills 1 to 4096 segments
abbrev pub IsShapeInRange : ℕ → ℕ → Type 0
IsShapeInRange ring_pages cap_segments =
    (4 ≤ ring_pages) × (ring_pages ≤ 64) × (1 ≤ cap_segments) × (cap_segments ≤ 4096)

-- the log of a script's run has such a shape, and a writer has 1 to 1000 lines
abbrev pub IsScriptRunInRange : ScriptRunOptions → Type 0
IsScriptRunInRange options =
    IsShapeInRange options.run.ring_pages options.run.cap_segments
    × IfSome options.writer (λ n. (1 ≤ n) × (n ≤ 1000))

-- the log of a run or a replay has such a shape, and `gen` makes 1 to 100000 lines of each backend
abbrev pub IsInRange : Command → Type 0
IsInRange (Run options) = IsScriptRunInRange options
IsInRange (Append options) = IsScriptRunInRange options
IsInRange (Gen options) =
    (1 ≤ options.lines) × (options.lines ≤ 100000)
    × IsShapeInRange options.run.ring_pages options.run.cap_segments
IsInRange (Replay options) = IsShapeInRange options.ring_pages options.cap_segments
IsInRange (Dump options) = Unit {0}
IsInRange (Redo options) = Unit {0}
IsInRange (Send options) = Unit {0}
IsInRange (Receive options) = IsCapInRange options.cap_segments

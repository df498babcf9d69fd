-- Plain data begin as the machine's.
use Rattle.std.proofs.Common.{◌≡◌, ⊎_elim, ℕ, zero, suc, ◌+◌, ◌-◌, ◌*◌, ◌/◌, ◌%◌, ◌^◌, ◌≤◌, ◌<◌, All, false, List, [], ◌∷◌, length, map, min, take, slice_get, slice_index_or, Option, Some, None, IfSome, refl, sym, ap, ◌∙◌, subst, arith}
use Rattle.std.proofs.lemmas.List.{take_all, take_more}
use Rattle.std.proofs.lemmas.List.Elements.{All-cons, All-head, All-tail, All-push}
use mathlib.Core.Option.{some-injective, some-ne-none}
use Rattle.byte_position.specs.Position.{end_address_of}
use Rattle.byte_position.proofs.PositionLaws.{end_address_of-zero}
use Rattle.byte_position.proofs.SegmentSizes.{segment_size_in_pages}
use Rattle.wal_page.proofs.WordPositions.{end_address_of-first_position, first_position-whole}
use Rattle.wal_spelling.specs.Spelling.{Assembled, RecordOf, is_assembled_switch}
use Rattle.wal_spelling.proofs.SwitchLaws.{logged_no_switch}
use Rattle.segment_disk.specs.declared.disk.Call.{Call}
use Rattle.machine_state.specs.declared.setup.Setup.{Setup}
use Rattle.machine_state.specs.Words.{Opening, flushed_word, log_limit, log_start, position_word, lock_number}
use Rattle.machine_state.specs.Moves.{no_writing, split_off, unlocked}
use Rattle.machine_state.proofs.NothingFound.{nothing_ends, nothing_opens}
use Rattle.machine_state.specs.Opened.{AreFirstWords, IsFirstWriter}
use Rattle.machine_state.specs.Sound.{IsSetup}
use Rattle.machine_state.specs.Views.{HasAt, Idle, View, Writing}
use Rattle.machine_state.proofs.Lists.{at_new}
use Rattle.machine_turns.specs.Begun.{MayBeginRunning, first_backend, splitting_view, views_split_off}
use Rattle.machine_turns.specs.Doing.{Ask, Inserts, Commits, Flushes, Backend, Machine}
use Rattle.machine_turns.specs.Standing.{IsLine}
use Rattle.machine_turns.proofs.FirstMachine.{runs_first, spares, split_at}
use Rattle.machine_state.specs.Numbers.{WordsState}
use Rattle.machine_turns.specs.declared.lane.PlainBackend.{PlainBackend}
use Rattle.machine_turns.specs.declared.script.PlainLine.{PlainLine}
use Rattle.machine_turns.specs.declared.script.PlainLine.TheVariants.{Insert, Commit, Flush}
use Rattle.machine_turns.specs.Lanes.{start_of_line}
use Rattle.machine_turns.specs.Scripts.{InsertsLogRecord, rooms_of_lines}
use Rattle.machine_turns.specs.Writer.{IsFreshWriter, WriterState}
use Rattle.wal_core.specs.Cores.{first_lane, first_lanes, first_opening, first_plain_view, flushes_of_scripts, lines_of_scripts, machine_begun, rooms_of_scripts}
use Rattle.wal_core.specs.Lines.{AreLinesFor, AreScriptsFor, InsertsNoSwitch, IsBody, IsLineFor}
use Rattle.wal_core.specs.Marks.{GoesByMarks, TellsAt}
use Rattle.wal_core.specs.PlainData.{plain_view}
use Rattle.wal_core.specs.Playing.{CoreState, HasCallRoom, HasLaneOf, IsLaneOf, PlaysMachine, all_lines_left, all_rooms_left, all_syncs_left, lines_reserved, rooms_left}
use Rattle.wal_core.proofs.Rooms.{drop-fewer}
use Rattle.wal_core.proofs.Syncs.{begins_few}
use Rattle.wal_core.proofs.NextLanes.{begins_alike, few_at_begin, holds_at_begin}

-- ---- the lines

line_writable : (ask : Ask) (line : PlainLine) → IsLineFor ask line → IsLine ask
line_writable (Inserts value) (Insert body) is = is.1
line_writable (Inserts value) (Commit body) is = absurd is
line_writable (Inserts value) Flush is = absurd is
line_writable (Commits value) (Insert body) is = absurd is
line_writable (Commits value) (Commit body) is = is.1
line_writable (Commits value) Flush is = absurd is
line_writable Flushes line is = tt

lines_writable : (asks : List Ask) (lines : List PlainLine) → AreLinesFor asks lines → All IsLine asks
lines_writable [] lines are = λ i x low. absurd (omega (arith, low))
lines_writable (ask ∷ asks) [] are = absurd are
lines_writable (ask ∷ asks) (line ∷ lines) are = All-cons IsLine ask asks
    (line_writable ask line are.0) (lines_writable asks lines are.1)

scripts_writable : (asks : List (List Ask)) (scripts : List (List PlainLine))
    → AreScriptsFor asks scripts → All (All IsLine) asks
scripts_writable [] [] are = λ i x low. absurd (omega (arith, low))
scripts_writable [] (script ∷ scripts) are = absurd are
scripts_writable (ask ∷ asks) [] are = absurd are
scripts_writable (ask ∷ asks) (script ∷ scripts) are = All-cons (All IsLine) ask asks
    (lines_writable ask script are.0) (scripts_writable asks scripts are.1)

same_length : (asks : List (List Ask)) (scripts : List (List PlainLine)) → AreScriptsFor asks scripts
    → length asks ≡ length scripts
same_length [] [] are = refl
same_length [] (script ∷ scripts) are = absurd are
same_length (ask ∷ asks) [] are = absurd are
same_length (ask ∷ asks) (script ∷ scripts) are = ap suc (same_length asks scripts are.1)

-- ---- the lanes

same_count : (asks : List (List Ask)) (scripts : List (List PlainLine)) → AreScriptsFor asks scripts
    → (size base : ℕ) → length (first_lanes size base scripts) ≡ length (map first_backend asks)
same_count [] [] are size base = refl
same_count [] (script ∷ scripts) are size base = absurd are
same_count (ask ∷ asks) [] are size base = absurd are
same_count (ask ∷ asks) (script ∷ scripts) are size base =
    ap suc (same_count asks scripts are.1 size (base + 1))

pub lanes_are_scripts : (size base : ℕ) (scripts : List (List PlainLine))
    → length (first_lanes size base scripts) ≡ length scripts
lanes_are_scripts size base [] = refl
lanes_are_scripts size base (script ∷ scripts) =
    ap suc (lanes_are_scripts size (base + 1) scripts)

-- the backend with this number has its lines, and its lane their script
record HasFirst (asks : List (List Ask)) (scripts : List (List PlainLine)) (size base number : ℕ)
    (b : Backend) : Type 0 where
  lines : List Ask
  script : List PlainLine
  backend_is : first_backend lines ≡ b
  lane_at : slice_get (first_lanes size base scripts) number
      ≡ Some (first_lane size (base + number) script)
  are : AreLinesFor lines script
  short : length script ≤ lines_of_scripts scripts
  low : number < length asks

lane_first : (asks : List (List Ask)) (scripts : List (List PlainLine)) → AreScriptsFor asks scripts
    → (size base number : ℕ) (b : Backend) → slice_get (map first_backend asks) number ≡ Some b
    → HasFirst asks scripts size base number b
lane_first [] scripts are size base number b there = absurd (cc)
lane_first (ask ∷ asks) [] are size base number b there = absurd are
lane_first (ask ∷ asks) (script ∷ scripts) are size base zero b there = record {
  lines = ask;
  script = script;
  backend_is = cc;
  lane_at = let same : base ≡ base + 0 = omega arith in
      ap (λ (n : ℕ). Some (first_lane size n script)) same;
  are = are.0;
  short = omega arith;
  low = omega arith;
}
lane_first (ask ∷ asks) (script ∷ scripts) are size base (suc number) b there =
    let rest = lane_first asks scripts are.1 size (base + 1) number b there in
    let low = rest.low in
    let short = rest.short in
    let same : base + 1 + number ≡ base + suc number = omega arith in record {
      lines = rest.lines;
      script = rest.script;
      backend_is = rest.backend_is;
      lane_at = subst (λ (n : ℕ). slice_get (first_lanes size (base + 1) scripts) number
          ≡ Some (first_lane size n rest.script)) same rest.lane_at;
      are = rest.are;
      short = omega (arith, short);
      low = omega arith;
    }

-- ---- room

rooms_first : (size base : ℕ) (scripts : List (List PlainLine))
    → all_rooms_left (first_lanes size base scripts) ≤ rooms_of_scripts scripts
rooms_first size base [] = omega arith
rooms_first size base (script ∷ scripts) =
    let rest = rooms_first size (base + 1) scripts in
    let first = first_lane size base script in
    let here : rooms_left first ≤ rooms_of_lines script = drop-fewer script 0
    (first.answered + lines_reserved first.doing) (omega arith) in
    omega (arith, rest, here)

-- and for each line, at most
lines_first : (size base : ℕ) (scripts : List (List PlainLine))
    → all_lines_left (first_lanes size base scripts) ≤ lines_of_scripts scripts
lines_first size base [] = omega arith
lines_first size base (script ∷ scripts) = omega (arith, lines_first size (base + 1) scripts)

syncs_first : (size base : ℕ) (scripts : List (List PlainLine))
    → all_syncs_left (first_lanes size base scripts) ≤ flushes_of_scripts scripts
syncs_first size base [] = omega arith
syncs_first size base (script ∷ scripts) =
    omega (arith, begins_few script 0, syncs_first size (base + 1) scripts)

room_first : (segments segments_now full ends ends_now starts starts_now made lines lines_now syncs
    flushes room : ℕ) → segments ≡ segments_now → ends ≡ ends_now → starts ≡ starts_now → made ≡ 0
    → lines ≤ lines_now → syncs ≤ flushes
    → 2 * segments_now + (ends_now - starts_now + lines_now) + flushes ≤ room
    → segments - made + (segments - full) + (ends - starts + 0 + lines) + syncs ≤ room
room_first segments segments_now full ends ends_now starts starts_now made lines lines_now syncs
    flushes room a b c d fewer less has = omega (arith, a, b, c, d, fewer, less, has)

-- no lane knows of anything
none_tell : (size next : ℕ) (line : Option PlainLine) → TellsAt size [] (start_of_line line) next
none_tell size next None = tt
none_tell size next (Some (Insert body)) = tt
none_tell size next (Some (Commit body)) = tt
none_tell size next (Some Flush) = tt

lanes_go : (size base : ℕ) (scripts : List (List PlainLine)) (number : ℕ) (lane : PlainBackend)
    → slice_get (first_lanes size base scripts) number ≡ Some lane
    → GoesByMarks size [] lane.view lane.doing
lanes_go size base [] number lane is = absurd (cc)
lanes_go size base (script ∷ scripts) zero lane is =
    let same : first_lane size base script ≡ lane = cc in
    subst (λ (l : PlainBackend). GoesByMarks size [] l.view l.doing) same (
      record {
        seen = ap (λ (a : ℕ). a % 8192) (end_address_of-zero size);
        bound = refl;
        known = refl;
      },
      none_tell size 0 (slice_get script 0),
    )
lanes_go size base (script ∷ scripts) (suc number) lane is =
    lanes_go size (base + 1) scripts number lane is

-- ---- the views

module _ (opening : Opening) where
  seen_none : (n : ℕ) → ((splitting_view opening n).reserving).seen ≡ 0
  seen_none zero = refl
  seen_none (suc n) = seen_none n

  opening_kept : (n : ℕ) → (splitting_view opening n).opening ≡ opening
  opening_kept zero = refl
  opening_kept (suc n) = opening_kept n

  writing_none : (n : ℕ) → (splitting_view opening n).writing ≡ no_writing
  writing_none zero = refl
  writing_none (suc n) = writing_none n

  -- a view that was split off, as plain data
  first_view_is : (n : ℕ) → plain_view (split_off (splitting_view opening n))
      ≡ first_plain_view (opening.setup).seg_size (n + 1)
  first_view_is n = λ i. record (first_plain_view (opening.setup).seg_size (n + 1)) {
    number = spares opening n i;
    seen = seen_none n i;
    last_end = ((opening_kept n i).setup).seg_size;
  }

  -- nobody has the writer in hand
  idle_split : (n id : ℕ) (v : View) → HasAt (views_split_off opening n) id v
      → (v.writing).hold ≡ Idle
  idle_split zero id v at = absurd (some-ne-none v (sym at))
  idle_split (suc n) id v at = ⊎_elim
      (λ (before : HasAt (views_split_off opening n) id v). idle_split n id v before)
      (λ (last : (id ≡ length (views_split_off opening n))
      × (split_off (splitting_view opening n) ≡ v)).
      ap (λ (x : View). (x.writing).hold) (sym last.1))
      (at_new (views_split_off opening n) (split_off (splitting_view opening n)) v id at)

  idle_all : (n id : ℕ) (v : View)
      → HasAt (splitting_view opening n ∷ views_split_off opening n) id v
      → (v.writing).hold ≡ Idle
  idle_all n zero v at =
      let same : splitting_view opening n ≡ v = some-injective (splitting_view opening n) v at in
      ap (λ (x : View). (x.writing).hold) (sym same)
      ∙ ap (λ (x : Writing). x.hold) (writing_none n)
  idle_all n (suc id) v at = idle_split n id v at

-- ---- all

module _ (setup : Setup) (is : IsSetup setup) (words : WordsState) (w : WriterState)
    (failing : List ℕ) (scripts : List (List PlainLine)) (few : length scripts < setup.passes)
    (first_words : AreFirstWords (first_opening setup) words.words)
    (pages_are : words.pages ≡ setup.ring_pages) (end lines flushes : ℕ)
    (lines_are : lines ≡ lines_of_scripts scripts) (few_lines : lines < 2 ^ 32)
    (flushes_are : flushes ≡ flushes_of_scripts scripts)
    (end_is : end ≡ end_address_of setup.seg_size
    (min (log_start setup + rooms_of_scripts scripts) (log_limit setup)))
    (first : IsFreshWriter setup.seg_size end lines flushes failing w) (whole : length w.page ≡ 8192) where
  abbrev opening : Opening
  opening = first_opening setup

  abbrev core : CoreState
  core = record {
    setup = setup;
    words = words;
    writer = w;
    lanes = first_lanes setup.seg_size 1 scripts;
    full = false;
  }

  pub writer_first : IsFirstWriter opening w.plain
  writer_first = record {
    moment_is = first.moment;
    counted = subst (λ (o : Option (List Call)). IfSome o (λ calls. (w.plain).moment ≡ length calls))
        (sym first.calls) first.moment;
    written = first.written ∙ sym (nothing_ends opening is.size refl);
    made = first.made;
    waiting = first.waiting;
    fault = first.fault;
  }

  calls_first : HasCallRoom setup.seg_size words.words w core.lanes
  calls_first =
      let size = setup.seg_size in
      let whole : size % 8192 ≡ 0 =
      omega (arith, (segment_size_in_pages size is.size).0) in
      let starts = end_address_of-first_position size is.size in
      let position : unlocked (position_word words.words) ≡ log_start setup =
      omega (arith, first_words.position, first_position-whole size is.size) in
      let flushed : flushed_word words.words ≡ size =
      first_words.flushed ∙ nothing_ends opening is.size refl in
      record {
        ends = [];
        tell = record {
          position = ap (λ (p : ℕ). end_address_of size p % 8192) position
              ∙ ap (λ (a : ℕ). a % 8192) starts ∙ whole;
          locks = λ lock low. let none_told = first_words.zeros (lock_number lock) (omega arith)
              (omega (arith, low)) in ap (λ (n : ℕ). (n - 1) % 8192) none_told;
          flushed = ap (λ (a : ℕ). a % 8192) flushed ∙ whole;
        };
        go = lanes_go size 1 scripts;
        written = ap (λ (a : ℕ). a % 8192) first.written ∙ whole;
        room = λ up. room_first (w.end / size) (end / size) ((w.plain).written / size)
            (w.end / 8192) (end / 8192) ((w.plain).written / 8192) (size / 8192) (w.plain).made
            (all_lines_left core.lanes) lines (all_syncs_left core.lanes) flushes w.room
            (ap (λ (a : ℕ). a / size) first.end_is) (ap (λ (a : ℕ). a / 8192) first.end_is)
            (ap (λ (a : ℕ). a / 8192) first.written) first.made
            (omega (arith, lines_are, lines_first size 1 scripts))
            (omega (arith, flushes_are, syncs_first size 1 scripts)) first.room;
      }

  module _ (asks : List (List Ask)) (are : AreScriptsFor asks scripts) where
    abbrev begun : Machine
    begun = machine_begun core asks

    may : MayBeginRunning opening words.words w.plain asks
    may = record {
      openable = nothing_opens opening is refl (omega arith);
      first_words = first_words;
      first_writer = writer_first;
      passes = omega (arith, few, same_length asks scripts are);
      writable = scripts_writable asks scripts are;
    }

    lane_of : (number : ℕ) (b : Backend) → slice_get (map first_backend asks) number ≡ Some b
        → HasLaneOf core begun number b
    lane_of number b there =
        let found = lane_first asks scripts are setup.seg_size 1 number b there in
        let v = split_off (splitting_view opening number) in
        let next : suc number ≡ number + 1 = omega arith in
        let same : 1 + number ≡ number + 1 = omega arith in
        let lane = first_lane setup.seg_size (1 + number) found.script in (
          lane,
          found.lane_at,
          (
            v,
            subst (λ (k : ℕ). HasAt (splitting_view opening (length asks)
                ∷ views_split_off opening (length asks)) k v) next
                (split_at opening (length asks) number found.low),
            subst (λ (c : Backend). IsLaneOf w.page lane c v) found.backend_is (record {
              lines = found.are;
              answered = refl;
              counted = (
                omega arith,
                omega (arith, found.short, lines_are, few_lines),
              );
              doing = begins_alike found.lines found.script found.are 0;
              view = ap (first_plain_view setup.seg_size) same
                  ∙ sym (first_view_is opening number);
              copies = λ c flies. absurd (cc);
              loaded = λ ask left. holds_at_begin w.page v (slice_get found.script 0);
              few = few_at_begin (slice_get found.script 0);
              ended = λ none_left. ap start_of_line none_left;
            }),
            spares opening number,
          ),
        )

    pub begins_playing : PlaysMachine core begun
    begins_playing = record {
      running = runs_first opening words.words w.plain w.first w.failing asks may;
      first_is = refl;
      setup_is = refl;
      since = refl;
      unfailed = refl;
      words_are = refl;
      pages_are = pages_are;
      size_is = first.size_is;
      failing_are = refl;
      page_whole = whole;
      writer_is = record {
        at_home = λ p home. sym (some-injective w.plain p home);
        in_hand = λ id v l at held.
            let idle = idle_all opening (length asks) id v at in absurd (cc);
      };
      lanes = lane_of;
      count = same_count asks scripts are setup.seg_size 1;
      full_is = refl;
      room = record {
        position = log_start setup + rooms_of_scripts scripts;
        end_is = first.end_is ∙ end_is;
        left = omega (
          arith,
          first_words.position,
          rooms_first setup.seg_size 1 scripts,
        );
      };
      calls = calls_first;
    }

-- ---- the lines are asked for

-- a record of the log that ends no segment can be inserted
body_inserted : (body : Assembled) (known : RecordOf body) → is_assembled_switch body ≡ false
    → IsBody known.value body
body_inserted body known ends_none = (
  known.same,
  logged_no_switch known.value known.logged
      (sym (ap is_assembled_switch known.same) ∙ ends_none),
)

line_asked : (line : PlainLine) → InsertsNoSwitch line → InsertsLogRecord line
    → (ask : Ask) × IsLineFor ask line
line_asked (Insert body) ends_none known =
    (Inserts known.value, body_inserted body known ends_none)
line_asked (Commit body) ends_none known =
    (Commits known.value, body_inserted body known ends_none)
line_asked Flush ends_none known = (Flushes, tt)

lines_asked : (lines : List PlainLine) → All InsertsNoSwitch lines → All InsertsLogRecord lines
    → (asks : List Ask) × AreLinesFor asks lines
lines_asked [] ends_none known = ([], tt)
lines_asked (line ∷ lines) ends_none known =
    let here = line_asked line (All-head InsertsNoSwitch line lines ends_none)
    (All-head InsertsLogRecord line lines known) in
    let rest = lines_asked lines (All-tail InsertsNoSwitch line lines ends_none)
    (All-tail InsertsLogRecord line lines known) in
    (here.0 ∷ rest.0, (here.1, rest.1))

pub scripts_asked : (scripts : List (List PlainLine)) → All (All InsertsNoSwitch) scripts
    → All (All InsertsLogRecord) scripts → (asks : List (List Ask)) × AreScriptsFor asks scripts
scripts_asked [] ends_none known = ([], tt)
scripts_asked (script ∷ scripts) ends_none known =
    let here = lines_asked script (All-head (All InsertsNoSwitch) script scripts ends_none)
    (All-head (All InsertsLogRecord) script scripts known) in
    let rest = scripts_asked scripts (All-tail (All InsertsNoSwitch) script scripts ends_none)
    (All-tail (All InsertsLogRecord) script scripts known) in
    (here.0 ∷ rest.0, (here.1, rest.1))

-- one more of a list holds
pub one_more_holds : {X : Type 0} (P : X → Type 0) (xs : List X) (i : ℕ) (x : X) → i < length xs
    → x ≡ slice_index_or xs i x → All P (take i xs) → P x → All P (take (i + 1) xs)
one_more_holds P xs i x low is all holds = subst (All P)
    (sym (take_more xs i x low)) (All-push P (take i xs) (slice_index_or xs i x) all
    (subst P is holds))

-- all of a list, once none is left
pub all_hold : {X : Type 0} (P : X → Type 0) (xs : List X) (i : ℕ) → length xs ≤ i
    → All P (take i xs) → All P xs
all_hold P xs i low all = subst (All P) (take_all i xs low) all

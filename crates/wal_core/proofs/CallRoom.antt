-- The room for calls: what a step of any kind takes of it, and what is left behind a turn.
use Rattle.std.proofs.Common.{◌≡◌, ◌≢◌, inl, inr, ⊎_elim, ℕ, zero, suc, ◌+◌, ◌-◌, ◌*◌, ◌/◌, ◌%◌, ◌<◌, ◌≤◌, List, [], ◌∷◌, min, set, slice_get, Option, Some, None, refl, sym, ap, subst, arith}
use Rattle.std.proofs.Math.Nat.{div-mul-le_self, lt_of_mul-lt-mul_left, mul_comm}
use Rattle.std.proofs.lemmas.Bool.{cases_lt}
use Rattle.std.proofs.lemmas.Nat.{div-add-mod', le-div}
use mathlib.Core.Option.{none, some}
use Rattle.segment_disk.specs.declared.disk.Call.{Call}
use Rattle.segment_disk.specs.Tape.{create_call, sync_call, write_call}
use Rattle.byte_position.specs.Geometry.{IsSegmentSize, pages_of}
use Rattle.byte_position.specs.Position.{end_address_of}
use Rattle.byte_position.proofs.SegmentSizes.{segment_size_in_pages}
use Rattle.machine_state.specs.declared.setup.Setup.{Setup}
use Rattle.machine_state.specs.Views.{Plain}
use Rattle.machine_state.specs.Moves.{CallOutcome, Done, Failed, after_create, after_sync, after_write}
use Rattle.machine_turns.specs.declared.doing.PlainDoing.{PlainDoing}
use Rattle.machine_turns.specs.declared.doing.PlainDoing.TheVariants as doings
use Rattle.machine_turns.specs.declared.doing.PlainNext.{PlainNext}
use Rattle.machine_turns.specs.declared.doing.PlainNext.TheVariants as nexts
use Rattle.machine_turns.specs.declared.lane.PlainBackend.{PlainBackend}
use Rattle.machine_turns.specs.declared.script.PlainLine.{PlainLine}
use Rattle.machine_turns.specs.declared.script.PlainLine.TheVariants.{Insert, Commit, Flush}
use Rattle.machine_turns.specs.declared.view.PlainView.{PlainView}
use Rattle.machine_turns.specs.Left.{Left, next_in}
use Rattle.machine_turns.specs.Scripts.{flushes_of_line}
use Rattle.machine_turns.specs.Writing.{known_in, segment_waiting, upto_next}
use Rattle.machine_turns.specs.Lanes.{IsReadyFor, lane_answered, lane_behind, start_of_line, stepped}
use Rattle.machine_turns.specs.Writer.{WriterState, next_outcome, page_at, segment_at}
use Rattle.wal_core.specs.Marks.{GoesByMarks, IsMark, LearnsMarks, TellsAt, ends_above}
use Rattle.wal_core.specs.Playing.{HasCallRoom, all_lines_left, all_syncs_left, calls_needed, lines_left, lines_reserved, syncs_ahead}
use Rattle.wal_core.proofs.Lists.{got_below, set_cases}
use Rattle.wal_core.proofs.Marks.{MovesMarks, NextTells, learns_on, mark_spent, min_holds, page_mark, tells_on}
use Rattle.wal_core.proofs.Syncs.{all_syncs_fall, answered_fewer, next_syncs, syncs_added, syncs_fall, syncs_made}
use Rattle.wal_core.proofs.Rooms.{GoesNotBack, HasReserved, at_most_one}

-- ---- numbers

create_takes : (segments made full marks syncs syncs_now room : ℕ) → made + 1 ≤ segments
    → syncs_now ≤ syncs → segments - made + full + marks + syncs ≤ room
    → segments - (made + 1) + full + marks + syncs_now ≤ room - 1
create_takes segments made full marks syncs syncs_now room low fewer before =
    omega (arith, low, fewer, before)

write_takes : (unmade full full_now marks left lines syncs syncs_now added room : ℕ)
    → left + 1 ≤ marks → full_now + added ≤ full → syncs_now ≤ syncs + added
    → unmade + full + (marks + lines) + syncs ≤ room
    → unmade + full_now + (left + lines) + syncs_now ≤ room - 1
write_takes unmade full full_now marks left lines syncs syncs_now added room less filled more before =
    omega (arith, less, filled, more, before)

sync_takes : (needed syncs syncs_now room : ℕ) → syncs_now + 1 ≤ syncs → needed + syncs ≤ room
    → needed + syncs_now ≤ room - 1
sync_takes needed syncs syncs_now room fewer before = omega (arith, fewer, before)

fewer_syncs : (needed syncs syncs_now room : ℕ) → syncs_now ≤ syncs → needed + syncs ≤ room
    → needed + syncs_now ≤ room
fewer_syncs needed syncs syncs_now room fewer before = omega (arith, fewer, before)

create_has : (segments made full marks syncs room : ℕ) → made + 1 ≤ segments
    → segments - made + full + marks + syncs ≤ room → 1 ≤ room
create_has segments made full marks syncs room low before = omega (arith, low, before)

write_has : (unmade full marks left lines syncs room : ℕ) → left + 1 ≤ marks
    → unmade + full + (marks + lines) + syncs ≤ room → 1 ≤ room
write_has unmade full marks left lines syncs room less before = omega (arith, less, before)

sync_has : (needed syncs room : ℕ) → 1 ≤ syncs → needed + syncs ≤ room → 1 ≤ room
sync_has needed syncs room left before = omega (arith, left, before)

reserve_takes : (unmade full above more lines left syncs room pages : ℕ) → more ≤ 1
    → left + 1 ≤ lines → unmade + full + (pages + above + lines) + syncs ≤ room
    → unmade + full + (pages + (more + above) + left) + syncs ≤ room
reserve_takes unmade full above more lines left syncs room pages one less before =
    omega (arith, one, less, before)

fewer_lines : (unmade full marks lines left syncs room : ℕ) → left ≤ lines
    → unmade + full + (marks + lines) + syncs ≤ room
    → unmade + full + (marks + left) + syncs ≤ room
fewer_lines unmade full marks lines left syncs room less before = omega (arith, less, before)

-- where the log is written up to a segment's end, a segment less is to be filled
filled_by : (size written upto end : ℕ) → 0 < size → written < upto → upto ≤ end
    → end / size - upto / size + (1 - upto % size) ≤ end / size - written / size
filled_by size written upto end some_bytes rises within =
    let last = le-div (upto / size) end size some_bytes
    (omega (arith, div-mul-le_self upto size, within)) in
    let first = le-div (written / size) upto size some_bytes
    (omega (arith, div-mul-le_self written size, rises)) in
    elim (cases_lt 0 (upto % size)) [
      | inl inside ↦ omega (arith, inside, first)
      | inr at_end ↦ (
          let whole = div-add-mod' upto size in
          let low = div-mul-le_self written size in
          let next = lt_of_mul-lt-mul_left size {m = written / size} {n = upto / size}
          (omega (
            arith,
            whole,
            low,
            at_end,
            rises,
            mul_comm size (written / size),
            mul_comm size (upto / size),
          )) in
          omega (arith, next, last, at_end))
    ]

-- ---- calls

module _ (size end : ℕ) (ends : List ℕ) where
  -- such a writer has room for the calls that are needed
  abbrev pub HasRoom : Plain → (lines syncs room : ℕ) → Type 0
  HasRoom p lines syncs room =
      p.fault ≡ none → calls_needed size end ends p lines syncs ≤ room

  abbrev marks_left : ℕ → ℕ
  marks_left written = end / 8192 - written / 8192 + ends_above size ends written

  abbrev full_left : ℕ → ℕ
  full_left written = end / size - written / size

  created_has : (o : CallOutcome) (call : Call) (p : Plain) (lines syncs syncs_now room : ℕ)
      → p.made + 1 ≤ end / size → syncs_now ≤ syncs → HasRoom p lines syncs room
      → HasRoom (after_create (p.made + 1) call o p) lines syncs_now (room - 1)
  created_has Done call p lines syncs syncs_now room low fewer before up = create_takes (end / size)
      p.made (full_left p.written) (marks_left p.written + lines) syncs syncs_now room low fewer
      (before up)
  created_has (Failed faults none) call p lines syncs syncs_now room low fewer before up =
      absurd (cc)
  created_has (Failed faults (some made)) call p lines syncs syncs_now room low fewer before up =
      absurd (cc)

  created_written : (o : CallOutcome) (segment : ℕ) (call : Call) (p : Plain)
      → (after_create segment call o p).written ≡ p.written
  created_written Done segment call p = refl
  created_written (Failed faults none) segment call p = refl
  created_written (Failed faults (some made)) segment call p = refl

  wrote_has : (o : CallOutcome) (segment upto : ℕ) (call : Call) (p : Plain)
      (lines syncs syncs_now room : ℕ) → 0 < size → IsMark size ends upto → p.written < upto
      → upto ≤ end → syncs_now ≤ syncs + (1 - upto % size) → HasRoom p lines syncs room
      → HasRoom (after_write segment upto call o p) lines syncs_now (room - 1)
  wrote_has Done segment upto call p lines syncs syncs_now room some_bytes is rises within more before
      up =
      write_takes (end / size - p.made) (full_left p.written) (full_left upto)
      (marks_left p.written) (marks_left upto) lines syncs syncs_now (1 - upto % size) room
      (mark_spent size ends p.written upto end is rises within)
      (filled_by size p.written upto end some_bytes rises within) more (before up)
  wrote_has (Failed faults none) segment upto call p lines syncs syncs_now room some_bytes is rises
      within more before up =
      absurd (cc)
  wrote_has (Failed faults (some made)) segment upto call p lines syncs syncs_now room some_bytes is
      rises within more before up =
      absurd (cc)

  wrote_written : (o : CallOutcome) (segment upto : ℕ) (call : Call) (p : Plain)
      → IsMark size ends upto → IsMark size ends p.written
      → IsMark size ends (after_write segment upto call o p).written
  wrote_written Done segment upto call p one other = one
  wrote_written (Failed faults none) segment upto call p one other = other
  wrote_written (Failed faults (some made)) segment upto call p one other = other

  -- all that is needed but syncs
  abbrev else_needed : Plain → ℕ → ℕ
  else_needed p lines = end / size - p.made + full_left p.written + (marks_left p.written + lines)

  synced_has : (o : CallOutcome) (call : Call) (p : Plain) (lines syncs syncs_now room : ℕ)
      → syncs_now + 1 ≤ syncs → HasRoom p lines syncs room
      → HasRoom (after_sync call o p) lines syncs_now (room - 1)
  synced_has Done call p lines syncs syncs_now room fewer before up =
      sync_takes (else_needed p lines) syncs syncs_now room fewer (before up)
  synced_has (Failed faults none) call p lines syncs syncs_now room fewer before up = absurd (cc)
  synced_has (Failed faults (some made)) call p lines syncs syncs_now room fewer before up =
      absurd (cc)

  synced_written : (o : CallOutcome) (call : Call) (p : Plain)
      → (after_sync call o p).written ≡ p.written
  synced_written Done call p = refl
  synced_written (Failed faults none) call p = refl
  synced_written (Failed faults (some made)) call p = refl

  -- there is room for a call that is due
  pub room_to_create : (p : Plain) (lines syncs room : ℕ) → p.fault ≡ none
      → p.made + 1 ≤ end / size → HasRoom p lines syncs room → 1 ≤ room
  room_to_create p lines syncs room up low has = create_has (end / size) p.made
      (full_left p.written) (marks_left p.written + lines) syncs room low (has up)

  pub room_to_write : (p : Plain) (lines syncs room upto : ℕ) → p.fault ≡ none
      → IsMark size ends upto → p.written < upto → upto ≤ end → HasRoom p lines syncs room
      → 1 ≤ room
  room_to_write p lines syncs room upto up is rises within has = write_has (end / size - p.made)
      (full_left p.written) (marks_left p.written) (marks_left upto) lines syncs room
      (mark_spent size ends p.written upto end is rises within) (has up)

  pub room_to_sync : (p : Plain) (lines syncs room : ℕ) → p.fault ≡ none → 1 ≤ syncs
      → HasRoom p lines syncs room → 1 ≤ room
  room_to_sync p lines syncs room up left has =
      sync_has (else_needed p lines) syncs room left (has up)

-- ---- where a call is due

-- up to where a page is written
pub upto_mark : (size : ℕ) (ends : List ℕ) (known page : ℕ) → IsMark size ends known
    → IsMark size ends (min known (page * 8192 + 8192))
upto_mark size ends known page is = min_holds (IsMark size ends) known (page * 8192 + 8192) is
    (page_mark size ends (page * 8192 + 8192) (omega arith))

module _ (size : ℕ) (valid : IsSegmentSize size) where
  pub some_bytes : 0 < size
  some_bytes = let pages = segment_size_in_pages size valid in omega (arith, pages.0, pages.1)

  -- a segment that is due lies before the log's end
  pub segment_fits : (size_now : ℕ) → size_now ≡ size → (made written end : ℕ)
      → (made + 1) * size_now ≤ written → written < end → made + 1 ≤ end / size
  segment_fits size_now is made written end behind within = le-div (made + 1) end size some_bytes
      (subst (λ (s : ℕ). (made + 1) * s ≤ end) is (omega (arith, behind, within)))

-- ---- each step

module _ (setup : Setup) (valid : IsSegmentSize setup.seg_size) (ends : List ℕ)
    (words : List ℕ) (w : WriterState) (view : PlainView) (line : PlainLine)
    (copied : Option PlainLine) (size_is : w.size ≡ setup.seg_size)
    (written : IsMark setup.seg_size ends (w.plain).written)
    (known : IsMark setup.seg_size ends (known_in view.hold)) where
  abbrev size : ℕ
  size = setup.seg_size

  abbrev upto : ℕ
  upto = upto_next setup words view w

  upto_is : IsMark size ends upto
  upto_is = upto_mark size ends (known_in view.hold) (page_at w) known

  -- the written address stays a mark, and what is needed is there still, with the syncs that are
  -- left behind the step
  pub record KeepsCalls (d : PlainDoing) (x : WriterState) : Type 0 where
    pub at_mark : IsMark size ends (x.plain).written
    pub has : (lines syncs syncs_now : ℕ) → syncs_now + syncs_made d ≤ syncs + syncs_added size upto d
        → HasRoom size w.end ends w.plain lines syncs w.room
        → HasRoom size w.end ends x.plain lines syncs_now x.room

  syncs : (segment : ℕ)
      → KeepsCalls doings.SyncsLast (record w {
        plain = after_sync (sync_call w.size segment) (next_outcome w) w.plain;
        room = w.room - 1;
      })
  syncs segment = record {
    at_mark = subst (IsMark size ends)
        (sym (synced_written size w.end ends (next_outcome w) (sync_call w.size segment) w.plain))
        written;
    has = λ lines syncs syncs_now fewer before. synced_has size w.end ends (next_outcome w)
        (sync_call w.size segment) w.plain lines syncs syncs_now w.room (omega (arith, fewer)) before;
  }

  -- no call is made
  none_made : (d : PlainDoing) → syncs_made d ≡ 0 → syncs_added size upto d ≡ 0 → (x : WriterState)
      → x.plain ≡ w.plain → x.room ≡ w.room → KeepsCalls d x
  none_made d no_sync no_more x same same_room = record {
    at_mark = subst (λ (p : Plain). IsMark size ends p.written) (sym same) written;
    has = λ lines syncs syncs_now takes before up.
        let p = subst (λ (p : Plain). p.fault ≡ none) same up in
        let less = fewer_syncs (else_needed size w.end ends w.plain lines) syncs syncs_now w.room
        (omega (arith, takes, no_sync, no_more)) (before p) in
        subst (λ (y : Plain × ℕ). calls_needed size w.end ends y.0 lines syncs_now ≤ y.1)
        (λ i. (sym same i, sym same_room i)) less;
  }

  pub keeps_calls : (d : PlainDoing) → IsReadyFor setup words w view copied d
      → KeepsCalls d (stepped setup words w view line copied d).writer
  keeps_calls (doings.Creates purpose) ready =
      let call = create_call w.size ((w.plain).made + 1) in record {
        at_mark = subst (IsMark size ends) (sym (created_written size w.end ends (next_outcome w)
            ((w.plain).made + 1) call w.plain)) written;
        has = λ lines syncs syncs_now fewer before. created_has size w.end ends (next_outcome w) call
            w.plain lines syncs syncs_now w.room (segment_fits size valid w.size size_is
            (w.plain).made (w.plain).written w.end ready.behind ready.within)
            (omega (arith, fewer)) before;
      }
  keeps_calls (doings.Writes purpose) ready =
      let call = write_call w.size (segment_at w) (page_at w % pages_of w.size) w.page in record {
        at_mark = wrote_written size w.end ends (next_outcome w) (segment_at w) upto call w.plain
            upto_is written;
        has = λ lines syncs syncs_now more before. wrote_has size w.end ends (next_outcome w)
            (segment_at w) upto call w.plain lines syncs syncs_now w.room (some_bytes size valid)
            upto_is (omega (arith, ready.rises)) ready.within (omega (arith, more)) before;
      }
  keeps_calls (doings.SyncsFull purpose) ready =
      let k = syncs (segment_waiting (w.plain).waiting) in
      record { at_mark = k.at_mark; has = k.has }
  keeps_calls doings.SyncsLast ready = syncs (segment_waiting (w.plain).waiting)
  keeps_calls (doings.LoadsPage purpose loaded) ready =
      none_made (doings.LoadsPage purpose loaded) refl refl _ refl refl
  keeps_calls other ready = none_made other refl refl w refl refl

-- ---- the lines that are left

module _ (lane : PlainBackend) (view : PlainView) (copied : ℕ) where
  abbrev stepped_lane : PlainBackend
  stepped_lane = record lane { view = view; copied = copied }

  pub answered_lines : lines_left (lane_answered lane) ≤ lines_left lane
  answered_lines = omega (arith, at_most_one lane.doing)

  pub lines_fall : (next : PlainNext) → GoesNotBack lane.doing next
      → lines_left (lane_behind next stepped_lane) ≤ lines_left lane
  lines_fall (nexts.GoesOn next) on = omega (arith, on)
  lines_fall (nexts.Answers full) on = answered_lines

  pub line_reserves : (line : PlainLine) → slice_get lane.script lane.answered ≡ Some line
      → (next : PlainNext) → HasReserved next → lines_reserved lane.doing ≡ 0
      → lines_left (lane_behind next stepped_lane) + 1 ≤ lines_left lane
  line_reserves line under_way (nexts.GoesOn next) reserved before = omega (
    arith,
    reserved,
    before,
    got_below lane.script lane.answered line under_way,
  )
  line_reserves line under_way (nexts.Answers full) never before = absurd never

-- where one lane has fewer lines left, all together do
pub all_lines_fall : (lanes : List PlainBackend) (i less : ℕ) (lane new : PlainBackend)
    → slice_get lanes i ≡ Some lane → lines_left new + less ≤ lines_left lane
    → all_lines_left (set lanes i new) + less ≤ all_lines_left lanes
all_lines_fall [] i less lane new is falls = absurd (cc)
all_lines_fall (x ∷ lanes) zero less lane new is falls =
    let same : x ≡ lane = cc in
    omega (arith, ap (λ (l : PlainBackend). lines_left l) same, falls)
all_lines_fall (x ∷ lanes) (suc i) less lane new is falls =
    omega (arith, all_lines_fall lanes i less lane new is falls)

-- ---- behind a turn

starts_tell : (size : ℕ) (ends : List ℕ) (line : Option PlainLine) (next : ℕ)
    → TellsAt size ends (start_of_line line) next
starts_tell _ _ None next = tt
starts_tell _ _ (Some (Insert body)) next = tt
starts_tell _ _ (Some (Commit body)) next = tt
starts_tell _ _ (Some Flush) next = tt

module _ (size : ℕ) (words : List ℕ) (w : WriterState) (lanes : List PlainBackend)
    (k : HasCallRoom size words w lanes) (number : ℕ) (lane : PlainBackend)
    (at : slice_get lanes number ≡ Some lane) where
  -- a lane in the place of this one goes by marks, and so do the others still
  all_go : (ends : List ℕ) (new : PlainBackend) → GoesByMarks size ends new.view new.doing
      → ((old : PlainBackend) → GoesByMarks size k.ends old.view old.doing
      → GoesByMarks size ends old.view old.doing)
      → (j : ℕ) (x : PlainBackend) → slice_get (set lanes number new) j ≡ Some x
      → GoesByMarks size ends x.view x.doing
  all_go ends new goes on j x got = ⊎_elim
      (λ (here : (j ≡ number) × (new ≡ x)). subst
      (λ (y : PlainBackend). GoesByMarks size ends y.view y.doing) here.1 goes)
      (λ (there : (j ≢ number) × (slice_get lanes j ≡ Some x)). on x (k.go j x there.1))
      (set_cases lanes number j new x got)

  -- a line is answered without a step
  pub answers_calls : HasCallRoom size words w (set lanes number (lane_answered lane))
  answers_calls =
      let goes = k.go number lane at in
      let fewer = all_lines_fall lanes number 0 lane (lane_answered lane) at
      (omega (arith, answered_lines lane lane.view lane.copied)) in
      let less = all_syncs_fall lanes number 0 0 lane (lane_answered lane) at
      (omega (arith, answered_fewer lane)) in record {
        ends = k.ends;
        tell = k.tell;
        go = all_go k.ends (lane_answered lane)
            (goes.0, starts_tell size k.ends (slice_get lane.script (lane.answered + 1)) _)
            (λ old is. is);
        written = k.written;
        room = λ up. fewer_syncs (else_needed size w.end k.ends w.plain
            (all_lines_left (set lanes number (lane_answered lane)))) (all_syncs_left lanes)
            (all_syncs_left (set lanes number (lane_answered lane))) w.room (omega (arith, less))
            (fewer_lines (w.end / size - (w.plain).made) (w.end / size - (w.plain).written / size)
            (marks_left size w.end k.ends (w.plain).written) (all_lines_left lanes)
            (all_lines_left (set lanes number (lane_answered lane))) (all_syncs_left lanes) w.room
            (omega (arith, fewer)) (k.room up));
      }

  module _ (left : Left) (copied : ℕ) (x : WriterState) (same_end : x.end ≡ w.end)
      (line : PlainLine) (under_way : slice_get lane.script lane.answered ≡ Some line)
      (at_mark : IsMark size k.ends (x.plain).written) (upto : ℕ)
      (has : (lines syncs syncs_now : ℕ)
      → syncs_now + syncs_made lane.doing ≤ syncs + syncs_added size upto lane.doing
      → HasRoom size w.end k.ends w.plain lines syncs w.room
      → HasRoom size w.end k.ends x.plain lines syncs_now x.room)
      (takes : next_syncs (left.made).next (flushes_of_line line) + syncs_made lane.doing
      ≤ syncs_ahead lane.doing (flushes_of_line line) + syncs_added size upto lane.doing) where
    abbrev later : PlainBackend
    later = lane_behind (left.made).next (record lane { view = left.view; copied = copied })

    goes_later : (ends : List ℕ) (next : PlainNext) → LearnsMarks size ends left.view
        → NextTells size ends next (next_in (left.view).flight)
        → let new = lane_behind next (record lane { view = left.view; copied = copied }) in
        GoesByMarks size ends new.view new.doing
    goes_later ends (nexts.GoesOn d) learns tells = (learns, tells)
    goes_later ends (nexts.Answers full) learns tells =
        (learns, starts_tell size ends (slice_get lane.script (lane.answered + 1)) _)

    abbrev pages_left : ℕ
    pages_left = x.end / 8192 - (x.plain).written / 8192

    abbrev syncs_later : ℕ
    syncs_later = all_syncs_left (set lanes number later)

    -- with as many lines as before
    before : (x.plain).fault ≡ none
        → calls_needed size x.end k.ends x.plain (all_lines_left lanes) syncs_later ≤ x.room
    before up =
        let falls = all_syncs_fall lanes number (syncs_made lane.doing)
        (syncs_added size upto lane.doing) lane later at
        (syncs_fall lane left.view copied line under_way (left.made).next (syncs_made lane.doing)
        (syncs_added size upto lane.doing) takes) in
        subst (λ (end : ℕ). calls_needed size end k.ends x.plain (all_lines_left lanes) syncs_later
        ≤ x.room) (sym same_end)
        (has (all_lines_left lanes) (all_syncs_left lanes) syncs_later falls k.room up)

    pub moves_calls : MovesMarks size k.ends lane.doing left
        → HasCallRoom size left.words x (set lanes number later)
    moves_calls (inl (leaves, on)) =
        let fewer = all_lines_fall lanes number 0 lane later at
        (omega (arith, lines_fall lane left.view copied (left.made).next on)) in record {
          ends = k.ends;
          tell = leaves.words;
          go = all_go k.ends later (goes_later k.ends (left.made).next leaves.view leaves.next)
              (λ old is. is);
          written = at_mark;
          room = λ up. fewer_lines (x.end / size - (x.plain).made)
              (x.end / size - (x.plain).written / size)
              (pages_left + ends_above size k.ends (x.plain).written)
              (all_lines_left lanes) (all_lines_left (set lanes number later)) syncs_later x.room
              (omega (arith, fewer)) (before up);
        }
    moves_calls (inr (end, leaves, none_before, reserved)) =
        let ends = end ∷ k.ends in
        let fewer = all_lines_fall lanes number 1 lane later at
        (line_reserves lane left.view copied line under_way (left.made).next reserved none_before) in
        record {
          ends = ends;
          tell = leaves.words;
          go = all_go ends later (goes_later ends (left.made).next leaves.view leaves.next)
              (λ old is. (
                learns_on size k.ends end old.view is.0,
                tells_on size k.ends end old.doing (next_in (old.view).flight) is.1,
              ));
          written = inr at_mark;
          room = λ up. reserve_takes (x.end / size - (x.plain).made)
              (x.end / size - (x.plain).written / size)
              (ends_above size k.ends (x.plain).written)
              (min 1 (end_address_of size end - (x.plain).written))
              (all_lines_left lanes) (all_lines_left (set lanes number later)) syncs_later x.room
              pages_left (omega arith) fewer (before up);
        }

-- What a run has to show behind the opening of its log, from what its parts say.
use Rattle.std.proofs.Common.{◌≡◌, ℕ, ◌+◌, ◌-◌, ◌^◌, ◌<◌, ◌≤◌, Bool, List, [], ◌∷◌, ◌++◌, length, Option, Some, None, sym, ◌∙◌, ap, subst, append_assoc, arith}
use Rattle.std.specs.Prelude.{IfSome, is_ok, not}
use Rattle.byte_position.specs.Position.{end_address_of}
use Rattle.segment_disk.specs.declared.disk.Call.{Call}
use Rattle.segment_disk.specs.Tape.{Tape}
use Rattle.wal_page.specs.Order.{Entry, rooms_of}
use Rattle.wal_page.proofs.OrderLaws.{room_at-pos, rooms_of_cons}
use Rattle.machine_state.specs.Words.{Opening, found_end, found_position}
use Rattle.machine_laws.specs.WholeOrders.{LiesBehind}
use Rattle.wal_rule.specs.Closing.{ClosesWith}
use Rattle.wal_rule.specs.Passes.{view_of_pass}
use Rattle.wal_rule.specs.Slotted.{slot_disk}
use Rattle.flush_core.specs.Calls.{maybe}
use Rattle.wal_rule.specs.Tables.{began_of_table}
use Rattle.wal_log.specs.Logs.{opening_of_log, table_of}
use Rattle.wal_log.specs.declared.closing.Closed.{Closed}
use Rattle.wal_log.specs.declared.wal.Wal.{Wal}
use Rattle.run_script.specs.Asked.{AskedLine}
use Rattle.run_laws.specs.Told.{order_from}
use Rattle.run_laws.specs.declared.told.Told.{Told}
use Rattle.run_laws.specs.WholeOrders.{IsWhole}
use Rattle.run_laws.specs.Counted.{all_reserved_count}
use Rattle.run_laws.specs.Ended.{HasTakenIn}
use Rattle.run_laws.specs.Assured.{AssuresBehind, HoldsSuited, RunAssures, TapeGoesOn, order_told}
use Rattle.run_laws.specs.ClosedRuns.{HasFlushedAll, IsRunClosed}
use Rattle.run_laws.proofs.ClosedRuns.{bytes_told, counted_down, counted_up, flushed_whole, records_counted, rooms_within, run_assures, run_assures_behind}
use Rattle.run_backends.specs.Backends.{lists_of}
use Rattle.run_backends.specs.Playing.{HasPlayed}
use Rattle.run_backends.specs.declared.backend.AnsweredLines.{AnsweredLines}
use Rattle.backend_cli.specs.Concluding.{IsConcluded}
use Rattle.backend_cli.specs.Outside.{Outside, SourceView, outside_of}
use Rattle.backend_cli.specs.Printing.{EndsBehind, printed_text}
use Rattle.backend_cli.specs.Run.{HoldsBehind, HoldsSince}
use Rattle.backend_cli.specs.declared.outcome.Outcome.{Outcome}
use Rattle.backend_cli.proofs.RunEnds.{CountsFaults, ends_opened, quiet_where_printed, risen_where_not_printed}

-- there are no more entries than bytes that they take up
entries-le : (size : ℕ) (es : List Entry) → length es ≤ rooms_of size es
entries-le size [] = omega arith
entries-le size (e ∷ es) =
    omega (arith, rooms_of_cons size e es, room_at-pos size e, entries-le size es)

-- what goes on from a tape that goes on from another one goes on from that
pub goes_on_further : (old mid new : Option Tape) → TapeGoesOn old mid → TapeGoesOn mid new
    → TapeGoesOn old new
goes_on_further None mid new first next =
    subst (λ (t : Option Tape). TapeGoesOn t new) first next
goes_on_further (Some t) mid new first next =
    let further = subst (λ (tape : Option Tape). TapeGoesOn tape new) first.1 next in (
      first.0 ++ further.0,
      further.1 ∙ ap (λ (calls : List Call). Some (record t { calls = calls }))
          (append_assoc t.calls first.0 further.0),
    )

module _ {D : Type 0} (tape : D → Option Tape) (moment faults : D → ℕ) (wal : Wal D)
    (began : Option Tape) (opening : Opening) (opening_is : opening_of_log wal ≡ opening)
    (began_is : began_of_table tape (table_of wal) ≡ began)
    (narrow : (opening.setup).sysid < 2 ^ 64)
    (counts : IfSome began (λ t. opening.moment ≡ length t.calls))
    (script : List (List AskedLine)) (backends : List AnsweredLines) (closed : Closed D)
    (played : HasPlayed tape moment faults wal script backends closed) where
  abbrev size : ℕ
  size = (opening.setup).seg_size

  abbrev lists : List (List Told)
  lists = lists_of backends

  abbrev reserved : List Entry
  reserved = order_from size 1 script lists

  -- ---- the log was closed

  closes : ClosesWith tape moment faults began opening (view_of_pass played.pass)
      (played.closes).writer (played.closes).position
  closes =
      let v = view_of_pass played.pass in
      let writer = (played.closes).writer in
      let position = (played.closes).position in
      subst (λ (t : Option Tape). ClosesWith tape moment faults t opening v writer position) began_is
      (subst (λ (o : Opening). ClosesWith tape moment faults (began_of_table tape (table_of wal)) o
      v writer position) opening_is (played.closes).closes)

  taken : HasTakenIn opening (view_of_pass played.pass) script lists
  taken = subst (λ (o : Opening). HasTakenIn o (view_of_pass played.pass) script (lists_of backends))
      opening_is played.taken

  flushed : HasFlushedAll size lists (view_of_pass played.pass)
  flushed = subst (λ (o : Opening). HasFlushedAll (o.setup).seg_size (lists_of backends)
      (view_of_pass played.pass)) opening_is played.flushed

  run_closed : IsRunClosed tape moment faults began opening (view_of_pass played.pass)
      (played.closes).writer (played.closes).position script lists
  run_closed = record {
    closes = closes;
    taken = taken;
    narrow = narrow;
    counted = counts;
  }

  -- ---- the order in numbers

  pub counted : length reserved ≡ all_reserved_count lists
  counted = records_counted tape moment faults began opening (view_of_pass played.pass)
      (played.closes).writer (played.closes).position script lists run_closed

  within : rooms_of size reserved ≤ 2 ^ 42
  within = rooms_within tape moment faults began opening (view_of_pass played.pass)
      (played.closes).writer (played.closes).position script lists run_closed

  pub few_reserved : all_reserved_count lists ≤ 2 ^ 42
  few_reserved = omega (arith, counted, entries-le size reserved, within)

  pub end_told : closed.end.0
      ≡ end_address_of size (found_position opening + rooms_of size reserved)
  end_told =
      let size_is = ap (λ (o : Opening). (o.setup).seg_size) opening_is in
      let position = (played.closes).position in
      let position_is = bytes_told tape moment faults began opening (view_of_pass played.pass)
      (played.closes).writer position script lists run_closed in
      (played.closes).end_is ∙ ap (λ (n : ℕ). end_address_of n position) size_is
      ∙ ap (end_address_of size) position_is

  -- by the segments' size as the run's options say it
  pub ends_behind : (bytes : ℕ) → size ≡ bytes → (from : ℕ) → from ≡ found_end opening
      → EndsBehind bytes (found_position opening)
      (rooms_of bytes (order_from bytes 1 script lists)) from closed.end.0
  ends_behind bytes same from from_is =
      subst (λ (n : ℕ). EndsBehind n (found_position opening)
      (rooms_of n (order_from n 1 script (lists_of backends))) from closed.end.0) same
      (record {
        within = ((closes.sound).reserved).placed.from;
        from_is = from_is;
        end_is = end_told;
      })

  -- ---- what is assured of the disk that came back

  pub assured : RunAssures opening began (tape closed.disk) (moment closed.disk)
      (faults closed.disk) script lists
  assured = subst (λ (d : D).
      RunAssures opening began (tape d) (moment d) (faults d) script (lists_of backends))
      (played.closes).disk_is
      (run_assures tape moment faults began opening (view_of_pass played.pass)
      (played.closes).writer (played.closes).position script lists run_closed)

  pub assured_behind : (front : List Entry) → LiesBehind opening front
      → AssuresBehind opening front began (tape closed.disk) script lists
  assured_behind front lies = subst (λ (d : D).
      AssuresBehind opening front began (tape d) script (lists_of backends))
      (played.closes).disk_is
      (run_assures_behind tape moment faults began opening (view_of_pass played.pass)
      (played.closes).writer (played.closes).position script lists run_closed front lies)

  whole : (front : List Entry) → LiesBehind opening front
      → faults closed.disk ≡ opening.faults → opening.faults < 2 ^ 64 - 1
      → HoldsSuited opening began
      → IsWhole size (tape closed.disk) (order_told front size script lists)
  whole front lies = subst (λ (d : D). faults d ≡ opening.faults → opening.faults < 2 ^ 64 - 1
      → HoldsSuited opening began
      → IsWhole (opening.setup).seg_size (tape d)
      (order_told front (opening.setup).seg_size script (lists_of backends)))
      (played.closes).disk_is (λ same low suited.
      flushed_whole tape moment faults began opening (view_of_pass played.pass)
      (played.closes).writer (played.closes).position script lists run_closed flushed same low
      suited front lies)

  faults_counted : CountsFaults opening.faults (faults closed.disk) lists
      (maybe closed.down)
  faults_counted =
      let writer = (played.closes).writer in
      let position = (played.closes).position in
      let v = view_of_pass played.pass in
      subst (λ (d : D). CountsFaults opening.faults (faults d) (lists_of backends)
      (maybe closed.down)) (played.closes).disk_is
      (subst (CountsFaults opening.faults (faults (slot_disk writer)) (lists_of backends))
      (sym (played.closes).down_is)
      (record {
        up = counted_up tape moment faults began opening v writer position script lists run_closed;
        down = counted_down tape moment faults began opening v writer position script lists
            run_closed;
      }))

  -- ---- and so the run holds what it promises since the opening

  module _ {O : Type 0} (sunk : O → Option (List ℕ)) (sink_faults : O → ℕ) (out out_now : O)
      (before after : SourceView) (disk : D) (faults_then : opening.faults ≡ faults disk)
      (held : Type 0) (suited : held → HoldsSuited opening began) where
    abbrev outside : Outside
    outside = outside_of before after tape moment faults disk closed.disk sunk sink_faults out
        out_now

    pub holds_since : TapeGoesOn (tape disk) (tape closed.disk) → (outcome : Outcome)
        (from used : ℕ) (list : Bool) (text : List ℕ)
        → IsConcluded size from used list text backends closed.down (sunk out) (sunk out_now)
        (sink_faults out) (sink_faults out_now) outcome
        → HoldsSince opening held outside outcome script lists
    holds_since goes_on outcome from used list text concluded =
        let all = text ++ printed_text list backends concluded.summary in
        let counts = subst (λ (n : ℕ). CountsFaults n (faults closed.disk) (lists_of backends)
        (maybe closed.down)) faults_then faults_counted in
        record {
          machine = assured.machine;
          told = assured.told;
          stays_down = assured.stays_down;
          one_fault = assured.one_fault;
          goes_on = goes_on;
          firm = λ (h : held). assured.firm (suited h);
          only_log = λ (h : held). assured.only_log (suited h);
          caught_up = assured.caught_up;
          moments = assured.moments;
          no_late_receipt = λ (h : held). assured.no_late_receipt (suited h);
          ends = ends_opened (outside_of before after tape moment faults disk closed.disk sunk
              sink_faults out out_now) (lists_of backends) closed.down
              (not (is_ok concluded.printed)) outcome concluded.concludes counts
              (quiet_where_printed (sunk out) (sunk out_now) (sink_faults out)
              (sink_faults out_now) all concluded.printed concluded.puts)
              (risen_where_not_printed (sunk out) (sunk out_now) (sink_faults out)
              (sink_faults out_now) all concluded.printed concluded.puts);
          full = assured.full;
        }

    -- .. and of the whole order
    pub holds_behind : (front : List Entry) → LiesBehind opening front
        → HoldsBehind opening front held outside script lists
    holds_behind front lies =
        let behind = assured_behind front lies in
        let whole_then = subst (λ (n : ℕ). faults closed.disk ≡ n → n < 2 ^ 64 - 1
        → HoldsSuited opening began → IsWhole (opening.setup).seg_size (tape closed.disk)
        (order_told front (opening.setup).seg_size script (lists_of backends))) faults_then
        (whole front lies) in
        record {
          words = λ (h : held). behind.words (suited h);
          whole = λ same below (h : held). whole_then same below (suited h);
        }

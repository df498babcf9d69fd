-- Where a line found the log full, the script's records take up more than the log has for records
-- behind the place at which it was opened.
use Rattle.std.proofs.Common.{◌≡◌, ℕ, ◌+◌, ◌<◌, ◌≤◌, cond, Bool, true, false, leb, List, [], ◌∷◌, take, Option, Some, None, option_to_list, inl, inr, refl, ap, arith}
use Rattle.std.proofs.lemmas.List.Elements.{All-head, All-tail}
use Rattle.std.proofs.lemmas.List.Sums.{sum_by-take-le}
use mathlib.Core.Option as mathlib_option
use mathlib.Core.Option.{none, some}
use Rattle.byte_position.specs.Geometry.{IsSegmentSize}
use Rattle.byte_position.specs.Position.{first_position, position_of}
use Rattle.byte_position.proofs.SegmentSizes.{segment_size_in_pages, segment_size_tests}
use Rattle.wal_spelling.specs.Record.{switch_record}
use Rattle.wal_spelling.specs.Spelling.{assembled}
use Rattle.wal_spelling.proofs.SwitchLaws.{room-switch}
use Rattle.wal_types.specs.declared.answers.Cause.TheVariants.{Full, Disk, Down}
use Rattle.wal_types.specs.declared.lsn.Lsn.{Lsn}
use Rattle.wal_types.specs.declared.record.Record.{Record}
use Rattle.wal_page.specs.Order.{Entry, room_at, rooms_of}
use Rattle.wal_page.proofs.OrderLaws.{rooms_of_cons, rooms_of-append}
use Rattle.wal_page.proofs.PaddingLaws.{assembled_room_at-bound, room_at-inserted}
use Rattle.run_script.specs.Asked.{Asked, AskedLine, Insert, Commit, Flush, CommitAsync, WriteBehind, Switch}
use Rattle.run_script.specs.Writable.{AsksWritable}
use Rattle.machine_state.specs.Words.{Opening, found_position, log_limit}
use Rattle.machine_state.specs.Views.{View}
use Rattle.run_laws.specs.declared.told.Told.{Told}
use Rattle.run_laws.specs.declared.told.Told.TheVariants.{Wrote, Hard, Flushed, Async, Idle, Switched, Stayed, Refused}
use Rattle.run_laws.specs.Told.{FitsLine, IsFullAnswer, Logged, MayBeFull, SomeAnswer, SomeTold, TellsAll, TellsFrom, behind_or, entries_from, entries_of, entry_at, entry_of, front_end, insert_by_start, reserved_by, sorted_by_start}
use Rattle.run_laws.specs.Rooms.{all_rooms_asked, room_asked, rooms_asked}
use Rattle.run_laws.specs.Ended.{HasTakenIn, IsClosedLog, logged_at_end}
use Rattle.run_laws.proofs.RunOrder.{told_order, valid}
use Rattle.run_laws.proofs.RunTells.{run_tells}
use Rattle.run_laws.proofs.WritableLines.{AllAskWritable, AskWritable, LineAsksWritable, script_writable}

-- what entries take up does not hang on their order
rooms_insert : (size : ℕ) (e : Entry) (es : List Entry)
    → rooms_of size (insert_by_start e es) ≡ rooms_of size (e ∷ es)
rooms_insert size e [] = refl
rooms_insert size e (f ∷ es) = by_test (leb e.start f.start) (rooms_insert size e es)
  where
    by_test : (b : Bool) → rooms_of size (insert_by_start e es) ≡ rooms_of size (e ∷ es)
        → rooms_of size (cond b (e ∷ f ∷ es) (f ∷ insert_by_start e es))
        ≡ rooms_of size (e ∷ f ∷ es)
    by_test true same = refl
    by_test false same = omega (
      arith,
      rooms_of_cons size f (insert_by_start e es),
      same,
      rooms_of_cons size e es,
      rooms_of_cons size e (f ∷ es),
      rooms_of_cons size f es,
    )

rooms_sorted : (size : ℕ) (es : List Entry)
    → rooms_of size (sorted_by_start es) ≡ rooms_of size es
rooms_sorted size [] = refl
rooms_sorted size (e ∷ es) = omega (
  arith,
  rooms_insert size e (sorted_by_start es),
  rooms_of_cons size e (sorted_by_start es),
  rooms_sorted size es,
  rooms_of_cons size e es,
)

-- a segment switch takes up no more than a segment's bytes and 16
switch_room : (size : ℕ) → IsSegmentSize size → (start : ℕ)
    → room_at size start switch_record ≤ size + 16
switch_room size sized start = omega (
  arith,
  assembled_room_at-bound size sized start (assembled switch_record),
  room-switch,
  segment_size_in_pages size sized,
)

module _ (size : ℕ) (sized : IsSegmentSize size) (pass : ℕ) where
  -- a line takes up no more than it asks for
  room_taken : (value : Record) (start : Option Lsn) → AsksWritable (Insert value)
      → rooms_of size (option_to_list (entry_at size pass value start))
      ≤ room_asked size (Insert value)
  room_taken value None writable = omega arith
  room_taken value (Some start) writable =
      omega (arith, room_at-inserted size (position_of size start.0) value writable)

  switch_taken : (start : Option Lsn)
      → rooms_of size (option_to_list (entry_at size pass switch_record start))
      ≤ room_asked size Switch
  switch_taken None = omega arith
  switch_taken (Some start) = omega (arith, switch_room size sized (position_of size start.0))

  line_takes : (asked : Asked) (told : Told) → AsksWritable asked
      → rooms_of size (option_to_list (entry_of size pass asked told)) ≤ room_asked size asked
  line_takes (Insert value) told writable = room_taken value (reserved_by told) writable
  line_takes (Commit value) told writable = room_taken value (reserved_by told) writable
  line_takes Flush told writable = omega arith
  line_takes (CommitAsync value) told writable = room_taken value (reserved_by told) writable
  line_takes WriteBehind told writable = omega arith
  line_takes Switch told writable = switch_taken (reserved_by told)

  lines_take : (lines : List AskedLine) (told : List Told) → AskWritable lines
      → rooms_of size (entries_of size pass lines told) ≤ rooms_asked size lines
  lines_take [] told writable = omega arith
  lines_take (line ∷ lines) [] writable = omega arith
  lines_take (line ∷ lines) (answer ∷ told) writable = omega (
    arith,
    rooms_of-append size (option_to_list (entry_of size pass line.asked answer))
        (entries_of size pass lines told),
    line_takes line.asked answer (All-head LineAsksWritable line lines writable),
    lines_take lines told (All-tail LineAsksWritable line lines writable),
  )

all_take : (size : ℕ) → IsSegmentSize size → (pass : ℕ) (script : List (List AskedLine)) (lists : List (List Told))
    → AllAskWritable script
    → rooms_of size (entries_from size pass script lists) ≤ all_rooms_asked size script
all_take size sized pass [] lists writable = omega arith
all_take size sized pass (lines ∷ script) [] writable = omega arith
all_take size sized pass (lines ∷ script) (told ∷ lists) writable = omega (
  arith,
  rooms_of-append size (entries_of size pass lines told)
      (entries_from size (pass + 1) script lists),
  lines_take size sized pass lines told (All-head AskWritable lines script writable),
  all_take size sized (pass + 1) script lists (All-tail AskWritable lines script writable),
)

module _ (logged : Logged) (sized : IsSegmentSize logged.size) where
  -- a front of the order and the record together have no room
  record_exceeds : (pass behind : ℕ) (value : Record) (free : ℕ)
      → AsksWritable (Insert value) → MayBeFull logged pass behind value free
      → logged.limit
      < logged.start + rooms_of logged.size logged.order + room_asked logged.size (Insert value)
  record_exceeds pass behind value free writable full =
      let front = take full.front logged.order in
      let fewer : rooms_of logged.size front ≤ rooms_of logged.size logged.order =
      sum_by-take-le (λ (e : Entry). room_at logged.size e.start e.value) logged.order full.front in
      let room = room_at-inserted logged.size (front_end logged full.front) value writable in
      let short : free < room_asked logged.size (Insert value) = omega (arith, room, full.short) in
      omega (arith, fewer, short, full.left)

  -- nor have they with a segment switch, for which a few bytes are left
  switch_exceeds : (pass behind free : ℕ) → MayBeFull logged pass behind switch_record free
      → free < 24
      → logged.limit
      < logged.start + rooms_of logged.size logged.order + room_asked logged.size Switch
  switch_exceeds pass behind free full few =
      let fewer =
      sum_by-take-le (λ (e : Entry). room_at logged.size e.start e.value) logged.order full.front in
      let big = (segment_size_tests logged.size sized).1 in
      omega (arith, fewer, few, full.left, big)

  -- a line that found the log full asks for more than is left, and takes none
  line_exceeds : (pass behind : ℕ) (asked : Asked) (told : Told) → AsksWritable asked
      → FitsLine logged pass behind asked told → IsFullAnswer told
      → logged.limit
      + rooms_of logged.size (option_to_list (entry_of logged.size pass asked told))
      < logged.start + rooms_of logged.size logged.order + room_asked logged.size asked
  line_exceeds pass behind asked (Wrote start end) writable fits full = absurd full
  line_exceeds pass behind asked (Hard start end moment) writable fits full = absurd full
  line_exceeds pass behind asked (Flushed upto moment) writable fits full = absurd full
  line_exceeds pass behind asked (Async start end) writable fits full = absurd full
  line_exceeds pass behind asked (Idle upto) writable fits full = absurd full
  line_exceeds pass behind asked (Switched start end) writable fits full = absurd full
  line_exceeds pass behind asked (Stayed end) writable fits full = absurd full
  line_exceeds pass behind asked (Refused (Disk faults) reserved) writable fits full = absurd full
  line_exceeds pass behind asked (Refused (Down faults) reserved) writable fits full = absurd full
  line_exceeds pass behind (Insert value) (Refused (Full free) None) writable fits full =
      omega (arith, record_exceeds pass behind value free writable fits)
  line_exceeds pass behind (Insert value) (Refused (Full free) (Some start)) writable fits full =
      absurd fits
  line_exceeds pass behind (Commit value) (Refused (Full free) None) writable fits full =
      omega (arith, record_exceeds pass behind value free writable fits)
  line_exceeds pass behind (Commit value) (Refused (Full free) (Some start)) writable fits full =
      absurd fits
  line_exceeds pass behind Flush (Refused (Full free) reserved) writable fits full = absurd fits
  line_exceeds pass behind (CommitAsync value) (Refused (Full free) None) writable fits full =
      omega (arith, record_exceeds pass behind value free writable fits)
  line_exceeds pass behind (CommitAsync value) (Refused (Full free) (Some start)) writable fits
      full =
      absurd fits
  line_exceeds pass behind WriteBehind (Refused (Full free) reserved) writable fits full =
      absurd fits
  line_exceeds pass behind Switch (Refused (Full free) None) writable fits full =
      omega (arith, switch_exceeds pass behind free fits.0 (fits.1).1)
  line_exceeds pass behind Switch (Refused (Full free) (Some start)) writable fits full =
      absurd fits.0

  lines_exceed : (pass behind : ℕ) (lines : List AskedLine) (told : List Told) → AskWritable lines
      → TellsFrom logged pass behind lines told → SomeAnswer IsFullAnswer told
      → logged.limit + rooms_of logged.size (entries_of logged.size pass lines told)
      < logged.start + rooms_of logged.size logged.order + rooms_asked logged.size lines
  lines_exceed pass behind [] [] writable tells full = absurd full
  lines_exceed pass behind [] (answer ∷ told) writable tells full = absurd tells
  lines_exceed pass behind (line ∷ lines) [] writable tells full = absurd tells
  lines_exceed pass behind (line ∷ lines) (answer ∷ told) writable tells (inl here) = omega (
    arith,
    rooms_of-append logged.size (option_to_list (entry_of logged.size pass line.asked answer))
        (entries_of logged.size pass lines told),
    line_exceeds pass behind line.asked answer (All-head LineAsksWritable line lines writable)
        tells.0 here,
    lines_take logged.size sized pass lines told (All-tail LineAsksWritable line lines writable),
  )
  lines_exceed pass behind (line ∷ lines) (answer ∷ told) writable tells (inr later) = omega (
    arith,
    rooms_of-append logged.size (option_to_list (entry_of logged.size pass line.asked answer))
        (entries_of logged.size pass lines told),
    line_takes logged.size sized pass line.asked answer
        (All-head LineAsksWritable line lines writable),
    lines_exceed pass
        (behind_or logged.size behind (entry_of logged.size pass line.asked answer)) lines told
        (All-tail LineAsksWritable line lines writable) tells.1 later,
  )

  all_exceed : (pass : ℕ) (script : List (List AskedLine)) (lists : List (List Told))
      → AllAskWritable script → TellsAll logged pass script lists → SomeTold IsFullAnswer lists
      → logged.limit + rooms_of logged.size (entries_from logged.size pass script lists)
      < logged.start + rooms_of logged.size logged.order + all_rooms_asked logged.size script
  all_exceed pass [] [] writable tells full = absurd full
  all_exceed pass [] (told ∷ lists) writable tells full = absurd tells
  all_exceed pass (lines ∷ script) [] writable tells full = absurd tells
  all_exceed pass (lines ∷ script) (told ∷ lists) writable tells (inl here) = omega (
    arith,
    rooms_of-append logged.size (entries_of logged.size pass lines told)
        (entries_from logged.size (pass + 1) script lists),
    lines_exceed pass (first_position logged.size) lines told
        (All-head AskWritable lines script writable) tells.0 here,
    all_take logged.size sized (pass + 1) script lists (All-tail AskWritable lines script writable),
  )
  all_exceed pass (lines ∷ script) (told ∷ lists) writable tells (inr later) = omega (
    arith,
    rooms_of-append logged.size (entries_of logged.size pass lines told)
        (entries_from logged.size (pass + 1) script lists),
    lines_take logged.size sized pass lines told (All-head AskWritable lines script writable),
    all_exceed (pass + 1) script lists (All-tail AskWritable lines script writable) tells.1 later,
  )

-- some count that is no less than that of a fault, where there is one
upper_count : (fault : mathlib_option.Option ℕ)
    → (last : ℕ) × ((faults : ℕ) → fault ≡ some faults → faults ≤ last)
upper_count none = (0, λ faults is. absurd (let no : ⊥ = cc in no))
upper_count (some last) =
    (last, λ faults is. let same : last ≡ faults = cc in omega (arith, same))

pub too_much_asked : (opening : Opening) (order : List Entry) (v : View)
    → IsClosedLog opening order v → (script : List (List AskedLine)) (lists : List (List Told))
    → HasTakenIn opening v script lists → SomeTold IsFullAnswer lists → log_limit opening.setup
    < found_position opening + all_rooms_asked (opening.setup).seg_size script
too_much_asked opening order v c script lists taken full =
    let size = (opening.setup).seg_size in
    let size_is = valid opening order v c script lists taken in
    let last = upper_count (c.writer).fault in
    let tells = run_tells opening order v c script lists taken last.0 last.1 in
    let told = ap (rooms_of size) (told_order opening order v c script lists taken) in
    let writable = script_writable size (log_limit opening.setup) 1 script lists taken.others
    taken.played in
    omega (
      arith,
      told,
      rooms_sorted size (entries_from size 1 script lists),
      all_exceed (logged_at_end opening order last.0) size_is 1 script lists writable tells full,
    )

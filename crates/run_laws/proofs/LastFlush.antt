-- Where the disk did not fail, what reaches all ends that lines were told reaches the order's end:
-- what was found is flushed from the opening on.
use Rattle.std.proofs.Common.{◌≡◌, ℕ, ◌+◌, ◌^◌, ◌<◌, ◌≤◌, All, Contains, cond, Bool, true, false, leb, List, [], ◌∷◌, ◌++◌, Option, Some, None, option_to_list, refl, subst, IfSome, arith}
use Rattle.std.proofs.lemmas.List.Elements.{All-append, All-cons, All-contains, All-head, All-nil, All-tail, All-weaker}
use mathlib.Core.Option.{none, some}
use Rattle.segment_disk.specs.declared.disk.Call.{Call}
use Rattle.segment_disk.specs.Tape.{Tape}
use Rattle.byte_position.specs.Position.{end_address_of, first_position}
use Rattle.wal_types.specs.declared.answers.Cause.TheVariants.{Full, Disk, Down}
use Rattle.wal_page.specs.Order.{Entry, FollowsFrom, finish_of, position_behind, rooms_of}
use Rattle.wal_page.proofs.OrderLaws.{rooms_of_cons}
use Rattle.run_script.specs.Asked.{Asked, AskedLine, Insert, Commit, Flush, CommitAsync, WriteBehind, Switch}
use Rattle.machine_state.specs.Words.{Opening, end_form, flushed_word, moment_word, order_end}
use Rattle.machine_state.specs.Suited.{BeganSuited, tape_from}
use Rattle.machine_state.specs.Views.{FlushPromise, View}
use Rattle.machine_state.specs.Durable.{IsPromised}
use Rattle.run_laws.specs.Closed.{IsClosedOn}
use Rattle.run_laws.proofs.Promises.{told_rightly}
use Rattle.run_laws.proofs.ReadWhole.{whole}
use Rattle.run_laws.specs.declared.told.Told.{Told}
use Rattle.run_laws.specs.declared.told.Told.TheVariants.{Wrote, Hard, Flushed, Async, Idle, Switched, Stayed, Refused}
use Rattle.run_laws.specs.Told.{FitsLine, Logged, TellsAll, TellsFrom, behind_or, entries_from, entries_of, entry_of, insert_by_start, sorted_by_start}
use Rattle.run_laws.specs.WholeOrders.{IsWhole}
use Rattle.machine_laws.specs.WholeOrders.{LiesBehind}
use Rattle.run_laws.specs.Ended.{HasTakenIn, IsClosedLog, logged_at_end}
use Rattle.run_laws.specs.Reached.{EndsBy, ReachesAll}
use Rattle.run_laws.proofs.RefusedLines.{no_fault, tells_no_fault}
use Rattle.run_laws.proofs.RunOrder.{accounted, told_order}

-- what holds of all entries holds of them in any order
module _ (P : Entry → Type 0) where
  all_insert : (e : Entry) (es : List Entry) → P e → All P es → All P (insert_by_start e es)
  all_insert e [] holds all = All-cons P e [] holds all
  all_insert e (f ∷ es) holds all =
      by_test (leb e.start f.start) (all_insert e es holds (All-tail P f es all))
    where
      by_test : (b : Bool) → All P (insert_by_start e es)
          → All P (cond b (e ∷ f ∷ es) (f ∷ insert_by_start e es))
      by_test true others = All-cons P e (f ∷ es) holds all
      by_test false others =
          All-cons P f (insert_by_start e es) (All-head P f es all) others

  all_sorted : (es : List Entry) → All P es → All P (sorted_by_start es)
  all_sorted [] all = All-nil P
  all_sorted (e ∷ es) all =
      all_insert e (sorted_by_start es) (All-head P e es all)
      (all_sorted es (All-tail P e es all))

-- an order ends where its last entry does
order_ends : (size address position : ℕ) (es : List Entry) → FollowsFrom size position es
    → All (λ e. finish_of size e ≤ address) es → end_address_of size position ≤ address
    → end_address_of size (position + rooms_of size es) ≤ address
order_ends size address position [] follows all low =
    subst (λ (p : ℕ). end_address_of size p ≤ address) (omega arith) low
order_ends size address position (e ∷ es) follows all low =
    let Ends = λ (f : Entry). finish_of size f ≤ address in
    let same : position_behind size e + rooms_of size es ≡ position + rooms_of size (e ∷ es) =
    omega (arith, follows.0, rooms_of_cons size e es) in
    subst (λ (p : ℕ). end_address_of size p ≤ address) same
    (order_ends size address (position_behind size e) es follows.2
    (All-tail Ends e es all) (All-head Ends e es all))

module _ (logged : Logged) (up : logged.last ≡ 0) (address : ℕ) where
  abbrev pub Ends : Entry → Type 0
  Ends e = finish_of logged.size e ≤ address

  line_ends : (pass behind : ℕ) (asked : Asked) (told : Told)
      → FitsLine logged pass behind asked told → EndsBy address told
      → All Ends (option_to_list (entry_of logged.size pass asked told))
  line_ends pass behind (Insert value) (Wrote start end) fits by =
      All-cons Ends _ [] (omega (arith, by, fits.ends)) (All-nil Ends)
  line_ends pass behind (Insert value) (Hard start end moment) fits by = absurd fits
  line_ends pass behind (Insert value) (Flushed upto moment) fits by = absurd fits
  line_ends pass behind (Insert value) (Async start end) fits by = absurd fits
  line_ends pass behind (Insert value) (Idle upto) fits by = absurd fits
  line_ends pass behind (Insert value) (Switched start end) fits by = absurd fits
  line_ends pass behind (Insert value) (Stayed end) fits by = absurd fits
  line_ends pass behind (Insert value) (Refused cause None) fits by = All-nil Ends
  line_ends pass behind (Insert value) (Refused (Full free) (Some start)) fits by = absurd fits
  line_ends pass behind (Insert value) (Refused (Disk faults) (Some start)) fits by =
      absurd (no_fault logged up faults fits.0)
  line_ends pass behind (Insert value) (Refused (Down faults) (Some start)) fits by =
      absurd (no_fault logged up faults fits.0)
  line_ends pass behind (Commit value) (Wrote start end) fits by = absurd fits
  line_ends pass behind (Commit value) (Hard start end moment) fits by =
      All-cons Ends _ [] (omega (arith, by, fits.ends)) (All-nil Ends)
  line_ends pass behind (Commit value) (Flushed upto moment) fits by = absurd fits
  line_ends pass behind (Commit value) (Async start end) fits by = absurd fits
  line_ends pass behind (Commit value) (Idle upto) fits by = absurd fits
  line_ends pass behind (Commit value) (Switched start end) fits by = absurd fits
  line_ends pass behind (Commit value) (Stayed end) fits by = absurd fits
  line_ends pass behind (Commit value) (Refused cause None) fits by = All-nil Ends
  line_ends pass behind (Commit value) (Refused (Full free) (Some start)) fits by = absurd fits
  line_ends pass behind (Commit value) (Refused (Disk faults) (Some start)) fits by =
      absurd (no_fault logged up faults fits.0)
  line_ends pass behind (Commit value) (Refused (Down faults) (Some start)) fits by =
      absurd (no_fault logged up faults fits.0)
  line_ends pass behind Flush told fits by = All-nil Ends
  line_ends pass behind (CommitAsync value) (Wrote start end) fits by = absurd fits
  line_ends pass behind (CommitAsync value) (Hard start end moment) fits by = absurd fits
  line_ends pass behind (CommitAsync value) (Flushed upto moment) fits by = absurd fits
  line_ends pass behind (CommitAsync value) (Async start end) fits by =
      All-cons Ends _ [] (omega (arith, by, fits.ends)) (All-nil Ends)
  line_ends pass behind (CommitAsync value) (Idle upto) fits by = absurd fits
  line_ends pass behind (CommitAsync value) (Switched start end) fits by = absurd fits
  line_ends pass behind (CommitAsync value) (Stayed end) fits by = absurd fits
  line_ends pass behind (CommitAsync value) (Refused cause None) fits by = All-nil Ends
  line_ends pass behind (CommitAsync value) (Refused (Full free) (Some start)) fits by = absurd fits
  line_ends pass behind (CommitAsync value) (Refused (Disk faults) (Some start)) fits by =
      absurd (no_fault logged up faults fits.0)
  line_ends pass behind (CommitAsync value) (Refused (Down faults) (Some start)) fits by =
      absurd (no_fault logged up faults fits.0)
  line_ends pass behind WriteBehind told fits by = All-nil Ends
  line_ends pass behind Switch (Wrote start end) fits by = absurd fits
  line_ends pass behind Switch (Hard start end moment) fits by = absurd fits
  line_ends pass behind Switch (Flushed upto moment) fits by = absurd fits
  line_ends pass behind Switch (Async start end) fits by = absurd fits
  line_ends pass behind Switch (Idle upto) fits by = absurd fits
  line_ends pass behind Switch (Switched start end) fits by =
      All-cons Ends _ [] (omega (arith, by, fits.ends)) (All-nil Ends)
  line_ends pass behind Switch (Stayed end) fits by = All-nil Ends
  line_ends pass behind Switch (Refused cause None) fits by = All-nil Ends
  line_ends pass behind Switch (Refused (Full free) (Some start)) fits by = absurd fits.0
  line_ends pass behind Switch (Refused (Disk faults) (Some start)) fits by =
      absurd (no_fault logged up faults (fits.0).0)
  line_ends pass behind Switch (Refused (Down faults) (Some start)) fits by =
      absurd (no_fault logged up faults (fits.0).0)

  lines_end : (pass behind : ℕ) (lines : List AskedLine) (told : List Told)
      → TellsFrom logged pass behind lines told → All (EndsBy address) told
      → All Ends (entries_of logged.size pass lines told)
  lines_end pass behind [] told tells by = All-nil Ends
  lines_end pass behind (line ∷ lines) [] tells by = absurd tells
  lines_end pass behind (line ∷ lines) (answer ∷ told) tells by =
      All-append Ends (option_to_list (entry_of logged.size pass line.asked answer))
      (entries_of logged.size pass lines told)
      (line_ends pass behind line.asked answer tells.0
      (All-head (EndsBy address) answer told by))
      (lines_end pass
      (behind_or logged.size behind (entry_of logged.size pass line.asked answer)) lines told
      tells.1 (All-tail (EndsBy address) answer told by))

  abbrev pub AllBy : List Told → Type 0
  AllBy told = All (EndsBy address) told

  all_end : (pass : ℕ) (script : List (List AskedLine)) (lists : List (List Told))
      → TellsAll logged pass script lists → All AllBy lists
      → All Ends (entries_from logged.size pass script lists)
  all_end pass [] lists tells by = All-nil Ends
  all_end pass (lines ∷ script) [] tells by = absurd tells
  all_end pass (lines ∷ script) (told ∷ lists) tells by =
      All-append Ends (entries_of logged.size pass lines told)
      (entries_from logged.size (pass + 1) script lists)
      (lines_end pass (first_position logged.size) lines told tells.0
      (All-head AllBy told lists by))
      (all_end (pass + 1) script lists tells.1 (All-tail AllBy told lists by))

module _ (opening : Opening) (order : List Entry) (v : View) (c : IsClosedLog opening order v)
    (script : List (List AskedLine)) (lists : List (List Told))
    (taken : HasTakenIn opening v script lists) (up : (c.writer).fault ≡ none)
    (p : FlushPromise) (was : Contains (v.writing).promises p)
    (reaches : ReachesAll (opening.setup).seg_size p.upto lists) where
  abbrev size : ℕ
  size = (opening.setup).seg_size

  abbrev EndsThere : Entry → Type 0
  EndsThere e = finish_of (opening.setup).seg_size e ≤ p.upto

  -- all that this run reserved ends so low
  own_ended : All EndsThere order
  own_ended =
      subst (All EndsThere) (told_order opening order v c script lists taken)
      (all_sorted EndsThere (entries_from size 1 script lists)
      (all_end (logged_at_end opening order 0) refl p.upto 1 script lists
      (tells_no_fault opening order v c script lists taken up) reaches.ends))

  pub flush_reaches : end_form opening.setup (order_end opening order) ≤ flushed_word c.words
  flush_reaches =
      let right = told_rightly opening c.words (some c.writer) c.views c.sound c.id v c.here in
      let Promised = IsPromised (flushed_word c.words) (moment_word c.words) in
      let promised = All-contains Promised (v.writing).promises p right.own_promised was in
      let flushed = flushed_word c.words in
      let all = All-weaker EndsThere (λ (e : Entry). finish_of size e ≤ flushed)
      (λ e low. omega (arith, low, promised.upto_low)) order own_ended in
      order_ends size flushed (opening.place).position order
      (accounted opening order v c script lists taken).chained all
      ((c.sound).durable).found_low

  whole_of : (front : List Entry) → LiesBehind opening front → (opening.setup).sysid < 2 ^ 64
      → (calls : Option (List Call)) → (c.writer).calls ≡ calls
      → IfSome (tape_from c.first calls) (BeganSuited opening)
      → IsWhole (opening.setup).seg_size (tape_from c.first calls) (front ++ order)
  whole_of front lies narrow None is began = tt
  whole_of front lies narrow (Some calls) is began =
      let t : Tape = record { at_first = c.first; calls = calls } in
      let on : IsClosedOn opening order t v = record {
        words = c.words;
        writer = c.writer;
        views = c.views;
        id = c.id;
        sound = c.sound;
        order_is = c.order_is;
        here = c.here;
        closed = c.closed;
        narrow = narrow;
        calls_is = is;
        began = began;
      } in
      let holds = whole opening order t v on flush_reaches front lies in
      (holds.left, holds.read)

pub left_whole : (opening : Opening) (order : List Entry) (v : View)
    (c : IsClosedLog opening order v) (front : List Entry) → LiesBehind opening front
    → (script : List (List AskedLine)) (lists : List (List Told))
    → HasTakenIn opening v script lists → (c.writer).fault ≡ none
    → (p : FlushPromise) → Contains (v.writing).promises p
    → ReachesAll (opening.setup).seg_size p.upto lists → (opening.setup).sysid < 2 ^ 64
    → IfSome (tape_from c.first (c.writer).calls) (BeganSuited opening)
    → IsWhole (opening.setup).seg_size (tape_from c.first (c.writer).calls) (front ++ order)
left_whole opening order v c front lies script lists taken up p was reaches narrow began =
    whole_of opening order v c script lists taken up p was reaches front lies narrow
    (c.writer).calls refl began

-- What a run has to show that went on with a log.
use Rattle.std.proofs.Common.{◌≡◌, ℕ, ◌+◌, ◌<◌, ◌≤◌, List, [], ◌∷◌, ◌++◌, length, take, Option, Some, None, Ok, Result, inl, inr, refl, sym, ◌∙◌, ap, ap₂, codes, length-append, subst, arith}
use Rattle.std.specs.Prelude.{IfSome}
use Rattle.std.specs.Fmt.{decimal}
use Rattle.byte_position.specs.Geometry.{IsSegmentSize}
use Rattle.segment_disk.specs.declared.disk.Call.{Call}
use Rattle.segment_disk.specs.DiskImage.{image_as_read}
use Rattle.segment_disk.specs.Tape.{Tape, state_now}
use Rattle.flush_core.specs.Calls.{AreMade}
use Rattle.flush_core.specs.Settled.{HasSettled}
use Rattle.flush_core.proofs.GrowingTapes.{with_calls-none, with_calls-some}
use Rattle.byte_position.specs.Position.{first_position, position_of}
use Rattle.byte_position.proofs.EndAddresses.{position_of-end_address_of}
use Rattle.wal_page.specs.LogPlace.{LogPlace}
use Rattle.wal_page.specs.Order.{Entry, FollowsFrom, rooms_of}
use Rattle.wal_types.specs.LsnText.{lsn_text}
use Rattle.wal_reader.specs.declared.found.FoundRecord.{FoundRecord}
use Rattle.wal_reader.specs.Cache.{log_of}
use Rattle.wal_reader.specs.Finds.{FindsRecords}
use Rattle.wal_reader.proofs.FindsLaws.{finding_is_decoding}
use Rattle.waldump_text.specs.Put.{Puts, joined}
use Rattle.waldump_text.specs.declared.putting.SinkFault.{SinkFault}
use Rattle.written_log_laws.specs.FoundLog.{end_behind}
use Rattle.written_log_laws.specs.Written.{found_of}
use Rattle.written_log_laws.proofs.LawfulLaws.{length-found_from}
use Rattle.found_log.specs.Found.{IsDiskLog}
use Rattle.machine_state.specs.Opened.{IsOpenable}
use Rattle.machine_state.specs.Sound.{IsSetup}
use Rattle.machine_state.specs.Words.{Opening, found_end, found_position}
use Rattle.machine_laws.specs.WholeOrders.{LiesBehind}
use Rattle.wal_rule.specs.Founded.{found_log_opening}
use Rattle.wal_rule.specs.Tables.{began_of_table}
use Rattle.wal_rule.specs.declared.pass.Pass.{Pass}
use Rattle.wal_log.specs.Logs.{opening_of_log, table_of}
use Rattle.wal_log.specs.Reopening.{IsReopened}
use Rattle.wal_log.specs.declared.reopening.Found.{Found}
use Rattle.wal_log.specs.declared.wal.Wal.{Wal}
use Rattle.run_script.specs.Asked.{AskedLine}
use Rattle.run_laws.specs.Crash.{IsFrontWithTold}
use Rattle.run_laws.specs.Told.{entries_from, order_from}
use Rattle.run_laws.specs.declared.told.Told.{Told}
use Rattle.run_laws.proofs.Orders.{sorted_permutes}
use Rattle.run_laws.specs.Ended.{logged_at_end}
use Rattle.run_laws.specs.Assured.{AssuresBehind, HoldsSuited, RunAssures, TapeGoesOn}
use Rattle.reopened_log_laws.specs.FoundFirst.{AreFoundEntries}
use Rattle.reopened_log_laws.specs.Reopened.{IsReopenedOn}
use Rattle.reopened_log_laws.specs.WasLeft.{WasLeft}
use Rattle.reopened_log_laws.proofs.FoundPlaces.{found_entries_are_one, found_places_lie_behind}
use Rattle.reopened_log_laws.proofs.StoppedCrashes.{settled_logs_keep_what_was_found}
use Rattle.reopened_log_laws.specs.AnyLogs.{HoldsSegments}
use Rattle.reopened_log_laws.proofs.AnyLogs.{found_logs_are_suited}
use Rattle.reopened_log_laws.proofs.SuitedDisks.{reopened_logs_are_suited}
use Rattle.reopened_log_laws.proofs.Surviving.{reopened_logs_survive_crashes}
use Rattle.run_backends.specs.Backends.{lists_of}
use Rattle.cli_line.specs.declared.commands.RunOptions.{RunOptions}
use Rattle.cli_line.specs.declared.commands.ScriptRunOptions.{ScriptRunOptions}
use Rattle.backend_cli.specs.Appending.{AppendHeadline, AppendHolds, CrashSinceHanded, HoldsAppended, MayGoOn, WasLeftSo}
use Rattle.backend_cli.specs.Concluding.{HasPlayedOut, IsConcluded}
use Rattle.backend_cli.specs.Outside.{SourceView, Took, outside_of}
use Rattle.backend_cli.specs.Printing.{found_line, printed_text}
use Rattle.backend_cli.specs.Setups.{run_setup, system_id}
use Rattle.backend_cli.specs.Reading.{ScriptMeans}
use Rattle.backend_cli.specs.Texts.{append_text, found_text, position_behind_found, run_text}
use Rattle.backend_cli.specs.declared.outcome.Outcome.{Outcome}
use Rattle.backend_cli.proofs.FoundPlaces.{LiesBehindLeft}
use Rattle.backend_cli.proofs.HeadlineLaws.{answers_script}
use Rattle.backend_cli.proofs.RunBackends.{append_told_holds}
use Rattle.backend_cli.proofs.RunEnds.{took}
use Rattle.backend_cli.proofs.RunLaws.{assured, assured_behind, counted, goes_on_further, holds_behind, holds_since}
use Rattle.backend_cli.proofs.RunTexts.{text_is}

-- ---- tapes behind calls that were made

tape_behind : (old new : Option Tape) (m n : ℕ) (calls : List Call) → AreMade old new m n calls
    → TapeGoesOn old new
tape_behind None new m n calls made = made.tape ∙ with_calls-none calls
tape_behind (Some t) new m n calls made = (calls, made.tape ∙ with_calls-some t calls)

counted_behind : (old new : Option Tape) (m n : ℕ) (calls : List Call) → AreMade old new m n calls
    → IfSome old (λ t. m ≡ length t.calls) → IfSome new (λ t. n ≡ length t.calls)
counted_behind None new m n calls made counted =
    subst (λ (o : Option Tape). IfSome o (λ t. n ≡ length t.calls))
    (sym (made.tape ∙ with_calls-none calls)) tt
counted_behind (Some t) new m n calls made counted =
    subst (λ (o : Option Tape). IfSome o (λ t. n ≡ length t.calls))
    (sym (made.tape ∙ with_calls-some t calls))
    (omega (arith, made.moment, counted, length-append t.calls calls))

-- ---- what was found is what the reader finds

finds_all : (size cap made : ℕ) (records : List FoundRecord) (place : LogPlace)
    → IsSegmentSize size → (o : Option Tape) → IfSome o (IsDiskLog size cap records place made)
    → IfSome o (λ t. FindsRecords size (log_of t size) size records)
finds_all size cap made records place valid None is = is
finds_all size cap made records place valid (Some t) is =
    (finding_is_decoding size (image_as_read (state_now t)) size valid records).1
    ((is.ends).answer, (is.ends).decodes)

found_text_is : (size : ℕ) (records : List FoundRecord) (found : Found)
    → found.count ≡ length records → found.end.0 ≡ end_behind size records
    → found_line found ≡ found_text size records
found_text_is size records found count end =
    ap₂ (λ (n at : ℕ). joined (codes "found " ∷ decimal n ∷ codes " end " ∷ lsn_text at ∷
    codes "\n" ∷ [])) count end

-- ---- a log that was reopened

module _ {D : Type 0} (tape : D → Option Tape) (moment faults : D → ℕ) (disk : D) (wal : Wal D)
    (first : Pass) (found : Found) (options : RunOptions)
    (script : List (List AskedLine))
    (opened : IsReopened tape moment faults (run_setup options (length script)) disk wal first
    found)
    (counts : IfSome (tape disk) (λ t. moment disk ≡ length t.calls)) where
  abbrev size : ℕ
  size = options.geometry

  abbrev began : Option Tape
  began = began_of_table tape (table_of wal)

  abbrev at : ℕ
  at = (opening_of_log wal).moment

  abbrev opening : Opening
  opening = found_log_opening (run_setup options (length script)) opened.place opened.made at
      (faults disk)

  ends_there : found.end.0 ≡ found_end opening
  ends_there = sym opened.goes_on_at

  -- where it ended, and how many calls the disk had counted when it was opened
  pub reopened_end : found.end.0 ≡ found_end (opening_of_log wal)
  reopened_end = ends_there ∙ sym (ap (λ (o : Opening). found_end o) opened.opening)

  pub reopened_counted : IfSome began (λ t. (opening_of_log wal).moment ≡ length t.calls)
  reopened_counted = counted_behind (tape disk) began (moment disk) at
      ((opened.settled).calls).calls ((opened.settled).calls).made counts

  openable : IsOpenable opening
  openable = subst IsOpenable opened.opening opened.openable

  settled_to : (end : ℕ) → found.end.0 ≡ end
      → HasSettled size end opened.made (tape disk) began (moment disk) at
  settled_to end end_is = subst (λ (n : ℕ). HasSettled options.geometry n opened.made (tape disk)
      (began_of_table tape (table_of wal)) (moment disk) (opening_of_log wal).moment)
      end_is opened.settled

  settled : HasSettled size (found_end opening) opened.made (tape disk) began (moment disk) at
  settled = settled_to (found_end opening) ends_there

  goes_on_from : TapeGoesOn (tape disk) began
  goes_on_from = tape_behind (tape disk) began (moment disk) at
      ((opened.settled).calls).calls ((opened.settled).calls).made

  -- ---- on a disk that this program left

  module _ (t : Tape) (told : tape disk ≡ Some t) (records : List FoundRecord)
      (left : WasLeft size system_id t records) where
    -- the log goes on behind what that left
    placed : LiesBehindLeft opening t records opened.records
    placed = found_places_lie_behind opening options.cap_segments opened.made t records
        opened.records left openable.placed (opened.goes_on_at ∙ opened.end_is) opened.prev_is
        (subst (λ (o : Option Tape). IfSome o (IsDiskLog options.geometry options.cap_segments
        opened.records opened.place opened.made)) told opened.read)

    -- there is one list of its entries
    same_front : (front : List Entry) → AreFoundEntries size t front → placed.0 ≡ front
    same_front front below = found_entries_are_one options.geometry system_id t records placed.0
        front left placed.1 below

    abbrev on_disk : (b : Tape) → began ≡ Some b → (front : List Entry)
        → LiesBehind opening front → found_of size front ≡ records
        → IsReopenedOn opening front (moment disk) t b records
    on_disk b begun front lies found_is = record {
      left = left;
      counted = subst (λ (o : Option Tape). IfSome o (λ u. moment disk ≡ length u.calls)) told
          counts;
      openable = openable;
      lies = lies;
      found_is = found_is;
      settled = subst (λ (o : Option Tape). HasSettled options.geometry
          (found_end (found_log_opening (run_setup options (length script)) opened.place
          opened.made (opening_of_log wal).moment (faults disk))) opened.made (Some t) o
          (moment disk) (opening_of_log wal).moment) begun
          (subst (λ (o : Option Tape). HasSettled options.geometry
          (found_end (found_log_opening (run_setup options (length script)) opened.place
          opened.made (opening_of_log wal).moment (faults disk))) opened.made o
          (began_of_table tape (table_of wal)) (moment disk) (opening_of_log wal).moment) told
          settled);
    }

  -- up to the opening the reader finds just what was found, from the end of the first syncs on
  keeps_all : IsSegmentSize size → (m : ℕ) (records : List FoundRecord)
      → CrashSinceHanded size (moment disk) [] (tape disk) began m records
      → moment disk + opened.made ≤ m → records ≡ opened.records
  keeps_all valid m records c after =
      let decodes = (finding_is_decoding options.geometry c.image options.geometry valid
      records).0 c.finds in
      let lies = placed c.old c.told_before c.found_before c.was_left in
      settled_logs_keep_what_was_found opening lies.0 (moment disk) c.old c.tape c.found_before
      (on_disk c.old c.told_before c.found_before c.was_left c.tape c.disk_tells lies.0 lies.2
      lies.3) m c.image after c.left c.no_torn_pass_before records decodes.0 decodes.1 ∙ sym lies.4

  suited_from : (old now : Option Tape) → tape disk ≡ old → began ≡ now → TapeGoesOn old now
      → WasLeftSo size old → HoldsSuited opening now
  suited_from None now told begun goes_on left =
      subst (HoldsSuited opening) (sym goes_on) tt
  suited_from (Some t) None told begun goes_on left = tt
  suited_from (Some t) (Some b) told begun goes_on left =
      let lies = placed t told left.0 left.1 in
      reopened_logs_are_suited opening lies.0 (moment disk) t b left.0
      (on_disk t told left.0 left.1 b begun lies.0 lies.2 lies.3)

  -- .. and on one of pages of bytes, whoever wrote them
  suited_any : (old now : Option Tape) → tape disk ≡ old → began ≡ now → TapeGoesOn old now
      → IfSome old (HoldsSegments options.geometry opened.made) → HoldsSuited opening now
  suited_any None now told begun goes_on holds = subst (HoldsSuited opening) (sym goes_on) tt
  suited_any (Some t) None told begun goes_on holds = tt
  suited_any (Some t) (Some b) told begun goes_on holds =
      found_logs_are_suited opening options.cap_segments (moment disk) opened.records t b
      (openable.setup_is).size
      (subst (λ (o : Option Tape). IfSome o (IsDiskLog options.geometry options.cap_segments
      opened.records opened.place opened.made)) told opened.read) holds
      (subst (λ (o : Option Tape). HasSettled options.geometry
      (found_end (found_log_opening (run_setup options (length script)) opened.place
      opened.made (opening_of_log wal).moment (faults disk))) opened.made (Some t) o
      (moment disk) (opening_of_log wal).moment) begun
      (subst (λ (o : Option Tape). HasSettled options.geometry
      (found_end (found_log_opening (run_setup options (length script)) opened.place
      opened.made (opening_of_log wal).moment (faults disk))) opened.made o
      (began_of_table tape (table_of wal)) (moment disk) (opening_of_log wal).moment) told
      settled))

  suited : MayGoOn size opened.made (tape disk) → HoldsSuited opening began
  suited (inl left) = suited_from (tape disk) began refl refl goes_on_from left
  suited (inr holds) = suited_any (tape disk) began refl refl goes_on_from holds

  -- ---- and what a run made of it

  module _ (can_be : IsSetup (run_setup options (length script))) (some : 0 < length script)
      {O : Type 0} (sunk : O → Option (List ℕ))
      (sink_faults : O → ℕ) (out out_now : O) (before after : SourceView) (outcome : Outcome)
      (disk_now : D) (lists_now : List (List Told)) (begun : Result (Unit {0}) SinkFault)
      (taken_between : Option (List ℕ)) (sink_between : ℕ)
      (puts : Puts (sunk out) taken_between (sink_faults out) sink_between (found_line found) begun)
      (played_out : HasPlayedOut tape moment faults wal options script begun taken_between
      (sunk out_now) sink_between (sink_faults out_now) outcome disk_now lists_now) where
    abbrev lists : List (List Told)
    lists = lists_of played_out.backends

    abbrev reserved : List Entry
    reserved = order_from size 1 script lists

    concluded : IsConcluded size (found_position opening) (rooms_of size reserved) options.list
        (found_line found) played_out.backends (played_out.closed).down (sunk out) (sunk out_now)
        (sink_faults out) (sink_faults out_now) outcome
    concluded =
        subst (λ (o : Opening). IsConcluded options.geometry (found_position o)
        (rooms_of options.geometry
        (order_from options.geometry 1 script (lists_of played_out.backends))) options.list
        (found_line found) played_out.backends (played_out.closed).down (sunk out) (sunk out_now)
        (sink_faults out) (sink_faults out_now) outcome) opened.opening
        (played_out.concluded (sunk out) (sink_faults out) (found_line found) puts)

    all : RunAssures opening began (tape (played_out.closed).disk)
        (moment (played_out.closed).disk) (faults (played_out.closed).disk) script lists
    all = assured tape moment faults wal began opening opened.opening refl (omega arith)
        reopened_counted script played_out.backends played_out.closed played_out.played

    behind : (front : List Entry) → LiesBehind opening front
        → AssuresBehind opening front began (tape (played_out.closed).disk) script lists
    behind = assured_behind tape moment faults wal began opening opened.opening refl (omega arith)
        reopened_counted script played_out.backends played_out.closed played_out.played

    goes_on : TapeGoesOn (tape disk) (tape (played_out.closed).disk)
    goes_on = goes_on_further (tape disk) began (tape (played_out.closed).disk) goes_on_from
        all.goes_on

    valid : IsSegmentSize size
    valid = can_be.size

    -- the place's position is the one behind what was found
    position_is : found_position opening ≡ position_behind_found size opened.records
    position_is =
        sym (position_of-end_address_of options.geometry valid (found_position opening))
        ∙ ap (position_of options.geometry) (opened.goes_on_at ∙ opened.end_is)

    text : found_line found ++ printed_text options.list played_out.backends concluded.summary
        ≡ append_text size options.list opened.records script lists reserved
    text = ap₂ (λ (front rest : List ℕ). front ++ rest)
        (found_text_is options.geometry opened.records found opened.count_is opened.end_is)
        (text_is options.geometry options.list script played_out.backends (found_position opening)
        (order_from options.geometry 1 script (lists_of played_out.backends)) concluded.summary
        (played_out.played).each concluded.summarizes
        (counted tape moment faults wal began opening opened.opening refl (omega arith)
        reopened_counted script played_out.backends played_out.closed played_out.played)
        ∙ ap (λ (from : ℕ). run_text options.geometry options.list from script
        (lists_of played_out.backends)
        (order_from options.geometry 1 script (lists_of played_out.backends))) position_is)

    -- what crashes leave since the disk was handed in
    survives : (front : List Entry) (m : ℕ) (records : List FoundRecord)
        → (c : CrashSinceHanded size (moment disk) (front ++ reserved) (tape disk)
        (tape (played_out.closed).disk) m records) → AreFoundEntries size c.old front
        → IsFrontWithTold size m (front ++ reserved) lists records
        × (moment disk + opened.made ≤ m
        → take (length opened.records) records ≡ opened.records)
    survives front m records c below =
        let goes = subst (λ (o : Option Tape). TapeGoesOn o
        (began_of_table tape (table_of wal))) c.told_before goes_on_from in
        let b : Tape = record c.old { calls = c.old.calls ++ goes.0 } in
        let lies = placed c.old c.told_before c.found_before c.was_left in
        let same = same_front c.old c.told_before c.found_before c.was_left front below in
        let lies_there = subst (LiesBehind opening) same lies.2 in
        let found_is = subst (λ (es : List Entry). found_of options.geometry es ≡ c.found_before)
        same lies.3 in
        let there = on_disk c.old c.told_before c.found_before c.was_left b goes.1 front lies_there
        found_is in
        let told = subst (λ (o : Option Tape). RunAssures opening (Some b) o
        (moment (played_out.closed).disk) (faults (played_out.closed).disk) script
        (lists_of played_out.backends)) c.disk_tells
        (subst (λ (o : Option Tape). RunAssures opening o (tape (played_out.closed).disk)
        (moment (played_out.closed).disk) (faults (played_out.closed).disk) script
        (lists_of played_out.backends)) goes.1 all) in
        let told_behind = subst (λ (o : Option Tape). AssuresBehind opening front (Some b) o script
        (lists_of played_out.backends)) c.disk_tells
        (subst (λ (o : Option Tape). AssuresBehind opening front o
        (tape (played_out.closed).disk) script (lists_of played_out.backends)) goes.1
        (behind front lies_there)) in
        let decodes = (finding_is_decoding options.geometry c.image options.geometry valid
        records).0 c.finds in
        let survive = reopened_logs_survive_crashes opening front (moment disk)
        (moment (played_out.closed).disk) (faults (played_out.closed).disk) c.old b c.tape
        c.found_before script (lists_of played_out.backends) there told told_behind m c.image
        c.since_handed c.left c.no_torn_pass_before c.no_torn_pass records decodes.0 decodes.1 in
        let counted = length-found_from options.geometry 0 front in (
          survive.0,
          λ late.
              subst (λ (l : List FoundRecord). take (length l) records ≡ l)
              (found_is ∙ sym lies.4)
              (ap (λ (n : ℕ). take n records) counted ∙ survive.1 late),
        )

    -- .. and what lies below, where this program left the disk
    whole : (t : Tape) (records : List FoundRecord) → tape disk ≡ Some t
        → WasLeft size system_id t records
        → (front : List Entry) × AreFoundEntries size t front
        × (found_of size front ≡ opened.records)
        × FollowsFrom size (first_position size) (front ++ reserved)
    whole t records told left =
        let lies = placed t told records left in
        (lies.0, lies.1, lies.3 ∙ sym lies.4, (behind lies.0 lies.2).gapless)

    abbrev headline : AppendHeadline size (moment disk) script lists (tape disk)
        (tape (played_out.closed).disk)
    headline =
        let logged = logged_at_end opening
        (order_from options.geometry 1 script (lists_of played_out.backends))
        (faults (played_out.closed).disk) in
        record {
          sized = valid;
          receipts = answers_script logged 1 script (lists_of played_out.backends) all.told;
          found = opened.records;
          read = finds_all options.geometry options.cap_segments opened.made opened.records
              opened.place valid (tape disk) opened.read;
          order = order_from options.geometry 1 script (lists_of played_out.backends);
          reserved = sorted_permutes
              (entries_from options.geometry 1 script (lists_of played_out.backends));
          gapless = subst (λ (from : ℕ). FollowsFrom options.geometry from
              (order_from options.geometry 1 script (lists_of played_out.backends))) position_is
              all.gapless;
          in_line_order = all.in_line_order;
          whole = whole;
          crash = λ front m records c below. (survives front m records c below).0;
          segments = opened.made;
          there = (opened.settled).there;
          keeps_found = λ front m records c below. (survives front m records c below).1;
        }

    holds : HoldsAppended (outside_of before after tape moment faults disk
        (played_out.closed).disk sunk sink_faults out out_now) options outcome script lists
    holds =
        let printed = found_line found
        ++ printed_text options.list played_out.backends concluded.summary in
        record {
          headline = headline;
          place = opened.place;
          ends_there = opened.goes_on_at ∙ opened.end_is;
          prev_is = opened.prev_is;
          judged = opened.read;
          within = openable.made_within;
          began = began;
          moment = at;
          settled = settled_to (end_behind options.geometry opened.records) opened.end_is;
          openable = openable;
          goes_on = all.goes_on;
          keeps_all = keeps_all valid;
          since = holds_since tape moment faults wal began opening opened.opening refl
              (omega arith) reopened_counted script played_out.backends played_out.closed
              played_out.played sunk sink_faults out out_now before after disk refl
              (MayGoOn options.geometry opened.made (tape disk)) suited goes_on outcome
              (found_position opening)
              (rooms_of options.geometry
              (order_from options.geometry 1 script (lists_of played_out.backends))) options.list
              (found_line found) concluded;
          behind = holds_behind tape moment faults wal began opening opened.opening refl
              (omega arith) reopened_counted script played_out.backends played_out.closed
              played_out.played sunk sink_faults out out_now before after disk refl
              (MayGoOn options.geometry opened.made (tape disk)) suited;
          printed = subst
              (Took (sunk out) (sunk out_now) (sink_faults out) (sink_faults out_now)) text
              (took (sunk out) (sunk out_now) (sink_faults out) (sink_faults out_now) printed
              concluded.printed concluded.puts);
        }

    pub reopened_plays : (asked : ScriptRunOptions) → asked.run ≡ options
        → ScriptMeans asked.writer before after (Ok script)
        → AppendHolds (outside_of before after tape moment faults disk disk_now sunk sink_faults
        out out_now) asked outcome lists_now
    reopened_plays asked asked_is means =
        subst (λ (d : D). AppendHolds (outside_of before after tape moment faults disk d sunk
        sink_faults out out_now) asked outcome lists_now) (sym played_out.disk_is)
        (subst (AppendHolds (outside_of before after tape moment faults disk
        (played_out.closed).disk sunk sink_faults out out_now) asked outcome)
        (sym played_out.lists_are)
        (append_told_holds (outside_of before after tape moment faults disk
        (played_out.closed).disk sunk sink_faults out out_now) asked outcome script
        played_out.backends some (played_out.played).each means
        (subst (λ (o : RunOptions). HoldsAppended (outside_of before after tape moment faults disk
        (played_out.closed).disk sunk sink_faults out out_now) o outcome script
        (lists_of played_out.backends)) (sym asked_is) holds)))

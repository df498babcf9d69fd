-- The headline, of the disk of a run and of the call.
use Rattle.std.proofs.Common.{◌≡◌, ℕ, ◌+◌, List, [], ◌∷◌, Option, Some, None, subst}
use Rattle.std.specs.Prelude.{IfSome}
use Rattle.segment_disk.specs.Tape.{Tape}
use Rattle.wal_types.specs.declared.answers.Cause.{Cause}
use Rattle.wal_types.specs.declared.answers.Cause.TheVariants.{Full, Disk, Down}
use Rattle.wal_types.specs.declared.lsn.Lsn.{Lsn}
use Rattle.wal_types.specs.declared.record.Record.{Record}
use Rattle.wal_spelling.specs.Record.{switch_record}
use Rattle.flush_core.specs.Pages.{HoldsNothing}
use Rattle.byte_position.specs.Geometry.{IsSegmentSize}
use Rattle.byte_position.specs.Position.{address_of, first_position, position_of}
use Rattle.wal_page.specs.Order.{IsChained}
use Rattle.wal_reader.specs.declared.found.FoundRecord.{FoundRecord}
use Rattle.wal_reader.proofs.FindsLaws.{finding_is_decoding}
use Rattle.run_script.specs.Asked.{Asked, AskedLine, Commit, CommitAsync, Flush, Insert, Switch, WriteBehind}
use Rattle.run_laws.specs.declared.told.Told.{Told}
use Rattle.run_laws.specs.declared.told.Told.TheVariants.{Wrote, Hard, Flushed, Async, Idle, Switched, Stayed, Refused}
use Rattle.run_laws.specs.Crash.{IsFrontWithTold, SurvivesCrashes}
use Rattle.run_laws.specs.Told.{FitsLine, Logged, MayRefuseFlush, MayRefuseRecord, RiseInLineOrder, TellsAll, TellsFrom, behind_or, entries_from, entry_of, order_from}
use Rattle.run_laws.proofs.Orders.{sorted_permutes}
use Rattle.backend_cli.specs.Headline.{AnswersLines, AnswersScript, FoundAfterCrash, Headline, NamesOwnPlace}

-- ---- receipts

-- a start that a refused record has is an address at which a record can start
record_refused : (logged : Logged) (pass behind : ℕ) (value : Record) (cause : Cause)
    (reserved : Option Lsn) → MayRefuseRecord logged pass behind value cause reserved
    → IfSome reserved
    (λ start. start.0 ≡ address_of logged.size (position_of logged.size start.0))
record_refused logged pass behind value (Full free) None refused = tt
record_refused logged pass behind value (Full free) (Some start) refused = absurd refused
record_refused logged pass behind value (Disk faults) None refused = tt
record_refused logged pass behind value (Disk faults) (Some start) refused = refused.1
record_refused logged pass behind value (Down faults) None refused = tt
record_refused logged pass behind value (Down faults) (Some start) refused = refused.1

flush_refused : (logged : Logged) (cause : Cause) (reserved : Option Lsn)
    → MayRefuseFlush logged cause reserved
    → IfSome reserved
    (λ start. start.0 ≡ address_of logged.size (position_of logged.size start.0))
flush_refused logged (Full free) reserved refused = absurd refused
flush_refused logged (Disk faults) None refused = tt
flush_refused logged (Disk faults) (Some start) refused =
    let none : Some start ≡ None = refused.1 in cc
flush_refused logged (Down faults) None refused = tt
flush_refused logged (Down faults) (Some start) refused =
    let none : Some start ≡ None = refused.1 in cc

-- what a line may be told names its own record's place, where it is a receipt
own_place : (logged : Logged) (pass behind : ℕ) (asked : Asked) (told : Told)
    → FitsLine logged pass behind asked told → NamesOwnPlace logged.size asked told
own_place logged pass behind (Insert value) (Wrote start end) fits = fits
own_place logged pass behind (Insert value) (Hard start end moment) fits = fits
own_place logged pass behind (Insert value) (Flushed upto moment) fits = fits
own_place logged pass behind (Insert value) (Async start end) fits = fits
own_place logged pass behind (Insert value) (Idle upto) fits = fits
own_place logged pass behind (Insert value) (Switched start end) fits = fits
own_place logged pass behind (Insert value) (Stayed end) fits = fits
own_place logged pass behind (Insert value) (Refused cause reserved) fits =
    record_refused logged pass behind value cause reserved fits
own_place logged pass behind (Commit value) (Wrote start end) fits = fits
own_place logged pass behind (Commit value) (Hard start end moment) fits = fits
own_place logged pass behind (Commit value) (Flushed upto moment) fits = fits
own_place logged pass behind (Commit value) (Async start end) fits = fits
own_place logged pass behind (Commit value) (Idle upto) fits = fits
own_place logged pass behind (Commit value) (Switched start end) fits = fits
own_place logged pass behind (Commit value) (Stayed end) fits = fits
own_place logged pass behind (Commit value) (Refused cause reserved) fits =
    record_refused logged pass behind value cause reserved fits
own_place logged pass behind Flush (Wrote start end) fits = fits
own_place logged pass behind Flush (Hard start end moment) fits = fits
own_place logged pass behind Flush (Flushed upto moment) fits = tt
own_place logged pass behind Flush (Async start end) fits = fits
own_place logged pass behind Flush (Idle upto) fits = fits
own_place logged pass behind Flush (Switched start end) fits = fits
own_place logged pass behind Flush (Stayed end) fits = fits
own_place logged pass behind Flush (Refused cause reserved) fits =
    flush_refused logged cause reserved fits
own_place logged pass behind (CommitAsync value) (Wrote start end) fits = fits
own_place logged pass behind (CommitAsync value) (Hard start end moment) fits = fits
own_place logged pass behind (CommitAsync value) (Flushed upto moment) fits = fits
own_place logged pass behind (CommitAsync value) (Async start end) fits = fits
own_place logged pass behind (CommitAsync value) (Idle upto) fits = fits
own_place logged pass behind (CommitAsync value) (Switched start end) fits = fits
own_place logged pass behind (CommitAsync value) (Stayed end) fits = fits
own_place logged pass behind (CommitAsync value) (Refused cause reserved) fits =
    record_refused logged pass behind value cause reserved fits
own_place logged pass behind WriteBehind (Wrote start end) fits = fits
own_place logged pass behind WriteBehind (Hard start end moment) fits = fits
own_place logged pass behind WriteBehind (Flushed upto moment) fits = tt
own_place logged pass behind WriteBehind (Async start end) fits = fits
own_place logged pass behind WriteBehind (Idle upto) fits = tt
own_place logged pass behind WriteBehind (Switched start end) fits = fits
own_place logged pass behind WriteBehind (Stayed end) fits = fits
own_place logged pass behind WriteBehind (Refused cause reserved) fits =
    flush_refused logged cause reserved fits
own_place logged pass behind Switch (Wrote start end) fits = fits
own_place logged pass behind Switch (Hard start end moment) fits = fits
own_place logged pass behind Switch (Flushed upto moment) fits = fits
own_place logged pass behind Switch (Async start end) fits = fits
own_place logged pass behind Switch (Idle upto) fits = fits
own_place logged pass behind Switch (Switched start end) fits = fits
own_place logged pass behind Switch (Stayed end) fits = tt
own_place logged pass behind Switch (Refused cause reserved) fits =
    record_refused logged pass behind switch_record cause reserved fits.0

answers_lines : (logged : Logged) (pass behind : ℕ) (lines : List AskedLine) (told : List Told)
    → TellsFrom logged pass behind lines told → AnswersLines logged.size lines told
answers_lines logged pass behind [] [] tells = tt
answers_lines logged pass behind [] (told ∷ others) tells = absurd tells
answers_lines logged pass behind (line ∷ lines) [] tells = absurd tells
answers_lines logged pass behind (line ∷ lines) (told ∷ others) tells = (
  own_place logged pass behind line.asked told tells.0,
  answers_lines logged pass
      (behind_or logged.size behind (entry_of logged.size pass line.asked told)) lines others
      tells.1,
)

pub answers_script : (logged : Logged) (pass : ℕ) (script : List (List AskedLine))
    (lists : List (List Told)) → TellsAll logged pass script lists
    → AnswersScript logged.size script lists
answers_script logged pass [] [] tells = tt
answers_script logged pass [] (told ∷ others) tells = absurd tells
answers_script logged pass (lines ∷ script) [] tells = absurd tells
answers_script logged pass (lines ∷ script) (told ∷ others) tells = (
  answers_lines logged pass (first_position logged.size) lines told tells.0,
  answers_script logged (pass + 1) script others tells.1,
)

-- ---- of the disk of a run

module _ (size opening : ℕ) (valid : IsSegmentSize size) (script : List (List AskedLine))
    (told : List (List Told)) (before after : Option Tape) where
  -- what survives crashes for each answer of the reader survives them for what it finds
  found_after_crash : (HoldsNothing before → IfSome after
      (SurvivesCrashes size opening (order_from size 1 script told) told))
      → (moment : ℕ) (found : List FoundRecord)
      → FoundAfterCrash size opening (order_from size 1 script told) before after moment found
      → IsFrontWithTold size moment (order_from size 1 script told) told found
  found_after_crash survives moment found c =
      let here : SurvivesCrashes size opening (order_from size 1 script told) told c.tape =
      subst (λ (tape : Option Tape). IfSome tape
      (SurvivesCrashes size opening (order_from size 1 script told) told)) c.disk_tells
      (survives c.starts_empty) in
      let decodes = (finding_is_decoding size c.image size valid found).0 c.finds in
      here moment c.image c.since_opening c.left c.no_torn_pass found decodes.0 decodes.1

  pub headline_of_run : AnswersScript size script told
      → IsChained size (order_from size 1 script told)
      → RiseInLineOrder size 1 script told
      → (HoldsNothing before → IfSome after
      (SurvivesCrashes size opening (order_from size 1 script told) told))
      → Headline size opening script told before after
  headline_of_run receipts gapless in_line_order survives = record {
    sized = valid;
    receipts = receipts;
    order = order_from size 1 script told;
    reserved = sorted_permutes (entries_from size 1 script told);
    gapless = gapless;
    in_line_order = in_line_order;
    crash = found_after_crash survives;
  }

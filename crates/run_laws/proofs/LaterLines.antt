-- What a line adds to its pass's log, and what its pass knows then, stays behind later lines.
use Rattle.std.proofs.Common.{◌≡◌, ℕ, ◌≤◌, All, List, [], ◌∷◌, Option, Some, None, ap, subst, sym, arith}
use Rattle.wal_spelling.specs.Record.{switch_record}
use Rattle.wal_types.specs.declared.answers.Cause.{Cause}
use Rattle.wal_types.specs.declared.answers.Cause.TheVariants.{Full, Disk, Down}
use Rattle.wal_types.specs.declared.lsn.Lsn.{Lsn}
use Rattle.wal_types.specs.declared.record.Record.{Record}
use Rattle.run_script.specs.Asked.{Asked, AskedLine, Insert, Commit, Flush, CommitAsync, WriteBehind, Switch}
use Rattle.machine_state.specs.Views.{AtSegmentStart, FlushPromise, LogFull, Stop, StopCause}
use Rattle.run_laws.specs.declared.told.Told.{Told}
use Rattle.run_laws.specs.declared.told.Told.TheVariants.{Wrote, Hard, Flushed, Async, Idle, Switched, Stayed, Refused}
use Rattle.run_laws.proofs.AllLaws.{parts_all}
use Rattle.machine_state.specs.PassLogs.{PassLog, log_with_promise, log_with_stop}
use Rattle.run_laws.specs.Played.{KnowsFault, Leaves, PassState, PlaysLines, RefusesRecordLine, Reserves}
use Rattle.run_laws.proofs.LineFaults.{down_known}

module _ (size limit pass : ℕ) where
  pub lines_know : (faults : ℕ) (lines : List AskedLine) (told : List Told)
      (before after : PassState) → PlaysLines size limit pass before lines told after
      → KnowsFault faults before → KnowsFault faults after
  lines_know faults [] [] before after plays knows = subst (KnowsFault faults) (sym plays) knows
  lines_know faults [] (answer ∷ told) before after plays knows = absurd plays
  lines_know faults (line ∷ lines) [] before after plays knows = absurd plays
  lines_know faults (line ∷ lines) (answer ∷ told) before after plays knows =
      lines_know faults lines told plays.0 after plays.2
      (down_known size limit pass line.asked faults before plays.0
      (subst (λ (t : Told). Leaves size limit pass line.asked t before plays.0)
      ((plays.1).again faults knows) (plays.1).leaves))

  pub lines_see : (lines : List AskedLine) (told : List Told) (before after : PassState)
      → PlaysLines size limit pass before lines told after → before.seen ≤ after.seen
  lines_see [] [] before after plays = omega (arith, ap (λ (s : PassState). s.seen) plays)
  lines_see [] (answer ∷ told) before after plays = absurd plays
  lines_see (line ∷ lines) [] before after plays = absurd plays
  lines_see (line ∷ lines) (answer ∷ told) before after plays =
      omega (arith, (plays.1).sees, lines_see lines told plays.0 after plays.2)

  module _ (P : Stop → Type 0) (Q : FlushPromise → Type 0) where
    -- this holds of each place at which the pass stopped, and that of each promise
    abbrev pub Held : PassLog → Type 0
    Held l = All P l.stops × All Q l.promises

    held_reserving : (value : Record) (start : ℕ) (before after : PassLog)
        → Reserves size limit pass value start before after → Held after → Held before
    held_reserving value start before after r held = subst Held r.log_is held

    held_stopping : (stop : StopCause) (at : ℕ) (before after : PassLog)
        → after ≡ log_with_stop stop at before → Held after → Held before
    held_stopping stop at before after log_is held =
        let h = subst Held log_is held in
        ((parts_all P before.stops _ h.0).0, h.1)

    held_promising : (upto moment : ℕ) (before after : PassLog)
        → after ≡ log_with_promise upto moment before → Held after → Held before
    held_promising upto moment before after log_is held =
        let h = subst Held log_is held in
        (h.0, (parts_all Q before.promises _ h.1).0)

    held_refused : (value : Record) (cause : Cause) (reserved : Option Lsn)
        (before after : PassState)
        → RefusesRecordLine size limit pass value cause reserved before after
        → Held after.log → Held before.log
    held_refused value (Full free) None before after l held =
        held_stopping LogFull l.at before.log after.log l.log_is held
    held_refused value (Full free) (Some start) before after l held = absurd l
    held_refused value (Disk faults) None before after l held = absurd l
    held_refused value (Disk faults) (Some start) before after l held =
        held_reserving value start.0 before.log after.log l.0 held
    held_refused value (Down faults) None before after l held = subst Held l.0 held
    held_refused value (Down faults) (Some start) before after l held =
        held_reserving value start.0 before.log after.log l.0 held

    pub line_held : (asked : Asked) (told : Told) (before after : PassState)
        → Leaves size limit pass asked told before after → Held after.log → Held before.log
    line_held (Insert value) (Wrote start end) before after l held =
        held_reserving value start.0 before.log after.log l.reserved held
    line_held (Insert value) (Hard start end moment) before after l held = absurd l
    line_held (Insert value) (Flushed upto moment) before after l held = absurd l
    line_held (Insert value) (Async start end) before after l held = absurd l
    line_held (Insert value) (Idle upto) before after l held = absurd l
    line_held (Insert value) (Switched start end) before after l held = absurd l
    line_held (Insert value) (Stayed end) before after l held = absurd l
    line_held (Insert value) (Refused cause reserved) before after l held =
        held_refused value cause reserved before after l held
    line_held (Commit value) (Wrote start end) before after l held = absurd l
    line_held (Commit value) (Hard start end moment) before after l held =
        held_reserving value start.0 before.log l.between (l.reserved).reserved
        (held_promising l.upto moment l.between after.log (l.promised).log_is held)
    line_held (Commit value) (Flushed upto moment) before after l held = absurd l
    line_held (Commit value) (Async start end) before after l held = absurd l
    line_held (Commit value) (Idle upto) before after l held = absurd l
    line_held (Commit value) (Switched start end) before after l held = absurd l
    line_held (Commit value) (Stayed end) before after l held = absurd l
    line_held (Commit value) (Refused cause reserved) before after l held =
        held_refused value cause reserved before after l held
    line_held Flush (Wrote start end) before after l held = absurd l
    line_held Flush (Hard start end moment) before after l held = absurd l
    line_held Flush (Flushed upto moment) before after l held =
        held_promising upto.0 moment before.log after.log l.log_is held
    line_held Flush (Async start end) before after l held = absurd l
    line_held Flush (Idle upto) before after l held = absurd l
    line_held Flush (Switched start end) before after l held = absurd l
    line_held Flush (Stayed end) before after l held = absurd l
    line_held Flush (Refused (Full free) reserved) before after l held = absurd l
    line_held Flush (Refused (Disk faults) None) before after l held = subst Held l.0 held
    line_held Flush (Refused (Disk faults) (Some start)) before after l held = absurd l
    line_held Flush (Refused (Down faults) None) before after l held = subst Held l.0 held
    line_held Flush (Refused (Down faults) (Some start)) before after l held = absurd l
    line_held (CommitAsync value) (Wrote start end) before after l held = absurd l
    line_held (CommitAsync value) (Hard start end moment) before after l held = absurd l
    line_held (CommitAsync value) (Flushed upto moment) before after l held = absurd l
    line_held (CommitAsync value) (Async start end) before after l held =
        held_reserving value start.0 before.log after.log (l.reserved).reserved held
    line_held (CommitAsync value) (Idle upto) before after l held = absurd l
    line_held (CommitAsync value) (Switched start end) before after l held = absurd l
    line_held (CommitAsync value) (Stayed end) before after l held = absurd l
    line_held (CommitAsync value) (Refused cause reserved) before after l held =
        held_refused value cause reserved before after l held
    line_held WriteBehind (Wrote start end) before after l held = absurd l
    line_held WriteBehind (Hard start end moment) before after l held = absurd l
    line_held WriteBehind (Flushed upto moment) before after l held =
        held_promising upto.0 moment before.log after.log l.log_is held
    line_held WriteBehind (Async start end) before after l held = absurd l
    line_held WriteBehind (Idle upto) before after l held = subst Held l.log_is held
    line_held WriteBehind (Switched start end) before after l held = absurd l
    line_held WriteBehind (Stayed end) before after l held = absurd l
    line_held WriteBehind (Refused (Full free) reserved) before after l held = absurd l
    line_held WriteBehind (Refused (Disk faults) None) before after l held = subst Held l.0 held
    line_held WriteBehind (Refused (Disk faults) (Some start)) before after l held = absurd l
    line_held WriteBehind (Refused (Down faults) None) before after l held = subst Held l.0 held
    line_held WriteBehind (Refused (Down faults) (Some start)) before after l held = absurd l
    line_held Switch (Wrote start end) before after l held = absurd l
    line_held Switch (Hard start end moment) before after l held = absurd l
    line_held Switch (Flushed upto moment) before after l held = absurd l
    line_held Switch (Async start end) before after l held = absurd l
    line_held Switch (Idle upto) before after l held = absurd l
    line_held Switch (Switched start end) before after l held =
        held_reserving switch_record start.0 before.log after.log l.reserved held
    line_held Switch (Stayed end) before after l held =
        held_stopping AtSegmentStart l.at before.log after.log l.log_is held
    line_held Switch (Refused cause reserved) before after l held =
        held_refused switch_record cause reserved before after l.0 held

    pub lines_held : (lines : List AskedLine) (told : List Told) (before after : PassState)
        → PlaysLines size limit pass before lines told after → Held after.log → Held before.log
    lines_held [] [] before after plays held =
        subst (λ (s : PassState). Held s.log) plays held
    lines_held [] (answer ∷ told) before after plays held = absurd plays
    lines_held (line ∷ lines) [] before after plays held = absurd plays
    lines_held (line ∷ lines) (answer ∷ told) before after plays held =
        line_held line.asked answer before plays.0 (plays.1).leaves
        (lines_held lines told plays.0 after plays.2 held)

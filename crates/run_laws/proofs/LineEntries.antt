-- A pass's entries are those that its lines are told.
use Rattle.std.proofs.Common.{◌≡◌, ℕ, List, [], ◌∷◌, ◌++◌, Option, Some, None, option_to_list, sym, ap, ◌∙◌, append_assoc, append-nil}
use Rattle.byte_position.specs.Geometry.{IsSegmentSize}
use Rattle.byte_position.specs.Position.{position_of}
use Rattle.byte_position.proofs.PositionLaws.{position_of-address_of}
use Rattle.wal_spelling.specs.Record.{switch_record}
use Rattle.wal_types.specs.declared.answers.Cause.{Cause}
use Rattle.wal_types.specs.declared.answers.Cause.TheVariants.{Full, Disk, Down}
use Rattle.wal_types.specs.declared.lsn.Lsn.{Lsn}
use Rattle.wal_types.specs.declared.record.Record.{Record}
use Rattle.wal_page.specs.Order.{Entry}
use Rattle.run_script.specs.Asked.{Asked, AskedLine, Insert, Commit, Flush, CommitAsync, WriteBehind, Switch}
use Rattle.run_laws.specs.declared.told.Told.{Told}
use Rattle.run_laws.specs.declared.told.Told.TheVariants.{Wrote, Hard, Flushed, Async, Idle, Switched, Stayed, Refused}
use Rattle.run_laws.specs.Told.{entries_of, entry_at, entry_of}
use Rattle.machine_state.specs.PassLogs.{PassLog}
use Rattle.run_laws.specs.Played.{Leaves, PassState, PlaysLines, RefusesRecordLine, Reserves}

module _ (size limit pass : ℕ) (valid : IsSegmentSize size) where
  -- the log's entries with one more, whose start is told
  reserved_entry : (value : Record) (start : Lsn) (before after : PassLog)
      → Reserves size limit pass value start.0 before after
      → after.entries ≡ before.entries ++ option_to_list (entry_at size pass value (Some start))
  reserved_entry value start before after r =
      let at : position_of size start.0 ≡ r.at =
      ap (position_of size) r.start_is ∙ position_of-address_of size valid r.at in
      ap (λ (l : PassLog). l.entries) r.log_is
      ∙ ap (λ (n : ℕ). before.entries
      ++ (record { pass = Some pass; value = value; start = n }) ∷ []) (sym at)

  -- the same log has no entry more
  same_entries : (before after : PassLog) → after.entries ≡ before.entries
      → after.entries ≡ before.entries ++ []
  same_entries before after is = is ∙ sym (append-nil before.entries)

  refused_entries : (value : Record) (cause : Cause) (reserved : Option Lsn)
      (before after : PassState)
      → RefusesRecordLine size limit pass value cause reserved before after
      → (after.log).entries
      ≡ (before.log).entries ++ option_to_list (entry_at size pass value reserved)
  refused_entries value (Full free) None before after l =
      same_entries before.log after.log (ap (λ (l : PassLog). l.entries) l.log_is)
  refused_entries value (Full free) (Some start) before after l = absurd l
  refused_entries value (Disk faults) None before after l = absurd l
  refused_entries value (Disk faults) (Some start) before after l =
      reserved_entry value start before.log after.log l.0
  refused_entries value (Down faults) None before after l =
      same_entries before.log after.log (ap (λ (l : PassLog). l.entries) l.0)
  refused_entries value (Down faults) (Some start) before after l =
      reserved_entry value start before.log after.log l.0

  pub line_entries : (asked : Asked) (told : Told) (before after : PassState)
      → Leaves size limit pass asked told before after
      → (after.log).entries
      ≡ (before.log).entries ++ option_to_list (entry_of size pass asked told)
  line_entries (Insert value) (Wrote start end) before after l =
      reserved_entry value start before.log after.log l.reserved
  line_entries (Insert value) (Hard start end moment) before after l = absurd l
  line_entries (Insert value) (Flushed upto moment) before after l = absurd l
  line_entries (Insert value) (Async start end) before after l = absurd l
  line_entries (Insert value) (Idle upto) before after l = absurd l
  line_entries (Insert value) (Switched start end) before after l = absurd l
  line_entries (Insert value) (Stayed end) before after l = absurd l
  line_entries (Insert value) (Refused cause reserved) before after l =
      refused_entries value cause reserved before after l
  line_entries (Commit value) (Wrote start end) before after l = absurd l
  line_entries (Commit value) (Hard start end moment) before after l =
      ap (λ (l : PassLog). l.entries) (l.promised).log_is
      ∙ reserved_entry value start before.log l.between (l.reserved).reserved
  line_entries (Commit value) (Flushed upto moment) before after l = absurd l
  line_entries (Commit value) (Async start end) before after l = absurd l
  line_entries (Commit value) (Idle upto) before after l = absurd l
  line_entries (Commit value) (Switched start end) before after l = absurd l
  line_entries (Commit value) (Stayed end) before after l = absurd l
  line_entries (Commit value) (Refused cause reserved) before after l =
      refused_entries value cause reserved before after l
  line_entries Flush (Wrote start end) before after l = absurd l
  line_entries Flush (Hard start end moment) before after l = absurd l
  line_entries Flush (Flushed upto moment) before after l =
      same_entries before.log after.log (ap (λ (l : PassLog). l.entries) l.log_is)
  line_entries Flush (Async start end) before after l = absurd l
  line_entries Flush (Idle upto) before after l = absurd l
  line_entries Flush (Switched start end) before after l = absurd l
  line_entries Flush (Stayed end) before after l = absurd l
  line_entries Flush (Refused (Full free) reserved) before after l = absurd l
  line_entries Flush (Refused (Disk faults) None) before after l =
      same_entries before.log after.log (ap (λ (l : PassLog). l.entries) l.0)
  line_entries Flush (Refused (Disk faults) (Some start)) before after l = absurd l
  line_entries Flush (Refused (Down faults) None) before after l =
      same_entries before.log after.log (ap (λ (l : PassLog). l.entries) l.0)
  line_entries Flush (Refused (Down faults) (Some start)) before after l = absurd l
  line_entries (CommitAsync value) (Wrote start end) before after l = absurd l
  line_entries (CommitAsync value) (Hard start end moment) before after l = absurd l
  line_entries (CommitAsync value) (Flushed upto moment) before after l = absurd l
  line_entries (CommitAsync value) (Async start end) before after l =
      reserved_entry value start before.log after.log (l.reserved).reserved
  line_entries (CommitAsync value) (Idle upto) before after l = absurd l
  line_entries (CommitAsync value) (Switched start end) before after l = absurd l
  line_entries (CommitAsync value) (Stayed end) before after l = absurd l
  line_entries (CommitAsync value) (Refused cause reserved) before after l =
      refused_entries value cause reserved before after l
  line_entries WriteBehind (Wrote start end) before after l = absurd l
  line_entries WriteBehind (Hard start end moment) before after l = absurd l
  line_entries WriteBehind (Flushed upto moment) before after l =
      same_entries before.log after.log (ap (λ (l : PassLog). l.entries) l.log_is)
  line_entries WriteBehind (Async start end) before after l = absurd l
  line_entries WriteBehind (Idle upto) before after l =
      same_entries before.log after.log (ap (λ (l : PassLog). l.entries) l.log_is)
  line_entries WriteBehind (Switched start end) before after l = absurd l
  line_entries WriteBehind (Stayed end) before after l = absurd l
  line_entries WriteBehind (Refused (Full free) reserved) before after l = absurd l
  line_entries WriteBehind (Refused (Disk faults) None) before after l =
      same_entries before.log after.log (ap (λ (l : PassLog). l.entries) l.0)
  line_entries WriteBehind (Refused (Disk faults) (Some start)) before after l = absurd l
  line_entries WriteBehind (Refused (Down faults) None) before after l =
      same_entries before.log after.log (ap (λ (l : PassLog). l.entries) l.0)
  line_entries WriteBehind (Refused (Down faults) (Some start)) before after l = absurd l
  line_entries Switch (Wrote start end) before after l = absurd l
  line_entries Switch (Hard start end moment) before after l = absurd l
  line_entries Switch (Flushed upto moment) before after l = absurd l
  line_entries Switch (Async start end) before after l = absurd l
  line_entries Switch (Idle upto) before after l = absurd l
  line_entries Switch (Switched start end) before after l =
      reserved_entry switch_record start before.log after.log l.reserved
  line_entries Switch (Stayed end) before after l =
      same_entries before.log after.log (ap (λ (l : PassLog). l.entries) l.log_is)
  line_entries Switch (Refused cause reserved) before after l =
      refused_entries switch_record cause reserved before after l.0

  pub lines_entries : (lines : List AskedLine) (told : List Told) (before after : PassState)
      → PlaysLines size limit pass before lines told after
      → (after.log).entries ≡ (before.log).entries ++ entries_of size pass lines told
  lines_entries [] [] before after plays =
      same_entries before.log after.log (ap (λ (s : PassState). (s.log).entries) plays)
  lines_entries [] (answer ∷ told) before after plays = absurd plays
  lines_entries (line ∷ lines) [] before after plays = absurd plays
  lines_entries (line ∷ lines) (answer ∷ told) before after plays =
      let mid = plays.0 in
      lines_entries lines told mid after plays.2
      ∙ ap (λ (es : List Entry). es ++ entries_of size pass lines told)
      (line_entries line.asked answer before mid (plays.1).leaves)
      ∙ append_assoc (before.log).entries (option_to_list (entry_of size pass line.asked answer))
      (entries_of size pass lines told)

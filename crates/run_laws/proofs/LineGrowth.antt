-- What a line adds to its pass's log, by what it is told.
use Rattle.std.proofs.Common.{◌≡◌, ℕ, ◌≤◌, List, [], ◌∷◌, ◌++◌, Option, Some, None, false, true≢false, sym, ap, ◌∙◌, append_assoc, append-nil, arith}
use Rattle.wal_spelling.specs.Record.{switch_record}
use Rattle.wal_types.specs.declared.answers.Cause.{Cause}
use Rattle.wal_types.specs.declared.answers.Cause.TheVariants.{Full, Disk, Down}
use Rattle.wal_types.specs.declared.lsn.Lsn.{Lsn}
use Rattle.wal_types.specs.declared.record.Record.{Record}
use Rattle.wal_page.specs.Order.{Entry, finish_of}
use Rattle.run_script.specs.Asked.{Asked, AskedLine, Insert, Commit, Flush, CommitAsync, WriteBehind, Switch}
use Rattle.machine_state.specs.Views.{FlushPromise}
use Rattle.machine_state.specs.Moves.{entry_reserved}
use Rattle.run_laws.specs.declared.told.Told.{Told}
use Rattle.run_laws.specs.declared.told.Told.TheVariants.{Wrote, Hard, Flushed, Async, Idle, Switched, Stayed, Refused}
use Rattle.run_laws.specs.Moments.{may_repeat}
use Rattle.machine_state.specs.PassLogs.{PassLog, log_with_entry, log_with_promise}
use Rattle.run_laws.specs.Played.{Leaves, PassState, PlaysLines, RefusesFlushLine, RefusesRecordLine, Reserves, end_of_own}

-- entries may be added, but no promise
pub record AddsNoPromise (before after : PassLog) : Type 0 where
  pub entries : List Entry
  pub entries_are : after.entries ≡ before.entries ++ entries
  pub promises_are : after.promises ≡ before.promises

-- the log has what it had, and perhaps more
pub record Extends (before after : PassLog) : Type 0 where
  pub entries : List Entry
  pub promises : List FlushPromise
  pub entries_are : after.entries ≡ before.entries ++ entries
  pub promises_are : after.promises ≡ before.promises ++ promises

-- one entry is added, and then a promise that covers it
pub record SealsEntry (size moment : ℕ) (before after : PassLog) : Type 0 where
  pub entry : Entry
  pub upto : ℕ
  pub covers : finish_of size entry ≤ upto
  pub log_is : after ≡ log_with_promise upto moment (log_with_entry entry before)

-- what an answer says that was added; a flush covers what the log has, but one behind
abbrev pub Grows : ℕ → Asked → Told → PassLog → PassLog → Type 0
Grows size asked (Wrote start end) before after =
    (e : Entry) × (after ≡ log_with_entry e before)
Grows size asked (Hard start end moment) before after = SealsEntry size moment before after
Grows size asked (Flushed upto moment) before after =
    (may_repeat asked false ≡ false → end_of_own size before.entries ≤ upto.0)
    × (after ≡ log_with_promise upto.0 moment before)
Grows size asked (Async start end) before after =
    (e : Entry) × (after ≡ log_with_entry e before)
Grows size asked (Idle upto) before after = after ≡ before
Grows size asked (Switched start end) before after =
    (e : Entry) × (after ≡ log_with_entry e before)
Grows size asked (Stayed end) before after = AddsNoPromise before after
Grows size asked (Refused cause reserved) before after = AddsNoPromise before after

nothing_added : (before after : PassLog) → after.entries ≡ before.entries
    → after.promises ≡ before.promises → AddsNoPromise before after
nothing_added before after entries promises = record {
  entries = [];
  entries_are = entries ∙ sym (append-nil before.entries);
  promises_are = promises;
}

same_log : (before after : PassLog) → after ≡ before → AddsNoPromise before after
same_log before after same = nothing_added before after
    (ap (λ (l : PassLog). l.entries) same) (ap (λ (l : PassLog). l.promises) same)

module _ (size limit pass : ℕ) where
  entry_added : (value : Record) (start : ℕ) (before after : PassLog)
      → Reserves size limit pass value start before after → AddsNoPromise before after
  entry_added value start before after r = record {
    entries = entry_reserved pass r.at value ∷ [];
    entries_are = ap (λ (l : PassLog). l.entries) r.log_is;
    promises_are = ap (λ (l : PassLog). l.promises) r.log_is;
  }

  record_refused : (value : Record) (cause : Cause) (reserved : Option Lsn)
      (before after : PassState)
      → RefusesRecordLine size limit pass value cause reserved before after
      → AddsNoPromise before.log after.log
  record_refused value (Full free) None before after l = nothing_added before.log after.log
      (ap (λ (l : PassLog). l.entries) l.log_is) (ap (λ (l : PassLog). l.promises) l.log_is)
  record_refused value (Full free) (Some start) before after l = absurd l
  record_refused value (Disk faults) None before after l = absurd l
  record_refused value (Disk faults) (Some start) before after l =
      entry_added value start.0 before.log after.log l.0
  record_refused value (Down faults) None before after l = same_log before.log after.log l.0
  record_refused value (Down faults) (Some start) before after l =
      entry_added value start.0 before.log after.log l.0

  flush_refused : (cause : Cause) (reserved : Option Lsn) (before after : PassState)
      → RefusesFlushLine size limit pass cause reserved before after
      → AddsNoPromise before.log after.log
  flush_refused (Full free) reserved before after l = absurd l
  flush_refused (Disk faults) None before after l = same_log before.log after.log l.0
  flush_refused (Disk faults) (Some start) before after l = absurd l
  flush_refused (Down faults) None before after l = same_log before.log after.log l.0
  flush_refused (Down faults) (Some start) before after l = absurd l

  pub line_grows : (asked : Asked) (told : Told) (before after : PassState)
      → Leaves size limit pass asked told before after → Grows size asked told before.log after.log
  line_grows (Insert value) (Wrote start end) before after l =
      (entry_reserved pass (l.reserved).at value, (l.reserved).log_is)
  line_grows (Insert value) (Hard start end moment) before after l = absurd l
  line_grows (Insert value) (Flushed upto moment) before after l = absurd l
  line_grows (Insert value) (Async start end) before after l = absurd l
  line_grows (Insert value) (Idle upto) before after l = absurd l
  line_grows (Insert value) (Switched start end) before after l = absurd l
  line_grows (Insert value) (Stayed end) before after l = absurd l
  line_grows (Insert value) (Refused cause reserved) before after l =
      record_refused value cause reserved before after l
  line_grows (Commit value) (Wrote start end) before after l = absurd l
  line_grows (Commit value) (Hard start end moment) before after l = record {
    entry = entry_reserved pass ((l.reserved).reserved).at value;
    upto = l.upto;
    covers = omega (arith, (l.reserved).end_is, (l.promised).reached);
    log_is = (l.promised).log_is
        ∙ ap (log_with_promise l.upto moment) ((l.reserved).reserved).log_is;
  }
  line_grows (Commit value) (Flushed upto moment) before after l = absurd l
  line_grows (Commit value) (Async start end) before after l = absurd l
  line_grows (Commit value) (Idle upto) before after l = absurd l
  line_grows (Commit value) (Switched start end) before after l = absurd l
  line_grows (Commit value) (Stayed end) before after l = absurd l
  line_grows (Commit value) (Refused cause reserved) before after l =
      record_refused value cause reserved before after l
  line_grows Flush (Wrote start end) before after l = absurd l
  line_grows Flush (Hard start end moment) before after l = absurd l
  line_grows Flush (Flushed upto moment) before after l = ((λ covers. l.reached), l.log_is)
  line_grows Flush (Async start end) before after l = absurd l
  line_grows Flush (Idle upto) before after l = absurd l
  line_grows Flush (Switched start end) before after l = absurd l
  line_grows Flush (Stayed end) before after l = absurd l
  line_grows Flush (Refused cause reserved) before after l =
      flush_refused cause reserved before after l
  line_grows (CommitAsync value) (Wrote start end) before after l = absurd l
  line_grows (CommitAsync value) (Hard start end moment) before after l = absurd l
  line_grows (CommitAsync value) (Flushed upto moment) before after l = absurd l
  line_grows (CommitAsync value) (Async start end) before after l =
      (entry_reserved pass ((l.reserved).reserved).at value, ((l.reserved).reserved).log_is)
  line_grows (CommitAsync value) (Idle upto) before after l = absurd l
  line_grows (CommitAsync value) (Switched start end) before after l = absurd l
  line_grows (CommitAsync value) (Stayed end) before after l = absurd l
  line_grows (CommitAsync value) (Refused cause reserved) before after l =
      record_refused value cause reserved before after l
  line_grows WriteBehind (Wrote start end) before after l = absurd l
  line_grows WriteBehind (Hard start end moment) before after l = absurd l
  line_grows WriteBehind (Flushed upto moment) before after l =
      ((λ covers. absurd (true≢false covers)), l.log_is)
  line_grows WriteBehind (Async start end) before after l = absurd l
  line_grows WriteBehind (Idle upto) before after l = l.log_is
  line_grows WriteBehind (Switched start end) before after l = absurd l
  line_grows WriteBehind (Stayed end) before after l = absurd l
  line_grows WriteBehind (Refused cause reserved) before after l =
      flush_refused cause reserved before after l
  line_grows Switch (Wrote start end) before after l = absurd l
  line_grows Switch (Hard start end moment) before after l = absurd l
  line_grows Switch (Flushed upto moment) before after l = absurd l
  line_grows Switch (Async start end) before after l = absurd l
  line_grows Switch (Idle upto) before after l = absurd l
  line_grows Switch (Switched start end) before after l =
      (entry_reserved pass (l.reserved).at switch_record, (l.reserved).log_is)
  line_grows Switch (Stayed end) before after l = nothing_added before.log after.log
      (ap (λ (l : PassLog). l.entries) l.log_is) (ap (λ (l : PassLog). l.promises) l.log_is)
  line_grows Switch (Refused cause reserved) before after l =
      record_refused switch_record cause reserved before after l.0

  grown : (asked : Asked) (told : Told) (before after : PassLog)
      → Grows size asked told before after → Extends before after
  grown asked (Wrote start end) before after g = record {
    entries = g.0 ∷ [];
    promises = [];
    entries_are = ap (λ (l : PassLog). l.entries) g.1;
    promises_are = ap (λ (l : PassLog). l.promises) g.1 ∙ sym (append-nil before.promises);
  }
  grown asked (Hard start end moment) before after g = record {
    entries = g.entry ∷ [];
    promises = _;
    entries_are = ap (λ (l : PassLog). l.entries) g.log_is;
    promises_are = ap (λ (l : PassLog). l.promises) g.log_is;
  }
  grown asked (Flushed upto moment) before after g = record {
    entries = [];
    promises = _;
    entries_are = ap (λ (l : PassLog). l.entries) g.1 ∙ sym (append-nil before.entries);
    promises_are = ap (λ (l : PassLog). l.promises) g.1;
  }
  grown asked (Async start end) before after g = record {
    entries = g.0 ∷ [];
    promises = [];
    entries_are = ap (λ (l : PassLog). l.entries) g.1;
    promises_are = ap (λ (l : PassLog). l.promises) g.1 ∙ sym (append-nil before.promises);
  }
  grown asked (Idle upto) before after g = record {
    entries = [];
    promises = [];
    entries_are = ap (λ (l : PassLog). l.entries) g ∙ sym (append-nil before.entries);
    promises_are = ap (λ (l : PassLog). l.promises) g ∙ sym (append-nil before.promises);
  }
  grown asked (Switched start end) before after g = record {
    entries = g.0 ∷ [];
    promises = [];
    entries_are = ap (λ (l : PassLog). l.entries) g.1;
    promises_are = ap (λ (l : PassLog). l.promises) g.1 ∙ sym (append-nil before.promises);
  }
  grown asked (Stayed end) before after g = record {
    entries = g.entries;
    promises = [];
    entries_are = g.entries_are;
    promises_are = g.promises_are ∙ sym (append-nil before.promises);
  }
  grown asked (Refused cause reserved) before after g = record {
    entries = g.entries;
    promises = [];
    entries_are = g.entries_are;
    promises_are = g.promises_are ∙ sym (append-nil before.promises);
  }

  pub lines_extend : (lines : List AskedLine) (told : List Told) (before after : PassState)
      → PlaysLines size limit pass before lines told after → Extends before.log after.log
  lines_extend [] [] before after plays = record {
    entries = [];
    promises = [];
    entries_are = ap (λ (s : PassState). (s.log).entries) plays
        ∙ sym (append-nil (before.log).entries);
    promises_are = ap (λ (s : PassState). (s.log).promises) plays
        ∙ sym (append-nil (before.log).promises);
  }
  lines_extend [] (answer ∷ told) before after plays = absurd plays
  lines_extend (line ∷ lines) [] before after plays = absurd plays
  lines_extend (line ∷ lines) (answer ∷ told) before after plays =
      let mid = plays.0 in
      let first = grown line.asked answer before.log mid.log
      (line_grows line.asked answer before mid (plays.1).leaves) in
      let rest = lines_extend lines told mid after plays.2 in
      record {
        entries = first.entries ++ rest.entries;
        promises = first.promises ++ rest.promises;
        entries_are = rest.entries_are
            ∙ ap (λ (es : List Entry). es ++ rest.entries) first.entries_are
            ∙ append_assoc (before.log).entries first.entries rest.entries;
        promises_are = rest.promises_are
            ∙ ap (λ (ps : List FlushPromise). ps ++ rest.promises) first.promises_are
            ∙ append_assoc (before.log).promises first.promises rest.promises;
      }

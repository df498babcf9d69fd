-- What a line with a record leaves of its pass.
use Rattle.std.specs.Prelude.{Result, Ok, Err, IfOk, Some, None}
use Rattle.std.proofs.Common.{◌≡◌, false, ℕ, ◌<◌, ◌≤◌, refl, sym, ap, ◌∙◌, subst, inl, inr, arith}
use Rattle.wal_types.specs.declared.record.Record.{Record}
use Rattle.wal_spelling.specs.Spelling as spelling
use Rattle.wal_spelling.specs.Spelling.{Assembled, IsLogRecord, assembled, is_assembled_switch}
use Rattle.wal_spelling.proofs.SwitchLaws.{is_assembled_switch-inserted}
use Rattle.wal_page.specs.Order.{Entry, assembled_room_at, finish_of, start_of}
use Rattle.wal_types.specs.declared.answers.Receipt.{Receipt}
use Rattle.wal_types.specs.declared.answers.Refused as refused
use Rattle.wal_types.specs.declared.answers.Sealed.{Sealed}
use Rattle.run_laws.specs.Answered.{told_of_commit}
use Rattle.run_laws.specs.declared.told.Told.{Told}
use Rattle.run_laws.specs.declared.told.Told.TheVariants.{Refused}
use Rattle.run_script.specs.Asked.{Commit, CommitAsync, Insert}
use Rattle.run_script.specs.Bodies.{IsBodyOf}
use Rattle.machine_state.specs.declared.setup.Setup.{Setup}
use Rattle.machine_state.specs.Moves.{entry_reserved}
use Rattle.machine_state.specs.Words.{log_limit}
use Rattle.wal_rule.specs.Downs.{KnowsDown}
use Rattle.machine_state.specs.Views.{View}
use Rattle.wal_log.specs.declared.inserting.InsertErr.{InsertErr}
use Rattle.wal_log.specs.declared.inserting.InsertErr.TheVariants as inserts
use Rattle.wal_log.specs.Committing.{AnswersCommit, commit_known_down, refused_of_insert}
use Rattle.wal_log.specs.Inserting.{AnswersInsert, IsOwnEntry, IsStarted, RefusesInsert, RefusesRecord}
use Rattle.wal_log.specs.PassLogs.{PassLog, log_of_pass, log_with_entry}
use Rattle.wal_log.specs.Standing.{KeepsPass}
use Rattle.run_laws.specs.Played.{Leaves, PlaysLine, TellsCause, RefusesRecordLine, Reserves, pass_state_of}
use Rattle.run_backends.proofs.EndsKept.{told_of_ahead, told_of_inserted}

-- its body is of one that can be inserted, so of no segment switch
pub no_switch : (body : Assembled) (value : Record) → IsBodyOf value body
    → is_assembled_switch body ≡ false
no_switch body value is_body =
    ap is_assembled_switch is_body.0 ∙ is_assembled_switch-inserted value is_body.1

-- ---- what a line leaves of its pass

-- a body is one of a single record, as `body_knows_its_record` of wal_record says
abbrev pub KnowsRecords : Type 0
KnowsRecords = (r other : Record) → IsLogRecord r → IsLogRecord other
    → assembled r ≡ assembled other → r ≡ other

-- an entry of this record that a pass has reserved for itself
abbrev pub reserves_of : (setup : Setup) (old : View) (value : Record) (e : Entry) (at : ℕ)
    → e ≡ entry_reserved (old.reserving).number at value
    → (start : ℕ) (after : PassLog) → start ≡ start_of setup.seg_size e
    → after ≡ log_with_entry e (log_of_pass old)
    → Reserves setup.seg_size (log_limit setup) (old.reserving).number value start
    (log_of_pass old) after
reserves_of setup old value e at is start after start_is log_is = record {
  at = at;
  start_is = start_is ∙ ap (start_of setup.seg_size) is;
  log_is = log_is ∙ ap (λ (x : Entry). log_with_entry x (log_of_pass old)) is;
}

-- where a call was refused, its line tells what the pass learned of a failed disk
pub refusal_caused : (full started : ℕ → Type 0) (old new : View) (e : InsertErr)
    → RefusesRecord full started old new e
    → TellsCause (Refused (refused_of_insert e).cause (refused_of_insert e).reserved)
    (pass_state_of old) (pass_state_of new)
refusal_caused full started old new (inserts.Full free) why = (why.1.met, why.1.set)
refusal_caused full started old new (inserts.Disk faults start) why = why.1.set
refusal_caused full started old new (inserts.Down faults None) why = (why.1.met, why.1.set_none)
refusal_caused full started old new (inserts.Down faults (Some start)) why =
    (why.1.met, why.1.set_none)

module _ (knows_record : KnowsRecords) (setup : Setup) (body : Assembled)
    (old new : View) (value : Record) (is_body : IsBodyOf value body) where
  entry_is : (e : Entry) (own : IsOwnEntry setup body old e)
      → e ≡ entry_reserved (old.reserving).number own.at value
  entry_is e own = own.entry_is ∙ ap (entry_reserved (old.reserving).number own.at)
      (knows_record own.value value own.logged (spelling.inserted is_body.1)
      (own.of_body ∙ is_body.0))

  reserves : (e : Entry) (own : IsOwnEntry setup body old e) (start : ℕ) (after : PassLog)
      → start ≡ start_of setup.seg_size e → after ≡ log_with_entry e (log_of_pass old)
      → Reserves setup.seg_size (log_limit setup) (old.reserving).number value start
      (log_of_pass old) after
  reserves e own = reserves_of setup old value e own.at (entry_is e own)

  started : (start : ℕ) → IsStarted setup body old new start
      → Reserves setup.seg_size (log_limit setup) (old.reserving).number value start
      (log_of_pass old) (log_of_pass new)
  started start told = reserves told.entry told.reserved.own start (log_of_pass new)
      told.start_is told.reserved.log_is

  refuses : (e : InsertErr) → RefusesInsert setup body old new e
      → RefusesRecordLine setup.seg_size (log_limit setup) (old.reserving).number value
      (refused_of_insert e).cause (refused_of_insert e).reserved (pass_state_of old)
      (pass_state_of new)
  refuses (inserts.Full free) why = record {
    at = why.0.at;
    free_is = (let is = why.0.free_is in let within = why.0.within in omega (arith, is, within));
    short = subst (λ (a : Assembled). free < assembled_room_at setup.seg_size why.0.at a)
        is_body.0 why.0.short;
    log_is = why.0.log_is;
  }
  refuses (inserts.Disk faults start) why = (started start.0 why.0, (why.1.some, inr why.1.set))
  refuses (inserts.Down faults None) why = (why.0, (why.1.some, inl why.1.met))
  refuses (inserts.Down faults (Some start)) why =
      (started start.0 why.0, (why.1.some, inl why.1.met))

  insert_caused : (answer : Result Receipt InsertErr) → AnswersInsert setup body old answer new
      → TellsCause (told_of_inserted answer) (pass_state_of old) (pass_state_of new)
  insert_caused (Ok receipt) told = (told.up.met, told.up.set)
  insert_caused (Err e) why = refusal_caused _ _ old new e why

  commit_caused : (answer : Result Sealed refused.Refused)
      → AnswersCommit setup body old answer new
      → TellsCause (told_of_commit answer) (pass_state_of old) (pass_state_of new)
  commit_caused (Ok sealed) told = (told.up.met, told.up.set)
  commit_caused (Err e) why = subst (λ (r : refused.Refused).
      TellsCause (Refused r.cause r.reserved) (pass_state_of old) (pass_state_of new))
      (sym why.1) (refusal_caused _ _ old new why.0 why.2)

  inserted : (answer : Result Receipt InsertErr) → AnswersInsert setup body old answer new
      → Leaves setup.seg_size (log_limit setup) (old.reserving).number (Insert value)
      (told_of_inserted answer) (pass_state_of old) (pass_state_of new)
  unfolding reserves
  inserted (Ok receipt) told =
      let own = told.reserved.own in record {
        reserved = reserves told.entry own receipt.start.0 (log_of_pass new) told.start_is
            told.reserved.log_is;
        end_is = told.end_is ∙ ap (finish_of setup.seg_size) (entry_is told.entry own);
      }
  inserted (Err e) why = refuses e why

  committed : (answer : Result Sealed refused.Refused) → AnswersCommit setup body old answer new
      → Leaves setup.seg_size (log_limit setup) (old.reserving).number (Commit value)
      (told_of_commit answer) (pass_state_of old) (pass_state_of new)
  unfolding reserves
  committed (Ok sealed) told = record {
    between = log_with_entry told.entry (log_of_pass old);
    upto = told.upto;
    reserved = record {
      reserved = reserves told.entry told.own sealed.start.0
          (log_with_entry told.entry (log_of_pass old)) told.start_is refl;
      end_is = told.end_is ∙ ap (finish_of setup.seg_size) (entry_is told.entry told.own);
    };
    promised = record {
      reached = (let is = told.end_is in let far = told.reached in omega (arith, is, far));
      log_is = told.log_is;
    };
  }
  committed (Err e) why = subst (λ (r : refused.Refused).
      RefusesRecordLine setup.seg_size (log_limit setup) (old.reserving).number value r.cause
      r.reserved (pass_state_of old) (pass_state_of new)) (sym why.1) (refuses why.0 why.2)

  pub ahead : (answer : Result Receipt InsertErr) → AnswersInsert setup body old answer new
      → IfOk answer (λ receipt. receipt.end.0 ≤ new.async_met)
      → Leaves setup.seg_size (log_limit setup) (old.reserving).number (CommitAsync value)
      (told_of_ahead answer) (pass_state_of old) (pass_state_of new)
  ahead (Ok receipt) told counted =
      record { reserved = inserted (Ok receipt) told; counted = counted }
  ahead (Err e) why counted = inserted (Err e) why

  ahead_caused : (answer : Result Receipt InsertErr) → AnswersInsert setup body old answer new
      → TellsCause (told_of_ahead answer) (pass_state_of old) (pass_state_of new)
  ahead_caused (Ok receipt) told = (told.up.met, told.up.set)
  ahead_caused (Err e) why = insert_caused (Err e) why

  pub plays_ahead : KeepsPass old new → (answer : Result Receipt InsertErr) (told : Told)
      → told ≡ told_of_ahead answer → AnswersInsert setup body old answer new
      → IfOk answer (λ receipt. receipt.end.0 ≤ new.async_met)
      → ((faults : ℕ) → KnowsDown faults old → answer ≡ Err (inserts.Down faults None))
      → PlaysLine setup.seg_size (log_limit setup) (old.reserving).number (CommitAsync value)
      told (pass_state_of old) (pass_state_of new)
  plays_ahead keeps answer told is answers counted again = record {
    writable = is_body.1;
    leaves = subst (λ (t : Told). Leaves setup.seg_size (log_limit setup)
        (old.reserving).number (CommitAsync value) t (pass_state_of old) (pass_state_of new))
        (sym is) (ahead answer answers counted);
    cause = subst (λ (t : Told). TellsCause t (pass_state_of old) (pass_state_of new)) (sym is)
        (ahead_caused answer answers);
    counts = keeps.counts;
    async = tt;
    sees = keeps.rises;
    again = λ faults knows. is ∙ ap told_of_ahead (again faults knows);
  }

  pub plays_insert : KeepsPass old new → new.async_met ≡ old.async_met
      → (answer : Result Receipt InsertErr) (told : Told)
      → told ≡ told_of_inserted answer → AnswersInsert setup body old answer new
      → ((faults : ℕ) → KnowsDown faults old → answer ≡ Err (inserts.Down faults None))
      → PlaysLine setup.seg_size (log_limit setup) (old.reserving).number (Insert value) told
      (pass_state_of old) (pass_state_of new)
  plays_insert keeps same answer told is answers again = record {
    writable = is_body.1;
    leaves = subst (λ (t : Told). Leaves setup.seg_size (log_limit setup)
        (old.reserving).number (Insert value) t (pass_state_of old) (pass_state_of new)) (sym is)
        (inserted answer answers);
    cause = subst (λ (t : Told). TellsCause t (pass_state_of old) (pass_state_of new)) (sym is)
        (insert_caused answer answers);
    counts = keeps.counts;
    async = same;
    sees = keeps.rises;
    again = λ faults knows. is ∙ ap told_of_inserted (again faults knows);
  }

  pub plays_commit : KeepsPass old new → new.async_met ≡ old.async_met
      → (answer : Result Sealed refused.Refused) (told : Told)
      → told ≡ told_of_commit answer → AnswersCommit setup body old answer new
      → ((faults : ℕ) → KnowsDown faults old → answer ≡ commit_known_down faults)
      → PlaysLine setup.seg_size (log_limit setup) (old.reserving).number (Commit value) told
      (pass_state_of old) (pass_state_of new)
  plays_commit keeps same answer told is answers again = record {
    writable = is_body.1;
    leaves = subst (λ (t : Told). Leaves setup.seg_size (log_limit setup)
        (old.reserving).number (Commit value) t (pass_state_of old) (pass_state_of new)) (sym is)
        (committed answer answers);
    cause = subst (λ (t : Told). TellsCause t (pass_state_of old) (pass_state_of new)) (sym is)
        (commit_caused answer answers);
    counts = keeps.counts;
    async = same;
    sees = keeps.rises;
    again = λ faults knows. is ∙ ap told_of_commit (again faults knows);
  }

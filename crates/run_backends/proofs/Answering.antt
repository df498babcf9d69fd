-- What a line leaves of a session, by what the log answered.
use Rattle.std.proofs.Math.Logic.{∥∥₁_elim}
use mathlib.Core.Bool.{Bool-set}
use Rattle.std.specs.Prelude.{Result, Err, IfOk, None}
use Rattle.std.proofs.Common.{◌≡◌, ℕ, ◌≤◌, sym, ap, ◌∙◌, subst}
use Rattle.byte_position.specs.Geometry.{IsSegmentSize}
use Rattle.wal_types.specs.declared.lsn.Lsn.{Lsn}
use Rattle.wal_types.specs.declared.record.Record.{Record}
use Rattle.wal_spelling.specs.Record.{switch_record}
use Rattle.wal_spelling.specs.Spelling.{Assembled, assembled}
use Rattle.wal_types.specs.declared.answers.Hard as hard
use Rattle.wal_types.specs.declared.answers.Receipt.{Receipt}
use Rattle.wal_types.specs.declared.answers.Refused as refused
use Rattle.wal_types.specs.declared.answers.Sealed.{Sealed}
use Rattle.run_laws.specs.Answered.{told_of_commit}
use Rattle.run_laws.specs.declared.told.Told.{Told}
use Rattle.run_script.specs.Asked.{Asked, Commit, CommitAsync, Flush, Insert, Switch, WriteBehind}
use Rattle.run_script.specs.Bodies.{IsBodyOf}
use Rattle.machine_state.specs.Words.{Opening, log_limit}
use Rattle.wal_rule.specs.Downs.{KnowsDown}
use Rattle.wal_rule.specs.Stepping.{Stands}
use Rattle.wal_rule.specs.Passes.{view_of_pass}
use Rattle.machine_state.specs.Views.{View}
use Rattle.wal_rule.specs.declared.pass.Pass.{Pass}
use Rattle.wal_log.specs.declared.behind.Caught.{Caught}
use Rattle.wal_log.specs.declared.flushing.FlushErr.{FlushErr}
use Rattle.wal_log.specs.declared.flushing.FlushErr.TheVariants as flushes
use Rattle.wal_log.specs.declared.inserting.InsertErr.{InsertErr}
use Rattle.wal_log.specs.declared.inserting.InsertErr.TheVariants as inserts
use Rattle.wal_log.specs.declared.switching.Switch as switching
use Rattle.wal_log.specs.declared.wal.Wal.{Wal}
use Rattle.wal_log.specs.Behind.{AnswersBehind, behind_known_down}
use Rattle.wal_log.specs.Committing.{AnswersCommit, commit_known_down}
use Rattle.wal_log.specs.Flushing.{AnswersFlush, flush_err_known_down}
use Rattle.wal_log.specs.Inserting.{AnswersInsert}
use Rattle.wal_log.specs.Logs.{IsPassOfLog, setup_of_log}
use Rattle.wal_log.specs.Standing.{KeepsPass}
use Rattle.wal_log.specs.Switching.{AnswersSwitch}
use Rattle.run_laws.specs.Played.{PlaysLine, pass_state_of}
use Rattle.run_laws.specs.Reached.{EndsBy}
use Rattle.run_backends.specs.declared.session.Session.{Session}
use Rattle.run_backends.specs.Sessions.{IsSessionOf, LeavesSession, PlaysAnswer, view_of_session}
use Rattle.run_backends.proofs.EndsKept.{HasEnd, ahead_keeps_end, caught_keeps_end, end_behind, end_caught, end_committed, end_flushed, end_inserted, end_switched, ends_by_end_behind, flush_keeps_end, le-end_behind, told_of_ahead, told_of_caught, told_of_flushed, told_of_inserted, told_of_switched}
use Rattle.run_backends.proofs.LinePasses.{KnowsRecords, plays_ahead, plays_commit, plays_insert}
use Rattle.run_backends.proofs.FlushLines.{never_unreserved, plays_behind, plays_flush}
use Rattle.run_backends.proofs.SwitchLines.{plays_switch}

-- by one of the log's passes: its segments have a valid size, and the pass knows its setup
pub has_valid_size : {D : Type 0} (wal : Wal D) (pass : Pass) → IsPassOfLog wal pass
    → IsSegmentSize (setup_of_log wal).seg_size
has_valid_size {D} wal pass here =
    subst (λ (o : Opening). IsSegmentSize (o.setup).seg_size) here.of_log.own
    (∥∥₁_elim here.of_log.stands (Bool-set _ _)
    (λ (s : Stands (view_of_pass pass)). ((s.sound).setup_is).size))

pub has_setup : {D : Type 0} (wal : Wal D) (pass : Pass) → IsPassOfLog wal pass
    → ((view_of_pass pass).opening).setup ≡ setup_of_log wal
has_setup {D} wal pass here = ap (λ (o : Opening). o.setup) here.of_log.own

-- a call of the log left this of the session's pass
module _ {D : Type 0} (wal : Wal D) (old new : Session) (pass : Pass) (here : IsSessionOf wal old)
    (same : new.pass ≡ pass) (keeps : KeepsPass (view_of_session old) (view_of_pass pass))
    (still : IsPassOfLog wal pass) (told : Told) where
  has_end : HasEnd (setup_of_log wal) old.end.0 (view_of_session old)
  has_end = record { own = here.end.own; reserved = here.end.reserved }

  leaves_session : new.end.0 ≡ end_behind old.end.0 told
      → HasEnd (setup_of_log wal) (end_behind old.end.0 told) (view_of_pass pass)
      → LeavesSession wal told old new
  leaves_session end_is has =
      let kept : HasEnd (setup_of_log wal) new.end.0 (view_of_session new) =
      subst (λ (p : Pass). HasEnd (setup_of_log wal) new.end.0 (view_of_pass p)) (sym same)
      (subst (λ (end : ℕ). HasEnd (setup_of_log wal) end (view_of_pass pass)) (sym end_is) has)
      in record {
        session = record {
          pass = subst (λ (p : Pass). IsPassOfLog wal p) (sym same) still;
          end = record { own = kept.own; reserved = kept.reserved };
        };
        keeps = subst (λ (p : Pass). KeepsPass (view_of_session old) (view_of_pass p)) (sym same)
            keeps;
        told_end = subst (λ (end : ℕ). EndsBy end told) (sym end_is)
            (ends_by_end_behind old.end.0 told);
        rises = subst (λ (end : ℕ). old.end.0 ≤ end) (sym end_is)
            (le-end_behind old.end.0 told);
      }

  plays_answer : (asked : Asked)
      → PlaysLine (setup_of_log wal).seg_size (log_limit (setup_of_log wal))
      ((view_of_session old).reserving).number asked told (pass_state_of (view_of_session old))
      (pass_state_of (view_of_pass pass))
      → PlaysAnswer wal asked told old new
  plays_answer asked plays =
      subst (λ (p : Pass). PlaysLine (setup_of_log wal).seg_size
      (log_limit (setup_of_log wal)) ((view_of_session old).reserving).number asked told
      (pass_state_of (view_of_session old)) (pass_state_of (view_of_pass p))) (sym same) plays

  module _ (body : Assembled) where
    module _ (answer : Result Receipt InsertErr) (is : told ≡ told_of_inserted answer)
        (answers : AnswersInsert (setup_of_log wal) body (view_of_session old) answer
        (view_of_pass pass)) where
      pub insert_leaves_session : new.end.0 ≡ end_behind old.end.0 told
          → LeavesSession wal told old new
      insert_leaves_session end_is = leaves_session end_is
          (subst (λ (t : Told). HasEnd (setup_of_log wal) (end_behind old.end.0 t)
          (view_of_pass pass)) (sym is)
          (end_inserted (setup_of_log wal) (has_valid_size wal old.pass here.pass)
          (view_of_session old) (view_of_pass pass) keeps old.end.0 has_end body answer answers))

      pub insert_plays_answer : KnowsRecords
          → ((faults : ℕ) → KnowsDown faults (view_of_session old)
          → answer ≡ Err (inserts.Down faults None))
          → (view_of_pass pass).async_met ≡ (view_of_session old).async_met
          → (value : Record) → IsBodyOf value body → PlaysAnswer wal (Insert value) told old new
      insert_plays_answer knows_record again async value is_body = plays_answer (Insert value)
          (plays_insert knows_record (setup_of_log wal) body (view_of_session old)
          (view_of_pass pass) value is_body keeps async answer told is answers again)

    module _ (answer : Result Receipt InsertErr) (is : told ≡ told_of_ahead answer)
        (answers : AnswersInsert (setup_of_log wal) body (view_of_session old) answer
        (view_of_pass pass)) where
      pub ahead_leaves_session : new.end.0 ≡ end_behind old.end.0 told
          → LeavesSession wal told old new
      ahead_leaves_session end_is = leaves_session end_is
          (subst (λ (end : ℕ). HasEnd (setup_of_log wal) end (view_of_pass pass))
          (ahead_keeps_end old.end.0 answer ∙ ap (end_behind old.end.0) (sym is))
          (end_inserted (setup_of_log wal) (has_valid_size wal old.pass here.pass)
          (view_of_session old) (view_of_pass pass) keeps old.end.0 has_end body answer answers))

      pub ahead_plays_answer : KnowsRecords
          → IfOk answer (λ receipt. receipt.end.0 ≤ (view_of_pass pass).async_met)
          → ((faults : ℕ) → KnowsDown faults (view_of_session old)
          → answer ≡ Err (inserts.Down faults None))
          → (value : Record) → IsBodyOf value body
          → PlaysAnswer wal (CommitAsync value) told old new
      ahead_plays_answer knows_record counted again value is_body =
          plays_answer (CommitAsync value)
          (plays_ahead knows_record (setup_of_log wal) body (view_of_session old)
          (view_of_pass pass) value is_body keeps answer told is answers counted again)

    module _ (answer : Result switching.Switch InsertErr) (is : told ≡ told_of_switched answer)
        (answers : AnswersSwitch (setup_of_log wal) body (view_of_session old) answer
        (view_of_pass pass)) where
      pub switch_leaves_session : new.end.0 ≡ end_behind old.end.0 told
          → LeavesSession wal told old new
      switch_leaves_session end_is = leaves_session end_is
          (subst (λ (t : Told). HasEnd (setup_of_log wal) (end_behind old.end.0 t)
          (view_of_pass pass)) (sym is)
          (end_switched (setup_of_log wal) (has_valid_size wal old.pass here.pass)
          (view_of_session old) (view_of_pass pass) keeps old.end.0 has_end body answer answers))

      pub switch_plays_answer : body ≡ assembled switch_record
          → ((faults : ℕ) → KnowsDown faults (view_of_session old)
          → answer ≡ Err (inserts.Down faults None))
          → PlaysAnswer wal Switch told old new
      switch_plays_answer is_body again = plays_answer Switch
          (plays_switch (setup_of_log wal) body (view_of_session old) (view_of_pass pass) is_body
          keeps answer told is answers again)

    module _ (answer : Result Sealed refused.Refused) (is : told ≡ told_of_commit answer)
        (answers : AnswersCommit (setup_of_log wal) body (view_of_session old) answer
        (view_of_pass pass)) where
      pub commit_leaves_session : new.end.0 ≡ end_behind old.end.0 told
          → LeavesSession wal told old new
      commit_leaves_session end_is = leaves_session end_is
          (subst (λ (t : Told). HasEnd (setup_of_log wal) (end_behind old.end.0 t)
          (view_of_pass pass)) (sym is)
          (end_committed (setup_of_log wal) (has_valid_size wal old.pass here.pass)
          (view_of_session old) (view_of_pass pass) keeps old.end.0 has_end body answer answers))

      pub commit_plays_answer : KnowsRecords
          → ((faults : ℕ) → KnowsDown faults (view_of_session old)
          → answer ≡ commit_known_down faults)
          → (view_of_pass pass).async_met ≡ (view_of_session old).async_met
          → (value : Record) → IsBodyOf value body → PlaysAnswer wal (Commit value) told old new
      commit_plays_answer knows_record again async value is_body = plays_answer (Commit value)
          (plays_commit knows_record (setup_of_log wal) body (view_of_session old)
          (view_of_pass pass) value is_body keeps async answer told is answers again)

  module _ (answer : Result hard.Hard FlushErr) (is : told ≡ told_of_flushed answer)
      (answers : AnswersFlush old.end.0 (view_of_session old) answer (view_of_pass pass)) where
    pub flush_leaves_session : new.end.0 ≡ old.end.0 → LeavesSession wal told old new
    flush_leaves_session end_is =
        let stays : end_behind old.end.0 told ≡ old.end.0 =
        ap (end_behind old.end.0) is ∙ flush_keeps_end old.end.0 answer in
        leaves_session (end_is ∙ sym stays)
        (subst (λ (end : ℕ). HasEnd (setup_of_log wal) end (view_of_pass pass)) (sym stays)
        (end_flushed (setup_of_log wal) (has_valid_size wal old.pass here.pass)
        (view_of_session old) (view_of_pass pass) keeps old.end.0 has_end old.end.0 answer
        answers))

    pub flush_plays_answer : ((faults : ℕ) → KnowsDown faults (view_of_session old)
        → answer ≡ flush_err_known_down faults)
        → PlaysAnswer wal Flush told old new
    flush_plays_answer again = plays_answer Flush
        (plays_flush (setup_of_log wal) (has_valid_size wal old.pass here.pass)
        (view_of_session old) (view_of_pass pass) (has_setup wal old.pass here.pass) old.end.0
        has_end keeps answer told is answers again)

  module _ (answer : Result Caught FlushErr) (is : told ≡ told_of_caught answer)
      (answers : AnswersBehind (view_of_session old) answer (view_of_pass pass)) where
    pub behind_leaves_session : new.end.0 ≡ old.end.0 → LeavesSession wal told old new
    behind_leaves_session end_is =
        let stays : end_behind old.end.0 told ≡ old.end.0 =
        ap (end_behind old.end.0) is ∙ caught_keeps_end old.end.0 answer in
        leaves_session (end_is ∙ sym stays)
        (subst (λ (end : ℕ). HasEnd (setup_of_log wal) end (view_of_pass pass)) (sym stays)
        (end_caught (setup_of_log wal) (has_valid_size wal old.pass here.pass)
        (view_of_session old) (view_of_pass pass) keeps old.end.0 has_end answer answers))

    pub behind_plays_answer : ((faults : ℕ) → KnowsDown faults (view_of_session old)
        → answer ≡ behind_known_down faults)
        → PlaysAnswer wal WriteBehind told old new
    behind_plays_answer again = plays_answer WriteBehind
        (plays_behind (setup_of_log wal) (has_valid_size wal old.pass here.pass)
        (view_of_session old) (has_setup wal old.pass here.pass) old.end.0 has_end
        (view_of_pass pass) keeps answer told is answers again)

-- a flush of the end kept is not found unreserved, nor is a flush behind
pub session_never_unreserved : {D : Type 0} (wal : Wal D) (session : Session)
    → IsSessionOf wal session → (answer : Result hard.Hard FlushErr) (new : View)
    → AnswersFlush session.end.0 (view_of_session session) answer new → (found : Lsn)
    → answer ≡ Err (flushes.Unreserved found) → ⊥
session_never_unreserved {D} wal session here answer new answers found is =
    let why = subst (λ (r : Result hard.Hard FlushErr).
    AnswersFlush session.end.0 (view_of_session session) r new) is answers in
    never_unreserved (setup_of_log wal) (has_valid_size wal session.pass here.pass)
    (view_of_session session) new (has_setup wal session.pass here.pass) session.end.0
    here.end.reserved found.0 why.1

pub behind_never_unreserved : (old new : View) (answer : Result Caught FlushErr)
    → AnswersBehind old answer new → (found : Lsn) → answer ≡ Err (flushes.Unreserved found) → ⊥
behind_never_unreserved old new answer answers found is =
    let why = subst (λ (r : Result Caught FlushErr). AnswersBehind old r new) is answers in
    absurd why.1

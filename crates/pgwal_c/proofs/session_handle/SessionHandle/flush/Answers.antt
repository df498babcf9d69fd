use Rattle.std.proofs.Common.{◌∙◌, arith, subst, sym}
use Rattle.wal_log.specs.PassLogs.{log_of_pass}
use Rattle.embedded_log.specs.Promised.{IsPromisedHard, IsToldMade, KnowsDown}
use Rattle.embedded_log.specs.Sessions.{view_of_session}
use Rattle.pgwal_c.specs.declared.session_handle.SessionCall.{SessionCall}
use Rattle.pgwal_c.specs.Told.{FindsUnreserved, ProgramSays, hard_of_call}
use Rattle.pgwal_c.proofs.Telling.{flush_down_told, flush_told, held_told, unreserved_told}
use Rattle.pgwal_c.proofs.session_handle.SessionHandle.flush.Goals as goal
use Rattle.pgwal_c.proofs.session_handle.SessionHandle.flush.Goals.{in-Ok, in-Err}

pub returns-then-matches-clause-tells : goal.returns-then-matches-clause-tells
returns-then-matches-clause-tells c =
    flush_told _ _ c.self.inside.session c.in-Some.session c.in-Some.is
    c.args.self.now c.self.view_is c.flush.new.self c.args.call.now c.match-flush.call
    c.match-flush.answer c.flush.ensures.goes_on
    (λ misuse. elim c.match-flush.branch [
      | in-Ok w ↦ (let never : ⊥ = omega (arith, misuse, w.answer-is) in never)
      | in-Err w ↦ (w.flush_answer-answer.ensures.other).3 (sym w.answer-is ∙ misuse)
    ]) (λ done. elim c.match-flush.branch [
      | in-Ok w ↦ subst (λ (call : SessionCall).
          IsToldMade ProgramSays c.args.call.now.upto (hard_of_call call)
          (view_of_session c.flush.new.self)) (sym w.call-is) w.in-Ok.ensures.told
      | in-Err w ↦ absurd ((w.flush_answer-answer.ensures.other).0 (sym w.answer-is ∙ done))
    ]) (λ behind. elim c.match-flush.branch [
      | in-Ok w ↦ absurd (let never : ⊥ = omega (arith, behind, w.answer-is) in never)
      | in-Err w ↦ subst (λ (call : SessionCall).
          IsPromisedHard (hard_of_call call) (log_of_pass (view_of_session c.flush.new.self)))
          (sym w.call-is) (held_told c.flush.new.self w.in-Err.e w.flush_answer-answer.new.call
          (w.flush_answer-answer.ensures.behind (sym w.answer-is ∙ behind)) w.in-Err.ensures.behind)
    ])
    (λ above. elim c.match-flush.branch [
      | in-Ok w ↦ absurd (let never : ⊥ = omega (arith, above, w.answer-is) in never)
      | in-Err w ↦ subst (λ (call : SessionCall).
          FindsUnreserved c.args.call.now.upto call.end c.in-Some.session c.flush.new.self)
          (sym w.call-is) (unreserved_told c.args.call.now.upto c.in-Some.session
          c.flush.new.self w.in-Err.e w.flush_answer-answer.new.call
          (w.flush_answer-answer.ensures.unreserved (sym w.answer-is ∙ above))
          w.in-Err.ensures.refused)
    ]) (λ down. elim c.match-flush.branch [
      | in-Ok w ↦ absurd (let never : ⊥ = omega (arith, down, w.answer-is) in never)
      | in-Err w ↦ subst (λ (call : SessionCall).
          KnowsDown call.detail (view_of_session c.flush.new.self)) (sym w.call-is)
          (flush_down_told c.args.call.now.upto c.in-Some.session c.flush.new.self w.in-Err.e
          w.flush_answer-answer.new.call
          (w.flush_answer-answer.ensures.down (sym w.answer-is ∙ down)) w.in-Err.ensures.refused)
    ])

pub returns-else-matches-clause-tells : goal.returns-else-matches-clause-tells
returns-else-matches-clause-tells c =
    flush_told _ _ c.self.inside.session c.in-Some.session c.in-Some.is
    c.args.self.now c.self.view_is c.flush.new.self c.args.call.now c.match-flush.call
    c.match-flush.answer c.flush.ensures.goes_on
    (λ misuse. elim c.match-flush.branch [
      | in-Ok w ↦ (let never : ⊥ = omega (arith, misuse, w.answer-is) in never)
      | in-Err w ↦ (w.flush_answer-answer.ensures.other).3 (sym w.answer-is ∙ misuse)
    ]) (λ done. elim c.match-flush.branch [
      | in-Ok w ↦ subst (λ (call : SessionCall).
          IsToldMade ProgramSays c.args.call.now.upto (hard_of_call call)
          (view_of_session c.flush.new.self)) (sym w.call-is) w.in-Ok.ensures.told
      | in-Err w ↦ absurd ((w.flush_answer-answer.ensures.other).0 (sym w.answer-is ∙ done))
    ]) (λ behind. elim c.match-flush.branch [
      | in-Ok w ↦ absurd (let never : ⊥ = omega (arith, behind, w.answer-is) in never)
      | in-Err w ↦ subst (λ (call : SessionCall).
          IsPromisedHard (hard_of_call call) (log_of_pass (view_of_session c.flush.new.self)))
          (sym w.call-is) (held_told c.flush.new.self w.in-Err.e w.flush_answer-answer.new.call
          (w.flush_answer-answer.ensures.behind (sym w.answer-is ∙ behind)) w.in-Err.ensures.behind)
    ])
    (λ above. elim c.match-flush.branch [
      | in-Ok w ↦ absurd (let never : ⊥ = omega (arith, above, w.answer-is) in never)
      | in-Err w ↦ subst (λ (call : SessionCall).
          FindsUnreserved c.args.call.now.upto call.end c.in-Some.session c.flush.new.self)
          (sym w.call-is) (unreserved_told c.args.call.now.upto c.in-Some.session
          c.flush.new.self w.in-Err.e w.flush_answer-answer.new.call
          (w.flush_answer-answer.ensures.unreserved (sym w.answer-is ∙ above))
          w.in-Err.ensures.refused)
    ]) (λ down. elim c.match-flush.branch [
      | in-Ok w ↦ absurd (let never : ⊥ = omega (arith, down, w.answer-is) in never)
      | in-Err w ↦ subst (λ (call : SessionCall).
          KnowsDown call.detail (view_of_session c.flush.new.self)) (sym w.call-is)
          (flush_down_told c.args.call.now.upto c.in-Some.session c.flush.new.self w.in-Err.e
          w.flush_answer-answer.new.call
          (w.flush_answer-answer.ensures.down (sym w.answer-is ∙ down)) w.in-Err.ensures.refused)
    ])

use Rattle.std.proofs.Common.{◌∙◌, arith, rules, subst, sym}
use Rattle.wal_log.specs.PassLogs.{log_of_pass}
use Rattle.wal_log.specs.declared.behind.Caught.TheVariants.{Flushed, Idle}
use Rattle.embedded_log.specs.Promised.{IsPromisedHard, KnowsDown, TellsMade}
use Rattle.embedded_log.specs.Sessions.{view_of_session}
use Rattle.pgwal_c.specs.declared.session_handle.SessionCall.{SessionCall}
use Rattle.pgwal_c.specs.Told.{ProgramSays, hard_of_call}
use Rattle.pgwal_c.proofs.Telling.{behind_down_told, caught_is, caught_told, held_told}
use Rattle.pgwal_c.proofs.session_handle.SessionHandle.write_behind.Goals as goal
use Rattle.pgwal_c.proofs.session_handle.SessionHandle.write_behind.Goals.{in-Ok-Flushed, in-Ok-Idle, in-Err}

pub returns-then-matches : goal.returns-then-matches
returns-then-matches c =
    let s = c.in-Some.session in let t = c.write_behind.new.self in
    caught_told _ _ c.self.inside.session s c.in-Some.is c.args.self.now c.self.view_is t
    c.match-write_behind.call c.match-write_behind.answer c.write_behind.ensures.goes_on
    (λ misuse. elim c.match-write_behind.branch [
      | in-Ok-Flushed w ↦ (let never : ⊥ = omega (arith, misuse, w.answer-is) in never)
      | in-Ok-Idle w ↦ (let never : ⊥ = omega (arith, misuse, w.answer-is) in never)
      | in-Err w ↦ (w.flush_answer-answer.ensures.other).3 (sym w.answer-is ∙ misuse)
    ])
    (λ done. elim c.match-write_behind.branch [
      | in-Ok-Flushed w ↦ subst (λ (call : SessionCall). TellsMade ProgramSays
          (Flushed (hard_of_call call)) (view_of_session s) (view_of_session t)) (sym w.call-is)
          (caught_is s t w.in-Ok-Flushed.field-0 (Flushed w.in-Ok-Flushed.hard)
          w.in-Ok-Flushed.field-0-is w.in-Ok-Flushed.ensures.told)
      | in-Ok-Idle w ↦ absurd (let never : ⊥ = omega (arith, done, w.answer-is) in never)
      | in-Err w ↦ absurd ((w.flush_answer-answer.ensures.other).0 (sym w.answer-is ∙ done))
    ]) (λ idle. elim c.match-write_behind.branch [
      | in-Ok-Flushed w ↦ absurd (let never : ⊥ = omega (arith, idle, w.answer-is) in never)
      | in-Ok-Idle w ↦ subst (λ (call : SessionCall). TellsMade ProgramSays
          (Idle (record { 0 = call.upto })) (view_of_session s) (view_of_session t))
          (sym w.call-is) (caught_is s t w.in-Ok-Idle.field-0 (Idle w.in-Ok-Idle.upto)
          w.in-Ok-Idle.field-0-is w.in-Ok-Idle.ensures.told)
      | in-Err w ↦ absurd ((w.flush_answer-answer.ensures.other).2 (sym w.answer-is ∙ idle))
    ]) (λ behind. elim c.match-write_behind.branch [
      | in-Ok-Flushed w ↦ absurd (let never : ⊥ = omega (arith, behind, w.answer-is) in never)
      | in-Ok-Idle w ↦ absurd (let never : ⊥ = omega (arith, behind, w.answer-is) in never)
      | in-Err w ↦ subst (λ (call : SessionCall).
          IsPromisedHard (hard_of_call call) (log_of_pass (view_of_session t))) (sym w.call-is)
          (held_told t w.in-Err.e w.flush_answer-answer.new.call
          (w.flush_answer-answer.ensures.behind (sym w.answer-is ∙ behind)) w.in-Err.ensures.behind)
    ])
    (λ down. elim c.match-write_behind.branch [
      | in-Ok-Flushed w ↦ absurd (let never : ⊥ = omega (arith, down, w.answer-is) in never)
      | in-Ok-Idle w ↦ absurd (let never : ⊥ = omega (arith, down, w.answer-is) in never)
      | in-Err w ↦ subst (λ (call : SessionCall). KnowsDown call.detail (view_of_session t))
          (sym w.call-is) (behind_down_told s t w.in-Err.e w.flush_answer-answer.new.call
          (w.flush_answer-answer.ensures.down (sym w.answer-is ∙ down)) w.in-Err.ensures.refused)
    ])

pub returns-else-matches : goal.returns-else-matches
returns-else-matches c =
    caught_told _ _ c.self.inside.session c.in-Some.session c.in-Some.is c.args.self.now
    c.self.view_is c.write_behind.new.self c.match-write_behind.call c.match-write_behind.answer
    c.write_behind.ensures.goes_on
    (λ misuse. elim c.match-write_behind.branch [
      | in-Ok-Flushed w ↦ (let never : ⊥ = omega (arith, misuse, w.answer-is) in never)
      | in-Ok-Idle w ↦ (let never : ⊥ = omega (arith, misuse, w.answer-is) in never)
      | in-Err w ↦ (w.flush_answer-answer.ensures.other).3 (sym w.answer-is ∙ misuse)
    ])
    (λ done. absurd (let never : ⊥ = search rules in never))
    (λ idle. absurd (let never : ⊥ = search rules in never))
    (λ behind. absurd (let never : ⊥ = search rules in never))
    (λ down. elim c.match-write_behind.branch [
      | in-Ok-Flushed w ↦ absurd (let never : ⊥ = omega (arith, down, w.answer-is) in never)
      | in-Ok-Idle w ↦ absurd (let never : ⊥ = omega (arith, down, w.answer-is) in never)
      | in-Err w ↦ subst (λ (call : SessionCall).
          KnowsDown call.detail (view_of_session c.write_behind.new.self)) (sym w.call-is)
          (behind_down_told c.in-Some.session c.write_behind.new.self w.in-Err.e
          w.flush_answer-answer.new.call
          (w.flush_answer-answer.ensures.down (sym w.answer-is ∙ down)) w.in-Err.ensures.refused)
    ])

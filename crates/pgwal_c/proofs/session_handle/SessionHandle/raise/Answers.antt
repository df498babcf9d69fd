use Rattle.std.proofs.Common.{arith}
use Rattle.pgwal_c.proofs.Telling.{raised_told}
use Rattle.pgwal_c.proofs.session_handle.SessionHandle.raise.Goals as goal
use Rattle.pgwal_c.proofs.session_handle.SessionHandle.raise.Goals.{in-Ok, in-Err}

pub returns : goal.returns
returns c =
    raised_told _ _ c.self.inside.session c.in-Some.session c.in-Some.is c.args.self.now
    c.self.view_is c.raise_async.new.self c.match-raise_async.result c.raise_async.ensures.goes_on
    (λ misuse. elim c.match-raise_async.branch [
      | in-Ok w ↦ (let never : ⊥ = omega (arith, misuse, w.result-is) in never)
      | in-Err w ↦ (let never : ⊥ = omega (arith, misuse, w.result-is) in never)
    ])
    (λ done. elim c.match-raise_async.branch [
      | in-Ok w ↦ w.in-Ok.ensures.raises
      | in-Err w ↦ absurd (let never : ⊥ = omega (arith, done, w.result-is) in never)
    ])

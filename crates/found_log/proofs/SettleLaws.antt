-- A log that was found is settled.
use Rattle.std.proofs.Common.{ℕ, Option, subst}
use Rattle.std.specs.Prelude.{IfSome}
use Rattle.segment_disk.specs.Tape.{Tape, IsNotMade, state_now}
use Rattle.flush_core.specs.Settled.{AreAllThere, HasNotSettled, HasSettled}
use Rattle.flush_core.proofs.SettleCalls.{lifted}
use Rattle.found_log.specs.declared.finding.FoundLog.{FoundLog}
use Rattle.found_log.specs.Found.{FindsLog, IsDiskLog, place_of_log}

module _ (size end : ℕ) (new : Option Tape) (m0 m1 : ℕ) where
  -- no call was made before
  pub settled_since : (old one : Option Tape) (m made : ℕ) → IsNotMade old one m m0
      → HasSettled size end made one new m0 m1 → HasSettled size end made old new m m1
  settled_since old one m made same settled =
      let on_tape = subst (λ (t : Option Tape). HasSettled size end made t new m0 m1) same.same_tape
      settled in
      subst (λ (n : ℕ). HasSettled size end made old new n m1) same.same_moment on_tape

  pub stopped_since : (old one : Option Tape) (m : ℕ) → IsNotMade old one m m0
      → HasNotSettled size end one new m0 m1 → HasNotSettled size end old new m m1
  stopped_since old one m same stopped =
      let on_tape = subst (λ (t : Option Tape). HasNotSettled size end t new m0 m1) same.same_tape
      stopped in
      subst (λ (n : ℕ). HasNotSettled size end old new n m1) same.same_moment on_tape

pub there_of : (size cap : ℕ) (log : FoundLog) (tape : Option Tape) → FindsLog size cap tape log
    → IfSome tape (λ t. AreAllThere size (state_now t) log.made)
there_of size cap log tape finds =
    lifted tape (IsDiskLog size cap finds.records (place_of_log log) log.made)
    (λ (t : Tape). AreAllThere size (state_now t) log.made) (λ t found. found.counted.there)
    finds.tells

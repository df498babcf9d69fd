use Rattle.std.specs.Prelude.{Err}
use Rattle.std.proofs.Common.{ℕ, ap, sym, subst, ◌∙◌}
use Rattle.byte_position.specs.Geometry.{IsSegmentSize}
use Rattle.machine_state.specs.declared.setup.Setup.{Setup}
use Rattle.wal_rule.specs.SeatedPasses.{view_of}
use Rattle.wal_log.specs.declared.flushing.TryFlushErr.TheVariants.{Down}
use Rattle.wal_log.proofs.BehindLaws.{flushes_behind, not_aimed, tells_behind_try, same_faults}
use Rattle.wal_log.proofs.Seated.{own_setup, valid_size}
use Rattle.wal_log.proofs.Trying.{rests_again}
use Rattle.wal_log.proofs.behind.try_write_behind.Goals as goal

pub returns-in-Ok-Idle-clause-down_again : goal.returns-in-Ok-Idle-clause-down_again
returns-in-Ok-Idle-clause-down_again g c = λ faults knows. absurd
    (not_aimed c.in-Ok-Idle.field-0 faults (c.in-Ok-Idle.ensures.known faults knows))

pub returns-in-Err-clause-down_again : goal.returns-in-Err-clause-down_again
returns-in-Err-clause-down_again g c = λ faults knows. ap (λ (n : ℕ). Err (Down n))
    (same_faults c.in-Err.faults faults (c.in-Err.ensures.known faults knows))

-- ---- there was something to flush

pub returns-in-Ok-clause-catches : goal.returns-in-Ok-clause-catches
returns-in-Ok-clause-catches g c =
    let has = rw c.in-Ok-Upto.field-0-is at c.in-Ok-Upto.ensures.aims in
    flushes_behind c.in-Ok-Upto.target.0 (view_of c.args.seated.now)
    (view_of c.take_aim.new.seated) (view_of c.try_flush.new.seated) has
    c.take_aim.ensures.rests.keeps c.in-Ok.hard c.in-Ok.ensures.tries

pub returns-in-Ok-clause-down_again : goal.returns-in-Ok-clause-down_again
returns-in-Ok-clause-down_again g c = λ faults knows. absurd
    (not_aimed c.in-Ok-Upto.field-0 faults (c.in-Ok-Upto.ensures.known faults knows))

pub returns-in-Ok-clause-rests : goal.returns-in-Ok-clause-rests
returns-in-Ok-clause-rests g c = rests_again c.args.seated.now c.take_aim.new.seated
    c.try_flush.new.seated c.take_aim.ensures.rests c.try_flush.ensures.rests

pub returns-in-Err-try_flush-clause-catches : goal.returns-in-Err-try_flush-clause-catches
returns-in-Err-try_flush-clause-catches g c =
    let has = rw c.in-Ok-Upto.field-0-is at c.in-Ok-Upto.ensures.aims in
    let told = c.in-Err-try_flush.ensures.tries in
    let why = tells_behind_try c.in-Ok-Upto.target.0 (view_of c.args.seated.now)
    (view_of c.take_aim.new.seated) (view_of c.try_flush.new.seated) has
    c.take_aim.ensures.rests.keeps
    (subst (λ (s : Setup). IsSegmentSize s.seg_size) (sym (own_setup c.args.seated.now))
    (valid_size c.args.seated.now)) c.in-Err-try_flush.e told.0 in
    (why, told.1 ∙ c.take_aim.ensures.log)

pub returns-in-Err-try_flush-clause-down_again : goal.returns-in-Err-try_flush-clause-down_again
returns-in-Err-try_flush-clause-down_again g c = λ faults knows. absurd
    (not_aimed c.in-Ok-Upto.field-0 faults (c.in-Ok-Upto.ensures.known faults knows))

pub returns-in-Err-try_flush-clause-rests : goal.returns-in-Err-try_flush-clause-rests
returns-in-Err-try_flush-clause-rests g c = rests_again c.args.seated.now c.take_aim.new.seated
    c.try_flush.new.seated c.take_aim.ensures.rests c.try_flush.ensures.rests

use Rattle.std.specs.Prelude.{Err}
use Rattle.std.proofs.Common.{ℕ, ap, sym, subst, ◌∙◌}
use Rattle.byte_position.specs.Geometry.{IsSegmentSize}
use Rattle.machine_state.specs.declared.setup.Setup.{Setup}
use Rattle.wal_rule.specs.SeatedPasses.{view_of}
use Rattle.wal_log.specs.declared.flushing.FlushErr.TheVariants.{Down}
use Rattle.wal_log.proofs.BehindLaws.{flushes_behind, not_aimed, refuses_behind, same_faults}
use Rattle.wal_log.proofs.Seated.{own_setup, valid_size}
use Rattle.wal_log.proofs.Trying.{rests_again}
use Rattle.wal_log.proofs.behind.write_behind_on.Goals as goal

pub returns-in-Ok-Idle-clause-down_again : goal.returns-in-Ok-Idle-clause-down_again
returns-in-Ok-Idle-clause-down_again g c = λ faults knows. absurd
    (not_aimed c.in-Ok-Idle.field-0 faults (c.in-Ok-Idle.ensures.known faults knows))

pub returns-in-Err-clause-down_again : goal.returns-in-Err-clause-down_again
returns-in-Err-clause-down_again g c = λ faults knows. ap (λ (n : ℕ). Err (Down n))
    (same_faults c.in-Err.faults faults (c.in-Err.ensures.known faults knows))

-- ---- there was something to flush

pub returns-in-Ok-clause-catches : goal.returns-in-Ok-clause-catches
returns-in-Ok-clause-catches g c =
    let has = rw c.in-Ok-Upto.field-0-is at c.in-Ok-Upto.ensures.aims in
    flushes_behind c.in-Ok-Upto.target.0 (view_of c.args.seated.now)
    (view_of c.take_aim.new.seated) (view_of c.flush_on.new.seated) has
    c.take_aim.ensures.rests.keeps c.in-Ok.hard c.in-Ok.ensures.flushes

pub returns-in-Ok-clause-down_again : goal.returns-in-Ok-clause-down_again
returns-in-Ok-clause-down_again g c = λ faults knows. absurd
    (not_aimed c.in-Ok-Upto.field-0 faults (c.in-Ok-Upto.ensures.known faults knows))

pub returns-in-Ok-clause-rests : goal.returns-in-Ok-clause-rests
returns-in-Ok-clause-rests g c = rests_again c.args.seated.now c.take_aim.new.seated
    c.flush_on.new.seated c.take_aim.ensures.rests c.flush_on.ensures.rests

pub returns-in-Err-flush_on-clause-catches : goal.returns-in-Err-flush_on-clause-catches
returns-in-Err-flush_on-clause-catches g c =
    let has = rw c.in-Ok-Upto.field-0-is at c.in-Ok-Upto.ensures.aims in
    let told = c.in-Err-flush_on.ensures.flushes in
    let why = refuses_behind c.in-Ok-Upto.target.0 (view_of c.args.seated.now)
    (view_of c.take_aim.new.seated) (view_of c.flush_on.new.seated) has
    c.take_aim.ensures.rests.keeps
    (subst (λ (s : Setup). IsSegmentSize s.seg_size) (sym (own_setup c.args.seated.now))
    (valid_size c.args.seated.now)) c.in-Err-flush_on.e told.1 in
    (told.0 ∙ c.take_aim.ensures.log, why)

pub returns-in-Err-flush_on-clause-down_again : goal.returns-in-Err-flush_on-clause-down_again
returns-in-Err-flush_on-clause-down_again g c = λ faults knows. absurd
    (not_aimed c.in-Ok-Upto.field-0 faults (c.in-Ok-Upto.ensures.known faults knows))

pub returns-in-Err-flush_on-clause-rests : goal.returns-in-Err-flush_on-clause-rests
returns-in-Err-flush_on-clause-rests g c = rests_again c.args.seated.now c.take_aim.new.seated
    c.flush_on.new.seated c.take_aim.ensures.rests c.flush_on.ensures.rests

use Rattle.std.proofs.Common.{ℕ, refl, sym, ap, ◌∙◌, subst}
use Rattle.byte_position.specs.Geometry.{IsSegmentSize}
use Rattle.machine_state.proofs.NothingFound.{nothing_ends}
use Rattle.machine_state.specs.Opened.{IsFirstWriter}
use Rattle.machine_state.specs.Views.{Plain}
use Rattle.machine_state.specs.Words.{Opening}
use Rattle.wal_rule.specs.Founded.{empty_log_opening}
use Rattle.wal_rule.specs.Slotted.{resting_plain}
use Rattle.wal_rule.proofs.Founds.{first_at_rest}
use Rattle.wal_rule.proofs.writer.LogWriter.new.Goals as goal

pub returns-clause-first : goal.returns-clause-first
returns-clause-first g c = λ setup is.
    let tape = g.D.Disk.tape c.args.disk in
    let moment = g.D.Disk.moment c.args.disk in
    let opening : Opening = empty_log_opening setup moment (g.D.Disk.faults c.args.disk) in
    let value = c.segment_size-start.ensures.value in
    let end = nothing_ends opening
    (subst (λ (n : ℕ). IsSegmentSize n) (value ∙ sym is) c.segment_size-start.ensures.valid) refl
    ∙ is ∙ sym value in
    subst (λ (p : Plain). IsFirstWriter opening p)
    (ap (λ (n : ℕ). resting_plain tape moment n 0) end ∙ sym c.resume.ensures.plain)
    (first_at_rest opening tape moment c.moments_count_calls.ensures refl)

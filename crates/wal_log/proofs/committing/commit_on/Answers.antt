use Rattle.std.specs.Prelude.{Some}
use Rattle.std.proofs.Common.{◌≡◌, ℕ, refl, ap, ◌∙◌}
use Rattle.std.proofs.lemmas.Result.{err_from_is_err_and}
use Rattle.wal_types.specs.declared.answers.Cause.TheVariants as causes
use Rattle.wal_types.specs.declared.lsn.Lsn.{Lsn}
use Rattle.machine_state.specs.declared.setup.Setup.{Setup}
use Rattle.wal_rule.specs.SeatedPasses.{setup_of, view_of}
use Rattle.wal_log.specs.declared.inserting.InsertErr.TheVariants.{Disk, Down}
use Rattle.wal_log.proofs.CommitLaws.{end_is_reserved, known_again, never_both, sealed_is, set_none, started}
use Rattle.wal_log.proofs.Keeping.{meets_since}
use Rattle.wal_log.proofs.Seated.{own_setup, same_setup, valid_size}
use Rattle.wal_log.proofs.Trying.{rests_again}
use Rattle.wal_log.proofs.committing.commit_on.Goals as goal

pub returns-in_err-start-clause-commits : goal.returns-in_err-start-clause-commits
returns-in_err-start-clause-commits g c =
    let exit = err_from_is_err_and c.from_residual.result c.from_residual.ensures.1 in
    rw exit.1 (_, exit.2, c.in_err-start.ensures.inserts)

pub returns-in_err-start-clause-down_again : goal.returns-in_err-start-clause-down_again
returns-in_err-start-clause-down_again g c = λ faults knows.
    let exit = err_from_is_err_and c.from_residual.result c.from_residual.ensures.1 in
    known_again c.insert_on.result _ c.from_residual.result exit.0 faults c.in_err-start.was
    exit.1 exit.2 (c.insert_on.ensures.down_again faults knows)

pub unreachable-requires : goal.unreachable-requires
unreachable-requires g c =
    let setup : Setup = setup_of c.args.seated.now in
    let mid = view_of c.insert_on.new.seated in
    let same : mid.opening.setup ≡ setup = own_setup c.insert_on.new.seated
    ∙ same_setup c.args.seated.now c.insert_on.new.seated c.insert_on.ensures.rests.same_table in
    let why = rw c.in-Err-Unreserved.field-0-is at c.in-Err-Unreserved.ensures.flushes in
    end_is_reserved setup c.args.body.now (view_of c.args.seated.now) mid
    (view_of c.flush_in_company.new.seated) c.in_ok-start.field-0 c.in_ok-start.ensures.inserts
    c.in-Err-Unreserved.field-0-0.0
    (valid_size c.args.seated.now) same why.1

pub returns-in-Ok-clause-commits : goal.returns-in-Ok-clause-commits
returns-in-Ok-clause-commits g c =
    let setup : Setup = setup_of c.args.seated.now in
    let mid = view_of c.insert_on.new.seated in
    let same : mid.opening.setup ≡ setup = own_setup c.insert_on.new.seated
    ∙ same_setup c.args.seated.now c.insert_on.new.seated c.insert_on.ensures.rests.same_table in
    sealed_is setup c.args.body.now (view_of c.args.seated.now) mid (view_of c.flush_in_company.new.seated)
    c.in_ok-start.field-0 c.in_ok-start.ensures.inserts c.insert_on.ensures.rests.keeps
    c.flush_in_company.ensures.rests.keeps same _
    c.in-Ok.hard.upto.0 refl refl c.in-Ok.ensures.flushes.0

pub returns-in-Ok-clause-alone : goal.returns-in-Ok-clause-alone
returns-in-Ok-clause-alone g c = λ alone. record {
  inserted = view_of c.insert_on.new.seated;
  inserts = c.in_ok-start.ensures.alone alone;
  upto = c.in-Ok.hard.upto.0;
  flushes = c.in-Ok.ensures.flushes.0;
}

pub returns-in-Ok-clause-down_again : goal.returns-in-Ok-clause-down_again
returns-in-Ok-clause-down_again g c = λ faults knows. absurd (never_both c.insert_on.result _ _
    c.in_ok-start.was (c.insert_on.ensures.down_again faults knows))

pub returns-in-Ok-clause-rests : goal.returns-in-Ok-clause-rests
returns-in-Ok-clause-rests g c = rests_again c.args.seated.now c.insert_on.new.seated
    c.flush_in_company.new.seated c.insert_on.ensures.rests c.flush_in_company.ensures.rests

pub returns-in-Err-Disk-clause-commits : goal.returns-in-Err-Disk-clause-commits
returns-in-Err-Disk-clause-commits g c =
    let start : Lsn = c.in_ok-start.field-0.start in
    let why = rw c.in-Err-Disk.field-0-is at c.in-Err-Disk.ensures.flushes in
    let is : c.into.result
    ≡ record { cause = causes.Disk c.in-Err-Disk.faults; reserved = Some start } =
    c.into.ensures
    ∙ ap (λ (n : ℕ). record { cause = causes.Disk n; reserved = Some start })
    c.in-Err-Disk.faults-is in (
      Disk c.in-Err-Disk.faults start,
      is,
      (
        started (setup_of c.args.seated.now) c.args.body.now (view_of c.args.seated.now)
            (view_of c.insert_on.new.seated) (view_of c.flush_in_company.new.seated) c.in_ok-start.field-0
            c.in_ok-start.ensures.inserts why.0 c.flush_in_company.ensures.rests.keeps.rises,
        why.1.down,
      ),
    )

pub returns-in-Err-Disk-clause-down_again : goal.returns-in-Err-Disk-clause-down_again
returns-in-Err-Disk-clause-down_again g c = λ faults knows. absurd (never_both
    c.insert_on.result _ _ c.in_ok-start.was (c.insert_on.ensures.down_again faults knows))

pub returns-in-Err-Disk-clause-rests : goal.returns-in-Err-Disk-clause-rests
returns-in-Err-Disk-clause-rests g c = rests_again c.args.seated.now c.insert_on.new.seated
    c.flush_in_company.new.seated c.insert_on.ensures.rests c.flush_in_company.ensures.rests

pub returns-in-Err-Down-clause-commits : goal.returns-in-Err-Down-clause-commits
returns-in-Err-Down-clause-commits g c =
    let start : Lsn = c.in_ok-start.field-0.start in
    let why = rw c.in-Err-Down.field-0-is at c.in-Err-Down.ensures.flushes in
    let is : c.into-in-Err-Down.result
    ≡ record { cause = causes.Down c.in-Err-Down.faults; reserved = Some start } =
    c.into-in-Err-Down.ensures
    ∙ ap (λ (n : ℕ). record { cause = causes.Down n; reserved = Some start })
    c.in-Err-Down.faults-is in (
      Down c.in-Err-Down.faults (Some start),
      is,
      (
        started (setup_of c.args.seated.now) c.args.body.now (view_of c.args.seated.now)
            (view_of c.insert_on.new.seated) (view_of c.flush_in_company.new.seated) c.in_ok-start.field-0
            c.in_ok-start.ensures.inserts why.0 c.flush_in_company.ensures.rests.keeps.rises,
        meets_since (view_of c.args.seated.now) (view_of c.insert_on.new.seated)
            (view_of c.flush_in_company.new.seated) c.in-Err-Down.faults
            (set_none (setup_of c.args.seated.now) c.args.body.now (view_of c.args.seated.now)
            (view_of c.insert_on.new.seated) (view_of c.flush_in_company.new.seated) c.in_ok-start.field-0
            c.in_ok-start.ensures.inserts c.insert_on.ensures.rests.keeps)
            why.1,
      ),
    )

pub returns-in-Err-Down-clause-down_again : goal.returns-in-Err-Down-clause-down_again
returns-in-Err-Down-clause-down_again g c = λ faults knows. absurd (never_both
    c.insert_on.result _ _ c.in_ok-start.was (c.insert_on.ensures.down_again faults knows))

pub returns-in-Err-Down-clause-rests : goal.returns-in-Err-Down-clause-rests
returns-in-Err-Down-clause-rests g c = rests_again c.args.seated.now c.insert_on.new.seated
    c.flush_in_company.new.seated c.insert_on.ensures.rests c.flush_in_company.ensures.rests

pub returns-in-Ok-clause-async_met : goal.returns-in-Ok-clause-async_met
returns-in-Ok-clause-async_met g c =
    c.flush_in_company.ensures.async_met ∙ c.insert_on.ensures.async_met

pub returns-in-Err-Disk-clause-async_met : goal.returns-in-Err-Disk-clause-async_met
returns-in-Err-Disk-clause-async_met g c =
    c.flush_in_company.ensures.async_met ∙ c.insert_on.ensures.async_met

pub returns-in-Err-Down-clause-async_met : goal.returns-in-Err-Down-clause-async_met
returns-in-Err-Down-clause-async_met g c =
    c.flush_in_company.ensures.async_met ∙ c.insert_on.ensures.async_met

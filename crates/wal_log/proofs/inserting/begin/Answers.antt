use Rattle.std.proofs.Common.{◌≡◌, ℕ, Result, Ok, Err, None, sym, ap, ◌∙◌, subst}
use Rattle.wal_rule.specs.SeatedPasses.{setup_of, view_of}
use Rattle.wal_log.specs.declared.beginning.Begun.{Begun}
use Rattle.wal_log.specs.declared.beginning.TryErr.{TryErr}
use Rattle.wal_log.specs.declared.beginning.TryErr.TheVariants as tries
use Rattle.wal_log.specs.declared.inserting.InsertErr.TheVariants.{Down}
use Rattle.wal_log.specs.Beginning.{AnswersBeginTry}
use Rattle.wal_log.specs.Standing.{GoesOnSeated}
use Rattle.wal_log.proofs.AwaitLaws.{tried_and_looked}
use Rattle.wal_log.proofs.BeginLaws.{answers_since, refused_try}
use Rattle.wal_log.proofs.Keeping.{further_pass}
use Rattle.wal_log.proofs.Seated.{same_setup}
use Rattle.wal_log.proofs.Trying.{first_try, tried_in_vain_again}
use Rattle.wal_log.proofs.inserting.begin.Given.{Over}
use Rattle.wal_log.proofs.inserting.begin.Goals as goal
use Rattle.wal_log.proofs.inserting.begin.Goals.{After-try_begin}

not_ok : (b : Begun) (faults : ℕ) → Ok b ≡ refused_try (tries.Down faults) → ⊥
not_ok b faults is = absurd (cc)

not_full : (e : TryErr) (free faults : ℕ) → refused_try e ≡ refused_try (tries.Down faults)
    → e ≡ tries.Full free → ⊥
not_full e free faults is full = absurd (cc)

same_faults : (e : TryErr) (told faults : ℕ) → refused_try e ≡ refused_try (tries.Down faults)
    → e ≡ tries.Down told → told ≡ faults
same_faults e told faults is down = cc

pub loop-init : goal.loop-init
loop-init g c = record { goes_on = (tt, tt); tried = first_try c.args.seated.now c.requires.rests }

module _ (g : Over) (c : After-try_begin g) where
  -- what the try answers, since the call began, but where it found the position busy
  answers : (r : Result Begun TryErr) → c.try_begin.result ≡ r
      → ((seen : ℕ) → r ≡ refused_try (tries.Busy seen) → ⊥)
      → AnswersBeginTry (setup_of c.args.seated.now) c.args.body.now (view_of c.args.seated.now) r
      (view_of c.try_begin.new.seated)
  answers r is apart =
      let tried = c.loop.invariant.tried in
      subst (λ (x : Result Begun TryErr). AnswersBeginTry (setup_of c.args.seated.now)
      c.args.body.now (view_of c.args.seated.now) x (view_of c.try_begin.new.seated)) is
      (answers_since (setup_of c.args.seated.now) c.args.body.now (view_of c.args.seated.now)
      (view_of c.loop.seated) (view_of c.try_begin.new.seated) tried.comes.keeps tried.log
      tried.down_set (setup_of c.loop.seated)
      (same_setup c.args.seated.now c.loop.seated tried.comes.same_table)
      c.try_begin.result (λ seen busy. absurd (apart seen (sym is ∙ busy)))
      c.try_begin.ensures.begins)

  goes_on : GoesOnSeated c.args.seated.now c.try_begin.new.seated
  goes_on =
      let comes = c.loop.invariant.tried.comes in
      let last = c.try_begin.ensures.goes_on in record {
        stays = record {
          same_table = last.stays.same_table ∙ comes.same_table;
          same_hand = last.stays.same_hand ∙ comes.rests.empty ∙ sym c.requires.rests.empty;
        };
        keeps = further_pass (view_of c.args.seated.now) (view_of c.loop.seated)
            (view_of c.try_begin.new.seated) comes.keeps last.keeps;
        async = last.async ∙ c.loop.invariant.tried.async;
      }

pub returns-in-Ok-clause-begins : goal.returns-in-Ok-clause-begins
returns-in-Ok-clause-begins g c =
    answers g (goal.at.returns-in-Ok-clause-begins g c).After-try_begin (Ok c.in-Ok.begun)
    c.in-Ok.is (λ seen busy. absurd (cc))

pub returns-in-Ok-clause-down_again : goal.returns-in-Ok-clause-down_again
returns-in-Ok-clause-down_again g c = λ faults knows. absurd (not_ok c.in-Ok.begun faults
    (c.in-Ok.ensures.down_again faults
    (c.loop.invariant.tried.comes.keeps.down faults knows)))

pub returns-in-Ok-clause-goes_on : goal.returns-in-Ok-clause-goes_on
returns-in-Ok-clause-goes_on g c =
    goes_on g (goal.at.returns-in-Ok-clause-goes_on g c).After-try_begin

pub returns-in-Err-Full-clause-begins : goal.returns-in-Err-Full-clause-begins
returns-in-Err-Full-clause-begins g c =
    answers g (goal.at.returns-in-Err-Full-clause-begins g c).After-try_begin
    (Err (tries.Full c.in-Err-Full.free))
    (c.in-Err-Full.is ∙ ap refused_try c.in-Err-Full.field-0-is) (λ seen busy. absurd (cc))

pub returns-in-Err-Full-clause-down_again : goal.returns-in-Err-Full-clause-down_again
returns-in-Err-Full-clause-down_again g c = λ faults knows. absurd
    (not_full c.in-Err-Full.field-0 c.in-Err-Full.free faults
    (c.in-Err-Full.ensures.down_again faults
    (c.loop.invariant.tried.comes.keeps.down faults knows))
    c.in-Err-Full.field-0-is)

pub returns-in-Err-Full-clause-goes_on : goal.returns-in-Err-Full-clause-goes_on
returns-in-Err-Full-clause-goes_on g c =
    goes_on g (goal.at.returns-in-Err-Full-clause-goes_on g c).After-try_begin

pub returns-in-Err-Down-clause-begins : goal.returns-in-Err-Down-clause-begins
returns-in-Err-Down-clause-begins g c =
    let told = answers g (goal.at.returns-in-Err-Down-clause-begins g c).After-try_begin
    (Err (tries.Down c.in-Err-Down.faults))
    (c.in-Err-Down.is ∙ ap refused_try c.in-Err-Down.field-0-is) (λ seen busy. absurd (cc)) in
    ((told.0.1, told.0.0), told.1)

pub returns-in-Err-Down-clause-down_again : goal.returns-in-Err-Down-clause-down_again
returns-in-Err-Down-clause-down_again g c = λ faults knows.
    ap (λ (n : ℕ). Err (Down n None))
    (same_faults c.in-Err-Down.field-0 c.in-Err-Down.faults faults
    (c.in-Err-Down.ensures.down_again faults
    (c.loop.invariant.tried.comes.keeps.down faults knows))
    c.in-Err-Down.field-0-is)

pub returns-in-Err-Down-clause-goes_on : goal.returns-in-Err-Down-clause-goes_on
returns-in-Err-Down-clause-goes_on g c =
    goes_on g (goal.at.returns-in-Err-Down-clause-goes_on g c).After-try_begin

pub loop-preserved-in-Err-Busy : goal.loop-preserved-in-Err-Busy
loop-preserved-in-Err-Busy g c =
    let told = rw c.in-Err-Busy.field-0-is at c.in-Err-Busy.ensures.begins in record {
      goes_on = (tt, tt);
      tried = tried_and_looked c.args.seated.now c.try_begin.new.seated c.await_position.new.seated
          (tried_in_vain_again c.args.seated.now c.loop.seated c.try_begin.new.seated
          c.loop.invariant.tried c.try_begin.ensures.goes_on told.1
          (told.0.1.log_is ∙ c.loop.invariant.tried.log) c.try_begin.ensures.sets_none)
          c.await_position.ensures.sees;
    }

pub loop-preserved : goal.loop-preserved
loop-preserved g c =
    let told = answers g (goal.at.loop-preserved g c).After-try_begin
    _ (c.in-Err-AllHeld.is ∙ ap refused_try c.in-Err-AllHeld.field-0-is)
    (λ seen busy. absurd (cc)) in record {
      goes_on = (tt, tt);
      tried = tried_in_vain_again c.args.seated.now c.loop.seated c.try_begin.new.seated
          c.loop.invariant.tried c.try_begin.ensures.goes_on told.1 told.0.1.log_is
          c.try_begin.ensures.sets_none;
    }

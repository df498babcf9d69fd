-- A call seats a pass, comes to rest with it, and puts it back: what it answers of the seated pass
-- it answers of the pass.
use Rattle.std.proofs.Common.{◌≡◌, List, [], ℕ, sym, ap, ◌∙◌, subst}
use Rattle.machine_state.specs.Steps.{IsResting}
use Rattle.machine_state.specs.Views.{View}
use Rattle.machine_state.specs.declared.setup.Setup.{Setup}
use Rattle.wal_rule.specs.declared.pass.Pass.{Pass}
use Rattle.wal_rule.specs.declared.seated.SeatedPass.{SeatedPass}
use Rattle.wal_rule.specs.declared.table.LogTable.{LogTable}
use Rattle.wal_rule.specs.declared.writer.LogWriter.{LogWriter}
use Rattle.wal_rule.specs.Downs.{KnowsDown}
use Rattle.wal_rule.specs.Passes.{HasNumbers, SamePass, view_of_pass}
use Rattle.wal_rule.specs.SeatedPasses.{StandsAtRest, setup_of, view_of}
use Rattle.wal_rule.specs.Tables.{IsPassOn, setup_of_table}
use Rattle.wal_log.specs.declared.wal.Wal.{Wal}
use Rattle.wal_log.specs.Logs.{IsPassOfLog, LeavesPass, setup_of_log, table_of}
use Rattle.wal_log.specs.Standing.{ComesToRest, KeepsPass}

module _ {D : Type 0} (wal : Wal D) (pass : Pass) (seated : SeatedPass D)
    (view : (seated.seat).me ≡ (view_of_pass pass, [])) where
  pub seen_is : view_of seated ≡ view_of_pass pass
  seen_is = ap (λ (m : View × List (ℕ × LogWriter D)). m.0) view

  -- it begins at rest
  pub seated_rests : IsPassOfLog wal pass → StandsAtRest seated
  seated_rests of_log = record {
    rests = subst IsResting (sym seen_is) of_log.rests;
    empty = ap (λ (m : View × List (ℕ × LogWriter D)). m.1) view;
  }

  -- what holds of the pass holds of it seated
  pub asked : (seated.table).now ≡ table_of wal → (Asked : Setup → View → Type 0)
      → Asked (setup_of_log wal) (view_of_pass pass) → Asked (setup_of seated) (view_of seated)
  asked table Asked holds = subst (λ (v : View). Asked (setup_of seated) v) (sym seen_is)
      (subst (λ (s : Setup). Asked s (view_of_pass pass))
      (sym (ap (λ (t : LogTable D). setup_of_table t) table)) holds)

  -- a pass goes back with the numbers that it has kept
  pub numbers_kept : (new : View) → KeepsPass (view_of seated) new → (mid : Pass)
      → IsPassOn (table_of wal) pass → SamePass pass mid
      → HasNumbers mid.number mid.spare mid.spare_end new
  numbers_kept new keeps mid of_log same =
      let had = of_log.numbers in record {
        own = same.own ∙ had.own
            ∙ sym (keeps.number ∙ ap (λ (v : View). (v.reserving).number) seen_is);
        low = same.low ∙ had.low
            ∙ sym (keeps.spare ∙ ap (λ (v : View). (v.reserving).spare) seen_is);
        high = same.high ∙ had.high
            ∙ sym (keeps.spare_end ∙ ap (λ (v : View). (v.reserving).spare_end) seen_is);
      }

  -- to the log's table
  pub back_on : (new : SeatedPass D) → new.table ≡ seated.table
      → (seated.table).now ≡ table_of wal → (after : Pass) → IsPassOn (new.table).now after
      → IsPassOn (table_of wal) after
  back_on new same table after put = subst (λ (t : LogTable D). IsPassOn t after)
      (ap (λ t. t.now) same ∙ table) put

  module _ (new : SeatedPass D) (comes : ComesToRest seated new) where
    pub numbers_back : (mid : Pass) → IsPassOfLog wal pass → SamePass pass mid
        → HasNumbers mid.number mid.spare mid.spare_end (view_of new)
    numbers_back mid of_log same =
        numbers_kept (view_of new) comes.keeps mid of_log.of_log same

    module _ (table : (seated.table).now ≡ table_of wal) (after : Pass)
        (back : view_of_pass after ≡ view_of new) where
      pub still_pass : IsPassOn (new.table).now after → IsPassOfLog wal after
      still_pass put = record {
        of_log = back_on new comes.same_table table after put;
        rests = subst IsResting (sym back) (comes.rests).rests;
      }

      pub answered : (Answers : Setup → View → View → Type 0)
          → Answers (setup_of seated) (view_of seated) (view_of new)
          → Answers (setup_of_log wal) (view_of_pass pass) (view_of_pass after)
      answered Answers answers = subst (λ (v : View). Answers (setup_of_log wal)
          (view_of_pass pass) v) (sym back)
          (subst (λ (v : View). Answers (setup_of_log wal) v (view_of new)) seen_is
          (subst (λ (s : Setup). Answers s (view_of seated) (view_of new))
          (ap (λ (t : LogTable D). setup_of_table t) table) answers))

      pub leaves_pass : IsPassOn (new.table).now after → (told : ℕ → Type 0)
          → ((faults : ℕ) → KnowsDown faults (view_of seated) → told faults)
          → LeavesPass wal told pass after
      leaves_pass put told again = record {
        keeps = answered (λ setup old now. KeepsPass old now) comes.keeps;
        pass = still_pass put;
        down_again = answered (λ setup old now. (faults : ℕ) → KnowsDown faults old → told faults)
            again;
      }

-- A session that has all numbers of its log keeps them from call to call.
use Rattle.std.specs.Prelude.{Any}
use Rattle.std.proofs.Common.{◌≡◌, ◌⊎◌, inl, inr, ℕ, zero, suc, List, [], ◌∷◌, ◌++◌, refl, sym, ap, ◌∙◌, subst, arith}
use Rattle.machine_laws.specs.ClosedLogs.{HasAllNumbers}
use Rattle.machine_laws.specs.SharedOrders.{HasNumber}
use Rattle.machine_state.specs.Moves.{after_split, split_off}
use Rattle.machine_state.specs.Opened.{first_view}
use Rattle.machine_state.specs.Views.{View}
use Rattle.machine_state.specs.Words.{Opening}
use Rattle.machine_state.specs.declared.setup.Setup.{Setup}
use Rattle.wal_rule.specs.Closing.{KeepsNumbers}
use Rattle.wal_rule.specs.Passes.{view_of_pass}
use Rattle.wal_rule.specs.declared.pass.Pass.{Pass}
use Rattle.wal_log.specs.declared.reopening.Found.{Found}
use Rattle.wal_log.specs.Logs.{opening_of_log}
use Rattle.wal_log.specs.Sharing.{ShareNumbers, SomeHas}
use Rattle.wal_log.specs.Standing.{KeepsPass}
use Rattle.embedded_log.specs.Opened.{IsFirstOn, OpensSession}
use Rattle.embedded_log.specs.Reopened.{ReopensSession}
use Rattle.embedded_log.specs.Sessions.{GoesOnOpen, IsSole, setup_of_session, view_of_helper, view_of_session, wal_of_session}
use Rattle.embedded_log.specs.declared.session.LogSession.{LogSession}

-- of one view
only : (P : View → Type 0) (w : View) → Any P (w ∷ []) → P w
only P w (zero, x, low, is, p) = subst P (sym is) p
only P w (suc k, x, low, is, p) = absurd (omega arith)

there : (P : View → Type 0) (w : View) → P w → Any P (w ∷ [])
there P w p = (zero, w, omega arith, refl, p)

still_had : (number : ℕ) (v w v′ w′ : View) → KeepsNumbers v v′ → KeepsNumbers w w′
    → HasNumber number v.reserving ⊎ SomeHas number (w ∷ [])
    → HasNumber number v′.reserving ⊎ SomeHas number (w′ ∷ [])
still_had number v w v′ w′ first second (inl own) = inl (first number own)
still_had number v w v′ w′ first second (inr others) =
    let has : View → Type 0 = λ x. HasNumber number x.reserving in
    inr (there has w′ (second number (only has w others)))

-- two passes that have all numbers between them keep them
still_shared : (passes : ℕ) (v w v′ w′ : View) → KeepsNumbers v v′ → KeepsNumbers w w′
    → ShareNumbers passes v (w ∷ []) → ShareNumbers passes v′ (w′ ∷ [])
still_shared passes v w v′ w′ first second shares = λ number low.
    still_had number v w v′ w′ first second (shares number low)

module _ {H : Type 0} where
  pub still_sole : ((old new : View) → KeepsPass old new → KeepsNumbers old new)
      → (old new : LogSession H) → GoesOnOpen old new → IsSole old → IsSole new
  still_sole keeps_numbers old new on sole =
      let same = ap (λ log. (setup_of_session (record old { log = log })).passes) on.same_log in
      record {
        numbers = subst (λ (passes : ℕ). ShareNumbers passes (view_of_session new)
            (view_of_helper new ∷ [])) (sym same)
            (still_shared (setup_of_session old).passes (view_of_session old) (view_of_helper old)
            (view_of_session new) (view_of_helper new)
            (keeps_numbers (view_of_session old) (view_of_session new) on.keeps)
            (keeps_numbers (view_of_helper old) (view_of_helper new) on.helper) sole.numbers);
        none_to_give = (on.helper).spare_end ∙ sole.none_to_give;
      }

  module _
      (first_has : (opening : Opening)
      → HasAllNumbers (opening.setup).passes (first_view opening).reserving)
      (none : (passes : ℕ) (v : View) → HasAllNumbers passes v.reserving → ShareNumbers passes v [])
      (split : (passes : ℕ) (v : View) (others : List View) → ShareNumbers passes v others
      → ShareNumbers passes (after_split v) (others ++ split_off v ∷ [])) where
    -- the first session of a log has all numbers, if its first pass had them
    first_sole : (session : LogSession H) (first : Pass)
        → view_of_pass first ≡ first_view (opening_of_log (wal_of_session session))
        → IsFirstOn (wal_of_session session) first session → IsSole session
    first_sole session first view begins =
        let passes = (setup_of_session session).passes in
        let v = view_of_pass first in
        let all = subst (λ (v : View). HasAllNumbers passes v.reserving) (sym view)
        (first_has (opening_of_log (wal_of_session session))) in
        let shared = split passes v [] (none passes v all) in
        let mine = subst (λ (v : View). ShareNumbers passes v (split_off (view_of_pass first) ∷ []))
        (sym begins.pass) shared in record {
          numbers = subst (λ (w : View). ShareNumbers passes (view_of_session session) (w ∷ []))
              (sym begins.helper) mine;
          none_to_give = ap (λ (w : View). (w.reserving).spare_end) begins.helper;
        }

    pub opened_sole : (setup : Setup) (session : LogSession H) → OpensSession setup session
        → IsSole session
    opened_sole setup session opens =
        first_sole session opens.first (opens.opened).view opens.begins

    pub reopened_sole : (setup : Setup) (session : LogSession H) (found : Found)
        → ReopensSession setup session found → IsSole session
    reopened_sole setup session found reopens =
        first_sole session reopens.first (reopens.reopened).view reopens.begins

-- What a copy leaves that was given up, or whose locks were given back.
use Rattle.std.proofs.Common.{◌≡◌, ◌≢◌, ◌⊎◌, ℕ, List, inl, inr, sym, ap, ◌∙◌, subst}
use Rattle.wal_page.specs.Placed.{PlacedState}
use Rattle.machine_state.specs.declared.setup.Setup.{Setup}
use Rattle.machine_state.specs.Steps.{IsResting}
use Rattle.machine_state.specs.Views.{View}
use Rattle.wal_log.specs.declared.fault.Fault.{Fault}
use Rattle.wal_log.specs.declared.fault.Fault.TheVariants.{Disk, Down}
use Rattle.wal_log.specs.Downs.{KnowsNoFault, MeetsFault}
use Rattle.wal_log.specs.PassLogs.{log_of_pass}
use Rattle.wal_log.specs.Standing.{CopiesUnder, KeepsPass}
use Rattle.wal_log.proofs.Unlocking.{landed_rests, rested, rested_keeps}

-- a failed copy's pass knows of a failed disk
pub copy_failed : (u v : View) (fault : Fault) → MeetsFault u v fault
    → (v.writing.down_met ≢ 0) ⊎ (v.writing.down_set ≢ 0)
copy_failed u v (Disk faults) told = inr (λ z. told.some (sym told.set ∙ z))
copy_failed u v (Down faults) told = inl (λ z. told.some (sym told.met ∙ z))

-- steps of a copy left a view, and then the pass rested
module _ (setup : Setup) (locks : List ℕ) (left : PlacedState) (old v new : View)
    (under : CopiesUnder setup locks left v) (is : new ≡ rested v) where
  pub landed_is_rest : IsResting new
  landed_is_rest = subst IsResting (sym is) (landed_rests setup locks left v under)

  pub landed_keeps : KeepsPass old v → KeepsPass old new
  landed_keeps keeps = subst (KeepsPass old) (sym is) (rested_keeps old v keeps)

  pub landed_log : log_of_pass v ≡ log_of_pass old → log_of_pass new ≡ log_of_pass old
  landed_log same = ap (λ (w : View). log_of_pass w) is ∙ same

  pub landed_up : KnowsNoFault v → KnowsNoFault new
  landed_up up = subst KnowsNoFault (sym is) (record { met = up.met; set = up.set })

  pub landed_fault : (fault : Fault) → MeetsFault old v fault → MeetsFault old new fault
  landed_fault (Disk faults) told = record {
    set = ap (λ (w : View). w.writing.down_set) is ∙ told.set;
    some = told.some;
  }
  landed_fault (Down faults) told = record {
    met = ap (λ (w : View). w.writing.down_met) is ∙ told.met;
    some = told.some;
    set_none = ap (λ (w : View). w.writing.down_set) is ∙ told.set_none;
  }

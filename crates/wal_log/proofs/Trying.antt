-- A call makes try after try: what stays of its pass while they tell nothing.
use Rattle.std.proofs.Common.{◌≡◌, refl, ◌∙◌}
use Rattle.machine_state.specs.Steps.{IsResting}
use Rattle.wal_rule.specs.declared.seated.SeatedPass.{SeatedPass}
use Rattle.wal_rule.specs.SeatedPasses.{StandsAtRest, view_of}
use Rattle.wal_log.specs.Downs.{KnowsNoFault}
use Rattle.wal_log.specs.PassLogs.{log_of_pass}
use Rattle.wal_log.specs.Standing.{ComesToRest, GoesOnSeated}
use Rattle.wal_log.proofs.Keeping.{both_up, further_pass, same_pass, up_before}

-- some tries told nothing, and set no down value
pub record HasTriedOn {D : Type 0} (old now : SeatedPass D) : Type 0 where
  pub comes : ComesToRest old now
  pub log : log_of_pass (view_of now) ≡ log_of_pass (view_of old)
  pub down_set : (view_of now).writing.down_set ≡ (view_of old).writing.down_set
  pub async : (view_of now).async_met ≡ (view_of old).async_met

pub rests_again : {D : Type 0} → (old now new : SeatedPass D) → ComesToRest old now
    → ComesToRest now new → ComesToRest old new
rests_again old now new x y = record {
  same_table = y.same_table ∙ x.same_table;
  keeps = further_pass (view_of old) (view_of now) (view_of new) x.keeps y.keeps;
  rests = y.rests;
}

pub first_try : {D : Type 0} → (p : SeatedPass D) → StandsAtRest p → HasTriedOn p p
first_try p rests = record {
  comes = record { same_table = refl; keeps = same_pass (view_of p); rests = rests };
  log = refl;
  down_set = refl;
  async = refl;
}

-- nor did one more, behind which the disk is up
pub tried_again : {D : Type 0} → (old now new : SeatedPass D) → HasTriedOn old now
    → ComesToRest now new → log_of_pass (view_of new) ≡ log_of_pass (view_of now)
    → KnowsNoFault (view_of new) → (view_of new).async_met ≡ (view_of now).async_met
    → HasTriedOn old new
tried_again old now new tried comes same up async = record {
  comes = rests_again old now new tried.comes comes;
  log = same ∙ tried.log;
  down_set = both_up (view_of now) (view_of new)
      (up_before (view_of now) (view_of new) comes.keeps up) up ∙ tried.down_set;
  async = async ∙ tried.async;
}

-- nor did one more, which goes on and rests
pub tried_in_vain_again : {D : Type 0} → (old now new : SeatedPass D) → HasTriedOn old now
    → GoesOnSeated now new → IsResting (view_of new)
    → log_of_pass (view_of new) ≡ log_of_pass (view_of old)
    → (view_of new).writing.down_set ≡ (view_of now).writing.down_set → HasTriedOn old new
tried_in_vain_again old now new tried goes_on rests same set_none = record {
  comes = record {
    same_table = (goes_on.stays).same_table ∙ (tried.comes).same_table;
    keeps = further_pass (view_of old) (view_of now) (view_of new) (tried.comes).keeps
        goes_on.keeps;
    rests = record {
      rests = rests;
      empty = (goes_on.stays).same_hand ∙ ((tried.comes).rests).empty;
    };
  };
  log = same;
  down_set = set_none ∙ tried.down_set;
  async = goes_on.async ∙ tried.async;
}

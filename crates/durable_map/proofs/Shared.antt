-- A map that is open stays open in a call of its part.
use Rattle.std.proofs.Common.{◌∙◌, ⊎_elim, inl, inr}
use Rattle.machine_state.specs.Views.{View}
use Rattle.wal_rule.specs.Closing.{KeepsNumbers}
use Rattle.wal_log.specs.Standing.{KeepsPass}
use Rattle.wal_log.specs.declared.wal.Wal.{Wal}
use Rattle.durable_map.specs.Stores.{IsOpenMap, IsPartOfLog, view_of_part}
use Rattle.durable_map.specs.declared.part.MapPart.{MapPart}

pub still_open : ((old new : View) → KeepsPass old new → KeepsNumbers old new)
    → {D : Type 0} → (wal : Wal D) (old new : MapPart) → IsPartOfLog wal new
    → KeepsPass (view_of_part old) (view_of_part new)
    → IsOpenMap (record { log = wal; part = old }) → IsOpenMap (record { log = wal; part = new })
still_open numbers wal old new pass keeps kept = record {
  pass = pass;
  numbers = λ number low. ⊎_elim
      (λ own. inl (numbers (view_of_part old) (view_of_part new) keeps number own))
      (λ some. inr some) (kept.numbers number low);
  alone = keeps.joined ∙ kept.alone;
}

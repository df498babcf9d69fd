-- Two passes share a log's numbers, also behind calls that take none away.
use Rattle.std.proofs.Common.{◌≡◌, ◌⊎◌, inl, inr, ℕ, ◌<◌, List, [], ◌∷◌, length, suc, zero, refl, arith}
use Rattle.machine_state.specs.Views.{View}
use Rattle.wal_rule.specs.Closing.{KeepsNumbers}
use Rattle.machine_laws.specs.SharedOrders.{HasNumber}
use Rattle.wal_log.specs.Sharing.{KeepEach, ShareNumbers, SomeHas}

keep_each : (w newer : View) → KeepsNumbers w newer → KeepEach (w ∷ []) (newer ∷ [])
keep_each w newer keeps zero d low = keeps
keep_each w newer keeps (suc k) d low = absurd (omega (arith, low))

pub still_shared : (passes : ℕ) → ((v : View) (old new : List View) → length new ≡ length old
    → KeepEach old new → ShareNumbers passes v old → ShareNumbers passes v new)
    → (v v2 w w2 : View) → KeepsNumbers v v2 → KeepsNumbers w w2 → ShareNumbers passes v (w ∷ [])
    → ShareNumbers passes v2 (w2 ∷ [])
still_shared passes kept v v2 w w2 own other shared number low =
    either (kept v (w ∷ []) (w2 ∷ []) refl (keep_each w w2 other) shared number low)
  where
    either : HasNumber number v.reserving ⊎ SomeHas number (w2 ∷ [])
        → HasNumber number v2.reserving ⊎ SomeHas number (w2 ∷ [])
    either (inl has) = inl (own number has)
    either (inr some) = inr some

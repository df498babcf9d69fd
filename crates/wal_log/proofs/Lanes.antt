-- The views of passes that stand in a list of something else, as lanes: one more, and each kept.
use Rattle.std.proofs.Common.{◌≡◌, ℕ, ◌<◌, ◌∷◌, ◌++◌, [], List, suc, zero, ap, arith, ◌∙◌, length, map, slice_index_or}
use Rattle.std.proofs.lemmas.List.{map_push}
use Rattle.wal_rule.specs.Closing.{KeepsNumbers}
use Rattle.machine_state.specs.Views.{View}
use Rattle.wal_log.specs.Sharing.{KeepEach}

module _ {Lane : Type 0} (view : Lane → View) where
  pub views_with_one_more : (old new : List Lane) (lane : Lane) (v : View)
      → new ≡ old ++ lane ∷ [] → view lane ≡ v → map view new ≡ map view old ++ v ∷ []
  views_with_one_more old new lane v pushed is = ap (λ (lanes : List Lane). map view lanes) pushed
      ∙ map_push view old lane ∙ ap (λ (w : View). map view old ++ w ∷ []) is

  pub views_keep_each : (old new : List Lane) → length new ≡ length old
      → ((k : ℕ) (d : Lane) → k < length old
      → KeepsNumbers (view (slice_index_or old k d)) (view (slice_index_or new k d)))
      → KeepEach (map view old) (map view new)
  views_keep_each [] new same keep k d low = absurd (omega (arith, low))
  views_keep_each (x ∷ xs) [] same keep k d low = absurd (omega (arith, same))
  views_keep_each (x ∷ xs) (y ∷ ys) same keep zero d low = keep zero x (omega arith)
  views_keep_each (x ∷ xs) (y ∷ ys) same keep (suc k) d low =
      views_keep_each xs ys (omega (arith, same))
      (λ j e below. keep (suc j) e (omega (arith, below))) k d (omega (arith, low))

-- One of several passes has a number: there are more of them, each is another, the first is left
-- out.
use Rattle.std.proofs.Common.{◌≡◌, ◌⊎◌, ℕ, ◌<◌, ◌∷◌, ◌++◌, [], List, inl, inr, suc, zero, arith, sym, ◌∙◌, subst, length, slice_index_or}
use Rattle.std.proofs.lemmas.List.{get_or_append_left, get_or_default, length-append}
use Rattle.machine_laws.specs.SharedOrders.{HasNumber}
use Rattle.machine_state.specs.Views.{View}
use Rattle.wal_log.specs.Sharing.{KeepEach, SomeHas}

module _ (number : ℕ) where
  pub none_has : SomeHas number [] → ⊥
  none_has (k, at, low, is, has) = absurd (omega (arith, low))

  pub more_have : (old : List View) (v : View) → SomeHas number old
      → SomeHas number (old ++ v ∷ [])
  more_have old v (k, at, low, is, has) = (
    k,
    at,
    (let len = length-append old (v ∷ []) in omega (arith, len, low)),
    get_or_append_left old (v ∷ []) at k low ∙ is,
    has,
  )

  pub kept_have : (old new : List View) → length new ≡ length old → KeepEach old new
      → SomeHas number old → SomeHas number new
  kept_have old new same keep (k, at, low, is, has) =
      let low' : k < length new = omega (arith, same, low) in (
        k,
        slice_index_or new k at,
        low',
        get_or_default new k (slice_index_or new k at) at low',
        keep k at low number (subst (λ (v : View). HasNumber number v.reserving) (sym is) has),
      )

  pub first_or_others : (v : View) (others : List View) → SomeHas number (v ∷ others)
      → HasNumber number v.reserving ⊎ SomeHas number others
  first_or_others v others (zero, at, low, is, has) =
      inl (subst (λ (w : View). HasNumber number w.reserving) (sym is) has)
  first_or_others v others (suc k, at, low, is, has) =
      inr (k, at, (omega (arith, low)), is, has)

-- What holds of each view holds after one is replaced or added, where it holds of the new one and
-- still holds of the others; and what a step does to one part of all views.
use Rattle.std.proofs.Common.{◌≡◌, ◌≢◌, ◌⊎◌, ◌<◌, arith, inl, inr, ℕ, zero, suc, List, [], ◌∷◌, ◌++◌, length, map, set, sym, refl, ap, ◌∙◌, subst, ⊎_elim}
use mathlib.Core.Option.{some-injective, some-ne-none}
use mathlib.Core.List.{map-append}
use lib.Seq.{map-set}
use Rattle.atomic_table.proofs.Lists.{at_set, at_map, set_again}
use Rattle.machine_state.specs.Views.{HasAt}

module _ {V : Type 0} where
  pub one_set : (P : ℕ → V → Type 0) (views : List V) (id : ℕ) (w : V)
      → ((j : ℕ) (u : V) → j ≢ id → HasAt views j u → P j u) → P id w
      → (j : ℕ) (u : V) → HasAt (set views id w) j u → P j u
  one_set P views id w others mine j u e = ⊎_elim
      (λ (x : (j ≡ id) × (w ≡ u)). subst (λ (y : ℕ × V). P y.0 y.1) (λ i. (sym x.0 i, x.1 i)) mine)
      (λ (x : (j ≢ id) × HasAt views j u). others j u x.0 x.1)
      (at_set views id j w u e)

  -- what is found in a longer list was there, or is new
  pub at_new : (l : List V) (a b : V) (j : ℕ) → HasAt (l ++ a ∷ []) j b
      → HasAt l j b ⊎ ((j ≡ length l) × (a ≡ b))
  at_new [] a b zero e = inr (refl, some-injective a b e)
  at_new [] a b (suc j) e = absurd (some-ne-none b (sym e))
  at_new (x ∷ xs) a b zero e = inl e
  at_new (x ∷ xs) a b (suc j) e =
      ⊎_elim (λ t. inl t) (λ t. inr (ap suc t.0, t.1)) (at_new xs a b j e)

  pub one_added : (P : ℕ → V → Type 0) (views : List V) (w : V)
      → ((j : ℕ) (u : V) → HasAt views j u → P j u) → P (length views) w
      → (j : ℕ) (u : V) → HasAt (views ++ w ∷ []) j u → P j u
  one_added P views w others mine j u e = ⊎_elim
      (λ (x : HasAt views j u). others j u x)
      (λ (x : (j ≡ length views) × (w ≡ u)).
      subst (λ (y : ℕ × V). P y.0 y.1) (λ i. (sym x.0 i, x.1 i)) mine)
      (at_new views w u j e)

  pub at_below : (l : List V) (a : V) (j : ℕ) → HasAt l j a → j < length l
  at_below [] a j e = absurd (some-ne-none a (sym e))
  at_below (x ∷ xs) a zero e = omega arith
  at_below (x ∷ xs) a (suc j) e = let h = at_below xs a j e in omega arith

  pub at_same : (l : List V) (a b : V) (j : ℕ) → HasAt l j a → HasAt l j b → a ≡ b
  at_same l a b j e f = some-injective a b (sym e ∙ f)

  pub at_place : (views : List V) (id : ℕ) (v w : V) → HasAt views id v
      → HasAt (set views id w) id w
  at_place [] id v w e = absurd (some-ne-none v (sym e))
  at_place (x ∷ xs) zero v w e = refl
  at_place (x ∷ xs) (suc id) v w e = at_place xs id v w e

  pub at_else : (views : List V) (id j : ℕ) (w u : V) → j ≢ id → HasAt views j u
      → HasAt (set views id w) j u
  at_else [] id j w u apart e = absurd (some-ne-none u (sym e))
  at_else (x ∷ xs) zero zero w u apart e = absurd (apart refl)
  at_else (x ∷ xs) zero (suc j) w u apart e = e
  at_else (x ∷ xs) (suc id) zero w u apart e = e
  at_else (x ∷ xs) (suc id) (suc j) w u apart e =
      at_else xs id j w u (λ is. apart (ap suc is)) e

  pub at_front : (views : List V) (j : ℕ) (w u : V) → HasAt views j u
      → HasAt (views ++ w ∷ []) j u
  at_front [] j w u e = absurd (some-ne-none u (sym e))
  at_front (x ∷ xs) zero w u e = e
  at_front (x ∷ xs) (suc j) w u e = at_front xs j w u e

  pub at_end : (views : List V) (w : V) → HasAt (views ++ w ∷ []) (length views) w
  at_end [] w = refl
  at_end (x ∷ xs) w = at_end xs w

-- A part f of each view: a step that leaves the part of its view leaves the list of parts, and one
-- that changes it changes that place alone
module _ {V W : Type 0} (f : V → W) where
  pub part_same : (views : List V) (id : ℕ) (v w : V) → HasAt views id v → f w ≡ f v
      → map f (set views id w) ≡ map f views
  part_same views id v w here is = map-set f views id w
      ∙ ap (λ (x : W). set (map f views) id x) is
      ∙ set_again (map f views) id (f v) (at_map f views id v here)

  pub part_set : (views : List V) (id : ℕ) (w : V)
      → map f (set views id w) ≡ set (map f views) id (f w)
  part_set views id w = map-set f views id w

  pub part_at : (views : List V) (id : ℕ) (v : V) → HasAt views id v → HasAt (map f views) id (f v)
  part_at views id v here = at_map f views id v here

  pub part_added : (views : List V) (w : V) → map f (views ++ w ∷ []) ≡ map f views ++ f w ∷ []
  part_added views w = map-append f views (w ∷ [])

  -- a part, found, is that of some view
  pub view_from : (views : List V) (id : ℕ) (x : W) → HasAt (map f views) id x
      → (v : V) × HasAt views id v × (f v ≡ x)
  view_from [] id x e = absurd (some-ne-none x (sym e))
  view_from (v ∷ vs) zero x e = (v, refl, some-injective (f v) x e)
  view_from (v ∷ vs) (suc id) x e = view_from vs id x e

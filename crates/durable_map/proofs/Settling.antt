-- What a list of changes leaves of a key.
use Rattle.std.proofs.Common.{◌≡◌, ℕ, cond, Bool, true, false, true≢false, All, Contains, List, [], ◌∷◌, map, ◌⊎◌, inl, inr, refl, sym, ap, ◌∙◌, subst, arith, eq-eqb}
use Rattle.std.specs.Prelude.{◌==◌}
use Rattle.std.specs.Str.{bytes_eq}
use Rattle.std.specs.Cmp.Lexicographic.{bytes_decides}
use Rattle.std.proofs.lemmas.Bool.{cond-true, cond-false}
use Rattle.std.proofs.lemmas.List.Elements.{All-contains, All-contains_itself, All-head, All-map, All-tail, All-weaker, Contains-append_cases, Contains-append_left, Contains-append_right, Contains-push, Contains-push_cases}
use Rattle.durable_map.specs.Changes.{MapChange, MapMeaning, empty_map, map_behind, map_behind_all, map_of}
use Rattle.durable_map.specs.Weaving.{PassChange, changes_in, changes_under}

-- ---- lists

pub first_or_later : {X : Type 0} → (one : X) (xs : List X) (x : X) → Contains (one ∷ xs) x
    → (one ≡ x) ⊎ Contains xs x
first_or_later one xs x has = elim (Contains-append_cases (one ∷ []) xs x has) [
  | inl here ↦ elim (Contains-push_cases [] one x here) [
    | inl none ↦ absurd (omega (arith, none.1))
    | inr is ↦ inl is
  ]
  | inr there ↦ inr there
]

none_contained : {X : Type 0} → (x : X) → Contains [] x → ⊥
none_contained x has = omega (arith, has.1)

-- ---- what is left of a key

-- a change of the same key gives it the same
abbrev pub AgreesWith : MapChange → MapChange → Type 0
AgreesWith change other = other.key ≡ change.key → other.value ≡ change.value

kept : (changes : List MapChange) (map : MapMeaning) (change : MapChange)
    → All (AgreesWith change) changes
    → (map change.key ≡ change.value) ⊎ Contains changes change
    → map_behind_all map changes change.key ≡ change.value
kept [] map change agree (inl is) = is
kept [] map change agree (inr has) = absurd (none_contained change has)
kept (c ∷ changes) map change agree so =
    kept changes (map_behind map c) change
    (All-tail (AgreesWith change) c changes agree)
    (behind (bytes_eq c.key change.key) refl so)
  where
    behind : (b : Bool) → bytes_eq c.key change.key ≡ b
        → (map change.key ≡ change.value) ⊎ Contains (c ∷ changes) change
        → (map_behind map c change.key ≡ change.value) ⊎ Contains changes change
    behind true same so = inl (cond-true (bytes_eq c.key change.key) c.value (map change.key) same
        ∙ All-head (AgreesWith change) c changes agree
        ((bytes_decides c.key change.key).0 same))
    behind false other (inl is) = inl
        (cond-false (bytes_eq c.key change.key) c.value (map change.key) other ∙ is)
    behind false other (inr has) = elim (first_or_later c changes change has) [
      | inl first ↦ absurd (true≢false (sym ((bytes_decides c.key change.key).1
          (ap (λ (m : MapChange). m.key) first)) ∙ other))
      | inr later ↦ inr later
    ]

pub settled : (changes : List MapChange) (change : MapChange) → Contains changes change
    → All (AgreesWith change) changes → map_of changes change.key ≡ change.value
settled changes change has agree = kept changes empty_map change agree (inr has)

-- ---- what is woven of changes of which each pass's are so

under_further : (n : ℕ) (c : PassChange) (cs : List PassChange) (x : MapChange)
    → Contains (changes_under n cs) x → (b : Bool)
    → Contains (cond b (c.change ∷ changes_under n cs) (changes_under n cs)) x
under_further n c cs x has true =
    Contains-append_right (c.change ∷ []) (changes_under n cs) x has
under_further n c cs x has false = has

under_first : (n : ℕ) (c : PassChange) (cs : List PassChange) → c.number ≡ n
    → Contains (changes_under n (c ∷ cs)) c.change
under_first n c cs is = subst
    (λ (b : Bool). Contains (cond b (c.change ∷ changes_under n cs) (changes_under n cs)) c.change)
    (sym (eq-eqb c.number n is))
    (Contains-append_left (c.change ∷ []) (changes_under n cs) c.change (Contains-push [] c.change))

under_own : (woven : List PassChange) (c : PassChange) → Contains woven c
    → Contains (changes_under c.number woven) c.change
under_own [] c has = absurd (none_contained c has)
under_own (w ∷ ws) c has = elim (first_or_later w ws c has) [
  | inl first ↦ subst (λ (x : PassChange). Contains (changes_under c.number (w ∷ ws)) x.change)
      first (under_first c.number w ws (ap (λ (x : PassChange). x.number) first))
  | inr later ↦ under_further c.number w ws c.change (under_own ws c later) (w.number == c.number)
]

pub all_under : (P : MapChange → Type 0) (woven : List PassChange)
    → ((n : ℕ) → All P (changes_under n woven)) → All P (changes_in woven)
all_under P woven each = All-map P (λ (c : PassChange). c.change) woven
    (All-weaker (Contains woven) (λ (c : PassChange). P c.change)
    (λ c has. All-contains P (changes_under c.number woven) c.change (each c.number)
    (under_own woven c has))
    woven (All-contains_itself woven))

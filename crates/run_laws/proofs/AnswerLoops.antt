-- Loops over answers: a count's step, and whether an answer so far is of a kind.
use Rattle.std.proofs.Common.{◌≡◌, ℕ, zero, suc, inl, inr, ◌+◌, ◌<◌, ◌⊎◌, true, false, List, [], ◌∷◌, ◌++◌, length, get_or, take, Some, None, refl, sym, subst, arith}
use Rattle.std.specs.Prelude.{slice_index_or}
use Rattle.std.specs.List.{Any}
use Rattle.std.specs.Option.{is_some}
use Rattle.std.proofs.lemmas.List.{take_more}
use Rattle.run_laws.specs.declared.told.Told.{Told}
use Rattle.run_laws.specs.declared.told.Told.TheVariants.{Wrote, Hard, Flushed, Async, Idle, Switched, Stayed, Refused}
use Rattle.run_laws.specs.Told.{SomeAnswer, SomeTold, reserved_by}
use Rattle.run_laws.specs.Counts.{is_reserved, reserved_count, is_hard, commits_of}
use Rattle.run_laws.proofs.AnswerCounts.{reserved_count-take, commits_of-take}

is_reserved-some : (answer : Told) → is_some (reserved_by answer) ≡ true → is_reserved answer ≡ 1
is_reserved-some (Wrote start end) some = refl
is_reserved-some (Hard start end moment) some = refl
is_reserved-some (Flushed upto moment) some = absurd (let no : ⊥ = cc in no)
is_reserved-some (Async start end) some = refl
is_reserved-some (Idle upto) some = absurd (let no : ⊥ = cc in no)
is_reserved-some (Switched start end) some = refl
is_reserved-some (Stayed end) some = absurd (let no : ⊥ = cc in no)
is_reserved-some (Refused cause None) some = absurd (let no : ⊥ = cc in no)
is_reserved-some (Refused cause (Some start)) some = refl

is_reserved-none : (answer : Told) → is_some (reserved_by answer) ≡ false → is_reserved answer ≡ 0
is_reserved-none (Wrote start end) none = absurd (let no : ⊥ = cc in no)
is_reserved-none (Hard start end moment) none = absurd (let no : ⊥ = cc in no)
is_reserved-none (Flushed upto moment) none = refl
is_reserved-none (Async start end) none = absurd (let no : ⊥ = cc in no)
is_reserved-none (Idle upto) none = refl
is_reserved-none (Switched start end) none = absurd (let no : ⊥ = cc in no)
is_reserved-none (Stayed end) none = refl
is_reserved-none (Refused cause None) none = refl
is_reserved-none (Refused cause (Some start)) none = absurd (let no : ⊥ = cc in no)

-- an answer that reserved a record is counted, and another one is not
pub reserved_count_more : (told : List Told) (i count : ℕ) (d : Told) → i < length told → count ≡ reserved_count (take i told) → is_some (reserved_by (get_or told i d)) ≡ true → reserved_count (take (i + 1) told) ≡ count + 1
reserved_count_more told i count d within is some = omega (arith, reserved_count-take told i d within, is_reserved-some (get_or told i d) some)

pub reserved_count_same : (told : List Told) (i count : ℕ) (d : Told) → i < length told → count ≡ reserved_count (take i told) → is_some (reserved_by (get_or told i d)) ≡ false → reserved_count (take (i + 1) told) ≡ count
reserved_count_same told i count d within is none = omega (arith, reserved_count-take told i d within, is_reserved-none (get_or told i d) none)

-- an answer counts for what it says
pub commits_of_step : (told : List Told) (i count next more : ℕ) (d : Told) → i < length told → count ≡ commits_of (take i told) → more ≡ is_hard (get_or told i d) → next ≡ count + more → next ≡ commits_of (take (i + 1) told)
commits_of_step told i count next more d within is hard adds = omega (arith, commits_of-take told i d within)

module _ (P : Told → Type 0) where
  SomeAnswer_push : (told : List Told) (answer : Told) → SomeAnswer P (told ++ answer ∷ []) → SomeAnswer P told ⊎ P answer
  SomeAnswer_push [] answer (inl here) = inr here
  SomeAnswer_push [] answer (inr none) = absurd none
  SomeAnswer_push (first ∷ told) answer (inl here) = inl (inl here)
  SomeAnswer_push (first ∷ told) answer (inr later) = elim (SomeAnswer_push told answer later) [ inl before ↦ inl (inr before) | inr last ↦ inr last ]

  -- a loop's step
  pub SomeAnswer-take : (told : List Told) (i : ℕ) (d : Told) → i < length told → SomeAnswer P (take (i + 1) told) → SomeAnswer P (take i told) ⊎ P (get_or told i d)
  SomeAnswer-take told i d within some = SomeAnswer_push (take i told) (get_or told i d) (subst (SomeAnswer P) (take_more told i d within) some)

  -- an answer at an index is among all
  pub SomeAnswer-get_or : (told : List Told) (i : ℕ) (d : Told) → i < length told → P (get_or told i d) → SomeAnswer P told
  SomeAnswer-get_or [] i d within holds = absurd (omega arith)
  SomeAnswer-get_or (answer ∷ told) zero d within holds = inl holds
  SomeAnswer-get_or (answer ∷ told) (suc i) d within holds = inr (SomeAnswer-get_or told i d (omega arith) holds)

-- some answer of the one backend
pub SomeTold-one : (P : Told → Type 0) (told : List Told) → SomeTold P (told ∷ []) → SomeAnswer P told
SomeTold-one P told (inl some) = some
SomeTold-one P told (inr none) = absurd none

-- an answer by its place, in a list and in one of several lists
any_at : {X : Type 0} (P : X → Type 0) (first : X) (others : List X) (k : ℕ) (x : X) → k < length (first ∷ others) → slice_index_or (first ∷ others) k x ≡ x → P x → P first ⊎ Any P others
any_at P first others zero x within is holds = inl (subst P (sym is) holds)
any_at P first others (suc k) x within is holds = inr (k, x, omega arith, is, holds)

some_answer : (P : Told → Type 0) (told : List Told) → Any P told → SomeAnswer P told
some_answer P [] any = absurd (omega (arith, any.2))
some_answer P (answer ∷ told) any = elim (any_at P answer told any.0 any.1 any.2 any.3 any.4) [ inl here ↦ inl here | inr later ↦ inr (some_answer P told later) ]

pub some_told : (P : Told → Type 0) (lists : List (List Told)) → Any (Any P) lists → SomeTold P lists
some_told P [] any = absurd (omega (arith, any.2))
some_told P (told ∷ lists) any = elim (any_at (Any P) told lists any.0 any.1 any.2 any.3 any.4) [ inl here ↦ inl (some_answer P told here) | inr later ↦ inr (some_told P lists later) ]

-- A live seat finds a table that is begun: what the machine's invariant allows it of the words by
-- their numbers, the table's rule allows of the memory in which they lie.
use Rattle.std.proofs.Common.{◌≡◌, ◌⊎◌, ℕ, ◌<◌, arith, true, false, inl, inr, List, [], ◌∷◌, length, zero, suc, sym, ap, ◌∙◌, subst}
use mathlib.Core.Option.{Option, none, some, some-injective, some-ne-none}
use lib.ListN.{get_elem?}
use Rattle.atomic_table.specs.Table.{Allows, State, Final, Joins, Me, Seen, Splits}
use Rattle.segment_disk.specs.Tape.{Tape}
use Rattle.machine_state.specs.Words.{Opening}
use Rattle.wal_rule.specs.declared.writer.LogWriter.{LogWriter}
use Rattle.wal_rule.specs.Beginning.{HoldsRule, view_by_home}
use Rattle.wal_rule.specs.Ruled.{IsRuled}
use Rattle.wal_rule.specs.WordPlaces.{place_of_word, words_of}
use Rattle.wal_rule.proofs.InMemory.{InMemory, at_place, by_number, ends_by_number}
use Rattle.machine_state.specs.Views.{View}

-- a step that keeps the machine's invariant keeps the rule
kept_step : {V A : Type 0} {IsValid Begins Holds Tells : V → A → Type 0}
    → (w : V) × (a : A) × IsValid w a × Holds w a × Tells w a
    → (w : V) × (a : A) × IsValid w a × (Begins w a ⊎ Holds w a) × Tells w a
kept_step step = (step.0, step.1, step.2, inr step.3, step.4)

module _ {D : Type 0} (tape : D → Rattle.std.specs.Prelude.Option Tape) (moment faults : D → ℕ)
    (opening : Opening) (began : Rattle.std.specs.Prelude.Option Tape) where
  abbrev Whole : State (LogWriter D) View → Type 0
  Whole s = HoldsRule tape moment faults opening began s.words s.homes s.views

  abbrev Held : State (LogWriter D) View → Type 0
  Held s = IsRuled tape moment faults opening began s.words s.homes s.views

  -- the rule, as the table has it
  abbrev pub WholeTable : State (LogWriter D) View → Type 0
  WholeTable = InMemory Whole

  many : (s : State (LogWriter D) View) → Whole s → 17 < length s.words
  many s (inl b) =
      let wide = (b.words_are).wide in
      omega (arith, wide)
  many s (inr k) =
      let wide = (k.sound).wide in
      omega (arith, wide)

  -- a step by a word's number is one at its place
  pub placed_step : (slots id : ℕ) (me : Me (LogWriter D) View) (number : ℕ) (f : ℕ → ℕ)
      (then : ℕ → Me (LogWriter D) View → Type 0) (place : ℕ) → place ≡ place_of_word number
      → Allows Whole slots id me number f then → Allows WholeTable slots id me place f then
  placed_step slots id me number f then place is step =
      subst (λ (p : ℕ). Allows WholeTable slots id me p f then) (sym is)
      (at_place Whole many slots id me number f then step)

  never_live : (home : Option (LogWriter D)) (id : ℕ) (v : View)
      → get_elem? (view_by_home tape moment faults opening began home ∷ []) id ≡ some v
      → (v.reserving).live ≡ false
  never_live none zero v at = ap (λ (x : View). (x.reserving).live) (sym (some-injective _ v at))
  never_live (some w) zero v at =
      ap (λ (x : View). (x.reserving).live) (sym (some-injective _ v at))
  never_live home (suc id) v at = absurd (some-ne-none v (sym at))

  false_not_true : false ≡ true → ⊥
  false_not_true e = absurd cc

  module _ (id : ℕ) (v : View) (live : (v.reserving).live ≡ true) where
    live_held : (s : State (LogWriter D) View) → Whole s → get_elem? s.views id ≡ some v → Held s
    live_held s (inl b) here = absurd (false_not_true (sym (never_live b.home id v
        (sym (ap (λ (vs : List View). get_elem? vs id) b.views_are) ∙ here)) ∙ live))
    live_held s (inr k) here = k

    pub live_splits : (left right : View) → Splits Held id v left right
        → Splits WholeTable id v left right
    live_splits left right step s h here =
        inr (step (by_number s) (live_held (by_number s) h here) here)

    pub live_joins : (other : ℕ) (w both spent : View) → Joins Held id v other w both spent
        → Joins WholeTable id v other w both spent
    live_joins other w both spent step s h here apart there =
        inr (step (by_number s) (live_held (by_number s) h here) here apart there)

    pub live_ends : (words : List ℕ) (slots : List (LogWriter D))
        → Final (Seen WholeTable id v) words slots → Final (Seen Held id v) (words_of words) slots
    live_ends words slots ended =
        let end = ends_by_number Whole id v words slots ended in
        (end.0, (live_held end.0 (end.1).0 (end.1).1, (end.1).1), end.2, end.3, end.4)

  -- a step of a live seat
  pub live_step : (slots id : ℕ) (me : Me (LogWriter D) View)
      → ((me.0).reserving).live ≡ true → (number : ℕ) (f : ℕ → ℕ)
      (then : ℕ → Me (LogWriter D) View → Type 0) (place : ℕ) → place ≡ place_of_word number
      → Allows Held slots id me number f then → Allows WholeTable slots id me place f then
  live_step slots id me live number f then place is step =
      placed_step slots id me number f then place is
      (λ s h one here fits. kept_step (step s (live_held id me.0 live s h here) one here fits))

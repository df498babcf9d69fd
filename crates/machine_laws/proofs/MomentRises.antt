-- Promises of one log: what is promised next rises above them, as the log grows and time goes on.
use Rattle.std.proofs.Common.{◌≡◌, ◌⊎◌, inl, inr, ⊎_elim, ℕ, zero, suc, ◌<◌, ◌≤◌, All, List, [], ◌∷◌, ◌++◌, length, get_or, sym, ◌∙◌, subst, arith}
use Rattle.std.specs.Prelude.{slice_get, Some}
use Rattle.std.proofs.lemmas.List.Elements.{All-cons, All-nil, All-push, All-weaker}
use Rattle.std.proofs.lemmas.List.Quantifiers.{all_pairs_push}
use Rattle.std.proofs.lemmas.Option.{none-some, slice_get_past}
use Rattle.wal_page.specs.Order.{Entry, finish_of}
use Rattle.machine_state.specs.Words.{Opening}
use Rattle.machine_state.specs.Views.{FlushPromise}
use Rattle.machine_laws.specs.RisingMoments.{RisesAbove, Rises, with_opening, PromisesRise, NextRises}

-- what is found in a longer list was there, or is the new one
got_pushed : (es : List Entry) (e f : Entry) (k : ℕ) → slice_get (es ++ e ∷ []) k ≡ Some f
    → (slice_get es k ≡ Some f) ⊎ (e ≡ f)
got_pushed [] e f zero is = inr (cc)
got_pushed [] e f (suc k) is = absurd (none-some f is)
got_pushed (x ∷ es) e f zero is = inl is
got_pushed (x ∷ es) e f (suc k) is = got_pushed es e f k is

module _ (size : ℕ) (es : List Entry) where
  -- a lower address, or a later moment, may be promised as well
  pub above_weaker : (p : FlushPromise) (upto lower moment later : ℕ) → lower ≤ upto
      → moment ≤ later → RisesAbove size es p upto moment → RisesAbove size es p lower later
  above_weaker p upto lower moment later low late r = record {
    never_falls = omega (arith, r.never_falls);
    rises = λ k e past there ends.
        let before = r.rises k e past there (omega arith) in omega arith;
  }

  -- any address, from a moment on that is later
  pub above_later : (p : FlushPromise) (upto other moment later : ℕ) → moment < later
      → RisesAbove size es p upto moment → RisesAbove size es p other later
  above_later p upto other moment later late r = record {
    never_falls = omega (arith, r.never_falls);
    rises = λ k e past there ends. omega (arith, r.never_falls);
  }

  -- nothing was reserved since
  pub above_last : (p : FlushPromise) (upto moment : ℕ) → length es ≤ p.entries
      → p.moment ≤ moment → RisesAbove size es p upto moment
  above_last p upto moment last late = record {
    never_falls = late;
    rises = λ k e past there ends.
        absurd (none-some e (sym (slice_get_past es k (omega arith)) ∙ there));
  }

  -- a new entry ends above the address
  pub above_grown : (p : FlushPromise) (upto moment : ℕ) (e : Entry) → upto < finish_of size e
      → RisesAbove size es p upto moment → RisesAbove size (es ++ e ∷ []) p upto moment
  above_grown p upto moment e above r = record {
    never_falls = r.never_falls;
    rises = λ k f past there ends. ⊎_elim
        (λ (old : slice_get es k ≡ Some f). r.rises k f past old ends)
        (λ (new : e ≡ f). absurd (let ends_new : finish_of size e ≤ upto =
        subst (λ (x : Entry). finish_of size x ≤ upto) (sym new) ends in omega arith))
        (got_pushed es e f k there);
  }

module _ (opening : Opening) (es : List Entry) (ps : List FlushPromise) where
  abbrev size : ℕ
  size = (opening.setup).seg_size

  abbrev Next : ℕ → ℕ → Type 0
  Next upto moment = NextRises opening es ps upto moment

  pub next_weaker : (upto lower moment later : ℕ) → lower ≤ upto → moment ≤ later
      → Next upto moment → Next lower later
  next_weaker upto lower moment later low late all = All-weaker
      (λ p. RisesAbove size es p upto moment) (λ p. RisesAbove size es p lower later)
      (λ p r. above_weaker size es p upto lower moment later low late r) (with_opening opening ps)
      all

  pub next_later : (upto other moment later : ℕ) → moment < later → Next upto moment
      → Next other later
  next_later upto other moment later late all = All-weaker
      (λ p. RisesAbove size es p upto moment) (λ p. RisesAbove size es p other later)
      (λ p r. above_later size es p upto other moment later late r) (with_opening opening ps) all

  -- a promise that was made just now
  abbrev pub promise : ℕ → ℕ → FlushPromise
  promise upto moment = record { upto = upto; moment = moment; entries = length es }

  pub next_told : (upto moment told since : ℕ) → since ≤ moment → Next upto moment
      → NextRises opening es (ps ++ promise told since ∷ []) upto moment
  next_told upto moment told since late all = All-push (λ p. RisesAbove size es p upto moment)
      (with_opening opening ps) (promise told since) all
      (above_last size es (promise told since) upto moment (omega arith) late)

  pub promises_told : (told since : ℕ) → Next told since → PromisesRise opening es ps
      → PromisesRise opening es (ps ++ promise told since ∷ [])
  promises_told told since next all = all_pairs_push (Rises size es) (with_opening opening ps)
      (promise told since) all (λ k d within. next k d within)

  -- an entry more
  pub next_grown : (upto moment : ℕ) (e : Entry) → upto < finish_of size e → Next upto moment
      → NextRises opening (es ++ e ∷ []) ps upto moment
  next_grown upto moment e above all = All-weaker (λ p. RisesAbove size es p upto moment)
      (λ p. RisesAbove size (es ++ e ∷ []) p upto moment)
      (λ p r. above_grown size es p upto moment e above r) (with_opening opening ps) all

  pub promises_grown : (e : Entry)
      → All (λ (p : FlushPromise). p.upto < finish_of size e) (with_opening opening ps)
      → PromisesRise opening es ps → PromisesRise opening (es ++ e ∷ []) ps
  promises_grown e above all = λ i j d before within.
      above_grown size es (get_or (with_opening opening ps) i d)
      (get_or (with_opening opening ps) j d).upto (get_or (with_opening opening ps) j d).moment e
      (above j d within) (all i j d before within)

-- a pass that was told nothing
pub next_first : (opening : Opening) (upto moment : ℕ) → opening.moment ≤ moment
    → NextRises opening [] [] upto moment
next_first opening upto moment late =
    let first : FlushPromise = record {
      upto = (opening.setup).seg_size;
      moment = opening.moment;
      entries = 0;
    } in
    All-cons (λ p. RisesAbove (opening.setup).seg_size [] p upto moment) first []
    (above_last (opening.setup).seg_size [] first upto moment (omega arith) late)
    (All-nil (λ p. RisesAbove (opening.setup).seg_size [] p upto moment))

pub promises_first : (opening : Opening) → PromisesRise opening [] []
promises_first opening = λ i j d before within. absurd (omega arith)

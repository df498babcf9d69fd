-- Each page lies in a buffer, by its number; so the pages of a window lie in buffers of their own.
use Rattle.std.proofs.Common.{◌≡◌, ◌≢◌, ◌⊎◌, ℕ, ◌+◌, ◌*◌, ◌%◌, ◌<◌, ◌≤◌, List, sym, ◌∙◌, subst, arith}
use Rattle.std.proofs.Math.Nat.{mod-lt}
use mathlib.Core.Logic.{dite}
use native.Mathlib.Decide.{dec_le}
use Rattle.atomic_table.proofs.Lists.{one_turn}
use Rattle.machine_state.specs.Views.{Stage, Away, Taken, Looked, Ready, Zeroing, Published}
use Rattle.machine_state.specs.Paged.{AtStage, HoldsPage, PagesHold}

-- pages less than a ring's length apart lie in two buffers
pub apart : (pages p q : ℕ) → p < q → q < p + pages → p % pages ≢ q % pages
apart pages p q less near same =
    let e = one_turn p q pages (omega arith) near same in absurd (omega arith)

-- so do any two of a window
pub one_page : (pages low reach p q : ℕ) → reach ≤ low + pages → low ≤ p → p < reach → low ≤ q
    → q < reach → p ≢ q → p % pages ≢ q % pages
one_page pages low reach p q narrow p_from p_to q_from q_to ne = dite (dec_le p q)
    (λ le. apart pages p q (omega arith) (omega arith))
    (λ not same. apart pages q p (omega arith) (omega arith) (sym same))

-- a word's place tells its page and its number there
pub same_page : (a m b j : ℕ) → m < 1024 → j < 1024 → a * 1024 + m ≡ b * 1024 + j → a ≡ b
same_page a m b j low small e = omega arith

-- ---- words of buffers and ring that are the same, as far as there are buffers

module _ (pages low reach initialised written : ℕ) (ring ring' : ℕ → ℕ) (some_page : 0 < pages)
    (same : (k : ℕ) → k < pages * 1024 → ring' k ≡ ring k) where
  stage_alike : (stage : Stage) → AtStage pages low reach initialised written ring stage
      → AtStage pages low reach initialised written ring' stage
  stage_alike Away at = at
  stage_alike Taken at = at
  stage_alike (Looked a) at = at
  stage_alike (Ready a met) at = at
  stage_alike (Zeroing a count) at = (
    at.0,
    at.1,
    at.2,
    at.3,
    λ j below.
        same (reach % pages * 1024 + j)
        (let buffer : reach % pages < pages = mod-lt reach some_page in
        omega (arith, buffer, below, at.3)) ∙ at.4 j below,
  )
  stage_alike (Published a) at = at

pub pages_alike : (pages reach : ℕ) (stage : Stage) (initialised written : ℕ)
    (ends ring memory : ℕ → ℕ) (confirmed : List ℕ) (ends' ring' : ℕ → ℕ)
    → ((b : ℕ) → b < pages → ends' b ≡ ends b)
    → ((k : ℕ) → k < pages * 1024 → ring' k ≡ ring k)
    → PagesHold pages reach stage initialised written ends ring memory confirmed
    → PagesHold pages reach stage initialised written ends' ring' memory confirmed
pages_alike pages reach stage initialised written ends ring memory confirmed ends' ring' same_ends
    same_ring h = record {
      low = h.low;
      some_page = h.some_page;
      given_up = h.given_up;
      present = λ p from to. same_ends (p % pages) (mod-lt p h.some_page) ∙ h.present p from to;
      content = λ p j from to within. same_ring (p % pages * 1024 + j)
          (let buffer : p % pages < pages = mod-lt p h.some_page in
          omega (arith, buffer, within)) ∙ h.content p j from to within;
      held = λ b below. subst
          (λ (n : ℕ). (n ≡ 0) ⊎ HoldsPage pages h.low reach b n) (sym (same_ends b below))
          (h.held b below);
      blank = h.blank;
      seen = h.seen;
      mapping = stage_alike pages h.low reach initialised written ring ring' h.some_page same_ring
          stage h.mapping;
    }

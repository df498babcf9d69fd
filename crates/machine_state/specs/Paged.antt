-- Which page each buffer of the ring holds, and what the mapper is about (PostgreSQL's xlog.c,
-- AdvanceXLInsertBuffer). A page is counted from the log's address 0. The pages in buffers are a
-- window, from `low` up to `reach`, and what is below it was written. Who has the turn to map gives
-- the lowest page up, by clearing its buffer's end word, only behind a load of the written address
-- that reaches that page's end; it zeroes the words, and then stores the end of the page that comes
-- next. Between, the buffer's end is 0, so that nobody stores a word into it. Last it stores the
-- initialised end.
use Rattle.std.specs.Prelude.{◌≡◌, ◌⊎◌, ℕ, ◌+◌, ◌*◌, ◌%◌, ◌<◌, ◌≤◌, List}
use Rattle.machine_state.specs.Views.{HasAt, Stage, Away, Taken, Looked, Ready, Zeroing, Published}

-- the stages at which nothing is changed yet, so that the turn may be given back
abbrev pub IsOpen : Stage → Type 0
IsOpen Away = ⊥
IsOpen Taken = Unit {0}
IsOpen (Looked at) = Unit {0}
IsOpen (Ready at written) = Unit {0}
IsOpen (Zeroing at count) = ⊥
IsOpen (Published at) = ⊥

-- the pages from `low` up to `reach` are present; this is how many they are, and where the
-- initialised end stands, at each stage
module _ (pages low reach initialised written : ℕ) (ring : ℕ → ℕ) where
  abbrev pub AllPresent : Type 0
  AllPresent = (reach ≡ low + pages) × (initialised ≡ reach * 8192)

  abbrev pub AtStage : Stage → Type 0
  AtStage Away = AllPresent
  AtStage Taken = AllPresent
  AtStage (Looked at) = AllPresent × (at ≡ initialised)
  AtStage (Ready at met) = AllPresent × (at ≡ initialised) × (met ≤ written)
  AtStage (Zeroing at count) = (reach + 1 ≡ low + pages) × (initialised ≡ reach * 8192)
      × (at ≡ initialised) × (count ≤ 1024)
      × ((j : ℕ) → j < count → ring (reach % pages * 1024 + j) ≡ 0)
  AtStage (Published at) =
      (reach ≡ low + pages) × (initialised + 8192 ≡ reach * 8192) × (at ≡ initialised)

-- a buffer holds the page that ends at this address
pub record HoldsPage (pages low reach buffer end : ℕ) : Type 0 where
  pub page : ℕ
  pub from : low ≤ page
  pub to : page < reach
  pub place : page % pages ≡ buffer
  pub end_is : end ≡ (page + 1) * 8192

-- `ends` and `ring` are the words of buffers and ring by their numbers, `memory` those of the log,
-- `confirmed` the highest end that each view met; all pages below `low` were given up
pub record PagesHold (pages reach : ℕ) (stage : Stage) (initialised written : ℕ)
    (ends ring memory : ℕ → ℕ) (confirmed : List ℕ) : Type 0 where
  pub low : ℕ
  pub some_page : 0 < pages
  pub given_up : low * 8192 ≤ written
  pub present : (p : ℕ) → low ≤ p → p < reach → ends (p % pages) ≡ (p + 1) * 8192
  pub content : (p j : ℕ) → low ≤ p → p < reach → j < 1024
      → ring (p % pages * 1024 + j) ≡ memory (p * 1024 + j)
  pub held : (b : ℕ) → b < pages → (ends b ≡ 0) ⊎ HoldsPage pages low reach b (ends b)
  pub blank : (k : ℕ) → reach * 1024 ≤ k → memory k ≡ 0
  pub seen : (id c : ℕ) → HasAt confirmed id c → c ≤ reach * 8192
  pub mapping : AtStage pages low reach initialised written ring stage

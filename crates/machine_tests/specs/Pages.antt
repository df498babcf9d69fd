-- Which pages the ring has. A page is counted from the log's address 0.
use Rattle.std.specs.Prelude.{◌≡◌, ◌⊎◌, ℕ, zero, suc, ◌+◌, ◌-◌, ◌*◌, ◌/◌, ◌%◌, ◌<◌, ◌≤◌, max, Any, List}
use Rattle.machine_state.specs.declared.setup.Setup.{Setup}
use Rattle.machine_state.specs.Words.{initialised_word, written_word, end_word}
use Rattle.machine_state.specs.Shown.{IsPresent}
use Rattle.machine_turns.specs.declared.view.PlainStage.{PlainStage}
use Rattle.machine_turns.specs.declared.view.PlainStage.TheVariants.{Away, Taken, Looked, Ready, Zeroing, Published}
use Rattle.machine_tests.specs.declared.moment.BackendNow.{BackendNow}

-- a buffer holds nothing, or a page of the log that belongs in it
abbrev pub IsEndIn : Setup → (buffer end : ℕ) → Type 0
IsEndIn setup buffer end = (end ≡ 0) ⊎ ((end % 8192 ≡ 0) × (setup.seg_size < end)
    × ((end / 8192 - 1) % setup.ring_pages ≡ buffer))

-- the highest end of a page that the first buffers hold, so many
abbrev pub highest_end : List ℕ → ℕ → ℕ
highest_end words zero = 0
highest_end words (suc n) = max (highest_end words n) (end_word words n)

-- a mapper has published the end of the page at this address, and not yet that it is there
abbrev pub HasPublished : ℕ → PlainStage → Type 0
HasPublished address Away = ⊥
HasPublished address Taken = ⊥
HasPublished address (Looked at) = ⊥
HasPublished address (Ready at) = ⊥
HasPublished address (Zeroing at count) = ⊥
HasPublished address (Published at) = at ≡ address

-- the initialised end is behind the highest page, or a page below, which a mapper has published
abbrev pub IsInitialisedEnd : (initialised highest : ℕ) → List BackendNow → Type 0
IsInitialisedEnd initialised highest backends = (initialised ≡ highest)
    ⊎ ((initialised + 8192 ≡ highest) × Any (λ b. HasPublished initialised b.view.stage) backends)

-- each page that was mapped and is not written whole is there
abbrev pub ArePresent : Setup → (written initialised : ℕ) → List ℕ → Type 0
ArePresent setup written initialised words = (page : ℕ) → (page + 1) * 8192 ≤ initialised
    → written < (page + 1) * 8192 → IsPresent setup words page

-- the pages are in their own buffers, those that have to be there are, and the initialised end is
-- behind them
pub record PagesAgree (setup : Setup) (words : List ℕ) (backends : List BackendNow) : Type 0 where
  pub places : (buffer : ℕ) → buffer < setup.ring_pages
      → IsEndIn setup buffer (end_word words buffer)
  pub present : ArePresent setup (written_word words) (initialised_word words) words
  pub initialised : IsInitialisedEnd (initialised_word words)
      (highest_end words setup.ring_pages) backends

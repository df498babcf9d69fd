-- The words of the pages in the ring.
use Rattle.std.specs.Prelude.{◌≡◌, ◌≢◌, ◌⊎◌, ℕ, ◌+◌, ◌-◌, ◌*◌, ◌/◌, ◌<◌, ◌≤◌, Any, List, slice_index}
use Rattle.machine_state.specs.declared.setup.Setup.{Setup}
use Rattle.machine_state.specs.Words.{end_word, word_of_ring}
use Rattle.machine_turns.specs.declared.view.PlainFlight.{PlainFlight}
use Rattle.machine_turns.specs.declared.view.PlainFlight.TheVariants.{Landed, Copying}
use Rattle.machine_tests.specs.declared.moment.BackendNow.{BackendNow}

-- a backend is still to copy the word at this address
abbrev pub IsToCopy : ℕ → PlainFlight → Type 0
IsToCopy address Landed = ⊥
IsToCopy address (Copying start prev next end) = (next ≤ address) × (address < end)

-- a word at an address is the record's that owns it, 0 where none does; or it is 0 and some backend
-- is still to copy it. `log` are the log's words from its first address on
abbrev pub IsLoggedOrToCopy : Setup → (log : List ℕ) → List BackendNow → (address word : ℕ)
    → Type 0
IsLoggedOrToCopy setup log backends address word =
    (word ≡ slice_index log ((address - setup.seg_size) / 8))
    ⊎ ((word ≡ 0) × Any (λ b. IsToCopy address b.view.flight) backends)

-- a buffer has the words of the page that it holds
abbrev pub PageAgrees : Setup → (words log : List ℕ) → List BackendNow → (buffer : ℕ) → Type 0
PageAgrees setup words log backends buffer = (n : ℕ) → n < 1024
    → IsLoggedOrToCopy setup log backends (end_word words buffer - 8192 + 8 * n)
    (word_of_ring setup words (buffer * 1024 + n))

-- and so for each buffer that holds one
abbrev pub RingAgrees : Setup → (words log : List ℕ) → List BackendNow → Type 0
RingAgrees setup words log backends = (buffer : ℕ) → buffer < setup.ring_pages
    → end_word words buffer ≢ 0 → PageAgrees setup words log backends buffer

-- A word that a copy stores: its page is present, and its place in the ring is its own.
use Rattle.std.proofs.Common.{◌≡◌, ℕ, ◌+◌, ◌*◌, ◌/◌, ◌%◌, ◌<◌, ◌≤◌, List, subst, arith}
use Rattle.wal_page.specs.EntryWords.{address_of_word}
use Rattle.machine_state.specs.declared.setup.Setup.{Setup}
use Rattle.machine_state.specs.Views.{HasAt, Copy, Flight, Copying, Stage}
use Rattle.machine_state.specs.Paged.{PagesHold}
use Rattle.machine_state.specs.Positioned.{IsCopiedBelow}
use Rattle.machine_state.specs.Steps.{CopiesOn, ring_place, number_of_next}
use Rattle.machine_laws.specs.WordsPut.{IsPut}
use Rattle.machine_laws.proofs.PageLaws.{stores}

module _ (setup : Setup) (reach : ℕ) (stage : Stage) (initialised written : ℕ)
    (ends ring memory : ℕ → ℕ) (confirmed : List ℕ)
    (k : PagesHold setup.ring_pages reach stage initialised written ends ring memory confirmed)
    (c : Copy) where
  abbrev address : ℕ
  address = address_of_word setup.seg_size c.entry c.copied

  -- the page of a word that a copy stores next was mapped
  pub is_mapped : (id met : ℕ) → HasAt confirmed id met → CopiesOn setup met c
      → address_of_word setup.seg_size c.entry c.copied < reach * 8192
  is_mapped id met here on = let seen = k.seen id met here in let low = on.met in omega arith

  pub stores_word : (flights : List Flight) (id met below value : ℕ) (ends2 ring2 memory2 : ℕ → ℕ)
      → HasAt confirmed id met → HasAt flights id (Copying c) → CopiesOn setup met c
      → IsCopiedBelow setup.seg_size flights below → written ≤ below
      → ((b : ℕ) → b < setup.ring_pages → ends2 b ≡ ends b)
      → IsPut ring (ring_place setup (number_of_next setup (Copying c))) value ring2
      → IsPut memory (number_of_next setup (Copying c)) value memory2
      → PagesHold setup.ring_pages reach stage initialised written ends2 ring2 memory2 confirmed
  stores_word flights id met below value ends2 ring2 memory2 here flies on copied low same put new =
      let a : ℕ = address in
      let mapped : a < reach * 8192 = is_mapped id met here on in
      let uncopied : below ≤ a = copied id c flies on.left in
      let number : a / 8 ≡ a / 8 / 1024 * 1024 + a / 8 % 1024 = omega arith in
      stores setup.ring_pages reach stage initialised written ends ring memory confirmed k
      ends2 ring2 same memory2 (a / 8 / 1024) (a / 8 % 1024) value (omega arith) (omega arith)
      (omega arith) put
      (subst (λ (n : ℕ). IsPut memory n value memory2) number new)

-- How far all is copied, as flights change.
use Rattle.std.proofs.Common.{◌≡◌, ℕ, ◌+◌, ◌<◌, ◌≤◌, Bool, true, false, cond, List, [], ◌∷◌, ◌++◌, set, refl, subst, arith}
use Rattle.wal_page.specs.EntryWords.{address_of_word, words_owned}
use Rattle.machine_state.specs.Views.{HasAt, Copy, Flight, Landed, Copying, is_among}
use Rattle.machine_state.specs.Moves.{landed, standing, without_lock, one_more}
use Rattle.machine_state.specs.Positioned.{IsCopiedBelow}
use Rattle.machine_state.proofs.Lists.{one_set, one_added}

-- a flight that has no word below an address to copy
abbrev pub IsClear : ℕ → ℕ → Flight → Type 0
IsClear size address f = (c : Copy) → f ≡ Copying c → c.copied < words_owned size c.entry
    → address ≤ address_of_word size c.entry c.copied

-- all that is copied below an address is copied there still
abbrev pub CopiedStill : ℕ → List Flight → List Flight → Type 0
CopiedStill size flights flights' =
    (address : ℕ) → IsCopiedBelow size flights address → IsCopiedBelow size flights' address

pub IsCopiedBelow-lower : (size low high : ℕ) (flights : List Flight) → low ≤ high
    → IsCopiedBelow size flights high → IsCopiedBelow size flights low
IsCopiedBelow-lower size low high flights le copied id c at left =
    let h = copied id c at left in omega arith

module _ (size address : ℕ) where
  landed_clear : IsClear size address Landed
  landed_clear c is = absurd (cc)

  copying_clear : (c : Copy) → (c.copied < words_owned size c.entry
      → address ≤ address_of_word size c.entry c.copied) → IsClear size address (Copying c)
  copying_clear c h d is =
      let same : c ≡ d = cc in
      subst (λ (y : Copy). y.copied < words_owned size y.entry
      → address ≤ address_of_word size y.entry y.copied) same h

  one_more_clear : (f : Flight) → IsClear size address f → IsClear size address (one_more f)
  one_more_clear Landed h = h
  one_more_clear (Copying c) h = copying_clear (record c { copied = c.copied + 1 })
      (λ left. let was = h c refl (omega arith) in omega arith)

  landing_clear : (lock : ℕ) (f : Flight) → IsClear size address f
      → IsClear size address (landed lock f)
  landing_clear lock Landed h = h
  landing_clear lock (Copying c) h = chosen (is_among c.locks lock)
    where
      stands : (locks : List ℕ) → IsClear size address (standing c locks)
      stands [] = landed_clear
      stands (one ∷ locks) = copying_clear (record c { locks = one ∷ locks }) (h c refl)

      chosen : (b : Bool)
          → IsClear size address (cond b (standing c (without_lock lock c.locks)) (Copying c))
      chosen true = stands (without_lock lock c.locks)
      chosen false = h

  each : (flights : List Flight) → IsCopiedBelow size flights address
      → (j : ℕ) (f : Flight) → HasAt flights j f → IsClear size address f
  each flights copied j f at c is left =
      copied j c (subst (λ (g : Flight). HasAt flights j g) is at) left

  set_clear : (flights : List Flight) (id : ℕ) (f : Flight) → IsCopiedBelow size flights address
      → IsClear size address f → IsCopiedBelow size (set flights id f) address
  set_clear flights id f copied mine j c at left = one_set (λ (j : ℕ) (g : Flight).
      IsClear size address g) flights id f (λ j g _ there. each flights copied j g there) mine j
      (Copying c) at c refl left

  add_clear : (flights : List Flight) (f : Flight) → IsCopiedBelow size flights address
      → IsClear size address f → IsCopiedBelow size (flights ++ f ∷ []) address
  add_clear flights f copied mine j c at left = one_added (λ (j : ℕ) (g : Flight).
      IsClear size address g) flights f (λ j g there. each flights copied j g there) mine j
      (Copying c) at c refl left

-- a new copy, of an entry that begins above
pub begun_clear : (size address id : ℕ) (flights : List Flight) (c : Copy)
    → address ≤ address_of_word size c.entry c.copied → IsCopiedBelow size flights address
    → IsCopiedBelow size (set flights id (Copying c)) address
begun_clear size address id flights c above copied =
    set_clear size address flights id (Copying c) copied
    (copying_clear size address c (λ _. above))

module _ (size : ℕ) (flights : List Flight) (id : ℕ) (f : Flight) (here : HasAt flights id f) where
  pub same_still : CopiedStill size flights (set flights id f)
  same_still address copied = set_clear size address flights id f copied
      (each size address flights copied id f here)

  pub one_more_still : CopiedStill size flights (set flights id (one_more f))
  one_more_still address copied = set_clear size address flights id (one_more f) copied
      (one_more_clear size address f (each size address flights copied id f here))

  pub landed_still : (lock : ℕ) → CopiedStill size flights (set flights id (landed lock f))
  landed_still lock address copied = set_clear size address flights id (landed lock f) copied
      (landing_clear size address lock f (each size address flights copied id f here))

  pub added_still : CopiedStill size flights (set flights id f ++ Landed ∷ [])
  added_still address copied = add_clear size address (set flights id f) Landed
      (same_still address copied) (landed_clear size address)

  pub joined_still : (other : ℕ)
      → CopiedStill size flights (set (set flights other Landed) id f)
  joined_still other address copied = set_clear size address (set flights other Landed) id f
      (set_clear size address flights other Landed copied (landed_clear size address))
      (each size address flights copied id f here)

  pub given_up_still : CopiedStill size flights (set flights id Landed ++ f ∷ [])
  given_up_still address copied = add_clear size address (set flights id Landed) f
      (set_clear size address flights id Landed copied (landed_clear size address))
      (each size address flights copied id f here)

-- The words of the log in memory, whether a buffer holds them yet, still, or no more: each is its
-- entry's, or is 0 and some view is still to copy it. Which page lies in which buffer is no matter
-- here (PostgreSQL's xlog.c, CopyXLogRecordToWAL). Each word has one owner, and only the copy of
-- that entry stores it: so entries are copied side by side, in any order among each other, and a
-- word is 0 until it is copied, and never another entry's.
use Rattle.std.specs.Prelude.{◌≡◌, ◌⊎◌, ℕ, ◌*◌, ◌<◌, ◌≤◌, List, ◌∷◌, ◌++◌}
use Rattle.wal_page.specs.Order.{Entry, finish_of}
use Rattle.wal_page.specs.EntryWords.{address_of_word, words_owned}
use Rattle.wal_page.specs.LogPlace.{word_bytes_from, word_from}
use Rattle.machine_state.specs.Words.{Opening, end_form, last_start, order_end}
use Rattle.machine_state.specs.Views.{HasAt, Copy, Flight, Copying}

-- the word of the log at an address, as this order gives it behind the place; and as a disk holds
-- it
module _ (opening : Opening) (order : List Entry) (address : ℕ) where
  abbrev pub log_word_of : ℕ
  log_word_of =
      word_from opening.setup.seg_size opening.setup.sysid opening.place order address

  abbrev pub log_bytes_of : List ℕ
  log_bytes_of =
      word_bytes_from opening.setup.seg_size opening.setup.sysid opening.place order address

-- an entry in flight is one of the order, behind the one that it names
pub record IsOfOrder (opening : Opening) (order : List Entry) (c : Copy) : Type 0 where
  pub front : List Entry
  pub back : List Entry
  pub are : order ≡ front ++ c.entry ∷ back
  pub prev_is : c.prev ≡ last_start opening front
  pub copied_within : c.copied ≤ words_owned opening.setup.seg_size c.entry

-- some view is still to copy the word at this address
pub record IsAwaited (size : ℕ) (flights : List Flight) (address : ℕ) : Type 0 where
  pub id : ℕ
  pub copy : Copy
  pub in_flight : HasAt flights id (Copying copy)
  pub from : address_of_word size copy.entry copy.copied ≤ address
  pub to : address < finish_of size copy.entry

-- an entry in flight, which its start names, is in flight in one view
abbrev pub IsInFlightOnce : List Flight → Type 0
IsInFlightOnce flights = (i j : ℕ) (c d : Copy) → HasAt flights i (Copying c)
    → HasAt flights j (Copying d) → (c.entry).start ≡ (d.entry).start → i ≡ j

-- `memory` is the word of each address, by its number, for ever; `reach` is how many pages, from
-- address 0 on, have been mapped
pub record RingHolds (opening : Opening) (order : List Entry) (reach : ℕ) (memory : ℕ → ℕ)
    (flights : List Flight) : Type 0 where
  pub in_flight : (id : ℕ) (c : Copy) → HasAt flights id (Copying c)
      → IsOfOrder opening order c
  pub alone : IsInFlightOnce flights
  pub words : (k : ℕ) → (memory k ≡ log_word_of opening order (8 * k))
      ⊎ ((memory k ≡ 0) × IsAwaited opening.setup.seg_size flights (8 * k))
  pub ahead : (k : ℕ) → reach * 1024 ≤ k → opening.setup.seg_size ≤ 8 * k
      → 8 * k < end_form opening.setup (order_end opening order)
      → IsAwaited opening.setup.seg_size flights (8 * k)

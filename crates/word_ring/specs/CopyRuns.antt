-- A run of words that a pass may copy to a page, and what is so behind it.
use Rattle.std.specs.Prelude.{◌≡◌, ◌≢◌, ℕ, ◌+◌, ◌*◌, ◌/◌, ◌%◌, ◌<◌, ◌≤◌, List, [], min, slice_index, slice_index_or}
use Rattle.std.specs.Int.{w64, from_le_bytes}
use Rattle.wal_page.specs.Placed.{PlacedState, placed_end}
use Rattle.machine_state.specs.Steps.{load_buffer_end, store_ring_word, MayStep, value_behind, word_of_step}
use Rattle.machine_state.specs.Views.{View}
use Rattle.wal_rule.specs.declared.seated.SeatedPass.{SeatedPass}
use Rattle.wal_rule.specs.SeatedPasses.{HasView, setup_of, view_of}
use Rattle.wal_rule.specs.Stepping.{Meets}
use Rattle.word_ring.specs.Copied.{IsPlaceOf, IsRestOf, copied_view, left_on_page, page_end_at}
use Rattle.word_ring.specs.Ring.{confirmed_view}

-- so many words are left of its copy, as this record at its place gives them, all of them on the
-- page of the next one, whose end, or a higher one, the pass has met; the next one has this place
pub record MayCopy {D : Type 0} (count place : ℕ) (p : SeatedPass D) (placed : PlacedState)
    : Type 0 where
  pub rest : IsRestOf (setup_of p) (view_of p) placed
  pub left : placed.next + 8 * count ≤ placed_end placed
  pub on_page : placed.next + 8 * count ≤ page_end_at placed.next
  pub met : page_end_at placed.next ≤ ((view_of p).mapping).confirmed
  pub place_is : IsPlaceOf (setup_of p) placed.next place

-- the copy is so many words further on, and the record at its place with it
pub record HasCopied {D : Type 0} (count : ℕ) (old new : SeatedPass D)
    (placed_old placed_new : PlacedState) : Type 0 where
  pub view : HasView (copied_view count (view_of old)) old new
  pub placed_is : placed_new ≡ record placed_old { next = placed_old.next + 8 * count }
  pub rest : IsRestOf (setup_of old) (view_of new) placed_new

-- the end word of the next word's buffer was met, by the view before. Where it is the end of that
-- word's page, as many words were copied as are left on the page, or as were asked for where these
-- are fewer; else none was
pub record CopiesPresent {D : Type 0} (most count : ℕ) (old new : SeatedPass D)
    (placed_old placed_new : PlacedState) : Type 0 where
  pub met : ℕ
  pub looked : Meets (view_of old)
      (load_buffer_end (placed_old.next / 8192 % (setup_of old).ring_pages)) met
  pub present : met ≡ page_end_at placed_old.next → count ≡ min (left_on_page placed_old) most
  pub absent : met ≢ page_end_at placed_old.next → count ≡ 0
  pub view : HasView (copied_view count (confirmed_view met (view_of old))) old new
  pub placed_is : placed_new ≡ record placed_old { next = placed_old.next + 8 * count }

-- a view may store this word at this place, as the next one of its copy
pub record StoresNext (v : View) (place word : ℕ) : Type 0 where
  pub place_is : place ≡ word_of_step v store_ring_word
  pub may : MayStep v store_ring_word
  pub word_is : word ≡ value_behind v store_ring_word 0

-- so many words may be stored one behind another, those behind the first `done`, from this place on
abbrev pub MayStoreRun : {D : Type 0} → (place : ℕ) → List ℕ → (done count : ℕ) → SeatedPass D
    → Type 0
MayStoreRun {D} place words done count p = (n : ℕ) (q : SeatedPass D) → n < count
    → HasView (copied_view n (view_of p)) p q
    → StoresNext (view_of q) (place + n) (slice_index words (done + n))

-- the first `count` of these words may be stored one behind another, from this place on
abbrev pub MayStoreWords : {D : Type 0} → (place : ℕ) → (ℕ → ℕ) → (count : ℕ) → SeatedPass D
    → Type 0
MayStoreWords {D} place words count p = (n : ℕ) (q : SeatedPass D) → n < count
    → HasView (copied_view n (view_of p)) p q → StoresNext (view_of q) (place + n) (words n)

-- the word of the n-th of some chunks of eight bytes
abbrev pub chunk_word : List (List ℕ) → ℕ → ℕ
chunk_word chunks n = from_le_bytes w64 (slice_index_or chunks n [])

-- Words of a record are copied to a page: what a pass's view is behind so many of them.
use Rattle.std.specs.Prelude.{◌≡◌, ℕ, ◌+◌, ◌-◌, ◌*◌, ◌/◌, min}
use Rattle.wal_spelling.specs.Spelling.{assembled}
use Rattle.wal_page.specs.EntryWords.{address_of_word}
use Rattle.wal_page.specs.Placed.{PlacedState, placed_end}
use Rattle.machine_state.specs.declared.setup.Setup.{Setup}
use Rattle.machine_state.specs.Steps.{ring_number, ring_place}
use Rattle.machine_state.specs.Views.{Copy, Copying, Flight, Landed, View}

-- its copy is so many words further on; all else is as it was
abbrev pub further : ℕ → Flight → Flight
further count Landed = Landed
further count (Copying c) = Copying (record c { copied = c.copied + count })

abbrev pub copied_view : ℕ → View → View
copied_view count v =
    record v { working = record v.working { flight = further count (v.working).flight } }

-- a record at its place gives the words that are left of a copy, from its next one on
abbrev pub rest_of : Setup → Copy → PlacedState
rest_of setup c = record {
  size = setup.seg_size;
  sysid = setup.sysid;
  body = assembled (c.entry).value;
  start = (c.entry).start;
  prev = c.prev;
  next = address_of_word setup.seg_size c.entry c.copied;
}

-- a pass copies an entry, of which this record at its place gives the words that are left
abbrev pub IsRestOf : Setup → View → PlacedState → Type 0
IsRestOf setup v placed =
    (c : Copy) × ((v.working).flight ≡ Copying c) × (placed ≡ rest_of setup c)

-- the number, among all words, of the ring's place for the word at an address
abbrev pub IsPlaceOf : Setup → (address place : ℕ) → Type 0
IsPlaceOf setup address place = place ≡ ring_number setup (ring_place setup (address / 8))

-- where the page at an address ends
abbrev pub page_end_at : ℕ → ℕ
page_end_at address = (address / 8192 + 1) * 8192

-- so many words of a record are left on the page of the next one
abbrev pub left_on_page : PlacedState → ℕ
left_on_page p = min ((placed_end p - p.next) / 8) ((page_end_at p.next - p.next) / 8)

-- as many words as are left on the page were copied to it, or as were asked for where these are
-- fewer; the record at its place gives those behind them
pub record CopiesPage (most count : ℕ) (old new : View) (placed_old placed_new : PlacedState)
    : Type 0 where
  pub count_is : count ≡ min (left_on_page placed_old) most
  pub view_is : new ≡ copied_view count old
  pub placed_is : placed_new ≡ record placed_old { next = placed_old.next + 8 * count }

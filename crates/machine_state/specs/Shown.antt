-- What the invariant shows of the ring: which pages it has, and what its words are.
use Rattle.std.specs.Prelude.{◌≡◌, ◌≢◌, ◌⊎◌, ℕ, ◌+◌, ◌*◌, ◌/◌, ◌%◌, ◌<◌, ◌≤◌, All, List, ◌∷◌, ◌++◌, map}
use Rattle.wal_page.specs.Order.{Entry}
use Rattle.wal_page.specs.EntryWords.{address_of_word, words_owned}
use Rattle.machine_state.specs.declared.setup.Setup.{Setup}
use Rattle.machine_state.specs.Words.{initialised_word, written_word, end_word, word_of_ring, Opening, end_form, order_end}
use Rattle.machine_state.specs.Views.{HasAt, Stage, Away, Taken, Looked, Ready, Zeroing, Published, Copy, Copying, Lent, Out, View, flight_of}
use Rattle.machine_state.specs.Ringed.{IsAwaited, log_word_of}
use Rattle.machine_state.specs.Durable.{IsStaged}
use Rattle.machine_state.specs.Steps.{buffer_of, page_mapped, words_zeroed, ring_place}

-- the ring has a page of the log where its buffer's end is the address behind the page
abbrev pub IsPresent : Setup → List ℕ → ℕ → Type 0
IsPresent setup words page = end_word words (page % setup.ring_pages) ≡ (page + 1) * 8192

-- a mapper that knows which page is the next one; and one that gives its buffer's old page up
abbrev pub HasLooked : Stage → Type 0
HasLooked Away = ⊥
HasLooked Taken = ⊥
HasLooked (Looked at) = Unit {0}
HasLooked (Ready at written) = Unit {0}
HasLooked (Zeroing at count) = Unit {0}
HasLooked (Published at) = Unit {0}

abbrev pub HasCleared : Stage → Type 0
HasCleared Away = ⊥
HasCleared Taken = ⊥
HasCleared (Looked at) = ⊥
HasCleared (Ready at written) = ⊥
HasCleared (Zeroing at count) = Unit {0}
HasCleared (Published at) = Unit {0}

-- some pass has published the end of the page at this address, and not yet that it is there
abbrev pub IsPublished : List View → ℕ → Type 0
IsPublished views at =
    (id : ℕ) × (v : View) × HasAt views id v × ((v.mapping).stage ≡ Published at)

-- a word of the ring is the log's, or it is 0 and some pass is still to copy it
abbrev pub IsLogOrAwaited : Opening → List Entry → List View → ℕ → ℕ → Type 0
IsLogOrAwaited opening order views k word = (word ≡ log_word_of opening order (8 * k))
    ⊎ ((word ≡ 0) × IsAwaited opening.setup.seg_size (map flight_of views) (8 * k))

-- an entry, which its start names, is in flight in no view
abbrev pub IsInNoFlight : List View → Entry → Type 0
IsInNoFlight views e = (id : ℕ) (v : View) (c : Copy) → HasAt views id v
    → (v.working).flight ≡ Copying c → (c.entry).start ≢ e.start

-- where the ring has the page of a word at this address, it has the log's word there
abbrev pub HasLogWord : Opening → List Entry → List ℕ → ℕ → Type 0
HasLogWord opening order words address = IsPresent opening.setup words (address / 8192)
    → word_of_ring opening.setup words (ring_place opening.setup (address / 8))
    ≡ log_word_of opening order address

module _ (opening : Opening) (order : List Entry) (words : List ℕ) (views : List View) where
  abbrev setup : Setup
  setup = opening.setup

  -- what is said of the order's entries: one in flight is in flight in one view, and what counts as
  -- copied of it is the log's; of one that is in no flight all is
  pub record EntriesAreCopied : Type 0 where
    pub once : (i j : ℕ) (v w : View) (c d : Copy) → HasAt views i v → HasAt views j w
        → (v.working).flight ≡ Copying c → (w.working).flight ≡ Copying d
        → (c.entry).start ≡ (d.entry).start → i ≡ j
    pub copied : (id : ℕ) (v : View) (c : Copy) (n : ℕ) → HasAt views id v
        → (v.working).flight ≡ Copying c → n < c.copied
        → HasLogWord opening order words (address_of_word setup.seg_size c.entry n)
    pub landed : (front back : List Entry) (e : Entry) (n : ℕ) → order ≡ front ++ e ∷ back
        → IsInNoFlight views e → n < words_owned setup.seg_size e
        → HasLogWord opening order words (address_of_word setup.seg_size e n)

  -- what is said of the ring's words
  pub record WordsAreLogs : Type 0 where
    -- in each page that is present
    pub ring : (k : ℕ) → IsPresent setup words (k / 1024)
        → IsLogOrAwaited opening order views k (word_of_ring setup words (ring_place setup k))
    -- what was loaded for a write is 0 or the log's, and the log's below what was known as copied
    pub staged : (id : ℕ) (v : View) (l : Lent) → HasAt views id v → (v.writing).hold ≡ Out l
        → All (IsStaged opening order l.known) l.staged
    -- where a watcher has visited all locks, the ring has all from what is written to its bound
    pub watched : (id : ℕ) (v : View) (k : ℕ) → HasAt views id v → (v.watching).visited ≡ 8
        → written_word words ≤ 8 * k → 8 * k < (v.watching).bound
        → IsPresent setup words (k / 1024)
        × (word_of_ring setup words (ring_place setup k) ≡ log_word_of opening order (8 * k))

  -- what is said of its pages
  pub record PagesArePresent : Type 0 where
    -- each that was mapped and is not written whole
    pub mapped : (page : ℕ) → (page + 1) * 8192 ≤ initialised_word words
        → written_word words < (page + 1) * 8192 → IsPresent setup words page
    -- each that a pass has met, while a word of it is to be copied
    pub met : (id : ℕ) (v : View) (page address : ℕ) → HasAt views id v
        → (page + 1) * 8192 ≤ (v.mapping).confirmed
        → page * 8192 ≤ address → address < (page + 1) * 8192
        → IsAwaited setup.seg_size (map flight_of views) address → IsPresent setup words page
    -- of those that were not mapped the one that a mapper has published, and no other
    pub published : (at : ℕ) → IsPublished views at → IsPresent setup words (at / 8192)
    pub no_other : (page : ℕ) → IsPresent setup words page
        → initialised_word words < (page + 1) * 8192 → IsPublished views (page * 8192)
    -- a copied word lies in none but these
    pub copied : (k : ℕ) → setup.seg_size ≤ 8 * k
        → 8 * k < end_form setup (order_end opening order)
        → initialised_word words ≤ 8 * k
        → IsAwaited setup.seg_size (map flight_of views) (8 * k)
        ⊎ ((8 * k < initialised_word words + 8192) × IsPublished views (initialised_word words))

  -- what is said of a mapper: it works on the page behind those that were mapped; the one that the
  -- buffer held before is written; and what it zeroed is 0
  pub record MappersAreNext : Type 0 where
    pub page : (id : ℕ) (v : View) → HasAt views id v → HasLooked (v.mapping).stage
        → page_mapped (v.mapping).stage ≡ initialised_word words
    pub given_up : (id : ℕ) (v : View) → HasAt views id v → HasCleared (v.mapping).stage
        → page_mapped (v.mapping).stage + 8192 ≤ written_word words + setup.ring_pages * 8192
    pub zeroed : (id : ℕ) (v : View) (n : ℕ) → HasAt views id v
        → n < words_zeroed (v.mapping).stage
        → word_of_ring setup words (buffer_of setup (page_mapped (v.mapping).stage) * 1024 + n) ≡ 0

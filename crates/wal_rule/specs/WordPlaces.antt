-- Where each of the shared words lies in the table's memory. Of the machine's words all know the
-- numbers, one behind another; their places are the table's own matter. A line of memory holds
-- eight words, and a processor that stores into one takes the whole line from all others, and may
-- fetch the line beside it too. So each word before the buffers' ends that backends store into on
-- their own begins a pair of lines: words whose places differ by sixteen are on different pairs
-- wherever the first one lies. What is stored together shares one: the last start with the position
-- under whose lock it is stored, the moment with the flushed address. No step loads or stores the
-- places between, which stay 0. The buffers' ends and all behind follow one another, as their
-- numbers do.
use Rattle.std.specs.Prelude.{ℕ, ◌+◌, List, [], ◌∷◌, ◌++◌, drop, get_or, map, slice_index}

-- the places of the words before the buffers' ends, in the order of their numbers: position, last
-- start, eight locks, the turns to map and to write, the initialised, the written and the flushed
-- address, the moment, and down
abbrev pub first_places : List ℕ
first_places = 0 ∷ 1 ∷ 16 ∷ 32 ∷ 48 ∷ 64 ∷ 80 ∷ 96 ∷ 112 ∷ 128 ∷ 144 ∷ 160 ∷ 176 ∷ 192 ∷ 208
    ∷ 209 ∷ 224 ∷ []

-- the place of the first buffer's end
abbrev pub first_end_place : ℕ
first_end_place = 240

-- how much further on a place lies than its number, from the first buffer's end on
abbrev pub places_between : ℕ
places_between = 223

-- a word's place, by its number
abbrev pub place_of_word : ℕ → ℕ
place_of_word number = get_or first_places number (number + places_between)

-- the words by their numbers, as they lie in this memory
unfoldable pub words_of : List ℕ → List ℕ
words_of memory =
    map (λ place. slice_index memory place) first_places ++ drop first_end_place memory

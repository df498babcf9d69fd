-- What the schedule of a script means: its items in order, or the number of the line in which the
-- first stands that is refused.
use Rattle.std.specs.Prelude.{ℕ, ◌+◌, List, [], ◌∷◌, ◌++◌, Option, Some, None, Result, Ok, Err, ◌==◌, nat_le, if◌then◌else◌}
use Rattle.std.specs.List.{slice_split}
use Rattle.run_script.specs.declared.item.Item.{Item}
use Rattle.run_script.specs.Items.{item_of}
use Rattle.run_script.specs.Turns.{turns_of, most_turns}

infixl 10 ◌>>=◌
abbrev pub ◌>>=◌ : Result (List Item) ℕ → (List Item → Result (List Item) ℕ)
    → Result (List Item) ℕ
(Ok items) >>= f = f items
(Err line) >>= f = Err line

-- these items with one more, of this line; it is refused where there is none, or where the turns
-- are too many
abbrev pub after_item : ℕ → List Item → Option Item → Result (List Item) ℕ
after_item line items None = Err line
after_item line items (Some item) =
    if nat_le (turns_of items + item.turns) most_turns then Ok (items ++ item ∷ []) else Err line

-- where there are so many backends, these items with that of a word of this line; nothing stands
-- between two blanks
abbrev pub after_word : ℕ → ℕ → List Item → List ℕ → Result (List Item) ℕ
after_word backends line items [] = Ok items
after_word backends line items (c ∷ cs) = after_item line items (item_of backends (c ∷ cs))

-- these items with those of a line's words, up to the first that is refused
abbrev pub after_words : ℕ → ℕ → List Item → List (List ℕ) → Result (List Item) ℕ
after_words backends line items [] = Ok items
after_words backends line items (word ∷ words) =
    after_word backends line items word >>= (λ more. after_words backends line more words)

-- these items with those of a line: one that begins with `#` is passed over; in any other, blanks
-- part words
abbrev pub after_line : ℕ → ℕ → List Item → List ℕ → Result (List Item) ℕ
after_line backends line items [] = Ok items
after_line backends line items (c ∷ cs) =
    if c == 35 then Ok items
    else after_words backends line items (slice_split (λ b. b == 32) (c ∷ cs))

-- these items with those of lines from a number on, up to the first that is refused
abbrev pub after_lines : ℕ → ℕ → List Item → List (List ℕ) → Result (List Item) ℕ
after_lines backends line items [] = Ok items
after_lines backends line items (text ∷ texts) =
    after_line backends line items text >>= (λ more. after_lines backends (line + 1) more texts)

-- what the bytes behind a script's line `S` mean for so many backends; the first line has this
-- number
abbrev pub schedule_of : ℕ → ℕ → List ℕ → Result (List Item) ℕ
schedule_of backends first_line bytes =
    after_lines backends first_line [] (slice_split (λ c. c == 10) bytes)

-- What is left of a text that is cut at a separator.
use Rattle.std.specs.Prelude.{ℕ, ◌+◌, ◌≡◌, ◌<◌, List, [], Option, Some, None, length, get_or, false, ◌==◌}
use Rattle.std.specs.Borrow.{Bor}
use Rattle.std.specs.List.{slice_split}

-- the parts of what stands behind a separator; none where no separator stood
abbrev pub parts_left : ℕ → Option (Bor (List ℕ)) → List (List ℕ)
parts_left separator None = []
parts_left separator (Some text) = slice_split (λ c. c == separator) text.now

-- how many bytes are left of a text, its next separator among them; none where no separator stood
abbrev pub bytes_left : Option (Bor (List ℕ)) → ℕ
bytes_left None = 0
bytes_left (Some text) = length text.now + 1

-- no separator stands below a place of a text
abbrev pub LacksBefore : ℕ → List ℕ → ℕ → Type 0
LacksBefore separator text place = (k : ℕ) → k < place → (get_or text k 0 == separator) ≡ false

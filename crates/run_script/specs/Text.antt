-- Texts cut into lines and fields.
use Rattle.std.specs.Prelude.{ℕ, Bool, true, false, ◌&&◌, List, [], ◌∷◌, ◌==◌}
use Rattle.std.specs.List.{slice_split}

-- whether two texts are the same
abbrev pub is_text : List ℕ → List ℕ → Bool
is_text [] [] = true
is_text [] (d ∷ ds) = false
is_text (c ∷ cs) [] = false
is_text (c ∷ cs) (d ∷ ds) = (c == d) && is_text cs ds

-- the pieces between the separators, one more than there are separators
abbrev pub pieces_of : ℕ → List ℕ → List (List ℕ)
pieces_of separator text = slice_split (λ c. c == separator) text

-- a script's lines, between line feeds; where the last ends with one, an empty line stands behind
-- it
abbrev pub lines_of : List ℕ → List (List ℕ)
lines_of script = pieces_of 10 script

-- a line's fields, between blanks
abbrev pub fields_of : List ℕ → List (List ℕ)
fields_of line = pieces_of 32 line

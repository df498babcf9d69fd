-- How many pieces a text has.
use Rattle.std.proofs.Common.{ℕ, ◌+◌, ◌≤◌, ◌==◌, List, length, arith}
use Rattle.std.proofs.lemmas.List.Splits.{length-slice_split}
use Rattle.std.proofs.lemmas.List.Sums.{count_by-le-length}
use Rattle.run_script.specs.Text.{pieces_of}

-- a text has no more separators than bytes
pub length-pieces_of-le : (separator : ℕ) (text : List ℕ) → length (pieces_of separator text) ≤ length text + 1
length-pieces_of-le separator text =
    omega (arith, length-slice_split (λ c. c == separator) text, count_by-le-length (λ c. c == separator) text)

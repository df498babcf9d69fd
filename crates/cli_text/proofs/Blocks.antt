-- A block of sixteen bytes, compared with a separator.
use Rattle.std.proofs.Common.{◌≡◌, ℕ, ◌+◌, ◌≤◌, ◌==◌, not, List, length, map, sym, ap, ◌∙◌, arith}
use Rattle.std.proofs.lemmas.Bool.{ne_eqb}
use Rattle.std.proofs.lemmas.Simd.{first_set_mask_l, length-chunk}
use Rattle.std.specs.List.{prefix_len}
use lib.Count.{count_trailing_zeros}
use lib.Lanes.{chunk, mask_l}
use mathlib.Core.Bool.{cond}

-- the bits that mark the separators of a block
abbrev pub marks_of : ℕ → ℕ → List ℕ → ℕ
marks_of separator at text = mask_l (map (λ c. c == separator) (chunk at 16 text))

-- how many bytes of a block come before its first separator
abbrev pub run_of : ℕ → ℕ → List ℕ → ℕ
run_of separator at text = prefix_len (λ c. not (c == separator)) (chunk at 16 text)

-- the lowest mark tells how many
pub lowest_mark : (separator at marks : ℕ) (text : List ℕ) → at + 16 ≤ length text → marks ≡ marks_of separator at text → (marks ≡ 0 → ⊥) → count_trailing_zeros 64 marks ≡ run_of separator at text
lowest_mark separator at marks text room are some =
    let counted = first_set_mask_l (λ c. c == separator) (chunk at 16 text) 16 (length-chunk at 16 text room) (omega arith) in
    let known = ne_eqb (marks_of separator at text) 0 (λ none. some (are ∙ none)) in
    ap (count_trailing_zeros 64) are
    ∙ sym (ap (λ b. cond b 16 (count_trailing_zeros 64 (marks_of separator at text))) known)
    ∙ counted

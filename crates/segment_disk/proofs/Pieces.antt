-- What a read into a piece takes off the bytes that are left.
use Rattle.std.proofs.Common.{◌≡◌, ℕ, ◌+◌, ◌≤◌, List, ◌++◌, length, take, drop, arith, ◌∙◌, sym, ap, length-drop, take-append-drop}
use Rattle.std.proofs.Math.Seq.{take-add}
use Rattle.std.proofs.lemmas.List.{drop-drop, take-append-le, length-take-le, take_all}

-- the bytes that were left are those that were copied, and then the bytes that are left now
pub taken_off : (bytes : List ℕ) (taken count : ℕ) (copied behind : List ℕ) → taken + count ≤ length bytes → copied ≡ take count (drop taken bytes)
    → drop taken bytes ≡ take count (copied ++ behind) ++ drop (taken + count) bytes
taken_off bytes taken count copied behind within is =
    let size : length copied ≡ count = ap length is ∙ length-take-le count (drop taken bytes) (omega (arith, length-drop taken bytes)) in
    let front : take count (copied ++ behind) ≡ copied = take-append-le count copied behind (omega arith) ∙ take_all count copied (omega arith) in
    sym (take-append-drop count (drop taken bytes)) ∙ ap (λ (l : List ℕ). take count (drop taken bytes) ++ l) (drop-drop count taken bytes) ∙ ap (λ (l : List ℕ). l ++ drop (taken + count) bytes) (sym (front ∙ is))

-- the bytes that were handed out are those before, and then those that were copied
pub handed_on : (bytes : List ℕ) (taken count : ℕ) (copied behind : List ℕ)
    → taken + count ≤ length bytes → copied ≡ take count (drop taken bytes)
    → take (taken + count) bytes ≡ take taken bytes ++ take count (copied ++ behind)
handed_on bytes taken count copied behind within is =
    let size : length copied ≡ count =
    ap length is ∙ length-take-le count (drop taken bytes) (omega (arith, length-drop taken bytes)) in
    let front : take count (copied ++ behind) ≡ copied =
    take-append-le count copied behind (omega arith) ∙ take_all count copied (omega arith) in
    take-add taken count bytes ∙ ap (λ (l : List ℕ). take taken bytes ++ l) (sym (front ∙ is))

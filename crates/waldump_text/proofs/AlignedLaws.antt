-- Texts at the end of blanks.
use Rattle.std.proofs.Common.{◌≡◌, ℕ, ◌≤◌, List, [], ◌++◌, take, drop, replicate, sym, ap, ◌∙◌}
use Rattle.std.proofs.lemmas.List.{append-nil, take-append-drop, take-replicate}

pub at_end_of_blanks : (buffer text : List ℕ) (start : ℕ) → start ≤ 16 → take start buffer ≡ take start (replicate 16 32)
    → drop start buffer ≡ text ++ [] → buffer ≡ replicate start 32 ++ text
at_end_of_blanks buffer text start within before written =
    sym (take-append-drop start buffer)
    ∙ ap (λ l. l ++ drop start buffer) (before ∙ take-replicate start 16 32 within)
    ∙ ap (λ l. replicate start 32 ++ l) (written ∙ append-nil text)

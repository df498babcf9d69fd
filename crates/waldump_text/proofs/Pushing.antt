-- Pieces of a text, pushed one behind another.
use Rattle.std.proofs.Common.{◌≡◌, ℕ, List, [], ◌∷◌, ◌++◌, refl, ap, ◌∙◌, append_assoc}

-- a text and pieces pushed behind it in turn
abbrev pub pushed : List ℕ → List (List ℕ) → List ℕ
pushed text [] = text
pushed text (piece ∷ pieces) = pushed (text ++ piece) pieces

-- what stood in front stays in front
pub pushed-behind : (text piece : List ℕ) (pieces : List (List ℕ)) → pushed (text ++ piece) pieces ≡ text ++ pushed piece pieces
pushed-behind text piece [] = refl
pushed-behind text piece (next ∷ pieces) = ap (λ held. pushed held pieces) (append_assoc text piece next) ∙ pushed-behind text (piece ++ next) pieces

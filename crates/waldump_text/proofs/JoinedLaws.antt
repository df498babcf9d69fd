-- Pieces of a text, pushed one behind another.
use Rattle.std.proofs.Common.{◌≡◌, ℕ, List, [], ◌∷◌, ◌++◌, refl, ap, sym, ◌∙◌, append_assoc}
use Rattle.std.proofs.lemmas.List.{append-nil}
use Rattle.waldump_text.specs.Put.{joined}

-- a text and pieces pushed behind it in turn
abbrev pub pushed : List ℕ → List (List ℕ) → List ℕ
pushed text [] = text
pushed text (piece ∷ pieces) = pushed (text ++ piece) pieces

pub pushed-is_joined : (text : List ℕ) (pieces : List (List ℕ)) → pushed text pieces ≡ text ++ joined pieces
pushed-is_joined text [] = sym (append-nil text)
pushed-is_joined text (piece ∷ pieces) = pushed-is_joined (text ++ piece) pieces ∙ append_assoc text piece (joined pieces)

pub joined-append : (pieces others : List (List ℕ)) → joined (pieces ++ others) ≡ joined pieces ++ joined others
joined-append [] others = refl
joined-append (piece ∷ pieces) others = ap (λ text. piece ++ text) (joined-append pieces others) ∙ sym (append_assoc piece (joined pieces) (joined others))

-- a text that is its one piece
pub joined-one : (piece : List ℕ) → joined (piece ∷ []) ≡ piece
joined-one piece = append-nil piece

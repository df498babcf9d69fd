-- The word of the log that was loaded last, among all that were loaded for a write.
use Rattle.std.proofs.Common.{◌≡◌, inl, inr, ℕ, suc, List, [], ◌∷◌, Contains, sym, ◌∙◌, arith}
use Rattle.machine_state.specs.Views.{IsLoadedLast}

-- it is among them
pub loaded_there : (k word : ℕ) (staged : List (ℕ × ℕ)) → IsLoadedLast k word staged
    → Contains staged (k, word)
loaded_there k word [] last = absurd last
loaded_there k word (s ∷ staged) (inl now) = (0, omega arith, λ i. (now.0 i, now.1 i))
loaded_there k word (s ∷ staged) (inr before) =
    let at = loaded_there k word staged before.1 in
    (suc at.0, (let low = at.1 in omega arith), at.2)

-- there is one
pub same_loaded : (k one other : ℕ) (staged : List (ℕ × ℕ)) → IsLoadedLast k one staged
    → IsLoadedLast k other staged → one ≡ other
same_loaded k one other [] is also = absurd is
same_loaded k one other (s ∷ staged) (inl is) (inl also) = sym is.1 ∙ also.1
same_loaded k one other (s ∷ staged) (inl is) (inr also) = absurd (also.0 is.0)
same_loaded k one other (s ∷ staged) (inr is) (inl also) = absurd (is.0 also.0)
same_loaded k one other (s ∷ staged) (inr is) (inr also) =
    same_loaded k one other staged is.1 also.1

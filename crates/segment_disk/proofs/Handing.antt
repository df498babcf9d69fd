-- What a source hands out, one read behind another.
use Rattle.std.proofs.Common.{◌≡◌, ℕ, List, [], ◌++◌, take, Option, Some, None, Result, Ok, Err, IfOk, OnErr, refl, sym, ap, ◌∙◌, append_assoc, append-nil}
use Rattle.segment_disk.specs.Stream.{LosesFront, Takes, HandsOut}

loses_nothing : (left : Option (List ℕ)) → LosesFront left left []
loses_nothing None = tt
loses_nothing (Some bytes) = refl

loses_both : (first middle last : Option (List ℕ)) (front behind : List ℕ)
    → LosesFront first middle front → LosesFront middle last behind
    → LosesFront first last (front ++ behind)
loses_both None None None front behind one two = tt
loses_both None None (Some z) front behind one two = two
loses_both None (Some y) last front behind one two = absurd one
loses_both (Some x) None last front behind one two = absurd one
loses_both (Some x) (Some y) None front behind one two = two
loses_both (Some x) (Some y) (Some z) front behind one two =
    one ∙ ap (λ (l : List ℕ). front ++ l) two ∙ sym (append_assoc front behind z)

-- where nothing was read
pub HandsOut-refl : (left : Option (List ℕ)) (handed : List ℕ) → HandsOut left left handed handed
HandsOut-refl left handed = ([], sym (append-nil handed), loses_nothing left)

-- what one read hands out, by the clauses of `read`
pub HandsOut-read : {E : Type 0} (result : Result ℕ E) (old_left new_left : Option (List ℕ))
    (old_handed new_handed piece : List ℕ)
    → IfOk result (λ n. new_handed ≡ old_handed ++ take n piece)
    → OnErr result (new_handed ≡ old_handed)
    → IfOk result (λ n. Takes old_left new_left n piece)
    → OnErr result (new_left ≡ old_left)
    → HandsOut old_left new_left old_handed new_handed
HandsOut-read (Ok n) old_left new_left old_handed new_handed piece handed none_handed taken failed =
    (take n piece, handed, taken)
HandsOut-read (Err e) old_left new_left old_handed new_handed piece handed none_handed taken failed =
    rw (none_handed, failed) (HandsOut-refl old_left old_handed)

-- and what two do, one behind the other
pub HandsOut-trans : (first middle last : Option (List ℕ)) (a b c : List ℕ)
    → HandsOut first middle a b → HandsOut middle last b c → HandsOut first last a c
HandsOut-trans first middle last a b c one two = (
  one.0 ++ two.0,
  two.1 ∙ ap (λ (l : List ℕ). l ++ two.0) one.1 ∙ append_assoc a one.0 two.0,
  loses_both first middle last one.0 two.0 one.2 two.2,
)

-- Texts put behind a line, one after another.
use Rattle.std.proofs.Common.{◌≡◌, ℕ, ◌≤◌, Bool, true, false, List, ◌++◌, length, take, Result, Ok, Err, refl, ap, sym, ◌∙◌, append_assoc, arith}
use Rattle.std.specs.Prelude.{OnOk}
use Rattle.std.proofs.lemmas.List.{length-take, take_all}
use Rattle.cluster_listing.specs.Line.{shown_bytes}

-- two texts behind one another are one text behind
pub two_behind : (old mid new a b : List ℕ) → mid ≡ old ++ a → new ≡ mid ++ b → new ≡ old ++ (a ++ b)
two_behind old mid new a b first second = second ∙ ap (λ text. text ++ b) first ∙ append_assoc old a b

-- so are four
pub four_behind : (old one two three new a b c d : List ℕ) → one ≡ old ++ a → two ≡ one ++ b → three ≡ two ++ c → new ≡ three ++ d → new ≡ old ++ (a ++ (b ++ (c ++ d)))
four_behind old one two three new a b c d first second third fourth =
    two_behind old one new a (b ++ (c ++ d)) first (two_behind one two new b (c ++ d) second (two_behind two three new c d third fourth))

-- and they are where the last one is put, or memory runs out
pub four_or_none : {A E : Type 0} (result : Result A E) (old one two three new a b c d : List ℕ) → one ≡ old ++ a → two ≡ one ++ b → three ≡ two ++ c → OnOk result (new ≡ three ++ d) → OnOk result (new ≡ old ++ (a ++ (b ++ (c ++ d))))
four_or_none (Ok x) old one two three new a b c d first second third fourth = four_behind old one two three new a b c d first second third fourth
four_or_none (Err e) old one two three new a b c d first second third fourth = fourth

-- main data of no more bytes than are shown is shown
pub shown_short : (whole : Bool) (main : List ℕ) → length main ≤ 64 → main ≡ shown_bytes whole main
shown_short true main few = refl
shown_short false main few = sym (take_all 64 main few)

pub length_of_front : (n : ℕ) (xs : List ℕ) → n ≤ length xs → n ≡ length (take n xs)
length_of_front n xs long = omega (arith, length-take n xs)

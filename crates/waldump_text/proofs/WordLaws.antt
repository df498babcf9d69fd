-- The words of records are short.
use Rattle.std.proofs.Common.{◌≡◌, ℕ, zero, suc, ◌/◌, ◌%◌, ◌≤◌, Bool, true, false, cond, ◌&&◌, eqb, leb, List, [], ◌∷◌, length, get_or, refl, arith}
use Rattle.std.proofs.lemmas.Bool.{and_parts, leb-true}
use Rattle.waldump_text.specs.Names.{xlog_words, transaction_words, heap_words, message_words, own_word}

-- whether each word of a table has at most 20 bytes
abbrev are_short : List (List ℕ) → Bool
are_short [] = true
are_short (word ∷ words) = leb (length word) 20 && are_short words

short_in : (words : List (List ℕ)) → are_short words ≡ true → (k : ℕ) → length (get_or words k []) ≤ 20
short_in [] short k = omega arith
short_in (word ∷ words) short zero = leb-true _ _ (and_parts (leb (length word) 20) (are_short words) short).0
short_in (word ∷ words) short (suc k) = short_in words (and_parts (leb (length word) 20) (are_short words) short).1 k

either : (is : Bool) (a b : List ℕ) → length a ≤ 20 → length b ≤ 20 → length (cond is a b) ≤ 20
either true a b short other = short
either false a b short other = other

pub short_word : (rmid info : ℕ) → length (own_word rmid info) ≤ 20
short_word rmid info =
    either (eqb rmid 0) _ _ (short_in xlog_words refl (info / 16))
    (either (eqb rmid 1) _ _ (short_in transaction_words refl (info / 16 % 8))
    (either (eqb rmid 10) _ _ (short_in heap_words refl (info / 16))
    (either (eqb rmid 21) _ [] (short_in message_words refl (info / 16)) (omega arith))))

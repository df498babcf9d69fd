-- Counts of answers, one answer at a time.
use Rattle.std.proofs.Common.{◌≡◌, ℕ, ◌+◌, ◌<◌, ◌≤◌, List, [], ◌∷◌, ◌++◌, length, get_or, take, Some, None, ap, ◌∙◌, arith}
use Rattle.std.proofs.lemmas.List.{take_more}
use Rattle.run_laws.specs.declared.told.Told.{Told}
use Rattle.run_laws.specs.declared.told.Told.TheVariants.{Wrote, Hard, Flushed, Async, Idle, Switched, Stayed, Refused}
use Rattle.run_laws.specs.Counts.{is_hard, commits_of, is_reserved, reserved_count}

pub reserved_count_push : (told : List Told) (answer : Told) → reserved_count (told ++ answer ∷ []) ≡ reserved_count told + is_reserved answer
reserved_count_push [] answer = omega arith
reserved_count_push (first ∷ told) answer = omega (arith, reserved_count_push told answer)

pub commits_of_push : (told : List Told) (answer : Told) → commits_of (told ++ answer ∷ []) ≡ commits_of told + is_hard answer
commits_of_push [] answer = omega arith
commits_of_push (first ∷ told) answer = omega (arith, commits_of_push told answer)

is_reserved-le : (answer : Told) → is_reserved answer ≤ 1
is_reserved-le (Wrote start end) = omega arith
is_reserved-le (Hard start end moment) = omega arith
is_reserved-le (Flushed upto moment) = omega arith
is_reserved-le (Async start end) = omega arith
is_reserved-le (Idle upto) = omega arith
is_reserved-le (Switched start end) = omega arith
is_reserved-le (Stayed end) = omega arith
is_reserved-le (Refused cause None) = omega arith
is_reserved-le (Refused cause (Some start)) = omega arith

is_hard-le : (answer : Told) → is_hard answer ≤ 1
is_hard-le (Wrote start end) = omega arith
is_hard-le (Hard start end moment) = omega arith
is_hard-le (Flushed upto moment) = omega arith
is_hard-le (Async start end) = omega arith
is_hard-le (Idle upto) = omega arith
is_hard-le (Switched start end) = omega arith
is_hard-le (Stayed end) = omega arith
is_hard-le (Refused cause reserved) = omega arith

-- no more than there are answers
pub reserved_count-le : (told : List Told) → reserved_count told ≤ length told
reserved_count-le [] = omega arith
reserved_count-le (answer ∷ told) = omega (arith, is_reserved-le answer, reserved_count-le told)

pub commits_of-le : (told : List Told) → commits_of told ≤ length told
commits_of-le [] = omega arith
commits_of-le (answer ∷ told) = omega (arith, is_hard-le answer, commits_of-le told)

-- a loop's step
pub reserved_count-take : (told : List Told) (i : ℕ) (d : Told) → i < length told → reserved_count (take (i + 1) told) ≡ reserved_count (take i told) + is_reserved (get_or told i d)
reserved_count-take told i d within = ap reserved_count (take_more told i d within) ∙ reserved_count_push (take i told) (get_or told i d)

pub commits_of-take : (told : List Told) (i : ℕ) (d : Told) → i < length told → commits_of (take (i + 1) told) ≡ commits_of (take i told) + is_hard (get_or told i d)
commits_of-take told i d within = ap commits_of (take_more told i d within) ∙ commits_of_push (take i told) (get_or told i d)

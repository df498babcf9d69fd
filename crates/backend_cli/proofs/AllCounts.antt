-- Counts over the backends that a loop has gone over, and their bounds.
use Rattle.std.proofs.Common.{◌≡◌, ℕ, zero, suc, ◌+◌, ◌<◌, ◌≤◌, List, [], ◌∷◌, get_or, length, take, ap, sym, arith}
use Rattle.run_laws.specs.declared.told.Told.{Told}
use Rattle.run_laws.specs.declared.told.Told.TheVariants.{Wrote, Hard, Flushed, Async, Idle, Switched, Stayed, Refused}
use Rattle.run_laws.specs.Counts.{all_commits_of, commits_of, is_hard, is_reserved, reserved_count}
use Rattle.run_laws.specs.Counted.{all_reserved_count}
use Rattle.run_backends.specs.Backends.{lists_of}
use Rattle.run_backends.specs.declared.backend.AnsweredLines.{AnsweredLines}

is_hard-le : (answer : Told) → is_hard answer ≤ is_reserved answer
is_hard-le (Wrote start end) = omega arith
is_hard-le (Hard start end moment) = omega arith
is_hard-le (Flushed upto moment) = omega arith
is_hard-le (Async start end) = omega arith
is_hard-le (Idle upto) = omega arith
is_hard-le (Switched start end) = omega arith
is_hard-le (Stayed end) = omega arith
is_hard-le (Refused cause reserved) = omega arith

commits-le : (told : List Told) → commits_of told ≤ reserved_count told
commits-le [] = omega arith
commits-le (answer ∷ told) = omega (arith, is_hard-le answer, commits-le told)

-- each durable commit reserved a record
pub all_commits-le : (lists : List (List Told)) → all_commits_of lists ≤ all_reserved_count lists
all_commits-le [] = omega arith
all_commits-le (told ∷ lists) = omega (arith, commits-le told, all_commits-le lists)

-- a count over lists that adds up those of each
module _ (all : List (List Told) → ℕ) (one : List Told → ℕ) (none : all [] ≡ 0) (adds : (told : List Told) (lists : List (List Told)) → all (told ∷ lists) ≡ one told + all lists) where
  take_suc : (backends : List AnsweredLines) (i : ℕ) (b : AnsweredLines) → i < length backends → get_or backends i b ≡ b → all (lists_of (take (suc i) backends)) ≡ all (lists_of (take i backends)) + one b.told.items
  take_suc [] i b within is = absurd (omega arith)
  take_suc (c ∷ backends) zero b within is = omega (arith, none, adds c.told.items [], ap (λ (x : AnsweredLines). one x.told.items) is)
  take_suc (c ∷ backends) (suc i) b within is = omega (arith, adds c.told.items (lists_of (take (suc i) backends)), adds c.told.items (lists_of (take i backends)), take_suc backends i b (omega arith) is)

  take-le : (backends : List AnsweredLines) (i : ℕ) → all (lists_of (take i backends)) ≤ all (lists_of backends)
  take-le backends zero = omega (arith, none)
  take-le [] (suc i) = omega arith
  take-le (c ∷ backends) (suc i) = omega (arith, adds c.told.items (lists_of (take i backends)), adds c.told.items (lists_of backends), take-le backends i)

  -- a loop's step
  pub count_more : (backends : List AnsweredLines) (i count more : ℕ) (b : AnsweredLines) → i < length backends → b ≡ get_or backends i b → count ≡ all (lists_of (take i backends)) → more ≡ one b.told.items → count + more ≡ all (lists_of (take (i + 1) backends))
  count_more backends i count more b within is so_far here =
      let further : suc i ≡ i + 1 = omega arith in
      omega (arith, take_suc backends i b within (sym is), ap (λ (n : ℕ). all (lists_of (take n backends))) further)

  -- and what it leaves is no more than the whole
  pub count_more-le : (backends : List AnsweredLines) (i count more : ℕ) (b : AnsweredLines) → i < length backends → b ≡ get_or backends i b → count ≡ all (lists_of (take i backends)) → more ≡ one b.told.items → count + more ≤ all (lists_of backends)
  count_more-le backends i count more b within is so_far here =
      omega (arith, count_more backends i count more b within is so_far here, take-le backends (i + 1))

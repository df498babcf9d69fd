-- How many images there may be: a record has at most 33.
use Rattle.std.proofs.Common.{ℕ, ◌+◌, ◌*◌, ◌≤◌, List, [], ◌∷◌, ◌++◌, length, arith}
use Rattle.std.proofs.lemmas.List.{length-append}
use Rattle.wal_reader.specs.declared.found.FoundRecord.{FoundRecord}

pub bounded_more : (found : List FoundRecord) (f : FoundRecord) (count more : ℕ)
    → count ≤ 33 * length found → more ≤ 33 → count + more ≤ 33 * length (found ++ f ∷ [])
bounded_more found f count more bounded few = omega (arith, length-append found (f ∷ []))

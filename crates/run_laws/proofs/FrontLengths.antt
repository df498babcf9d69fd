-- How many records are found of a front, and which.
use Rattle.std.proofs.Common.{◌≡◌, ℕ, zero, suc, ◌≤◌, List, [], ◌∷◌, length, take, refl, ap, arith}
use Rattle.std.proofs.lemmas.List.{length-take, length-take-le}
use Rattle.byte_position.specs.Position.{address_of}
use Rattle.wal_page.specs.Order.{Entry}
use Rattle.wal_reader.specs.declared.found.FoundRecord.{FoundRecord}
use Rattle.written_log_laws.specs.LawfulLog.{IsFrontUpto}
use Rattle.written_log_laws.specs.Written.{found_entry, found_from, found_of}
use Rattle.run_laws.specs.declared.told.Told.{Told}
use Rattle.run_laws.specs.Crash.{IsFrontWithTold}

length-found_from : (size prev : ℕ) (es : List Entry) → length (found_from size prev es) ≡ length es
length-found_from size prev [] = refl
length-found_from size prev (e ∷ es) = ap suc (length-found_from size (address_of size e.start) es)

-- the front is as long as what was found
pub front_length : (size : ℕ) (es : List Entry) (upto : ℕ) (found : List FoundRecord) → (front : IsFrontUpto size es upto found) → front.count ≡ length found
front_length size es upto found front =
    omega (arith, ap length front.found_is, length-found_from size 0 (take front.count es), length-take-le front.count es front.within)

-- the first of what is found of entries is what is found of the first of them
pub take-found_from : (n size prev : ℕ) (es : List Entry)
    → take n (found_from size prev es) ≡ found_from size prev (take n es)
take-found_from zero size prev es = refl
take-found_from (suc n) size prev [] = refl
take-found_from (suc n) size prev (e ∷ es) =
    ap (λ (found : List FoundRecord). found_entry size prev e ∷ found)
    (take-found_from n size (address_of size e.start) es)

-- a front of which the records begin with those of some entries has as many entries at least
pub front_covers : (size moment : ℕ) (order : List Entry) (lists : List (List Told))
    (found : List FoundRecord) (entries : List Entry)
    → (front : IsFrontWithTold size moment order lists found)
    → take (length entries) found ≡ found_of size entries → length entries ≤ front.count
front_covers size moment order lists found entries front begins =
    omega (
      arith,
      ap length begins,
      length-take (length entries) found,
      length-found_from size 0 entries,
      ap length front.front,
      length-found_from size 0 (take front.count order),
      length-take front.count order,
    )

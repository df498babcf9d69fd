-- A long header's checks among those of a page.
use Rattle.std.proofs.Common.{◌≡◌, ℕ, ◌*◌, not, Bool, true, false, cond, ◌==◌, nat_lt, Some, List, [], ◌∷◌, ◌++◌, arith}
use Rattle.std.specs.Int.{w16, w64}
use Rattle.wal_spelling.specs.Numbers.{number_at}
use Rattle.wal_page.specs.declared.checks.PageErr.{PageErr}
use Rattle.wal_page.specs.declared.checks.PageErr.TheVariants.{Address, Timeline}
use Rattle.wal_page.specs.Page.{first_fault, info_of, is_first_page, is_long, long_header_rows, page_fault, timeline_of}

-- the first check that fails of the front is the first of all
pub first_fault-front : {K : Type 0} (xs ys : List (Bool × K)) (e : K) → first_fault xs ≡ Some e → first_fault (xs ++ ys) ≡ Some e
first_fault-front [] ys e found = grind (arith, found)
first_fault-front (x ∷ xs) ys e found =
    (elim x.0 as (λ b. cond b (Some x.1) (first_fault xs) ≡ Some e → cond b (Some x.1) (first_fault (xs ++ ys)) ≡ Some e) [ true ↦ λ f. f | false ↦ λ f. first_fault-front xs ys e f ]) found

-- a page that has a long header where it is to have one is faulted by what that says
pub long_header_faulted : (size page : ℕ) (bytes : List ℕ) (last_timeline : ℕ) (e : PageErr) → (number_at w16 bytes 0 == 0xD113) ≡ true → nat_lt 15 (info_of bytes) ≡ false → is_first_page size page ≡ true → is_long bytes ≡ true → first_fault (long_header_rows size bytes) ≡ Some e → page_fault size page bytes last_timeline ≡ Some e
long_header_faulted size page bytes last_timeline e magic flags first long found =
    let address = number_at w64 bytes 8 in
    let others : List (Bool × PageErr) = (not (address == page * 8192), Address (record { 0 = address })) ∷ (nat_lt (timeline_of bytes) last_timeline, Timeline (timeline_of bytes)) ∷ [] in
    rw (magic, flags, first, long) (first_fault-front (long_header_rows size bytes) others e found)

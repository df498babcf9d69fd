-- Laws of the page that a reader holds.
use Rattle.std.proofs.Common.{◌≡◌, ℕ, ◌+◌, ◌*◌, ◌/◌, ◌<◌, ◌≤◌, Option, Some, subst, arith}
use Rattle.std.proofs.Math.Nat.{div-mul-le_self, le-div_iff_mul-le}
use Rattle.segment_disk.specs.Tape.{Tape}
use Rattle.wal_reader.specs.declared.page_cache.PageCache.{PageCache}
use Rattle.wal_reader.specs.Pages.{Pages}
use Rattle.wal_reader.specs.PageCursor.{Sees}

-- the segment of a page below address 2 ^ 60 has a number that addresses can reach
pub segment_of_page_fits : (size pages page : ℕ) → 8192 * pages ≡ size → 128 ≤ pages → pages ≤ 131072 → page < 140737488355328 → page / pages < 18446744073709551616 / size
segment_of_page_fits size pages page whole low high below =
    let segment = page / pages in
    let few : segment * pages ≤ page = div-mul-le_self page pages in
    let product : (segment + 1) * (8192 * pages) ≤ 18446744073709551616 = omega arith in
    let positive : 0 < 8192 * pages = omega arith in
    let most : segment + 1 ≤ 18446744073709551616 / (8192 * pages) = (le-div_iff_mul-le positive).1 product in
    subst (λ (n : ℕ). segment < 18446744073709551616 / n) whole (omega arith)

-- the page that is held, as a page of the log
pub held_page : (tape : Option Tape) (cache : PageCache) (pages : Pages) (page : ℕ) → Sees tape cache pages → cache.number ≡ Some page → pages page ≡ Some cache.bytes.value
held_page tape cache pages page sees held = rw held at sees.held

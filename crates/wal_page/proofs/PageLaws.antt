-- Laws of page headers, for the proofs of this crate and of those above.
use Rattle.std.proofs.Common.{◌≡◌, ℕ, ◌+◌, Bool, true, false, List, [], ◌++◌, length, if◌then◌else◌, refl, arith}
use Rattle.std.specs.Int.{w32, w64, to_le_bytes}
use Rattle.wal_page.specs.Page.{is_first_page, header_size, page_header}

-- a header is as long as its page says
pub length-page_header : (size sysid page remaining : ℕ) → length (page_header size sysid page remaining) ≡ header_size size page
length-page_header size sysid page remaining =
    let long : List ℕ = to_le_bytes w64 sysid ++ to_le_bytes w32 size ++ to_le_bytes w32 8192 in
    let parts = elim (is_first_page size page) as (λ (b : Bool). length (if b then long else []) + 24 ≡ (if b then 40 else 24)) [ true ↦ refl | false ↦ refl ] in
    omega (arith, parts)

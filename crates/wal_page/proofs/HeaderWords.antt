-- The words of a page header.
use Rattle.std.proofs.Common.{◌≡◌, ℕ, ◌+◌, ◌*◌, ◌^◌, ◌<◌, ◌≤◌, ltb, Bool, true, false, cond, ◌++◌, refl, sym, ◌∙◌, inl, inr, arith}
use Rattle.std.specs.Int.{w32, w64, from_le_bytes, to_le_bytes}
use Rattle.std.proofs.lemmas.Bool.{cases_Bool}
use Rattle.std.proofs.lemmas.Nat.{from_le_bytes-to_le_bytes_8}
use Rattle.wal_spelling.specs.Spelling.{word_at}
use Rattle.wal_page.specs.Page.{is_first_page, header_size, page_header}

-- a header's flags
abbrev flags_of : Bool → Bool → ℕ
flags_of continued first = cond continued 1 0 + cond first 2 0 + 4

flags-small : (continued first : Bool) → flags_of continued first ≤ 7
flags-small true true = omega arith
flags-small true false = omega arith
flags-small false true = omega arith
flags-small false false = omega arith

pub first_word : (size sysid page remaining n : ℕ) → n ≡ 0 → 53523 + (cond (ltb 0 remaining) 1 0 + cond (is_first_page size page) 2 0 + 4) * 65536 + 4294967296 ≡ word_at (page_header size sysid page remaining) n
first_word size sysid page remaining n e =
    let small = flags-small (ltb 0 remaining) (is_first_page size page) in
    rw e (omega (arith, small))

pub flags-fit : (size page remaining : ℕ) → cond (ltb 0 remaining) 1 0 + cond (is_first_page size page) 2 0 + 4 ≤ 7
flags-fit size page remaining = flags-small (ltb 0 remaining) (is_first_page size page)

pub address_word : (size sysid page remaining n : ℕ) → n ≡ 1 → page * 8192 < 2 ^ 64 → page * 8192 ≡ word_at (page_header size sysid page remaining) n
address_word size sysid page remaining n e lt = rw e (sym (from_le_bytes-to_le_bytes_8 (page * 8192) lt))

sizes_word : (size : ℕ) → size < 2 ^ 32 → size + 35184372088832 ≡ from_le_bytes w64 (to_le_bytes w32 size ++ to_le_bytes w32 8192)
sizes_word size lt = omega arith

-- only a long header has a fifth word
pub last_word : (size sysid page remaining n : ℕ) → 4 ≤ n → 8 * n < header_size size page → size < 2 ^ 32 → size + 35184372088832 ≡ word_at (page_header size sysid page remaining) n
last_word size sysid page remaining n from within lt =
    elim (cases_Bool (is_first_page size page)) [
      | inl first ↦ (let long : header_size size page ≡ 40 = rw first refl in let e : n ≡ 4 = omega arith in sizes_word size lt ∙ rw (e, first) refl)
      | inr other ↦ (let short : header_size size page ≡ 24 = rw other refl in absurd (omega arith))
    ]

-- A page's header of which each word is zero or its own, and which passes the reader's checks, is its own.
use Rattle.std.proofs.Common.{◌≡◌, ◌⊎◌, ℕ, zero, suc, ◌+◌, ◌-◌, ◌*◌, ◌<◌, ◌≤◌, ◌&&◌, true, false, not, eqb, cond, ltb, List, [], get_or, Option, Some, None, option_map, map, inl, inr, refl, sym, ap, subst, ◌∙◌, arith}
use Rattle.std.specs.Int.{w16, w32, w64}
use Rattle.std.proofs.lemmas.Bool.{cases_Bool, eqb-true, eq-eqb, not-false, true≢false}
use Rattle.byte_position.specs.Geometry.{IsSegmentSize}
use Rattle.byte_position.specs.Position.{header_size}
use Rattle.byte_position.proofs.HeaderSizes.{header_size_bounds}
use Rattle.byte_position.proofs.SegmentSizes.{segment_size_in_pages}
use Rattle.wal_spelling.specs.Numbers.{number_at}
use Rattle.wal_page.specs.declared.checks.PageErr.{PageErr}
use Rattle.wal_page.specs.Page.{first_fault, info_of, is_first_page, is_long, long_header_rows, page_header, page_rows, remaining_of}
use Rattle.wal_reader.specs.declared.found.Answer.{Answer}
use Rattle.wal_reader.specs.Pages.{Pages}
use Rattle.wal_reader.proofs.RowLaws.{first_fault-map}
use Rattle.wal_reader.proofs.SettledLaws.{passes_both, passes_row}
use Rattle.written_log_laws.proofs.WordsOfBytes.{SameWord, ZeroWord, by_eight, same_four, same_two, zero_eight}

-- a page that is there and passes its checks; a record continues there with so many bytes, or none does
pub record IsPassed (size : ℕ) (pages : Pages) (page remaining : ℕ) : Type 0 where
  pub bytes : List ℕ
  pub there : pages page ≡ Some bytes
  pub timeline : ℕ
  pub passes : first_fault (page_rows size page bytes timeline) ≡ None
  pub owed : (remaining ≡ 0) ⊎ (remaining_of bytes ≡ remaining)

none_told : {K L : Type 0} (f : K → L) (o : Option K) → option_map f o ≡ None → o ≡ None
none_told f None e = refl
none_told f (Some x) e = absurd cc

-- where none of a page's checks tells anything, none fails
pub answers_pass : (size page : ℕ) (bytes : List ℕ) (timeline : ℕ) (told : PageErr → Answer) → first_fault (map (λ row. (row.0, told row.1)) (page_rows size page bytes timeline)) ≡ None → first_fault (page_rows size page bytes timeline) ≡ None
answers_pass size page bytes timeline told passes =
    none_told told (first_fault (page_rows size page bytes timeline)) (sym (first_fault-map told (page_rows size page bytes timeline)) ∙ passes)

zero_here : (bytes : List ℕ) (k at i : ℕ) → ZeroWord bytes k → 8 * k ≤ at + i → at + i < 8 * k + 8 → get_or bytes (at + i) 0 ≡ 0
zero_here bytes k at i zeros low high =
    let e : 8 * k + (at + i - 8 * k) ≡ at + i = omega (arith, low) in
    subst (λ (j : ℕ). get_or bytes j 0 ≡ 0) e (zeros (at + i - 8 * k) (omega (arith, low, high)))

-- the third word of a header into which nothing continues
third_is_zero : (size sysid page i : ℕ) → i < 8 → get_or (page_header size sysid page 0) (16 + i) 0 ≡ 0
third_is_zero size sysid page i lt = by_eight (λ (j : ℕ). get_or (page_header size sysid page 0) (16 + j) 0 ≡ 0) refl refl refl refl refl refl refl refl i lt

module _ (size sysid : ℕ) (pages : Pages) (page remaining : ℕ) (valid : IsSegmentSize size) (some : 0 < page) (read : IsPassed size pages page remaining) where
  abbrev bytes : List ℕ
  bytes = read.bytes

  abbrev own : List ℕ
  own = page_header size sysid page remaining

  -- what the checks say
  record Says : Type 0 where
    magic : number_at w16 bytes 0 ≡ 0xD113
    long_first : is_first_page size page ≡ true → is_long bytes ≡ true
    long_passes : first_fault (cond (is_long bytes) (long_header_rows size bytes) []) ≡ None
    address : number_at w64 bytes 8 ≡ page * 8192

  says : Says
  says =
      let first = is_first_page size page in
      let of_magic = passes_row (not (eqb (number_at w16 bytes 0) 0xD113)) _ _ read.passes in
      let of_flags = passes_row (ltb 15 (info_of bytes)) _ _ of_magic.1 in
      let of_long = passes_row (first && not (is_long bytes)) _ _ of_flags.1 in
      let of_short = passes_row (not first && is_long bytes) _ _ of_long.1 in
      let parts = passes_both (cond (is_long bytes) (long_header_rows size bytes) []) _ of_short.1 in
      let of_address = passes_row (not (eqb (number_at w64 bytes 8) (page * 8192))) _ _ parts.1 in
      record {
        magic = eqb-true _ _ (not-false _ of_magic.0);
        long_first = λ is. not-false (is_long bytes) (rw is at of_long.0);
        long_passes = parts.0;
        address = eqb-true _ _ (not-false _ of_address.0);
      }

  -- its first word says something
  pub no_first : ZeroWord bytes 0 → ⊥
  no_first zeros =
      let none : number_at w16 bytes 0 ≡ 0 = same_two bytes [] 0 (λ i lt. zero_here bytes 0 0 i zeros (omega arith) (omega (arith, lt))) in
      absurd (omega (arith, none, says.magic))

  no_second : ZeroWord bytes 1 → ⊥
  no_second zeros =
      let none : number_at w64 bytes 8 ≡ 0 = zero_eight bytes 8 (λ i lt. zero_here bytes 1 8 i zeros (omega arith) (omega (arith, lt))) in
      absurd (omega (arith, none, says.address, some))

  third : ZeroWord bytes 2 → SameWord bytes own 2
  third zeros i lt =
      let none : remaining_of bytes ≡ 0 = same_four bytes [] 16 (λ j less. zero_here bytes 2 16 j zeros (omega arith) (omega (arith, less))) in
      let nothing : 0 ≡ remaining = elim read.owed [ inl e ↦ sym e | inr e ↦ sym none ∙ e ] in
      zeros i lt ∙ sym (third_is_zero size sysid page i lt) ∙ ap (λ (n : ℕ). get_or (page_header size sysid page n) (16 + i) 0) nothing

  -- a long header has two words more
  module _ (long : is_first_page size page ≡ true) where
    long_rows : first_fault (long_header_rows size bytes) ≡ None
    long_rows = rw (says.long_first long) at says.long_passes

    size_row : (eqb (number_at w32 bytes 32) size ≡ true) × (eqb (number_at w64 bytes 24) 0 ≡ false)
    size_row =
        let of_size = passes_row (not (eqb (number_at w32 bytes 32) size)) _ _ long_rows in
        let of_page = passes_row (not (eqb (number_at w32 bytes 36) 8192)) _ _ of_size.1 in
        let of_sysid = passes_row (eqb (number_at w64 bytes 24) 0) _ _ of_page.1 in
        (not-false _ of_size.0, of_sysid.0)

    no_fourth : ZeroWord bytes 3 → ⊥
    no_fourth zeros =
        let none : number_at w64 bytes 24 ≡ 0 = zero_eight bytes 24 (λ i lt. zero_here bytes 3 24 i zeros (omega arith) (omega (arith, lt))) in
        true≢false (sym (eq-eqb (number_at w64 bytes 24) 0 none) ∙ size_row.1)

    no_fifth : ZeroWord bytes 4 → ⊥
    no_fifth zeros =
        let none : number_at w32 bytes 32 ≡ 0 = same_four bytes [] 32 (λ i lt. zero_here bytes 4 32 i zeros (omega arith) (omega (arith, lt))) in
        let whole = segment_size_in_pages size valid in
        absurd (omega (arith, none, eqb-true _ _ size_row.0, whole))

  is_first : 24 < header_size size page → is_first_page size page ≡ true
  is_first long = elim (cases_Bool (is_first_page size page)) [
    | inl first ↦ first
    | inr other ↦ (let short : header_size size page ≡ 24 = rw other refl in absurd (omega (arith, short, long)))
  ]

  zero_word_is_own : (k : ℕ) → 8 * k < header_size size page → ZeroWord bytes k → SameWord bytes own k
  zero_word_is_own zero within zeros = absurd (no_first zeros)
  zero_word_is_own (suc zero) within zeros = absurd (no_second zeros)
  zero_word_is_own (suc (suc zero)) within zeros = third zeros
  zero_word_is_own (suc (suc (suc zero))) within zeros = absurd (no_fourth (is_first (omega (arith, within))) zeros)
  zero_word_is_own (suc (suc (suc (suc zero)))) within zeros = absurd (no_fifth (is_first (omega (arith, within))) zeros)
  zero_word_is_own (suc (suc (suc (suc (suc k))))) within zeros = absurd (omega (arith, within, header_size_bounds size valid page))

  pub header_word_is_own : (k : ℕ) → 8 * k < header_size size page → ZeroWord bytes k ⊎ SameWord bytes own k → SameWord bytes own k
  header_word_is_own k within (inl zeros) = zero_word_is_own k within zeros
  header_word_is_own k within (inr same) = same

-- A page of which each word of the header is zero or an own header's fails no check but by words that are zeros.
use Rattle.std.proofs.Common.{◌≡◌, ◌⊎◌, ℕ, ◌+◌, ◌-◌, ◌*◌, ◌/◌, ◌%◌, ◌^◌, ◌<◌, ◌≤◌, ◌&&◌, Bool, true, false, not, eqb, cond, ltb, List, [], ◌∷◌, ◌++◌, get_or, None, inl, inr, refl, sym, ap, subst, ◌∙◌, append-nil, arith}
use Rattle.std.specs.Int.{w16, w32, w64, to_le_bytes}
use Rattle.std.proofs.lemmas.Bool.{eqb-true, eq-eqb, false≢true, le-ltb, not-false, not_from_true, true≢false}
use Rattle.std.proofs.lemmas.Nat.{from_le_bytes-to_le_bytes_4, from_le_bytes-to_le_bytes_8}
use Rattle.byte_position.specs.Geometry.{IsSegmentSize}
use Rattle.byte_position.specs.Position.{header_size}
use Rattle.byte_position.proofs.HeaderSizes.{header_size_bounds}
use Rattle.byte_position.proofs.SegmentSizes.{segment_size_in_pages}
use Rattle.wal_spelling.specs.Numbers.{number_at}
use Rattle.wal_page.specs.declared.checks.PageErr.{PageErr}
use Rattle.wal_page.specs.declared.checks.PageErr.TheVariants.{Magic, Flags, NoLong, LongInside, SegSize, PageSize, SysId, Address, Timeline}
use Rattle.wal_page.specs.Page.{first_fault, info_of, is_continued, is_first_page, is_long, is_overwritten, long_header_rows, page_header, page_rows, remaining_of, timeline_of}
use Rattle.wal_reader.specs.declared.found.Answer.{Answer}
use Rattle.wal_reader.specs.declared.found.DamageKind.TheVariants as kinds
use Rattle.wal_reader.specs.Decodes.{damaged, page_answers}
use Rattle.wal_reader.proofs.SettledLaws.{passes_row}
use Rattle.written_log_laws.proofs.LogHeader.{IsSound, log_header_is_sound}
use Rattle.written_log_laws.proofs.OwnHeaders.{answers_pass}
use Rattle.written_log_laws.proofs.WordsOfBytes.{SameWord, ZeroWord, same_eight, same_four, same_two, zero_eight}
use Rattle.found_log.specs.Foreign.{is_foreign, is_foreign_page}
use Rattle.reopened_log_laws.proofs.OwnRows.{TellsOnly, none_tells, row_tells, tells_both, tells_mapped}

-- this program may have left what is told
abbrev pub IsOwnAnswer : Answer → Type 0
IsOwnAnswer told = is_foreign told ≡ false

abbrev pub IsOwnFault : PageErr → Type 0
IsOwnFault told = is_foreign_page told ≡ false

pub by_kind : (P : Bool → Bool → Type 0) → P true true → P true false → P false true → P false false → (c l : Bool) → P c l
by_kind P tt tf ft ff true true = tt
by_kind P tt tf ft ff true false = tf
by_kind P tt tf ft ff false true = ft
by_kind P tt tf ft ff false false = ff

abbrev pub header_by : Bool → Bool → ℕ → ℕ → ℕ → ℕ → List ℕ
header_by c l size sysid address remaining =
    to_le_bytes w16 0xD113 ++ to_le_bytes w16 (cond c 1 0 + cond l 2 0 + 4) ++ to_le_bytes w32 1 ++ to_le_bytes w64 address ++ to_le_bytes w32 remaining ++ (0 ∷ 0 ∷ 0 ∷ 0 ∷ []) ++ cond l (to_le_bytes w64 sysid ++ to_le_bytes w32 size ++ to_le_bytes w32 8192) []

own_magic : (size sysid page remaining : ℕ) → number_at w16 (page_header size sysid page remaining) 0 ≡ 0xD113
own_magic size sysid page remaining = by_kind (λ c l. number_at w16 (header_by c l size sysid (page * 8192) remaining) 0 ≡ 0xD113) refl refl refl refl (ltb 0 remaining) (is_first_page size page)

own_flags : (size sysid page remaining : ℕ) → ltb 15 (info_of (page_header size sysid page remaining)) ≡ false
own_flags size sysid page remaining = by_kind (λ c l. ltb 15 (info_of (header_by c l size sysid (page * 8192) remaining)) ≡ false) refl refl refl refl (ltb 0 remaining) (is_first_page size page)

own_long : (size sysid page remaining : ℕ) → is_long (page_header size sysid page remaining) ≡ is_first_page size page
own_long size sysid page remaining = by_kind (λ c l. is_long (header_by c l size sysid (page * 8192) remaining) ≡ l) refl refl refl refl (ltb 0 remaining) (is_first_page size page)

own_address : (size sysid page remaining : ℕ) → page * 8192 < 2 ^ 64 → number_at w64 (page_header size sysid page remaining) 8 ≡ page * 8192
own_address size sysid page remaining wide =
    let read = from_le_bytes-to_le_bytes_8 (page * 8192) wide in
    by_kind (λ c l. number_at w64 (header_by c l size sysid (page * 8192) remaining) 8 ≡ page * 8192) read read read read (ltb 0 remaining) (is_first_page size page)

own_sizes : (size sysid page remaining : ℕ) → size < 2 ^ 32 → is_first_page size page ≡ true → (number_at w32 (page_header size sysid page remaining) 32 ≡ size) × (number_at w32 (page_header size sysid page remaining) 36 ≡ 8192)
own_sizes size sysid page remaining fits first =
    let read = from_le_bytes-to_le_bytes_4 size fits in
    by_kind (λ c l. l ≡ true → (number_at w32 (header_by c l size sysid (page * 8192) remaining) 32 ≡ size) × (number_at w32 (header_by c l size sysid (page * 8192) remaining) 36 ≡ 8192)) (λ _. (read, refl)) (λ no. absurd (false≢true no)) (λ _. (read, refl)) (λ no. absurd (false≢true no)) (ltb 0 remaining) (is_first_page size page) first

-- bytes of which a word is zero say 0 there
pub zero_at : (bytes : List ℕ) (k at i : ℕ) → ZeroWord bytes k → 8 * k ≤ at + i → at + i < 8 * k + 8 → get_or bytes (at + i) 0 ≡ 0
zero_at bytes k at i zeros low high =
    let e : 8 * k + (at + i - 8 * k) ≡ at + i = omega (arith, low) in
    subst (λ (j : ℕ). get_or bytes j 0 ≡ 0) e (zeros (at + i - 8 * k) (omega (arith, low, high)))

pub same_at : (bytes own : List ℕ) (k at i : ℕ) → SameWord bytes own k → 8 * k ≤ at + i → at + i < 8 * k + 8 → get_or bytes (at + i) 0 ≡ get_or own (at + i) 0
same_at bytes own k at i same low high =
    let e : 8 * k + (at + i - 8 * k) ≡ at + i = omega (arith, low) in
    subst (λ (j : ℕ). get_or bytes j 0 ≡ get_or own j 0) e (same (at + i - 8 * k) (omega (arith, low, high)))

module _ (size sysid page remaining : ℕ) (bytes : List ℕ) (valid : IsSegmentSize size) (known : 0 < sysid) (narrow : sysid < 2 ^ 64) (wide : page * 8192 < 2 ^ 64)
    (words : (k : ℕ) → 8 * k < header_size size page → ZeroWord bytes k ⊎ SameWord bytes (page_header size sysid page remaining) k) where
  abbrev own : List ℕ
  own = page_header size sysid page remaining

  abbrev sound : IsSound size page remaining (page_header size sysid page remaining ++ [])
  sound =
      let whole = segment_size_in_pages size valid in
      log_header_is_sound size sysid remaining [] page (omega (arith, whole)) known narrow wide

  -- ---- its first word

  magic_either : (number_at w16 bytes 0 ≡ 0) ⊎ SameWord bytes own 0
  magic_either =
      let bounds = header_size_bounds size valid page in
      elim (words 0 (omega (arith, bounds))) [
        | inl zeros ↦ inl (same_two bytes [] 0 (λ i lt. zero_at bytes 0 0 i zeros (omega arith) (omega (arith, lt))))
        | inr same ↦ inr same
      ]

  -- where it has the magic it is its own
  pub first_own : number_at w16 bytes 0 ≡ 0xD113 → SameWord bytes own 0
  first_own is = elim magic_either [ inl none ↦ absurd (omega (arith, is, none)) | inr same ↦ same ]

  module _ (same : SameWord bytes own 0) where
    info_is : info_of bytes ≡ info_of own
    info_is = same_two bytes own 2 (λ i lt. same_at bytes own 0 2 i same (omega arith) (omega (arith, lt)))

    pub long_is : is_long bytes ≡ is_first_page size page
    long_is = ap (λ (info : ℕ). eqb (info / 2 % 2) 1) info_is ∙ own_long size sysid page remaining

    pub continued_is : is_continued bytes ≡ ltb 0 remaining
    continued_is = ap (λ (info : ℕ). eqb (info % 2) 1) info_is ∙ sym (ap is_continued (append-nil own)) ∙ sound.continued

    pub not_overwritten : is_overwritten bytes ≡ false
    not_overwritten = ap (λ (info : ℕ). eqb (info / 8 % 2) 1) info_is ∙ sym (ap is_overwritten (append-nil own)) ∙ sound.not_overwritten

    timeline_one : timeline_of bytes ≡ 1
    timeline_one = same_four bytes own 4 (λ i lt. same_at bytes own 0 4 i same (omega arith) (omega (arith, lt))) ∙ sym (ap timeline_of (append-nil own)) ∙ sound.on_timeline

  -- its timeline is 0 or 1
  pub timeline_low : timeline_of bytes ≤ 1
  timeline_low =
      let bounds = header_size_bounds size valid page in
      elim (words 0 (omega (arith, bounds))) [
        | inl zeros ↦ (let none : timeline_of bytes ≡ 0 = same_four bytes [] 4 (λ i lt. zero_at bytes 0 4 i zeros (omega arith) (omega (arith, lt))) in omega (arith, none))
        | inr same ↦ omega (arith, timeline_one same)
      ]

  -- where it passes its checks its first word is its own
  pub passed_own : (timeline : ℕ) → first_fault (page_rows size page bytes timeline) ≡ None → SameWord bytes own 0
  passed_own timeline passes = first_own (eqb-true _ _ (not-false _ (passes_row (not (eqb (number_at w16 bytes 0) 0xD113)) _ _ passes).0))

  -- ---- the checks of a long header

  module _ (first : is_first_page size page ≡ true) where
    long_within : (k : ℕ) → k < 5 → 8 * k < header_size size page
    long_within k lt = let long : header_size size page ≡ 40 = rw first refl in omega (arith, lt, long)

    sizes_either : (number_at w32 bytes 32 ≡ 0) ⊎ ((number_at w32 bytes 32 ≡ size) × (number_at w32 bytes 36 ≡ 8192))
    sizes_either =
        let whole = segment_size_in_pages size valid in
        let sizes = own_sizes size sysid page remaining (omega (arith, whole)) first in
        elim (words 4 (long_within 4 (omega arith))) [
          | inl zeros ↦ inl (same_four bytes [] 32 (λ i lt. zero_at bytes 4 32 i zeros (omega arith) (omega (arith, lt))))
          | inr same ↦ inr (same_four bytes own 32 (λ i lt. same_at bytes own 4 32 i same (omega arith) (omega (arith, lt))) ∙ sizes.0, same_four bytes own 36 (λ i lt. same_at bytes own 4 36 i same (omega arith) (omega (arith, lt))) ∙ sizes.1)
        ]

    long_tells : TellsOnly IsOwnFault (long_header_rows size bytes)
    long_tells =
        let whole = segment_size_in_pages size valid in
        let n = number_at w32 bytes 32 in
        row_tells IsOwnFault (not (eqb n size)) (SegSize n) _
        (λ other. elim sizes_either [
          | inl none ↦ not_from_true _ (eq-eqb n 0 none)
          | inr same ↦ absurd (true≢false (sym other ∙ not_from_true _ (eq-eqb n size same.0)))
        ])
        (λ is. row_tells IsOwnFault (not (eqb (number_at w32 bytes 36) 8192)) (PageSize (number_at w32 bytes 36)) _
        (λ other. elim sizes_either [
          | inl none ↦ absurd (omega (arith, none, eqb-true n size (not-false _ is), whole))
          | inr same ↦ absurd (true≢false (sym other ∙ not_from_true _ (eq-eqb (number_at w32 bytes 36) 8192 same.1)))
        ])
        (λ _. row_tells IsOwnFault (eqb (number_at w64 bytes 24) 0) SysId [] (λ _. refl) (λ _. none_tells IsOwnFault)))

  -- ---- all of them

  address_either : (number_at w64 bytes 8 ≡ 0) ⊎ (number_at w64 bytes 8 ≡ page * 8192)
  address_either =
      let bounds = header_size_bounds size valid page in
      elim (words 1 (omega (arith, bounds))) [
        | inl zeros ↦ inl (zero_eight bytes 8 (λ i lt. zero_at bytes 1 8 i zeros (omega arith) (omega (arith, lt))))
        | inr same ↦ inr (same_eight bytes own 8 (λ i lt. same_at bytes own 1 8 i same (omega arith) (omega (arith, lt))) ∙ own_address size sysid page remaining wide)
      ]

  -- the table of a long header where the page has one
  long_or_none : (long : Bool) → (long ≡ true → is_first_page size page ≡ true) → TellsOnly IsOwnFault (cond long (long_header_rows size bytes) [])
  long_or_none true is = long_tells (is refl)
  long_or_none false is = none_tells IsOwnFault

  pub rows_tell : (timeline : ℕ) → timeline ≤ 1 → TellsOnly IsOwnFault (page_rows size page bytes timeline)
  rows_tell timeline early =
      let magic = number_at w16 bytes 0 in
      let address = number_at w64 bytes 8 in
      let first = is_first_page size page in
      row_tells IsOwnFault (not (eqb magic 0xD113)) (Magic magic) _
      (λ other. elim magic_either [
        | inl none ↦ not_from_true _ (eq-eqb magic 0 none)
        | inr same ↦ absurd (true≢false (sym other ∙ not_from_true _ (eq-eqb magic 0xD113 (same_two bytes own 0 (λ i lt. same_at bytes own 0 0 i same (omega arith) (omega (arith, lt))) ∙ own_magic size sysid page remaining))))
      ])
      (λ is.
      let same = first_own (eqb-true magic 0xD113 (not-false _ is)) in
      let long = long_is same in
      row_tells IsOwnFault (ltb 15 (info_of bytes)) (Flags (info_of bytes)) _
      (λ high. absurd (true≢false (sym high ∙ ap (ltb 15) (info_is same) ∙ own_flags size sysid page remaining)))
      (λ _. row_tells IsOwnFault (first && not (is_long bytes)) NoLong _
      (λ other. absurd (true≢false (sym other ∙ ap (λ (b : Bool). first && not b) long ∙ never_both first)))
      (λ _. row_tells IsOwnFault (not first && is_long bytes) LongInside _
      (λ other. absurd (true≢false (sym other ∙ ap (λ (b : Bool). not first && b) long ∙ never_either first)))
      (λ _. tells_both IsOwnFault (cond (is_long bytes) (long_header_rows size bytes) []) _ (long_or_none (is_long bytes) (λ t. sym long ∙ t))
      (λ _. row_tells IsOwnFault (not (eqb address (page * 8192))) (Address (record { 0 = address })) _
      (λ other. elim address_either [
        | inl none ↦ not_from_true _ (eq-eqb address 0 none)
        | inr is_own ↦ absurd (true≢false (sym other ∙ not_from_true _ (eq-eqb address (page * 8192) is_own)))
      ])
      (λ _. row_tells IsOwnFault (ltb (timeline_of bytes) timeline) (Timeline (timeline_of bytes)) []
      (λ less. absurd (true≢false (sym less ∙ le-ltb (timeline_of bytes) timeline (omega (arith, early, timeline_one same)))))
      (λ _. none_tells IsOwnFault)))))))
    where
      never_both : (b : Bool) → (b && not b) ≡ false
      never_both true = refl
      never_both false = refl

      never_either : (b : Bool) → (not b && b) ≡ false
      never_either true = refl
      never_either false = refl

  -- .. told at the page's address
  pub answers_tell : (timeline : ℕ) → timeline ≤ 1 → TellsOnly IsOwnAnswer (page_answers size page bytes timeline)
  answers_tell timeline early = tells_mapped IsOwnAnswer (λ (fault : PageErr). damaged (page * 8192) (kinds.Page fault)) (page_rows size page bytes timeline) (rows_tell timeline early)

  pub answers_own : (timeline : ℕ) → first_fault (page_answers size page bytes timeline) ≡ None → SameWord bytes own 0
  answers_own timeline passes = passed_own timeline (answers_pass size page bytes timeline (λ fault. damaged (page * 8192) (kinds.Page fault)) passes)

  -- how many bytes it says are still to come
  pub remaining_either : remaining < 2 ^ 32 → (remaining_of bytes ≡ 0) ⊎ (remaining_of bytes ≡ remaining)
  remaining_either fits =
      let bounds = header_size_bounds size valid page in
      elim (words 2 (omega (arith, bounds))) [
        | inl zeros ↦ inl (same_four bytes [] 16 (λ i lt. zero_at bytes 2 16 i zeros (omega arith) (omega (arith, lt))))
        | inr same ↦ inr (same_four bytes own 16 (λ i lt. same_at bytes own 2 16 i same (omega arith) (omega (arith, lt))) ∙ sym (ap remaining_of (append-nil own)) ∙ sound.owed fits)
      ]

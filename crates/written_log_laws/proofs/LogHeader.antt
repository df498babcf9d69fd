-- The headers of a log's pages pass all checks of pages, and say which record continues there.
use Rattle.std.proofs.Common.{◌≡◌, ℕ, ◌+◌, ◌*◌, ◌^◌, ◌<◌, ◌≤◌, Bool, true, false, ltb, List, [], ◌∷◌, ◌++◌, if◌then◌else◌, refl, arith}
use Rattle.std.specs.Int.{w16, w32, w64, to_le_bytes}
use Rattle.std.proofs.lemmas.Bool.{eq-eqb, ne_eqb, and_left, and_right, not_from_true, le-ltb}
use Rattle.std.proofs.lemmas.Nat.{from_le_bytes-to_le_bytes_4, from_le_bytes-to_le_bytes_8}
use Rattle.wal_page.specs.declared.checks.PageErr.{PageErr}
use Rattle.wal_page.specs.Page.{page_header, is_first_page, is_continued, is_overwritten, timeline_of, remaining_of, page_rows}
use Rattle.wal_reader.specs.declared.found.DamageKind.TheVariants as kinds
use Rattle.wal_reader.specs.Decodes.{damaged, is_zero_word, page_answers}
use Rattle.written_log_laws.proofs.Tables.{NoneHolds, NoneHolds-map}
use Rattle.written_log_laws.proofs.Tables.NoneHolds.{none, past}

-- a page's header, by whether a record continues there and whether it is a long one
abbrev header_with : Bool → Bool → ℕ → ℕ → ℕ → ℕ → List ℕ
header_with continued long size sysid address remaining =
    to_le_bytes w16 0xD113 ++ to_le_bytes w16 ((if continued then 1 else 0) + (if long then 2 else 0) + 4) ++ to_le_bytes w32 1 ++ to_le_bytes w64 address ++ to_le_bytes w32 remaining ++ (0 ∷ 0 ∷ 0 ∷ 0 ∷ []) ++ (if long then to_le_bytes w64 sysid ++ to_le_bytes w32 size ++ to_le_bytes w32 8192 else [])

by_flags : (P : Bool → Bool → Type 0) → P true true → P true false → P false true → P false false → (c l : Bool) → P c l
by_flags P tt tf ft ff true true = tt
by_flags P tt tf ft ff true false = tf
by_flags P tt tf ft ff false true = ft
by_flags P tt tf ft ff false false = ff

-- a page as a reader finds it: it passes its checks, and says with how many bytes a record continues there
pub record IsSound (size page remaining : ℕ) (bytes : List ℕ) : Type 0 where
  pub no_zero_word : is_zero_word bytes ≡ false
  pub continued : is_continued bytes ≡ ltb 0 remaining
  pub not_overwritten : is_overwritten bytes ≡ false
  pub on_timeline : timeline_of bytes ≡ 1
  pub owed : remaining < 2 ^ 32 → remaining_of bytes ≡ remaining
  pub passes : (timeline : ℕ) → timeline ≤ 1 → NoneHolds (page_rows size page bytes timeline)

-- each of its checks, told at its address, is passed after a page of timeline 1
pub sound_answers : {size page remaining : ℕ} {bytes : List ℕ} → IsSound size page remaining bytes → NoneHolds (page_answers size page bytes 1)
sound_answers {page} sound = NoneHolds-map (λ (fault : PageErr). damaged (page * 8192) (kinds.Page fault)) (sound.passes 1 (omega arith))

module _ (size sysid remaining : ℕ) (rest : List ℕ) (page : ℕ) (fits : size < 2 ^ 32) (known : 0 < sysid) (narrow : sysid < 2 ^ 64) (wide : page * 8192 < 2 ^ 64) where
  module _ (timeline : ℕ) (early : timeline ≤ 1) where
    abbrev passes_with : Bool → Bool → Type 0
    passes_with c l = is_first_page size page ≡ l → NoneHolds (page_rows size page (header_with c l size sysid (page * 8192) remaining ++ rest) timeline)

    long_passes : (c : Bool) → passes_with c true
    long_passes true first =
        let read_size = from_le_bytes-to_le_bytes_4 size fits in
        let read_sysid = from_le_bytes-to_le_bytes_8 sysid narrow in
        let read_address = from_le_bytes-to_le_bytes_8 (page * 8192) wide in
        past refl
        (past refl
        (past (and_right (is_first_page size page) false refl)
        (past (and_left _ true (not_from_true _ first))
        (past (not_from_true _ (eq-eqb _ _ read_size))
        (past refl
        (past (ne_eqb _ _ (λ h. absurd (omega (arith, read_sysid, h))))
        (past (not_from_true _ (eq-eqb _ _ read_address))
        (past (le-ltb 1 timeline early) none))))))))
    long_passes false first =
        let read_size = from_le_bytes-to_le_bytes_4 size fits in
        let read_sysid = from_le_bytes-to_le_bytes_8 sysid narrow in
        let read_address = from_le_bytes-to_le_bytes_8 (page * 8192) wide in
        past refl
        (past refl
        (past (and_right (is_first_page size page) false refl)
        (past (and_left _ true (not_from_true _ first))
        (past (not_from_true _ (eq-eqb _ _ read_size))
        (past refl
        (past (ne_eqb _ _ (λ h. absurd (omega (arith, read_sysid, h))))
        (past (not_from_true _ (eq-eqb _ _ read_address))
        (past (le-ltb 1 timeline early) none))))))))

    short_passes : (c : Bool) → passes_with c false
    short_passes true first =
        let read_address = from_le_bytes-to_le_bytes_8 (page * 8192) wide in
        past refl
        (past refl
        (past (and_left _ true first)
        (past (and_right _ false refl)
        (past (not_from_true _ (eq-eqb _ _ read_address))
        (past (le-ltb 1 timeline early) none)))))
    short_passes false first =
        let read_address = from_le_bytes-to_le_bytes_8 (page * 8192) wide in
        past refl
        (past refl
        (past (and_left _ true first)
        (past (and_right _ false refl)
        (past (not_from_true _ (eq-eqb _ _ read_address))
        (past (le-ltb 1 timeline early) none)))))

  -- a header that an entry gives its page is sound, whatever stands behind it
  pub log_header_is_sound : IsSound size page remaining (page_header size sysid page remaining ++ rest)
  log_header_is_sound =
      let continued = ltb 0 remaining in
      let long = is_first_page size page in
      let bytes : Bool → Bool → List ℕ = λ c l. header_with c l size sysid (page * 8192) remaining ++ rest in
      let counted = from_le_bytes-to_le_bytes_4 remaining in
      let passes : (timeline : ℕ) → timeline ≤ 1 → NoneHolds (page_rows size page (bytes continued long) timeline) = λ timeline early.
      by_flags (λ c l. passes_with timeline early c l) (long_passes timeline early true) (short_passes timeline early true) (long_passes timeline early false) (short_passes timeline early false) continued long refl in
      record {
        no_zero_word = by_flags (λ c l. is_zero_word (bytes c l) ≡ false) refl refl refl refl continued long;
        continued = by_flags (λ c l. is_continued (bytes c l) ≡ c) refl refl refl refl continued long;
        not_overwritten = by_flags (λ c l. is_overwritten (bytes c l) ≡ false) refl refl refl refl continued long;
        on_timeline = by_flags (λ c l. timeline_of (bytes c l) ≡ 1) refl refl refl refl continued long;
        owed = by_flags (λ c l. remaining < 2 ^ 32 → remaining_of (bytes c l) ≡ remaining) counted counted counted counted continued long;
        passes = passes;
      }

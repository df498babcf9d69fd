-- The pages of an image that holds nothing but words of a log: the header of each is zeros or its own, word by word.
use Rattle.std.proofs.Common.{◌≡◌, ◌⊎◌, ℕ, ◌+◌, ◌*◌, ◌^◌, ◌<◌, ◌≤◌, List, get_or, Option, Some, None, inl, inr, refl, sym, ap, ◌∙◌, arith}
use Rattle.std.proofs.lemmas.Bool.{cases_lt}
use Rattle.byte_position.specs.Geometry.{IsSegmentSize}
use Rattle.byte_position.specs.Position.{header_size, position_of}
use Rattle.byte_position.proofs.HeaderSizes.{header_size_bounds}
use Rattle.wal_spelling.specs.Spelling.{room_of}
use Rattle.wal_page.specs.Order.{Entry, IsChained}
use Rattle.wal_page.specs.Page.{page_header, timeline_of}
use Rattle.wal_page.specs.Log.{header_byte, log_byte, owner_of, remaining_at}
use Rattle.wal_page.proofs.LogByteLaws.{header_byte-own, header_byte-padding}
use Rattle.wal_reader.specs.Pages.{Pages, byte_at}
use Rattle.wal_reader.specs.Decodes.{timeline_or}
use Rattle.written_log_laws.proofs.LawfulPages.{ArePagesOf}
use Rattle.written_log_laws.proofs.LogPages.{byte_at-page, log_byte-page_header, offset_in_page, page_of_offset}
use Rattle.written_log_laws.proofs.WordsOfBytes.{SameWord, ZeroWord}
use Rattle.reopened_log_laws.proofs.OwnPages.{timeline_low}

-- how many bytes are still to come at a page's first position, by who owns it
abbrev pub still_owed : Option Entry → ℕ → ℕ
still_owed None position = 0
still_owed (Some e) position = remaining_at e position

-- each word of a page's header is zero or that of the header with so many bytes to come
abbrev pub HasHeader : (size sysid page : ℕ) → List ℕ → ℕ → Type 0
HasHeader size sysid page bytes remaining = (k : ℕ) → 8 * k < header_size size page → ZeroWord bytes k ⊎ SameWord bytes (page_header size sysid page remaining) k

-- no page begins at address 2 ^ 60 or above
abbrev pub AreLow : Pages → Type 0
AreLow pages = (page : ℕ) (bytes : List ℕ) → pages page ≡ Some bytes → page * 8192 < 2 ^ 60

module _ (size sysid : ℕ) (pages : Pages) (es : List Entry) (upto : ℕ) (valid : IsSegmentSize size) (known : 0 < sysid) (narrow : sysid < 2 ^ 64) (chained : IsChained size es) (are : ArePagesOf size sysid pages es upto) (low : AreLow pages) where
  module _ (page : ℕ) (bytes : List ℕ) (there : pages page ≡ Some bytes) where
    abbrev first : ℕ
    first = position_of size (page * 8192)

    word_here : (k : ℕ) → 8 * k < header_size size page → ZeroWord bytes k ⊎ ((i : ℕ) → i < 8 → get_or bytes (8 * k + i) 0 ≡ log_byte size sysid es (page * 8192 + (8 * k + i)))
    word_here k lt =
        let bounds = header_size_bounds size valid page in
        let at : (i : ℕ) → 8 * (page * 1024 + k) + i ≡ page * 8192 + (8 * k + i) = λ i. omega arith in
        let byte : (i : ℕ) → i < 8 → get_or bytes (8 * k + i) 0 ≡ byte_at pages (8 * (page * 1024 + k) + i) = λ i less.
        sym (byte_at-page pages page (8 * k + i) bytes there (omega (arith, less, lt, bounds))) ∙ ap (byte_at pages) (sym (at i)) in
        elim (are.words (page * 1024 + k)) [
          | inl zeros ↦ inl (λ i less. byte i less ∙ zeros i less)
          | inr own ↦ inr (λ i less. byte i less ∙ own i less ∙ ap (log_byte size sysid es) (at i))
        ]

    header_log : (owner : Option Entry) → owner_of size es first ≡ owner → (k i : ℕ) → 8 * k < header_size size page → i < 8 → log_byte size sysid es (page * 8192 + (8 * k + i)) ≡ header_byte size sysid (page * 8192 + (8 * k + i)) first owner
    header_log owner is k i lt less =
        let bounds = header_size_bounds size valid page in
        log_byte-page_header size sysid es page (8 * k + i) owner valid (omega (arith, less, lt, bounds)) is

    header_by_owner : (owner : Option Entry) → owner_of size es first ≡ owner → HasHeader size sysid page bytes (still_owed owner first)
    header_by_owner None is k lt = elim (word_here k lt) [
      | inl zeros ↦ inl zeros
      | inr own ↦ inl (λ i less. own i less ∙ header_log None is k i lt less)
    ]
    header_by_owner (Some e) is k lt = elim (word_here k lt) [
      | inl zeros ↦ inl zeros
      | inr own ↦ elim (cases_lt first (e.start + room_of e.value)) [
        | inl inside ↦ inr (λ i less.
            (let bounds = header_size_bounds size valid page in
            own i less ∙ header_log (Some e) is k i lt less ∙ header_byte-own size sysid (page * 8192 + (8 * k + i)) first e inside
            ∙ rw (page_of_offset page (8 * k + i) (omega (arith, less, lt, bounds)), offset_in_page page (8 * k + i) (omega (arith, less, lt, bounds))) refl))
        | inr behind ↦ inl (λ i less. own i less ∙ header_log (Some e) is k i lt less ∙ header_byte-padding size sysid (page * 8192 + (8 * k + i)) first e behind)
      ]
    ]

    pub has_header : HasHeader size sysid page bytes (still_owed (owner_of size es first) first)
    has_header = header_by_owner (owner_of size es first) refl

    pub wide : page * 8192 < 2 ^ 64
    wide = omega (arith, low page bytes there)

    pub page_timeline : timeline_of bytes ≤ 1
    page_timeline = timeline_low size sysid page (still_owed (owner_of size es first) first) bytes valid known narrow wide has_header

  pub timeline_at : (page : ℕ) (here : Option (List ℕ)) → pages page ≡ here → (timeline : ℕ) → timeline ≤ 1 → timeline_or here timeline ≤ 1
  timeline_at page None there timeline early = early
  timeline_at page (Some bytes) there timeline early = page_timeline page bytes there

-- What stands in pages that hold an order's log below its end: each header, and each byte of the records.
use Rattle.std.proofs.Common.{◌≡◌, ℕ, zero, suc, ◌+◌, ◌-◌, ◌*◌, ◌/◌, ◌%◌, ◌^◌, ◌<◌, ◌≤◌, false, List, [], ◌∷◌, ◌++◌, length, get_or, take, drop, Option, Some, None, refl, sym, ap, subst, ◌∙◌, inl, inr, arith}
use Rattle.std.specs.Prelude.{IsSome}
use Rattle.std.specs.Option.{unwrap_or}
use Rattle.std.proofs.lemmas.Bool.{false≢true, cases_Bool, cases_lt, eqb-true}
use Rattle.std.proofs.lemmas.List.{ext_get_or, get_or-take, length-take-le, take-append-drop, drop_more}
use Rattle.byte_position.specs.Geometry.{IsSegmentSize, pages_of}
use Rattle.byte_position.specs.Position.{position_of, address_of, end_address_of, first_position}
use Rattle.byte_position.proofs.SegmentSizes.{segment_size_in_pages}
use Rattle.byte_position.proofs.PositionLaws.{position_of-address_of, is_in_header-address_of}
use Rattle.byte_position.proofs.HeaderSizes.{header_size_bounds}
use Rattle.byte_position.proofs.PagesTimes.{is_in_header-page_header_times, position_of-page_header_times, address_of-page_start_times}
use Rattle.wal_spelling.specs.Spelling.{room_of}
use Rattle.wal_page.specs.Order.{Entry, IsChained, rooms_of, end_position}
use Rattle.wal_page.specs.Page.{page_header, header_size}
use Rattle.wal_page.specs.Log.{stream_of, owner_of, remaining_at, header_byte, log_byte}
use Rattle.wal_page.proofs.OwnerLaws.{owner_of-entry, owner_of-found, owner_of-some, start-whole}
use Rattle.wal_page.proofs.LogByteLaws.{header_byte-own, log_byte-fits, log_byte-header, log_byte-stream}
use Rattle.wal_page.proofs.PageLaws.{length-page_header}
use Rattle.wal_page.proofs.StreamLaws.{length-stream_of}
use Rattle.wal_reader.specs.Pages.{Pages, as_byte, byte_at, bytes_from}
use Rattle.wal_reader.proofs.PagesLaws.{as_byte-of}
use Rattle.wal_reader.specs.Decodes.{opens_page, timeline_or}
use Rattle.written_log_laws.proofs.LogHeader.{IsSound, log_header_is_sound}
use Rattle.written_log_laws.proofs.PaddedPages.{owner_parts, zeros_fill_page}
use Rattle.written_log_laws.proofs.LogPositions.{address_of-below_end, opening_position, page_of-start, position_of-log_page, start-le-address_of}

-- a byte of a page, 0 where the page is not there
abbrev pub byte_in_page : Option (List ℕ) → ℕ → ℕ
byte_in_page here k = get_or (unwrap_or here []) k 0

-- an order's log stands in pages below the log's end: each page that begins there is there, and each byte is the log's
pub record IsWritten (size sysid : ℕ) (pages : Pages) (es : List Entry) : Type 0 where
  pub valid : IsSegmentSize size
  pub known : 0 < sysid
  pub narrow : sysid < 2 ^ 64
  pub chained : IsChained size es
  pub bounded : end_address_of size (end_position size es) ≤ 2 ^ 60
  pub there : (page : ℕ) → pages_of size ≤ page → page * 8192 < end_address_of size (end_position size es) → (bytes : List ℕ) × (pages page ≡ Some bytes) × (8192 ≤ length bytes)
  pub each : (address : ℕ) → size ≤ address → address < end_address_of size (end_position size es) → byte_at pages address ≡ log_byte size sysid es address

-- a position is none of the zeros behind a switch
abbrev pub IsNoZero : ℕ → List Entry → ℕ → Type 0
IsNoZero size es p = (e : Entry) → owner_of size es p ≡ Some e → p < e.start + room_of e.value

-- a header's bytes are those that the owner of the page's first position gives it
pub log_byte-page_header : (size sysid : ℕ) (es : List Entry) (page k : ℕ) (owner : Option Entry) → IsSegmentSize size → k < header_size size page → owner_of size es (position_of size (page * 8192)) ≡ owner
    → log_byte size sysid es (page * 8192 + k) ≡ header_byte size sysid (page * 8192 + k) (position_of size (page * 8192)) owner
log_byte-page_header size sysid es page k owner valid within owns =
    log_byte-header size sysid es (page * 8192 + k) (is_in_header-page_header_times size valid page k within) ∙ rw (position_of-page_header_times size valid page k (omega arith), owns) refl

pub page_of_offset : (page k : ℕ) → k < 8192 → (page * 8192 + k) / 8192 ≡ page
page_of_offset page k within = omega arith

pub offset_in_page : (page k : ℕ) → k < 8192 → (page * 8192 + k) % 8192 ≡ k
offset_in_page page k within = omega arith

-- a byte of a page that is there
pub byte_at-page : (pages : Pages) (page k : ℕ) (bytes : List ℕ) → pages page ≡ Some bytes → k < 8192 → byte_at pages (page * 8192 + k) ≡ get_or bytes k 0
byte_at-page pages page k bytes there within = rw (page_of_offset page k within, there, offset_in_page page k within) refl

pub some_is : {A : Type 0} (o : Option A) → IsSome o → (x : A) × (o ≡ Some x)
some_is None h = absurd (false≢true h)
some_is (Some x) h = (x, refl)

module _ (size sysid : ℕ) (pages : Pages) (es : List Entry) (w : IsWritten size sysid pages es) where
  -- a page of which the first position is below the end
  module _ (page : ℕ) (from : pages_of size ≤ page) (below : position_of size (page * 8192) < end_position size es) where
    pub header_below_end : page * 8192 + header_size size page < end_address_of size (end_position size es)
    header_below_end = omega (arith, address_of-below_end size w.valid (position_of size (page * 8192)) (end_position size es) below, address_of-page_start_times size w.valid page)

    -- it is there, with the header that the owner of its first position gives it
    pub page_is_owned : (e : Entry) → owner_of size es (position_of size (page * 8192)) ≡ Some e → position_of size (page * 8192) < e.start + room_of e.value → (rest : List ℕ) × (pages page ≡ Some (page_header size sysid page (remaining_at e (position_of size (page * 8192))) ++ rest))
    page_is_owned e owns own =
        let h = header_size size page in
        let remaining = remaining_at e (position_of size (page * 8192)) in
        let header = page_header size sysid page remaining in
        let bounds = header_size_bounds size w.valid page in
        let end = header_below_end in
        let here = w.there page from (omega arith) in
        let bytes = here.0 in
        let cut = length-take-le h bytes (omega (arith, here.2)) in
        let byte : (k : ℕ) → k < h → get_or bytes k 0 ≡ get_or header k 0 = λ k lt.
        sym (byte_at-page pages page k bytes here.1 (omega arith)) ∙ w.each (page * 8192 + k) (omega (arith, page_of-start size w.valid)) (omega arith)
        ∙ log_byte-page_header size sysid es page k (Some e) w.valid lt owns ∙ header_byte-own size sysid (page * 8192 + k) (position_of size (page * 8192)) e own ∙ rw (page_of_offset page k (omega arith), offset_in_page page k (omega arith)) refl in
        let front : take h bytes ≡ header = ext_get_or 0 (take h bytes) header (cut ∙ sym (length-page_header size sysid page remaining)) (λ k lt. get_or-take h bytes k 0 (omega (arith, cut)) ∙ byte k (omega (arith, cut))) in
        (drop h bytes, here.1 ∙ ap (λ (l : List ℕ). Some l) (sym (take-append-drop h bytes) ∙ ap (λ (l : List ℕ). l ++ drop h bytes) front))

  -- it is sound
  pub page_is_sound : (page : ℕ) (e : Entry) → pages_of size ≤ page → position_of size (page * 8192) < end_position size es → owner_of size es (position_of size (page * 8192)) ≡ Some e → position_of size (page * 8192) < e.start + room_of e.value
      → (bytes : List ℕ) × (pages page ≡ Some bytes) × IsSound size page (remaining_at e (position_of size (page * 8192))) bytes
  page_is_sound page e from below owns own =
      let remaining = remaining_at e (position_of size (page * 8192)) in
      let owned = page_is_owned page from below e owns own in
      let whole = segment_size_in_pages size w.valid in
      let end = header_below_end page from below in
      (page_header size sysid page remaining ++ owned.0, owned.1, log_header_is_sound size sysid remaining owned.0 page (omega (arith, whole)) w.known w.narrow (omega (arith, end, w.bounded)))

  -- where a position is none of the zeros behind a switch, nor is the first of its page
  pub owner_here : (p : ℕ) → IsNoZero size es p → pages_of size ≤ address_of size p / 8192 → position_of size (address_of size p / 8192 * 8192) < end_position size es
      → (e : Entry) × (owner_of size es (position_of size (address_of size p / 8192 * 8192)) ≡ Some e) × (position_of size (address_of size p / 8192 * 8192) < e.start + room_of e.value)
  owner_here p no_zero from below =
      let page = address_of size p / 8192 in
      let q = position_of size (page * 8192) in
      let owner = some_is (owner_of size es q) (owner_of-some size (first_position size) es w.chained q (position_of-log_page size w.valid page from) below) in
      let e = owner.0 in
      elim (cases_lt q (e.start + room_of e.value)) [
        | inl inside ↦ (e, owner.1, inside)
        | inr filling ↦
            (let parts = owner_parts size es q e owner.1 in
            let chained = subst (λ (l : List Entry). IsChained size l) parts.2 w.chained in
            let whole = start-whole size w.valid parts.0 parts.1 e chained in
            let filled = zeros_fill_page size w.valid e whole page filling (owner_of-found size es q e owner.1).1 p refl in
            let here = ap (λ (l : List Entry). owner_of size l p) parts.2 ∙ owner_of-entry size (first_position size) parts.0 parts.1 e chained p (omega (arith, filled.0)) filled.1 in
            absurd (omega (arith, no_zero e here, filled.0)))
      ]

  pub timeline_is : (p : ℕ) → IsNoZero size es p → pages_of size ≤ address_of size p / 8192 → position_of size (address_of size p / 8192 * 8192) < end_position size es → timeline_or (pages (address_of size p / 8192)) 1 ≡ 1
  timeline_is p no_zero from below =
      let owner = owner_here p no_zero from below in
      let here = page_is_sound (address_of size p / 8192) owner.0 from below owner.1 owner.2 in
      ap (λ (o : Option (List ℕ)). timeline_or o 1) here.1 ∙ here.2.on_timeline

  -- a place behind a page's first does not open it
  pub not_opening : (p : ℕ) → position_of size (address_of size p / 8192 * 8192) < p → opens_page size p ≡ false
  not_opening p below =
      elim (cases_Bool (opens_page size p)) [
        | inl t ↦ absurd (omega (arith, opening_position size w.valid p (eqb-true _ _ t)))
        | inr f ↦ f
      ]

  -- ---- the bytes of the records

  byte_at-log : (k : ℕ) → k < rooms_of size es → as_byte (byte_at pages (address_of size (first_position size + k))) ≡ get_or (stream_of size es) k 0
  byte_at-log k below =
      let p = first_position size + k in
      let a = address_of size p in
      let position = position_of-address_of size w.valid p in
      let back : position_of size a - first_position size ≡ k = omega (arith, position) in
      ap as_byte (w.each a (start-le-address_of size w.valid p (omega arith)) (address_of-below_end size w.valid p (end_position size es) (omega arith)))
      ∙ as_byte-of (log_byte size sysid es a) (log_byte-fits size sysid es w.chained a)
      ∙ log_byte-stream size sysid es a (is_in_header-address_of size w.valid p) (omega (arith, position)) ∙ ap (λ (i : ℕ). get_or (stream_of size es) i 0) back

  -- bytes of the records stand in the pages as they do in the stream
  pub bytes_from-log : (n k : ℕ) → k + n ≤ rooms_of size es → bytes_from size pages n (first_position size + k) ≡ take n (drop k (stream_of size es))
  unfolding bytes_from
  bytes_from-log zero k within = refl
  bytes_from-log (suc n) k within =
      let stream = stream_of size es in
      let next : first_position size + k + 1 ≡ first_position size + (k + 1) = omega arith in
      let others = ap (bytes_from size pages n) next ∙ bytes_from-log n (k + 1) (omega arith) in
      rw (byte_at-log k (omega arith), others, drop_more stream k 0 (omega (arith, length-stream_of size es))) (ap (λ (j : ℕ). get_or stream k 0 ∷ take n (drop j stream)) (omega arith))

-- Where an order's log ends, in pages that hold it.
use Rattle.std.proofs.Common.{◌≡◌, ℕ, zero, suc, ◌+◌, ◌-◌, ◌*◌, ◌/◌, ◌%◌, ◌^◌, ◌<◌, ◌≤◌, true, eqb, List, get_or, take, Option, Some, None, Err, refl, sym, ap, subst, ◌∙◌, inl, inr, arith}
use Rattle.std.specs.Prelude.{replicate, IfSome}
use Rattle.std.specs.Int.{w64, from_le_bytes}
use Rattle.std.proofs.lemmas.Bool.{cases_lt, and_left, eq-eqb}
use Rattle.std.proofs.lemmas.List.{get_or-take, get_or_past}
use Rattle.std.proofs.lemmas.Option.{none-some}
use Rattle.byte_position.specs.Geometry.{IsSegmentSize, pages_of}
use Rattle.byte_position.specs.Position.{position_of, address_of, end_address_of, first_position}
use Rattle.byte_position.proofs.PositionLaws.{position_of-address_of, is_in_header-address_of}
use Rattle.byte_position.proofs.HeaderSizes.{header_size_bounds}
use Rattle.byte_position.proofs.PagesTimes.{address_of-page_start_times}
use Rattle.wal_page.specs.Order.{Entry, IsChained, rooms_of, end_position}
use Rattle.wal_page.specs.Page.{is_continued}
use Rattle.wal_page.specs.Log.{stream_of, log_byte}
use Rattle.wal_page.proofs.OwnerLaws.{owner_of-none_behind}
use Rattle.wal_page.proofs.LogByteLaws.{log_byte-stream}
use Rattle.wal_page.proofs.StreamLaws.{length-stream_of}
use Rattle.wal_types.specs.declared.lsn.Lsn.{Lsn}
use Rattle.wal_reader.specs.Pages.{Pages, bytes_from}
use Rattle.wal_reader.specs.Decodes.{is_zero_word, opens_page, ended}
use Rattle.wal_reader.specs.ReadAt.{read_at}
use Rattle.written_log_laws.specs.WrittenLog.{BeginsAsLogPage, HavePagesOfLog}
use Rattle.wal_reader.proofs.PagesLaws.{as_byte-of, take-bytes_from}
use Rattle.written_log_laws.proofs.RecordRows.{IsIn, zero_word_ends, no_page_ends, zero_page_ends}
use Rattle.written_log_laws.proofs.LogPositions.{page_begins, page_from_first, page_of-start}
use Rattle.written_log_laws.proofs.LogHeader.{sound_answers}
use Rattle.written_log_laws.proofs.LogReads.{log_place}
use Rattle.written_log_laws.proofs.LogPages.{IsWritten, byte_in_page, some_is, log_byte-page_header, page_is_sound, owner_here, not_opening}

-- the first word of bytes that begin with eight zeros
pub zero_word : (bytes : List ℕ) → ((k : ℕ) → k < 8 → get_or bytes k 0 ≡ 0) → is_zero_word bytes ≡ true
zero_word bytes zeros =
    let at : (k : ℕ) → k < 8 → get_or (take 8 bytes) k 0 ≡ 0 = λ k lt. get_or-take 8 bytes k 0 lt ∙ zeros k lt in
    eq-eqb _ _ (omega (arith, at 0 (omega arith), at 1 (omega arith), at 2 (omega arith), at 3 (omega arith), at 4 (omega arith), at 5 (omega arith), at 6 (omega arith), at 7 (omega arith)))

module _ (size sysid : ℕ) (pages : Pages) (es : List Entry) (holds : HavePagesOfLog size sysid pages es) where
  is_log_page : (page : ℕ) (bytes : List ℕ) → pages_of size ≤ page → pages page ≡ Some bytes → BeginsAsLogPage size sysid es page bytes
  is_log_page page bytes from there = subst (λ (o : Option (List ℕ)). IfSome o (BeginsAsLogPage size sysid es page)) there (holds.is_log page from)

  byte_on : (address : ℕ) (bytes : List ℕ) → pages_of size ≤ address / 8192 → pages (address / 8192) ≡ Some bytes → get_or bytes (address % 8192) 0 ≡ log_byte size sysid es address
  byte_on address bytes from there =
      let at : address / 8192 * 8192 + address % 8192 ≡ address = omega arith in
      (is_log_page (address / 8192) bytes from there).each (address % 8192) (omega arith) ∙ ap (log_byte size sysid es) at

  -- what is told of a whole log tells of what is below its end
  pub holds_below_end : IsSegmentSize size → 0 < sysid → sysid < 2 ^ 64 → IsChained size es → end_address_of size (end_position size es) ≤ 2 ^ 60 → IsWritten size sysid pages es
  holds_below_end valid known narrow chained bounded = record {
    valid = valid;
    known = known;
    narrow = narrow;
    chained = chained;
    bounded = bounded;
    there = λ page from below. let here = some_is (pages page) (holds.there page from below) in (here.0, here.1, (is_log_page page here.0 from here.1).long);
    each = λ address from below.
        let page = address / 8192 in
        let in_log : pages_of size ≤ page = omega (arith, page_of-start size valid) in
        let here = some_is (pages page) (holds.there page in_log (omega arith)) in
        ap (λ (o : Option (List ℕ)). byte_in_page o (address % 8192)) here.1 ∙ byte_on address here.0 in_log here.1;
  }

  module _ (w : IsWritten size sysid pages es) where
    byte_behind_on : (p : ℕ) → end_position size es ≤ p → (here : Option (List ℕ)) → pages (address_of size p / 8192) ≡ here → byte_in_page here (address_of size p % 8192) ≡ 0
    byte_behind_on p behind None there = refl
    byte_behind_on p behind (Some bytes) there =
        let a = address_of size p in
        let position = position_of-address_of size w.valid p in
        byte_on a bytes (page_from_first size w.valid p (omega arith)) there ∙ log_byte-stream size sysid es a (is_in_header-address_of size w.valid p) (omega (arith, position))
        ∙ get_or_past (stream_of size es) (position_of size a - first_position size) 0 (omega (arith, position, length-stream_of size es))

    -- zeros follow the last record
    bytes_from-behind : (n p : ℕ) → end_position size es ≤ p → bytes_from size pages n p ≡ replicate n 0
    unfolding bytes_from
    bytes_from-behind zero p behind = refl
    bytes_from-behind (suc n) p behind = rw (byte_behind_on p behind (pages (address_of size p / 8192)) refl, as_byte-of 0 (omega arith), bytes_from-behind n (p + 1) (omega arith)) refl

    -- and they fill a page that begins there
    pub page_begins_with_zeros : (page : ℕ) (bytes : List ℕ) → pages_of size ≤ page → pages page ≡ Some bytes → end_position size es ≤ position_of size (page * 8192) → is_zero_word bytes ≡ true
    page_begins_with_zeros page bytes from there behind =
        let bounds = header_size_bounds size w.valid page in
        zero_word bytes (λ k lt.
        (is_log_page page bytes from there).each k (omega arith) ∙ log_byte-page_header size sysid es page k None w.valid (omega arith) (owner_of-none_behind size (first_position size) es w.chained (position_of size (page * 8192)) behind))

    log_ends_on : (before : Option Lsn) (here : Option (List ℕ)) → pages (address_of size (end_position size es) / 8192) ≡ here → read_at size pages None (log_place size (rooms_of size es) before) ≡ Err (ended size (end_position size es))
    log_ends_on before None there = no_page_ends size pages (log_place size (rooms_of size es) before) there
    log_ends_on before (Some bytes) there =
        let p = end_position size es in
        let page = address_of size p / 8192 in
        let place = log_place size (rooms_of size es) before in
        let from = page_from_first size w.valid p (omega arith) in
        let begins = page_begins size w.valid p in
        elim (cases_lt (position_of size (page * 8192)) p) [
          | inl below ↦
              (let none = owner_of-none_behind size (first_position size) es w.chained p (omega arith) in
              let owner = owner_here size sysid pages es w p (λ e owner. absurd (none-some e (sym none ∙ owner))) from below in
              let sound = page_is_sound size sysid pages es w page owner.0 from below owner.1 owner.2 in
              let word = take-bytes_from size pages 8 24 p (omega arith) ∙ bytes_from-behind 8 p (omega arith) in
              let in_page : IsIn size pages place sound.0 = record {
                here = sound.1;
                no_zero_word = sound.2.no_zero_word;
                not_claimed = and_left (opens_page size p) (is_continued sound.0) (not_opening size sysid pages es w p below);
                passes = sound_answers {bytes = sound.0} sound.2;
              } in
              zero_word_ends size pages place sound.0 in_page (ap (λ (bs : List ℕ). eqb (from_le_bytes w64 bs) 0) word))
          | inr behind ↦
              (let opens_at : position_of size (page * 8192) ≡ p = omega arith in
              let address = ap (address_of size) (sym opens_at) ∙ address_of-page_start_times size w.valid page in
              let bounds = header_size_bounds size w.valid page in
              let opens : opens_page size p ≡ true = eq-eqb _ _ (omega (arith, address)) in
              let zeros = page_begins_with_zeros page bytes from there behind in
              zero_page_ends size pages place bytes there opens zeros)
        ]

    pub log_ends : (before : Option Lsn) → read_at size pages None (log_place size (rooms_of size es) before) ≡ Err (ended size (end_position size es))
    log_ends before = log_ends_on before (pages (address_of size (end_position size es) / 8192)) refl

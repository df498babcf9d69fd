-- Pages that hold nothing but the zeros behind a segment switch: no position of theirs is anything else.
use Rattle.std.proofs.Common.{◌≡◌, ℕ, ◌+◌, ◌-◌, ◌*◌, ◌/◌, ◌%◌, ◌<◌, ◌≤◌, ◌&&◌, leb, ltb, List, [], ◌∷◌, ◌++◌, Some, sym, ap, ◌∙◌, inl, inr, arith}
use Rattle.std.proofs.lemmas.Bool.{cases_Bool, cases_lt, cond-true, cond-false}
use Rattle.std.proofs.lemmas.Option.{same_Some, none-some}
use Rattle.byte_position.specs.Geometry.{IsSegmentSize}
use Rattle.byte_position.specs.Position.{position_of, address_of}
use Rattle.byte_position.proofs.Rising.{position_of-mono, lt-position_of}
use Rattle.byte_position.proofs.Segments.{segment_start}
use Rattle.wal_spelling.specs.Spelling.{assembled, is_assembled_switch, room_of, size_of}
use Rattle.wal_page.specs.Order.{Entry, position_behind}
use Rattle.wal_page.specs.Log.{owner_of}
use Rattle.wal_page.proofs.PaddingLaws.{assembled_padding_at-inserted, position_behind_switch}
use Rattle.written_log_laws.proofs.LogPositions.{page_begins}

-- the owner of a position is one of the order's entries
pub owner_parts : (size : ℕ) (es : List Entry) (p : ℕ) (e : Entry) → owner_of size es p ≡ Some e → (front : List Entry) × (back : List Entry) × (es ≡ front ++ e ∷ back)
owner_parts size [] p e owner = absurd (none-some e owner)
owner_parts size (f ∷ es) p e owner =
    let has = leb f.start p && ltb p (position_behind size f) in
    elim (cases_Bool has) [
      | inl here ↦ ([], es, ap (λ (g : Entry). g ∷ es) (same_Some f e (sym (cond-true has (Some f) (owner_of size es p) here) ∙ owner)))
      | inr further ↦
          (let rest = owner_parts size es p e (sym (cond-false has (Some f) (owner_of size es p) further) ∙ owner) in
          (f ∷ rest.0, rest.1, ap (λ (l : List Entry). f ∷ l) rest.2))
    ]

module _ (size : ℕ) (valid : IsSegmentSize size) where
  -- a page that begins before a segment ends before it too
  page_below : (n page p : ℕ) → position_of size (page * 8192) < position_of size (size * n) → address_of size p / 8192 ≡ page → p < position_of size (size * n)
  page_below n page p below on =
      let start = segment_start size valid n in
      let ends = lt-position_of size valid p ((page + 1) * 8192) (omega (arith, on)) in
      elim (cases_lt (page * 8192) (size * n)) [
        | inl lower ↦ omega (arith, ends, position_of-mono size ((page + 1) * 8192) (size * n) (omega (arith, start, lower)))
        | inr from ↦ absurd (omega (arith, below, position_of-mono size (size * n) (page * 8192) from))
      ]

  -- where the first position of a page is one of an entry's zeros, all are
  pub zeros_fill_page : (e : Entry) → e.start % 8 ≡ 0 → (page : ℕ) → e.start + room_of e.value ≤ position_of size (page * 8192) → position_of size (page * 8192) < position_behind size e → (p : ℕ) → address_of size p / 8192 ≡ page
      → (e.start + room_of e.value ≤ p) × (p < position_behind size e)
  zeros_fill_page e whole page from below p on =
      let a = assembled e.value in
      let begins = page_begins size valid p in
      let first = ap (λ (n : ℕ). position_of size (n * 8192)) on in
      elim (cases_Bool (is_assembled_switch a)) [
        | inl switches ↦
            (let n = address_of size (e.start + size_of e.value - 1) / size + 1 in
            let behind : position_behind size e ≡ position_of size (size * n) = position_behind_switch size valid e.start a whole switches in
            (omega (arith, from, begins, first), omega (arith, behind, page_below n page p (omega (arith, below, behind)) on)))
        | inr plain ↦ absurd (omega (arith, from, below, assembled_padding_at-inserted size e.start a plain))
      ]

-- Laws of the checks of a record in their groups: what is told where one of them fails, and what is read where none does.
use Rattle.std.proofs.Common.{◌≡◌, ℕ, ◌+◌, ◌-◌, ◌*◌, ◌/◌, ◌%◌, ◌^◌, ◌<◌, ◌≤◌, Bool, true, false, ◌&&◌, eqb, List, [], ◌∷◌, Option, Some, None, refl, sym, ap, ◌∙◌, arith}
use Rattle.std.proofs.lemmas.Bool.{cond-false}
use Rattle.byte_position.specs.Geometry.{IsSegmentSize}
use Rattle.byte_position.specs.Position.{position_of, address_of}
use Rattle.byte_position.proofs.Pages.{header_below_position, position_by_page, position_of-next_page}
use Rattle.wal_page.specs.Page.{header_size, first_fault, is_continued}
use Rattle.wal_reader.specs.declared.record_place.RecordPlace.{RecordPlace}
use Rattle.wal_reader.specs.declared.found.Answer.{Answer}
use Rattle.wal_reader.specs.declared.found.DamageKind.TheVariants as kinds
use Rattle.wal_reader.specs.declared.page_cursor.PageCursor.{PageCursor}
use Rattle.wal_reader.specs.PageCursor.{HasGathered}
use Rattle.wal_reader.specs.Decodes.{damaged, is_zero_word, opens_page, page_answers, opening_fault}
use Rattle.wal_reader.proofs.RowLaws.{first_of, first_fault-append}

-- ---- the page in which a record starts

module _ (size : ℕ) (place : RecordPlace) (here : Option (List ℕ)) (bytes : List ℕ) (there : here ≡ Some bytes) (marked : (opens_page size place.position && is_zero_word bytes) ≡ false) where
  abbrev start_page : ℕ
  start_page = address_of size place.position / 8192

  abbrev last_row : Bool × Answer
  last_row = (opens_page size place.position && is_continued bytes, damaged (address_of size place.position) kinds.Claims)

  opening_parts : opening_fault size place here ≡ first_of (first_fault (page_answers size start_page bytes place.timeline)) (first_fault (last_row ∷ []))
  opening_parts = ap (opening_fault size place) there ∙ cond-false _ _ _ marked ∙ first_fault-append (page_answers size start_page bytes place.timeline) (last_row ∷ [])

  pub opening_page_fails : (answer : Answer) → first_fault (page_answers size start_page bytes place.timeline) ≡ Some answer → opening_fault size place here ≡ Some answer
  opening_page_fails answer e = opening_parts ∙ ap (λ (o : Option Answer). first_of o (first_fault (last_row ∷ []))) e

  pub opening_claims : first_fault (page_answers size start_page bytes place.timeline) ≡ None → opens_page size place.position ≡ true → is_continued bytes ≡ true → opening_fault size place here ≡ Some (damaged (address_of size place.position) kinds.Claims)
  opening_claims e f g = opening_parts ∙ ap (λ (o : Option Answer). first_of o (first_fault (last_row ∷ []))) e ∙ rw (f, g) refl

  pub opening_passes : first_fault (page_answers size start_page bytes place.timeline) ≡ None → (opens_page size place.position && is_continued bytes) ≡ false → opening_fault size place here ≡ None
  opening_passes e f = opening_parts ∙ ap (λ (o : Option Answer). first_of o (first_fault (last_row ∷ []))) e ∙ rw f refl

-- the cursor at a byte position, before any byte is gathered
pub gathers_none : (size position : ℕ) (cursor : PageCursor) → IsSegmentSize size → cursor.page ≡ address_of size position / 8192 → cursor.offset ≡ address_of size position % 8192 → cursor.page < 2 ^ 47 → HasGathered size position 0 cursor
gathers_none size position cursor valid page offset reach =
    let a = address_of size position in
    let low : header_size size cursor.page ≤ cursor.offset = rw (page, offset) (header_below_position size valid position) in
    let swap : (cursor.page + 1) * 8192 ≡ 8192 * (a / 8192 + 1) = omega arith in
    let here = position_by_page size valid position in
    let next = position_of-next_page size valid (a / 8192) in
    let below = header_below_position size valid position in
    let at : position + 0 + (8192 - cursor.offset) ≡ position_of size (8192 * (a / 8192 + 1)) = omega arith in
    record { stands = record { valid = valid; low = low; high = omega arith; at = at ∙ ap (position_of size) (sym swap); reach = reach }; last = λ h. absurd (omega arith) }

-- whether an address is a page's first behind its header
pub opens_at : (size position start header : ℕ) → start ≡ address_of size position → header ≡ header_size size (start / 8192) → opens_page size position ≡ eqb (start % 8192) header
opens_at size position start header at same = rw (same, at) refl

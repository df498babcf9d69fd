-- Where reading begins, page by page.
use Rattle.std.proofs.Common.{◌≡◌, ℕ, zero, suc, ◌+◌, ◌-◌, ◌*◌, ◌/◌, ◌%◌, ◌<◌, ◌≤◌, true, false, cond, leb, List, Some, None, Result, Ok, Err, refl, ap, ◌∙◌, inl, inr, add-zero, arith}
use Rattle.std.proofs.lemmas.Bool.{cases_Bool, cond-true, cond-false, le-leb, lt-leb}
use Rattle.byte_position.specs.Geometry.{IsSegmentSize}
use Rattle.byte_position.specs.Position.{position_of, end_address_of}
use Rattle.byte_position.proofs.Rising.{position_of-le_self}
use Rattle.byte_position.proofs.Words.{position_of-mod_word}
use Rattle.byte_position.proofs.EndAddresses.{end_address_of-page_start}
use Rattle.wal_page.specs.Page.{header_size, is_continued, is_first_page, remaining_of, timeline_of, first_fault}
use Rattle.wal_reader.specs.declared.record_place.RecordPlace.{RecordPlace}
use Rattle.wal_reader.specs.declared.found.Answer.{Answer}
use Rattle.wal_reader.specs.declared.found.Answer.TheVariants as answers
use Rattle.wal_reader.specs.declared.beginning.Front.{Front}
use Rattle.wal_reader.specs.Beginning.{goes_on, skipped_in}
use Rattle.wal_reader.specs.Pages.{Pages}
use Rattle.wal_reader.specs.Decodes.{is_zero_word, page_answers, begin_in, begin_at, ended}

-- the log ends where a page would start
pub ended_at_page : (size page : ℕ) → IsSegmentSize size → ended size (position_of size (page * 8192)) ≡ answers.End (record { 0 = page * 8192 })
ended_at_page size page valid =
    let at : page * 8192 ≡ 8192 * page = omega arith in
    let end : end_address_of size (position_of size (page * 8192)) ≡ page * 8192 = rw at (end_address_of-page_start size valid page) in
    ap (λ (a : ℕ). answers.End (record { 0 = a })) end

-- a page's first position is below its address, and a multiple of 8
pub page_position-le : (size page : ℕ) → position_of size (page * 8192) ≤ page * 8192
page_position-le size page = position_of-le_self size (page * 8192)

pub page_position-aligned : (size page : ℕ) → IsSegmentSize size → position_of size (page * 8192) % 8 ≡ 0
page_position-aligned size page valid =
    let at : page * 8192 ≡ 8 * (1024 * page) = omega arith in
    rw at (position_of-mod_word size valid (1024 * page))

-- what is skipped are whole words
pub skipped_in-aligned : (bytes : List ℕ) → skipped_in bytes % 8 ≡ 0
skipped_in-aligned bytes = elim (is_continued bytes) as (λ b. cond b ((remaining_of bytes + 7) / 8 * 8) 0 % 8 ≡ 0) [ true ↦ omega arith | false ↦ refl ]

-- a page's header leaves some of it
pub header_size-le : (size page : ℕ) → header_size size page ≤ 40
header_size-le size page = elim (is_first_page size page) as (λ b. cond b 40 24 ≤ 40) [ true ↦ omega arith | false ↦ omega arith ]

module _ (next : ℕ → ℕ → Result RecordPlace Answer) (size page : ℕ) (bytes : List ℕ) (timeline : ℕ) where
  pub begin_in-empty : is_zero_word bytes ≡ true → begin_in next size page timeline (Some bytes) ≡ Err (ended size (position_of size (page * 8192)))
  begin_in-empty empty = rw empty refl

  module _ (marked : is_zero_word bytes ≡ false) where
    pub begin_in-damaged : (answer : Answer) → first_fault (page_answers size page bytes timeline) ≡ Some answer → begin_in next size page timeline (Some bytes) ≡ Err answer
    begin_in-damaged answer told = rw (marked, told) refl

    module _ (passes : first_fault (page_answers size page bytes timeline) ≡ None) where
      behind_header : is_continued bytes ≡ false → begin_in next size page timeline (Some bytes) ≡ Ok (record { position = position_of size (page * 8192); prev = None; timeline = timeline_of bytes })
      behind_header e =
          rw (marked, passes, e) refl

      behind_record : is_continued bytes ≡ true → (remaining_of bytes + 7) / 8 * 8 < 8192 - header_size size page → begin_in next size page timeline (Some bytes) ≡ Ok (record { position = position_of size (page * 8192) + (remaining_of bytes + 7) / 8 * 8; prev = None; timeline = timeline_of bytes })
      behind_record e within =
          let fits : leb (8192 - header_size size page) ((remaining_of bytes + 7) / 8 * 8) ≡ false = lt-leb (8192 - header_size size page) ((remaining_of bytes + 7) / 8 * 8) within in
          rw (marked, passes, e, fits) refl

      past_record : is_continued bytes ≡ true → 8192 - header_size size page ≤ (remaining_of bytes + 7) / 8 * 8 → begin_in next size page timeline (Some bytes) ≡ next (page + 1) (timeline_of bytes)
      past_record e past =
          let far : leb (8192 - header_size size page) ((remaining_of bytes + 7) / 8 * 8) ≡ true = le-leb (8192 - header_size size page) ((remaining_of bytes + 7) / 8 * 8) past in
          rw (marked, passes, e, far) refl

      -- behind what is skipped, or on the next page
      pub begin_in-here : skipped_in bytes < 8192 - header_size size page → begin_in next size page timeline (Some bytes) ≡ Ok (record { position = position_of size (page * 8192) + skipped_in bytes; prev = None; timeline = timeline_of bytes })
      begin_in-here within =
          elim (cases_Bool (is_continued bytes)) [
            | inl e ↦
                (let skipped : skipped_in bytes ≡ (remaining_of bytes + 7) / 8 * 8 = cond-true _ _ _ e in
                rw skipped (behind_record e (rw skipped at within)))
            | inr e ↦
                (let skipped : skipped_in bytes ≡ 0 = cond-false _ _ _ e in
                rw (skipped, add-zero) (behind_header e))
          ]

      pub begin_in-filled : 8192 - header_size size page ≤ skipped_in bytes → begin_in next size page timeline (Some bytes) ≡ next (page + 1) (timeline_of bytes)
      begin_in-filled past =
          elim (cases_Bool (is_continued bytes)) [
            | inl e ↦
                (let skipped : skipped_in bytes ≡ (remaining_of bytes + 7) / 8 * 8 = cond-true _ _ _ e in
                past_record e (rw skipped at past))
            | inr e ↦
                (let skipped : skipped_in bytes ≡ 0 = cond-false _ _ _ e in
                let header = header_size-le size page in
                absurd (omega arith))
          ]

-- on a page that is not there, however many turns are left
pub begin_at-none : (turns size : ℕ) (pages : Pages) (page timeline : ℕ) → pages page ≡ None → begin_at turns size pages page timeline ≡ Err (ended size (position_of size (page * 8192)))
unfolding begin_at
begin_at-none zero size pages page timeline none = refl
begin_at-none (suc turns) size pages page timeline none = ap (begin_in (begin_at turns size pages) size page timeline) none

pub begin_at-some : (turns size : ℕ) (pages : Pages) (page timeline : ℕ) (bytes : List ℕ) → pages page ≡ Some bytes → begin_at (suc turns) size pages page timeline ≡ begin_in (begin_at turns size pages) size page timeline (Some bytes)
unfolding begin_at
begin_at-some turns size pages page timeline bytes some = ap (begin_in (begin_at turns size pages) size page timeline) some

-- one turn: a page that is there says where reading begins, or leaves it to the next page
module _ (size : ℕ) (pages : Pages) (page timeline all : ℕ) (begun : Result RecordPlace Answer) (turns_left : (turns : ℕ) → turns + page ≡ all → begun ≡ begin_at turns size pages page timeline) where
  pub begins_by_front : (bytes : List ℕ) (said : Result Front Answer) → pages page ≡ Some bytes → ((next : ℕ → ℕ → Result RecordPlace Answer) → begin_in next size page timeline (Some bytes) ≡ goes_on next page said) → (turns : ℕ) → turns + (page + 1) ≡ all → begun ≡ goes_on (begin_at turns size pages) page said
  begins_by_front bytes said there front turns left = turns_left (suc turns) (omega arith) ∙ begin_at-some turns size pages page timeline bytes there ∙ front (begin_at turns size pages)

  pub begins_nowhere_more : pages page ≡ None → page ≤ all → begun ≡ Err (ended size (position_of size (page * 8192)))
  begins_nowhere_more none low = turns_left (all - page) (omega arith) ∙ begin_at-none (all - page) size pages page timeline none

-- Where reading begins in the first page of segment 1.
use Rattle.std.proofs.Common.{◌≡◌, ℕ, suc, ◌-◌, ◌*◌, ◌^◌, true, false, List, Option, Some, None, option_map, Ok, Err, refl, ap, ◌∙◌, arith}
use Rattle.byte_position.specs.Geometry.{IsSegmentSize, pages_of}
use Rattle.byte_position.specs.Position.{position_of, first_position}
use Rattle.byte_position.proofs.SegmentSizes.{segment_size_in_pages}
use Rattle.wal_page.specs.declared.checks.PageErr.{PageErr}
use Rattle.wal_page.specs.Page.{is_continued, timeline_of, first_fault, page_fault, page_rows}
use Rattle.wal_reader.specs.declared.found.Answer.{Answer}
use Rattle.wal_reader.specs.declared.found.Answer.TheVariants as answers
use Rattle.wal_reader.specs.declared.found.DamageKind.TheVariants as kinds
use Rattle.wal_reader.specs.Pages.{Pages}
use Rattle.wal_reader.specs.Decodes.{damaged, is_zero_word, page_answers, begin_in, begin_at, beginning, ended}
use Rattle.wal_reader.proofs.PagesLaws.{end_address_of-first_position}
use Rattle.wal_reader.proofs.RowLaws.{first_fault-map}

begin_at-suc : (turns size : ℕ) (pages : Pages) (page timeline : ℕ) → begin_at (suc turns) size pages page timeline ≡ begin_in (begin_at turns size pages) size page timeline (pages page)
unfolding begin_at
begin_at-suc turns size pages page timeline = refl

-- where nothing may stand any more
ended_at_start : (size : ℕ) → IsSegmentSize size → ended size (position_of size (pages_of size * 8192)) ≡ answers.End (record { 0 = size })
ended_at_start size valid =
    let whole = (segment_size_in_pages size valid).0 in
    let at : pages_of size * 8192 ≡ size = omega (arith, whole) in
    ap (λ (a : ℕ). ended size (position_of size a)) at ∙ ap (λ (a : ℕ). answers.End (record { 0 = a })) (end_address_of-first_position size valid)

-- a page's checks, each told at the first page's address
answers_of : (size : ℕ) (page : List ℕ) (fault : Option PageErr) → IsSegmentSize size → page_fault size (pages_of size) page 0 ≡ fault → first_fault (page_answers size (pages_of size) page 0) ≡ option_map (λ e. damaged size (kinds.Page e)) fault
answers_of size page fault valid e =
    let whole = (segment_size_in_pages size valid).0 in
    let at : pages_of size * 8192 ≡ size = omega (arith, whole) in
    let told : ℕ → PageErr → Answer = λ a f. damaged a (kinds.Page f) in
    first_fault-map (told (pages_of size * 8192)) (page_rows size (pages_of size) page 0) ∙ ap (option_map (told (pages_of size * 8192))) e ∙ ap (λ (a : ℕ). option_map (told a) fault) at

module _ (size : ℕ) (pages : Pages) (valid : IsSegmentSize size) where
  pub beginning_is : (page : Option (List ℕ)) → pages (pages_of size) ≡ page → beginning size pages size ≡ begin_in (begin_at (2 ^ 47 - 1) size pages) size (pages_of size) 0 page
  beginning_is page there =
      begin_at-suc (2 ^ 47 - 1) size pages (pages_of size) 0 ∙ ap (begin_in (begin_at (2 ^ 47 - 1) size pages) size (pages_of size) 0) there

  pub begins_nowhere : pages (pages_of size) ≡ None → beginning size pages size ≡ Err (answers.End (record { 0 = size }))
  begins_nowhere none = beginning_is None none ∙ ap Err (ended_at_start size valid)

  module _ (page : List ℕ) (there : pages (pages_of size) ≡ Some page) where
    pub begins_empty : is_zero_word page ≡ true → beginning size pages size ≡ Err (answers.End (record { 0 = size }))
    begins_empty empty = beginning_is (Some page) there ∙ rw empty (ap Err (ended_at_start size valid))

    module _ (marked : is_zero_word page ≡ false) where
      module _ (passes : page_fault size (pages_of size) page 0 ≡ None) where
        pub begins_behind_header : is_continued page ≡ false → beginning size pages size ≡ Ok (record { position = first_position size; prev = None; timeline = timeline_of page })
        begins_behind_header e =
            let whole = (segment_size_in_pages size valid).0 in
            let at : pages_of size * 8192 ≡ size = omega (arith, whole) in
            let told = answers_of size page None valid passes in
            beginning_is (Some page) there ∙ rw (marked, told, e, at) refl

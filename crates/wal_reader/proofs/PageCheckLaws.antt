-- Laws of the checks of a page, in their groups.
use Rattle.std.proofs.Common.{◌≡◌, ℕ, Bool, true, false, not, eqb, List, [], ◌∷◌, Option, Some, None, refl, ap, ◌∙◌}
use Rattle.std.proofs.lemmas.Bool.{cond-true}
use Rattle.wal_page.specs.Page.{first_fault, is_continued, is_overwritten, remaining_of}
use Rattle.wal_reader.specs.declared.found.Answer.{Answer}
use Rattle.wal_reader.specs.declared.found.DamageKind.TheVariants as kinds
use Rattle.wal_reader.specs.declared.found.Answer.TheVariants as answers
use Rattle.wal_reader.specs.declared.found.Stopped.TheVariants as stopped
use Rattle.wal_reader.specs.Decodes.{damaged, continuation_rows_of, page_answers}
use Rattle.wal_reader.proofs.RowLaws.{first_of, first_fault-append}

abbrev pub overwritten : ℕ → Answer
overwritten at = answers.Stopped (stopped.Overwritten (record { 0 = at }))

-- the checks of a page into which a record continues, behind the page's own
abbrev continued_rows : ℕ → ℕ → List ℕ → List (Bool × Answer)
continued_rows start owed bytes = (is_overwritten bytes, overwritten start) ∷ (not (is_continued bytes), damaged start kinds.NoContinuation) ∷ (not (eqb (remaining_of bytes) owed), damaged start (kinds.RemLen (remaining_of bytes))) ∷ []

module _ (size page timeline start owed : ℕ) (here : Option (List ℕ)) (bytes : List ℕ) (there : here ≡ Some bytes) where
  abbrev told : Option Answer
  told = first_fault (continuation_rows_of size page timeline start owed here)

  parts : told ≡ first_of (first_fault (page_answers size page bytes timeline)) (first_fault (continued_rows start owed bytes))
  parts = ap (λ (o : Option (List ℕ)). first_fault (continuation_rows_of size page timeline start owed o)) there ∙ first_fault-append (page_answers size page bytes timeline) (continued_rows start owed bytes)

  pub page_fails : (answer : Answer) → first_fault (page_answers size page bytes timeline) ≡ Some answer → told ≡ Some answer
  page_fails answer e = parts ∙ ap (λ (o : Option Answer). first_of o (first_fault (continued_rows start owed bytes))) e

  module _ (passes : first_fault (page_answers size page bytes timeline) ≡ None) where
    own : told ≡ first_fault (continued_rows start owed bytes)
    own = parts ∙ ap (λ (o : Option Answer). first_of o (first_fault (continued_rows start owed bytes))) passes

    pub is_given_up : is_overwritten bytes ≡ true → told ≡ Some (overwritten start)
    is_given_up e = own ∙ cond-true _ _ _ e

    pub is_not_continued : is_overwritten bytes ≡ false → is_continued bytes ≡ false → told ≡ Some (damaged start kinds.NoContinuation)
    is_not_continued e f = own ∙ rw (e, f) refl

    pub is_continued_otherwise : is_overwritten bytes ≡ false → is_continued bytes ≡ true → eqb (remaining_of bytes) owed ≡ false → told ≡ Some (damaged start (kinds.RemLen (remaining_of bytes)))
    is_continued_otherwise e f g = own ∙ rw (e, f, g) refl

    pub continues : is_overwritten bytes ≡ false → is_continued bytes ≡ true → eqb (remaining_of bytes) owed ≡ true → told ≡ None
    continues e f g = own ∙ rw (e, f, g) refl

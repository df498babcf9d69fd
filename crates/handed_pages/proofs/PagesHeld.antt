-- Pages that are held, beside the log that has them.
use Rattle.std.proofs.Common.{◌≡◌, ℕ, ◌<◌, length, get_or, Bool, true, false, ◌&&◌, ◌==◌, All, List, [], ◌∷◌, ◌++◌, filter, Option, Some, None, refl, sym, ap, ap₂, subst, ◌∙◌}
use Rattle.std.proofs.lemmas.Bool.{eqb-true, eq-eqb, true≢false}
use Rattle.std.proofs.lemmas.List.Elements.{All-filter, All-get_or, All-push}
use Rattle.std.proofs.lemmas.List.Sums.{AllPass-from_list_all, list_all-from_AllPass}
use Rattle.segment_disk.specs.Tape.{DiskState, IsPageRead}
use Rattle.handed_pages.specs.Handed.{are_same, bytes_handed, has_pages, is_same_page, page_of_log}
use Rattle.handed_pages.specs.declared.page.HandedPage.{HandedPage}
use Rattle.handed_pages.specs.declared.page.PageNumber.{PageNumber}

and_left : (a b : Bool) → (a && b) ≡ true → a ≡ true
and_left true b is = refl
and_left false b is = is

and_right : (a b : Bool) → (a && b) ≡ true → b ≡ true
and_right true b is = is
and_right false b is = absurd (true≢false (sym is))

both : (a b : Bool) → a ≡ true → b ≡ true → (a && b) ≡ true
both true b a_is b_is = b_is
both false b a_is b_is = a_is

same_list : (a b : List ℕ) → are_same a b ≡ true → a ≡ b
unfolding are_same
same_list [] [] is = refl
same_list [] (b ∷ bs) is = absurd (true≢false (sym is))
same_list (a ∷ rest) [] is = absurd (true≢false (sym is))
same_list (a ∷ rest) (b ∷ bs) is =
    ap₂ (λ (x : ℕ) (xs : List ℕ). x ∷ xs)
    (eqb-true a b (and_left (a == b) (are_same rest bs) is))
    (same_list rest bs (and_right (a == b) (are_same rest bs) is))

list_same : (a : List ℕ) → are_same a a ≡ true
unfolding are_same
list_same [] = refl
list_same (a ∷ rest) = both (a == a) (are_same rest rest) (eq-eqb a a refl) (list_same rest)

same_page : (a b : Option (List ℕ)) → is_same_page a b ≡ true → a ≡ b
same_page None None is = refl
same_page None (Some b) is = absurd (true≢false (sym is))
same_page (Some a) None is = absurd (true≢false (sym is))
same_page (Some a) (Some b) is = ap (λ (x : List ℕ). Some x) (same_list a b is)

page_same : (a : Option (List ℕ)) → is_same_page a a ≡ true
page_same None = refl
page_same (Some a) = list_same a

module _ (state : DiskState) where
  abbrev as_handed : HandedPage → Bool
  as_handed page = is_same_page (page_of_log state page.number) (bytes_handed page)

  abbrev IsAsHanded : HandedPage → Type 0
  IsAsHanded page = as_handed page ≡ true

  all_of : (pages : List HandedPage) → has_pages state pages ≡ true → All IsAsHanded pages
  all_of pages has = AllPass-from_list_all as_handed pages has

  -- a page more
  pub has_one_more : (pages : List HandedPage) (page : HandedPage) → has_pages state pages ≡ true
      → page_of_log state page.number ≡ bytes_handed page
      → has_pages state (pages ++ page ∷ []) ≡ true
  has_one_more pages page has is =
      list_all-from_AllPass as_handed (pages ++ page ∷ [])
      (All-push IsAsHanded pages page (all_of pages has)
      (subst (λ (bytes : Option (List ℕ)). is_same_page (page_of_log state page.number) bytes
      ≡ true) is (page_same (page_of_log state page.number))))

  -- some of them
  pub has_some : (test : HandedPage → Bool) (pages : List HandedPage)
      → has_pages state pages ≡ true → has_pages state (filter test pages) ≡ true
  has_some test pages has =
      list_all-from_AllPass as_handed (filter test pages)
      (All-filter test IsAsHanded pages (all_of pages has))

  pub one_as_handed : (pages : List HandedPage) (k : ℕ) (other : HandedPage) → k < length pages
      → has_pages state pages ≡ true → as_handed (get_or pages k other) ≡ true
  one_as_handed pages k other less has =
      All-get_or IsAsHanded pages k other less (all_of pages has)

  -- what is read of one of them is what the log has
  pub read_of_one : (held : HandedPage) (number : PageNumber) → as_handed held ≡ true
      → held.number.segment ≡ number.segment → held.number.page ≡ number.page
      → (there : Bool) (buffer : List ℕ) → IsPageRead (bytes_handed held) there buffer
      → IsPageRead (page_of_log state number) there buffer
  read_of_one held number is segment page there buffer read =
      subst (λ (bytes : Option (List ℕ)). IsPageRead bytes there buffer)
      (sym (same_page (page_of_log state held.number) (bytes_handed held) is)
      ∙ ap₂ (λ (s p : ℕ). page_of_log state (record { segment = s; page = p })) segment page) read

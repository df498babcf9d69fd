-- The pages that are to be cleared: the writes that clear them are those that settle a log, and no
-- page is written twice.
use Rattle.std.proofs.Common.{◌≡◌, ℕ, zero, suc, ◌+◌, ◌-◌, ◌*◌, ◌≤◌, inl, inr, Bool, true, false, List, [], ◌∷◌, ◌++◌, length, drop, map, Option, Some, None, refl, sym, ap, subst, ◌∙◌, ◌==◌, if◌then◌else◌, arith}
use Rattle.std.specs.Prelude.{min, nat_lt, not, ◌/◌}
use Rattle.std.proofs.Math.Nat.{suc-mul}
use Rattle.std.specs.List.{AllByRecursion, filter, flat_map, list_any, range_with_len}
use Rattle.std.proofs.lemmas.Bool.{cases_Bool, lt-ltb, true≢false}
use Rattle.std.proofs.lemmas.Grind.{flat_map-append}
use Rattle.std.proofs.lemmas.List.{length-append}
use Rattle.std.proofs.lemmas.List.Folds.{flat_map-map}
use Rattle.byte_position.specs.Geometry.{pages_of}
use Rattle.segment_disk.specs.declared.disk.Call.{Call}
use Rattle.segment_disk.specs.Tape.{DiskState, page_of_segment, write_call}
use Rattle.flush_core.specs.declared.planning.PlannedPage.{PlannedPage}
use Rattle.flush_core.specs.PlannedPages.{AreToClear, Rise, is_to_clear, page_planned, place_of_page, planned_clears, planned_from, planned_in, planned_pages}
use Rattle.flush_core.specs.Settled.{clear_calls, cleared, first_to_clear, has_calls, kept_of, segment_clears}
use Rattle.flush_core.proofs.SettleReads.{AllSpare, clear_spares, spare_both}

-- ---- the writes of the pages that are to be cleared

none_called : (calls : List Call) → has_calls calls ≡ false → calls ≡ []
none_called [] none = refl
none_called (call ∷ calls) none = absurd (true≢false none)

-- items without calls may be left out
flat_map-filter : {A : Type 0} (F : A → List Call) (xs : List A) → flat_map F (filter (λ x. has_calls (F x)) xs) ≡ flat_map F xs
flat_map-filter F [] = refl
flat_map-filter F (x ∷ xs) = elim (cases_Bool (has_calls (F x))) [
  | inl some ↦ rw some (ap (λ (l : List Call). F x ++ l) (flat_map-filter F xs))
  | inr none ↦ rw none (flat_map-filter F xs ∙ sym (ap (λ (l : List Call). l ++ flat_map F xs) (none_called (F x) none)))
]

flat_map-flat_map : {A B C : Type 0} (F : B → List C) (G : A → List B) (xs : List A) → flat_map F (flat_map G xs) ≡ flat_map (λ x. flat_map F (G x)) xs
flat_map-flat_map F G [] = refl
flat_map-flat_map F G (x ∷ xs) = flat_map-append F (G x) (flat_map G xs) ∙ ap (λ (l : List _). flat_map F (G x) ++ l) (flat_map-flat_map F G xs)

module _ (size end : ℕ) (state : DiskState) where
  clears_in : (segment : ℕ) → flat_map (planned_clears size state) (planned_in size end state segment) ≡ segment_clears size end state segment
  clears_in segment =
      let kept = kept_of size end segment in
      let first = first_to_clear size kept in
      let numbers = range_with_len first (pages_of size - first) in
      flat_map-filter (planned_clears size state) (map (page_planned segment kept) numbers) ∙ flat_map-map (planned_clears size state) (page_planned segment kept) numbers

  pub clears_planned : (count : ℕ) → flat_map (planned_clears size state) (planned_pages size end state count) ≡ flat_map (segment_clears size end state) (range_with_len 1 count)
  clears_planned count =
      flat_map-flat_map (planned_clears size state) (planned_in size end state) (range_with_len 1 count) ∙ ap (λ (f : ℕ → List Call). flat_map f (range_with_len 1 count)) (λ i segment. clears_in segment i)

-- ---- each of them is to be cleared

pub all_both : {A : Type 0} (P : A → Type 0) (xs ys : List A) → AllByRecursion P xs → AllByRecursion P ys → AllByRecursion P (xs ++ ys)
all_both P [] ys first second = second
all_both P (x ∷ xs) ys first second = (first.0, all_both P xs ys first.1 second)

pub all_at : {A : Type 0} (P : A → Type 0) (front : List A) (x : A) (rest : List A) → AllByRecursion P (front ++ x ∷ rest) → P x
all_at P [] x rest all = all.0
all_at P (y ∷ front) x rest all = all_at P front x rest all.1

all_filter : {A : Type 0} (p : A → Bool) (xs : List A) → AllByRecursion (λ x. p x ≡ true) (filter p xs)
all_filter p [] = tt
all_filter p (x ∷ xs) = elim (cases_Bool (p x)) [
  | inl some ↦ rw some (some, all_filter p xs)
  | inr none ↦ rw none (all_filter p xs)
]

each_planned : (size end : ℕ) (state : DiskState) (xs : List ℕ) → AllByRecursion (λ planned. is_to_clear size state planned ≡ true) (flat_map (planned_in size end state) xs)
each_planned size end state [] = tt
each_planned size end state (x ∷ xs) =
    let kept = kept_of size end x in
    let first = first_to_clear size kept in
    all_both (λ planned. is_to_clear size state planned ≡ true) (planned_in size end state x) (flat_map (planned_in size end state) xs)
    (all_filter (is_to_clear size state) (map (page_planned x kept) (range_with_len first (pages_of size - first)))) (each_planned size end state xs)

module _ (size end : ℕ) (state : DiskState) where
  has_some : (planned : List PlannedPage) → AllByRecursion (λ one. is_to_clear size state one ≡ true) planned → nat_lt 0 (length planned) ≡ has_calls (flat_map (planned_clears size state) planned)
  has_some [] each = refl
  has_some (one ∷ planned) each = lt-ltb 0 (length (one ∷ planned)) (omega arith) ∙ by_calls (planned_clears size state one) each.0
    where
      by_calls : (calls : List Call) → has_calls calls ≡ true → true ≡ has_calls (calls ++ flat_map (planned_clears size state) planned)
      by_calls [] some = absurd (true≢false (sym some))
      by_calls (call ∷ calls) some = refl

  -- a segment has pages to be cleared where it has writes
  pub has_calls_planned : (segment : ℕ) → nat_lt 0 (length (planned_in size end state segment)) ≡ has_calls (segment_clears size end state segment)
  has_calls_planned segment =
      let kept = kept_of size end segment in
      let first = first_to_clear size kept in
      has_some (planned_in size end state segment) (all_filter (is_to_clear size state) (map (page_planned segment kept) (range_with_len first (pages_of size - first)))) ∙ ap has_calls (clears_in size end state segment)

-- so each has one write
one_clear : (size segment page from : ℕ) (here : Option (List ℕ)) → has_calls (clear_calls size segment page from here) ≡ true → length (clear_calls size segment page from here) ≡ 1
one_clear size segment page from None some = absurd (true≢false (sym some))
one_clear size segment page from (Some bytes) some = elim (cases_Bool (list_any (λ b. not (b == 0)) (drop from bytes))) [
  | inl any ↦ rw any refl
  | inr none ↦ (let nothing : false ≡ true = subst (λ (b : Bool). has_calls (if b then write_call size segment page (cleared from bytes) ∷ [] else []) ≡ true) none some in absurd (true≢false (sym nothing)))
]

count_writes : (size : ℕ) (state : DiskState) (pages : List PlannedPage) → AllByRecursion (λ planned. is_to_clear size state planned ≡ true) pages → length (flat_map (planned_clears size state) pages) ≡ length pages
count_writes size state [] each = refl
count_writes size state (one ∷ pages) each =
    let here = one_clear size one.segment one.page one.from (page_of_segment (state one.segment) one.page) each.0 in
    omega (arith, length-append (planned_clears size state one) (flat_map (planned_clears size state) pages), here, count_writes size state pages each.1)

pub count_planned : (size end : ℕ) (state : DiskState) (count : ℕ) → length (flat_map (planned_clears size state) (planned_pages size end state count)) ≡ length (planned_pages size end state count)
count_planned size end state count = count_writes size state (planned_pages size end state count) (each_planned size end state (range_with_len 1 count))

-- ---- they rise

lower : (a b c : ℕ) → a ≤ b → b ≤ c → a ≤ c
lower a b c one two = omega (arith, one, two)

below : (a b c : ℕ) → a ≤ b → b + 1 ≤ c → a ≤ c
below a b c one two = omega (arith, one, two)

not_above : (a b : ℕ) → a ≡ b → a + 1 ≤ b → ⊥
not_above a b same above = absurd (omega (arith, same, above))

one_on : (a b : ℕ) → a + b + 1 ≤ a + (b + 1)
one_on a b = omega arith

on_low : (place a b : ℕ) → place ≤ a + b → place ≤ a + (b + 1)
on_low place a b low = omega (arith, low)

at_end : (place a b p : ℕ) → place ≤ a + b → b + 0 ≤ p → place ≤ a + p
at_end place a b p low within = omega (arith, low, within)

one_less : (first number pages : ℕ) → first + suc number ≤ pages → first + 1 + number ≤ pages
one_less first number pages within = omega (arith, within)

rises_later : (size place low : ℕ) (pages : List PlannedPage) → low ≤ place → Rise size place pages → Rise size low pages
rises_later size place low [] under rise = tt
rises_later size place low (planned ∷ pages) under rise = (lower low place (place_of_page size planned) under rise.0, rise.1)

module _ (size : ℕ) (state : DiskState) where
  -- the pages before one in such a list are others
  low_of : (place : ℕ) (front : List PlannedPage) (planned : PlannedPage) (rest : List PlannedPage) → Rise size place (front ++ planned ∷ rest) → place ≤ place_of_page size planned
  low_of place [] planned rest rise = rise.0
  low_of place (one ∷ front) planned rest rise = below place (place_of_page size one) (place_of_page size planned) rise.0 (low_of (place_of_page size one + 1) front planned rest rise.1)

  -- so their writes leave it as it is
  pub front_spares : (place : ℕ) (front : List PlannedPage) (planned : PlannedPage) (rest : List PlannedPage) → Rise size place (front ++ planned ∷ rest) → AllSpare planned.segment planned.page (flat_map (planned_clears size state) front)
  front_spares place [] planned rest rise = tt
  front_spares place (one ∷ front) planned rest rise =
      spare_both planned.segment planned.page (planned_clears size state one) (flat_map (planned_clears size state) front)
      (clear_spares size one.segment planned.segment planned.page one.page one.from (page_of_segment (state one.segment) one.page)
      (λ same at. not_above (place_of_page size one) (place_of_page size planned) (ap (λ (n : ℕ). one.segment * pages_of size + n) at ∙ ap (λ (n : ℕ). n * pages_of size + planned.page) (sym same)) (low_of (place_of_page size one + 1) front planned rest rise.1)))
      (front_spares (place_of_page size one + 1) front planned rest rise.1)

  rises_from : (segment kept : ℕ) (rest : List PlannedPage) → Rise size (segment * pages_of size + pages_of size) rest → (place first number : ℕ) → place ≤ segment * pages_of size + first → first + number ≤ pages_of size
      → Rise size place (planned_from size segment kept state first number ++ rest)
  rises_from segment kept rest behind place first zero low within = rises_later size (segment * pages_of size + pages_of size) place rest (at_end place (segment * pages_of size) first (pages_of size) low within) behind
  rises_from segment kept rest behind place first (suc number) low within = elim (cases_Bool (is_to_clear size state (page_planned segment kept first))) [
    | inl some ↦ rw some (low, rises_from segment kept rest behind (segment * pages_of size + first + 1) (first + 1) number (one_on (segment * pages_of size) first) (one_less first number (pages_of size) within))
    | inr none ↦ rw none (rises_from segment kept rest behind place (first + 1) number (on_low place (segment * pages_of size) first low) (one_less first number (pages_of size) within))
  ]

  whole_segment : (kept pages : ℕ) → min kept pages + (pages - min kept pages) ≤ pages
  whole_segment kept pages = omega arith

  next_segment : (segment pages : ℕ) → (segment + 1) * pages ≡ segment * pages + pages
  next_segment segment pages = ap (λ (n : ℕ). n * pages) (omega arith) ∙ suc-mul segment pages

  from_place : (a b : ℕ) → a ≤ a + b
  from_place a b = omega arith

  rises_all : (end from count : ℕ) → Rise size (from * pages_of size) (flat_map (planned_in size end state) (range_with_len from count))
  rises_all end from zero = tt
  rises_all end from (suc count) =
      let kept = kept_of size end from in
      let first = first_to_clear size kept in
      let rest = flat_map (planned_in size end state) (range_with_len (from + 1) count) in
      rises_from from kept rest (subst (λ (n : ℕ). Rise size n rest) (next_segment from (pages_of size)) (rises_all end (from + 1) count)) (from * pages_of size) first (pages_of size - first) (from_place (from * pages_of size) first)
      (whole_segment (kept / 8192) (pages_of size))

  pub all_to_clear : (end count : ℕ) → AreToClear size state (planned_pages size end state count)
  all_to_clear end count = record {
    each = each_planned size end state (range_with_len 1 count);
    rise = rises_later size (1 * pages_of size) 0 (planned_pages size end state count) (omega arith) (rises_all end 1 count);
  }

-- ---- what is planned goes by what is read

pub planned_alike : (size end count : ℕ) (one other : DiskState) → ((segment page : ℕ) → page_of_segment (one segment) page ≡ page_of_segment (other segment) page) → planned_pages size end one count ≡ planned_pages size end other count
planned_alike size end count one other same = ap by_reads (λ i segment page. same segment page i)
  where
    by_reads : (ℕ → ℕ → Option (List ℕ)) → List PlannedPage
    by_reads read =
        flat_map (λ segment. filter (λ planned. has_calls (clear_calls size planned.segment planned.page planned.from (read planned.segment planned.page))) (map (page_planned segment (kept_of size end segment)) (range_with_len (first_to_clear size (kept_of size end segment)) (pages_of size - first_to_clear size (kept_of size end segment))))) (range_with_len 1 count)

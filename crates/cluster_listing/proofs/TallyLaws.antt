-- A tally with one record more.
use Rattle.std.proofs.Common.{◌≡◌, ◌≢◌, ℕ, zero, suc, ◌+◌, ◌-◌, ◌<◌, ◌≤◌, Bool, true, false, cond, eqb, List, [], ◌∷◌, ◌++◌, length, filter, get_or, set, replicate, inl, inr, Option, Result, refl, ap, sym, subst, ◌∙◌, append_assoc, arith}
use Rattle.std.proofs.lemmas.Bool.{cases_order, eq-eqb, ne_eqb}
use Rattle.std.proofs.lemmas.List.{append-nil, get_or-set_other, get_or-set_same, length-append, length-replicate, length-set}
use Rattle.std.proofs.lemmas.List.Elements.{filter-append}
use Rattle.std.proofs.lemmas.List.Sums.{sum_by-append}
use Rattle.segment_disk.specs.Tape.{Tape}
use Rattle.waldump_filter.specs.declared.Filter.{Filter}
use Rattle.waldump_filter.specs.declared.listed.Listed.{Listed}
use Rattle.waldump_text.specs.Statistics.{manager_line, total_line}
use Rattle.waldump_text.specs.Sums.{images_len, no_sums, sums_of}
use Rattle.waldump_text.specs.declared.sums.Sums.{Sums}
use Rattle.waldump_text.proofs.TallyLaws.{with_one}
use Rattle.cluster_listing.specs.Statistics.{Adds, AreSums, PutsTally, TalliesKinds, tally_put, tally_wanting, kind_line, kind_number, numbered_lines, manager_number, row_of, statistics_text, sums_at, tallied_text}
use Rattle.cluster_listing.specs.Tail.{IsGathered}
use Rattle.cluster_listing.specs.Walk.{HasWalkCause, IsWalk}
use Rattle.cluster_listing.specs.declared.taking.TakeErr.{TakeErr}
use Rattle.cluster_listing.specs.declared.taking.TakeErr.TheVariants as taking
use Rattle.cluster_listing.specs.declared.tally.KindTally.{KindTally}
use Rattle.cluster_listing.specs.declared.walking.ListErr.{ListErr}
use Rattle.cluster_listing.specs.declared.walking.Walked.{Walked}
use Rattle.cluster_listing.proofs.TailLaws.{cause_kept, shown_cause, tail_of_walk}

same_sums : (a b : Sums) → a.records ≡ b.records → a.images ≡ b.images → a.total ≡ b.total → a ≡ b
same_sums a b records images total = let whole : record { records = a.records; images = a.images; total = a.total } ≡ b = rw (records, images, total) refl in whole

kept_if : (one : Listed) (test : Bool) → test ≡ true → cond test (one ∷ []) [] ≡ one ∷ []
kept_if one test is = rw is refl

dropped_if : (one : Listed) (test : Bool) → test ≡ false → cond test (one ∷ []) [] ≡ []
dropped_if one test is = rw is refl

pub sums_of-more : (r : Listed) (records : List Listed) → sums_of (records ++ r ∷ []) ≡ with_one r (sums_of records)
sums_of-more r records =
    same_sums _ _ (length-append records (r ∷ []))
    (sum_by-append (λ (x : Listed). images_len x.value.blocks) records (r ∷ []) ∙ omega arith)
    (sum_by-append (λ (x : Listed). x.total) records (r ∷ []) ∙ omega arith)

-- the row of a record's number takes it, and the others stay
module _ (count : ℕ) (number : Listed → ℕ) (old new : List Sums) (r : Listed) (records : List Listed) (small : number r < count) (is : new ≡ set old (number r) (with_one r (row_of old (number r)))) (sums : AreSums count number old records) where
  row-same : row_of new (number r) ≡ sums_at number (records ++ r ∷ []) (number r)
  row-same =
      ap (λ rows. get_or rows (number r) no_sums) is ∙ get_or-set_same old (number r) (with_one r (row_of old (number r))) no_sums (omega (arith, small, sums.many))
      ∙ ap (with_one r) (sums.row (number r) small) ∙ sym (sums_of-more r (filter (λ (x : Listed). eqb (number x) (number r)) records))
      ∙ ap sums_of (sym (filter-append (λ (x : Listed). eqb (number x) (number r)) records (r ∷ []) ∙ ap (λ (some : List Listed). filter (λ (x : Listed). eqb (number x) (number r)) records ++ some) (kept_if r (eqb (number r) (number r)) (eq-eqb (number r) (number r) refl))))

  row-other : (n : ℕ) → n < count → n ≢ number r → row_of new n ≡ sums_at number (records ++ r ∷ []) n
  row-other n within apart =
      ap (λ rows. get_or rows n no_sums) is ∙ get_or-set_other old (number r) n (with_one r (row_of old (number r))) no_sums apart
      ∙ sums.row n within
      ∙ ap sums_of (sym (filter-append (λ (x : Listed). eqb (number x) n) records (r ∷ []) ∙ ap (λ (some : List Listed). filter (λ (x : Listed). eqb (number x) n) records ++ some) (dropped_if r (eqb (number r) n) (ne_eqb (number r) n (λ same. apart (sym same)))) ∙ append-nil (filter (λ (x : Listed). eqb (number x) n) records)))

  pub AreSums-more : AreSums count number new (records ++ r ∷ [])
  AreSums-more = record {
    many = ap length is ∙ length-set old (number r) (with_one r (row_of old (number r))) ∙ sums.many;
    row = λ n within. elim (cases_order n (number r)) [
      | inl same ↦ subst (λ (m : ℕ). row_of new m ≡ sums_at number (records ++ r ∷ []) m) (sym same) row-same
      | inr (inl lt) ↦ row-other n within (omega arith)
      | inr (inr gt) ↦ row-other n within (omega arith)
    ];
  }

-- ---- no records

row-none : (n row : ℕ) → get_or (replicate n no_sums) row no_sums ≡ no_sums
row-none zero row = refl
row-none (suc n) zero = refl
row-none (suc n) (suc row) = row-none n row

pub AreSums-none : (count n : ℕ) (number : Listed → ℕ) → n ≡ count → AreSums count number (replicate n no_sums) []
AreSums-none count n number is = record { many = length-replicate n no_sums ∙ is; row = λ row within. row-none n row }

pub TalliesKinds-none : (managers kinds : ℕ) → managers ≡ 256 → kinds ≡ 4096 → TalliesKinds (record { managers = replicate managers no_sums; kinds = replicate kinds no_sums; all = no_sums }) []
TalliesKinds-none managers kinds few some = record { managers = AreSums-none 256 managers manager_number few; kinds = AreSums-none 4096 kinds kind_number some; all = refl }

-- sums that are stored for a record more
pub added : (r : Listed) (sums more : Sums) (images : ℕ) → images ≡ images_len r.value.blocks → more ≡ record { records = sums.records + 1; images = sums.images + images; total = sums.total + r.total } → more ≡ with_one r sums
added r sums more images is stored =
    stored ∙ ap (λ (n : ℕ). let one : Sums = record { records = sums.records + 1; images = sums.images + n; total = sums.total + r.total } in one) is

-- a record more, by what is stored for it
pub TalliesKinds-more : (old new : KindTally) (r : Listed) (records : List Listed) → r.value.rmid < 256 → kind_number r < 4096
    → new.managers ≡ set old.managers (manager_number r) (with_one r (row_of old.managers (manager_number r))) → new.kinds ≡ set old.kinds (kind_number r) (with_one r (row_of old.kinds (kind_number r))) → new.all ≡ with_one r old.all
    → TalliesKinds old records → TalliesKinds new (records ++ r ∷ [])
TalliesKinds-more old new r records low small managers kinds all was = record {
  managers = AreSums-more 256 manager_number old.managers new.managers r records low managers was.managers;
  kinds = AreSums-more 4096 kind_number old.kinds new.kinds r records small kinds was.kinds;
  all = all ∙ ap (with_one r) was.all ∙ sym (sums_of-more r records);
}

-- ---- texts

same-lines : (line : ℕ → Sums → List ℕ) (some other : ℕ → Sums) (most : ℕ) → ((n : ℕ) → n < most → some n ≡ other n) → (count n : ℕ) → count + n ≤ most → numbered_lines line some count n ≡ numbered_lines line other count n
unfolding numbered_lines
same-lines line some other most same zero n within = refl
same-lines line some other most same (suc count) n within =
    ap (λ (sums : Sums). line n sums ++ numbered_lines line some count (n + 1)) (same n (omega arith))
    ∙ ap (λ (text : List ℕ). line n (other n) ++ text) (same-lines line some other most same count (n + 1) (omega arith))

-- a tally's text is the statistics of the records that it tallies
pub tallied_text-is : (tally : KindTally) (records : List Listed) → TalliesKinds tally records → tallied_text tally ≡ statistics_text records
tallied_text-is tally records tallies =
    let kinds = numbered_lines kind_line (row_of tally.kinds) 4096 0 in
    ap (λ (text : List ℕ). text ++ (kinds ++ total_line tally.all)) (same-lines manager_line _ (sums_at manager_number records) 256 tallies.managers.row 256 0 (omega arith))
    ∙ ap (λ (text : List ℕ). numbered_lines manager_line (sums_at manager_number records) 256 0 ++ (text ++ total_line tally.all)) (same-lines kind_line _ (sums_at kind_number records) 4096 tallies.kinds.row 4096 0 (omega arith))
    ∙ ap (λ (all : Sums). numbered_lines manager_line (sums_at manager_number records) 256 0 ++ (numbered_lines kind_line (sums_at kind_number records) 4096 0 ++ total_line all)) tallies.all

-- the lines from one on, the first of them apart; a numeral would be counted down
pub next-line : (line : ℕ → Sums → List ℕ) (sums : ℕ → Sums) (most n : ℕ) → n < most → numbered_lines line sums (most - n) n ≡ line n (sums n) ++ numbered_lines line sums (most - (n + 1)) (n + 1)
unfolding numbered_lines
next-line line sums most n more = next (most - n) (omega arith)
  where
    next : (left : ℕ) → left ≡ suc (most - (n + 1)) → numbered_lines line sums left n ≡ line n (sums n) ++ numbered_lines line sums (most - (n + 1)) (n + 1)
    next left is = rw is refl

pub no-line : (line : ℕ → Sums → List ℕ) (sums : ℕ → Sums) (most n : ℕ) → most ≤ n → numbered_lines line sums (most - n) n ≡ []
unfolding numbered_lines
no-line line sums most n done = none (most - n) (omega arith)
  where
    none : (left : ℕ) → left ≡ 0 → numbered_lines line sums left n ≡ []
    none left is = rw is refl

-- a line more is pushed of those that are left
pub line_pushed : (line : ℕ → Sums → List ℕ) (sums : ℕ → Sums) (most n : ℕ) (old new whole : List ℕ) → n < most → new ≡ old ++ line n (sums n) → old ++ numbered_lines line sums (most - n) n ≡ whole → new ++ numbered_lines line sums (most - (n + 1)) (n + 1) ≡ whole
line_pushed line sums most n old new whole more pushed was =
    let rest = numbered_lines line sums (most - (n + 1)) (n + 1) in
    ap (λ (text : List ℕ). text ++ rest) pushed
    ∙ append_assoc old (line n (sums n)) rest
    ∙ ap (λ (text : List ℕ). old ++ text) (sym (next-line line sums most n more))
    ∙ was

pub all_pushed : (line : ℕ → Sums → List ℕ) (sums : ℕ → Sums) (most n : ℕ) (text whole : List ℕ) → most ≤ n → text ++ numbered_lines line sums (most - n) n ≡ whole → text ≡ whole
all_pushed line sums most n text whole done was =
    sym (append-nil text) ∙ ap (λ (rest : List ℕ). text ++ rest) (sym (no-line line sums most n done)) ∙ was

-- ---- a walk that is tallied

pub Adds-none : (tally : KindTally) → Adds tally tally []
Adds-none tally = λ before was. subst (TalliesKinds tally) (sym (append-nil before)) was

module _ (size : ℕ) (by : Filter) (told : List Listed → List ℕ) (t : Tape) (old new : Option (List ℕ)) (before after : ℕ) (text : List ℕ) (Took : List Listed → Type 0) (Cut : TakeErr → List Listed → Type 0)
    (kept : (records : List Listed) → Took records → text ≡ told records) (cut : (e : TakeErr) (records : List Listed) → Cut e records → e ≡ taking.Memory) where
  pub gathered_of_walk : (walked result : Result Walked ListErr) → IsWalk size by t Took Cut walked → PutsTally old new before after text walked result → IsGathered size by told t old new before after result
  gathered_of_walk walked result walk (tally_put _ _ puts) = tail_of_walk size by told t old new before after text Took Cut kept cut walked result walk puts
  gathered_of_walk walked result walk (tally_wanting _ shown none) = none

pub cause_tallied : (disk disk_after : ℕ) (old new : Option (List ℕ)) (before after : ℕ) (text : List ℕ) (walked result : Result Walked ListErr) → HasWalkCause disk disk_after walked → PutsTally old new before after text walked result → HasWalkCause disk disk_after result
cause_tallied disk disk_after old new before after text walked result cause (tally_put _ _ puts) = cause_kept disk disk_after old new before after text walked result cause puts
cause_tallied disk disk_after old new before after text walked result cause (tally_wanting _ shown none) = shown_cause disk disk_after walked shown cause

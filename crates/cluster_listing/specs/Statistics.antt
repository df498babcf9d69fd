-- The statistics of records: a line for each manager, for each kind of record, and for all.
use Rattle.std.specs.Prelude.{◌≡◌, ℕ, zero, suc, ◌+◌, ◌*◌, ◌/◌, ◌%◌, ◌<◌, List, [], ◌∷◌, ◌++◌, length, filter, codes, slice_index_or, ◌==◌, if◌then◌else◌, true, Option, Result, Err}
use Rattle.waldump_filter.specs.declared.listed.Listed.{Listed}
use Rattle.waldump_text.specs.Names.{manager_name}
use Rattle.waldump_text.specs.Put.{joined}
use Rattle.waldump_text.specs.Statistics.{manager_line, sums_pieces, total_line}
use Rattle.waldump_text.specs.Sums.{no_sums, sums_of}
use Rattle.waldump_text.specs.declared.sums.Sums.{Sums}
use Rattle.cluster_listing.specs.Kinds.{kind_word}
use Rattle.cluster_listing.specs.Listing.{PutAll}
use Rattle.cluster_listing.specs.Tail.{PutsKept, is_shown}
use Rattle.cluster_listing.specs.declared.taking.TakeErr.TheVariants as errors
use Rattle.cluster_listing.specs.declared.tally.KindTally.{KindTally}
use Rattle.cluster_listing.specs.declared.walking.ListErr.{ListErr}
use Rattle.cluster_listing.specs.declared.walking.ListErr.TheVariants.{Take}
use Rattle.cluster_listing.specs.declared.walking.Walked.{Walked}

-- the kind of a record, by its manager and its info: the upper four bits, or of a transaction's
-- record three of them
abbrev pub kind_of : ℕ → ℕ → ℕ
kind_of rmid info = if rmid == 1 then info / 16 % 8 else info / 16

-- the numbers by which records are counted: that of their manager, and that of their kind
abbrev pub manager_number : Listed → ℕ
manager_number r = r.value.rmid

abbrev pub kind_number : Listed → ℕ
kind_number r = r.value.rmid * 16 + kind_of r.value.rmid r.value.info

-- what the records of a number add up to
abbrev pub sums_at : (Listed → ℕ) → List Listed → ℕ → Sums
sums_at number records n = sums_of (filter (λ r. number r == n) records)

-- the line of a kind, if there was a record of it: its manager's name and its word
abbrev pub kind_line : ℕ → Sums → List ℕ
kind_line n sums =
    if sums.records == 0 then []
    else joined
    (codes "stats: kind " ∷ manager_name (n / 16) ∷ codes "/" ∷ kind_word (n / 16) (n % 16 * 16)
    ∷ []) ++ joined (sums_pieces sums)

-- the lines of so many numbers, from one on
unfoldable pub numbered_lines : (ℕ → Sums → List ℕ) → (ℕ → Sums) → ℕ → ℕ → List ℕ
numbered_lines line sums zero n = []
numbered_lines line sums (suc count) n = line n (sums n) ++ numbered_lines line sums count (n + 1)

-- the lines of all managers, of all kinds, and of all records
abbrev pub text_of_sums : (ℕ → Sums) → (ℕ → Sums) → Sums → List ℕ
text_of_sums managers kinds all =
    numbered_lines manager_line managers 256 0
    ++ (numbered_lines kind_line kinds 4096 0 ++ total_line all)

-- the statistics of records
abbrev pub statistics_text : List Listed → List ℕ
statistics_text records =
    text_of_sums (sums_at manager_number records) (sums_at kind_number records) (sums_of records)

-- ---- a tally

-- the sums of a number
abbrev pub row_of : List Sums → ℕ → Sums
row_of rows n = slice_index_or rows n no_sums

-- so many rows are what records add up to, by a number of theirs
pub record AreSums (count : ℕ) (number : Listed → ℕ) (rows : List Sums) (records : List Listed)
    : Type 0 where
  pub many : length rows ≡ count
  pub row : (n : ℕ) → n < count → row_of rows n ≡ sums_at number records n

-- the rows of a tally are what records add up to
pub record TalliesKinds (tally : KindTally) (records : List Listed) : Type 0 where
  pub managers : AreSums 256 manager_number tally.managers records
  pub kinds : AreSums 4096 kind_number tally.kinds records
  pub all : tally.all ≡ sums_of records

-- behind the records that were tallied before these are tallied
abbrev pub Adds : KindTally → KindTally → List Listed → Type 0
Adds old new records =
    (before : List Listed) → TalliesKinds old before → TalliesKinds new (before ++ records)

-- the text of a tally
abbrev pub tallied_text : KindTally → List ℕ
tallied_text tally =
    text_of_sums (row_of tally.managers) (row_of tally.kinds) tally.all

-- behind a walk a text is put, or where memory ran out nothing
pub data PutsTally (old new : Option (List ℕ)) (before after : ℕ) (text : List ℕ)
    : Result Walked ListErr → Result Walked ListErr → Type 0 where
  tally_put : (walked result : Result Walked ListErr)
      → PutsKept old new before after text walked result
      → PutsTally old new before after text walked result
  tally_wanting : (walked : Result Walked ListErr) → is_shown walked ≡ true
      → PutAll old new before after []
      → PutsTally old new before after text walked (Err (Take errors.Memory))

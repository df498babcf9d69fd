-- The statistics of records: a line for each manager that wrote one, and a line for all.
use Rattle.std.specs.Prelude.{ℕ, zero, suc, ◌+◌, ◌-◌, List, [], ◌∷◌, ◌++◌, codes, ◌==◌, if◌then◌else◌}
use Rattle.std.specs.Fmt.{decimal}
use Rattle.waldump_filter.specs.declared.listed.Listed.{Listed}
use Rattle.waldump_text.specs.Names.{manager_name}
use Rattle.waldump_text.specs.Put.{joined, padded_right}
use Rattle.waldump_text.specs.Sums.{of_manager, sums_of}
use Rattle.waldump_text.specs.declared.sums.Sums.{Sums}

-- sums: records, their bytes without and of images, and all
abbrev pub sums_pieces : Sums → List (List ℕ)
sums_pieces sums =
    codes " records " ∷ decimal sums.records ∷ codes " rec " ∷ decimal (sums.total - sums.images)
    ∷ codes " fpi " ∷ decimal sums.images ∷ codes " total " ∷ decimal sums.total ∷ codes "\n" ∷ []

-- the line of a manager, if it wrote a record
abbrev pub manager_line : ℕ → Sums → List ℕ
manager_line rmid sums =
    if sums.records == 0 then []
    else joined (codes "stats: rmgr " ∷ padded_right 11 (manager_name rmid) ∷ sums_pieces sums)

-- the lines of so many managers, by rising number, from one on
unfoldable pub manager_lines : (ℕ → Sums) → ℕ → ℕ → List ℕ
manager_lines sums zero rmid = []
manager_lines sums (suc count) rmid =
    manager_line rmid (sums rmid) ++ manager_lines sums count (rmid + 1)

-- the line of all records
abbrev pub total_line : Sums → List ℕ
total_line sums = joined (codes "stats: total" ∷ sums_pieces sums)

-- the lines of all managers, whose numbers are below 256, and the line of all records
abbrev pub lines_of_sums : (ℕ → Sums) → Sums → List ℕ
lines_of_sums own all = manager_lines own 256 0 ++ total_line all

-- the statistics of records
abbrev pub stats_text : List Listed → List ℕ
stats_text records = lines_of_sums (λ rmid. sums_of (of_manager rmid records)) (sums_of records)

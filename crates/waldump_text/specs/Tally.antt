-- A tally of records, manager by manager.
use Rattle.std.specs.Prelude.{◌≡◌, ℕ, ◌*◌, ◌<◌, ◌≤◌, ◌^◌, IsTrue, not, List, length, slice_index_or}
use Rattle.waldump_filter.specs.declared.listed.Listed.{Listed}
use Rattle.wal_spelling.specs.Record.{is_free_manager}
use Rattle.waldump_text.specs.Statistics.{lines_of_sums}
use Rattle.waldump_text.specs.Sums.{no_sums, of_manager, sums_of}
use Rattle.waldump_text.specs.declared.sums.Sums.{Sums}
use Rattle.waldump_text.specs.declared.sums.Tally.{Tally}

-- the sums of a manager
abbrev pub own_sums : Tally → ℕ → Sums
own_sums tally rmid = slice_index_or tally.own rmid no_sums

-- sums that so many records at most may have, with images that are no more than all of it
pub record SumsFit (count : ℕ) (sums : Sums) : Type 0 where
  pub records : sums.records ≤ count
  pub total : sums.total ≤ count * 2 ^ 32
  pub images : sums.images ≤ sums.total

-- a tally whose sums are bounded, and whose managers have names
pub record TallyFits (tally : Tally) : Type 0 where
  pub managers : length tally.own ≡ 256
  pub all : SumsFit tally.all.records tally.all
  pub own : (rmid : ℕ) → SumsFit tally.all.records (own_sums tally rmid)
  pub named : (rmid : ℕ) → 0 < (own_sums tally rmid).records → IsTrue (not (is_free_manager rmid))

-- the sums of a tally are those of records: of all, and of each manager's
pub record Tallies (tally : Tally) (records : List Listed) : Type 0 where
  pub all : tally.all ≡ sums_of records
  pub own : (rmid : ℕ) → rmid < 256 → own_sums tally rmid ≡ sums_of (of_manager rmid records)

-- its lines
abbrev pub tally_text : Tally → List ℕ
tally_text tally = lines_of_sums (own_sums tally) tally.all

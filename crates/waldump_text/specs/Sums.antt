-- What records add up to.
use Rattle.std.specs.Prelude.{ℕ, List, filter, length, sum_by, ◌==◌}
use Rattle.wal_types.specs.declared.record.Block.{Block}
use Rattle.wal_spelling.specs.Spelling.{image_bytes}
use Rattle.waldump_filter.specs.declared.listed.Listed.{Listed}
use Rattle.waldump_text.specs.declared.sums.Sums.{Sums}

-- how many bytes the images of blocks have together
abbrev pub images_len : List Block → ℕ
images_len blocks = sum_by (λ b. length (image_bytes b.image)) blocks

-- how many records they are, the bytes of their images, and all their bytes
abbrev pub sums_of : List Listed → Sums
sums_of records = record {
  records = length records;
  images = sum_by (λ r. images_len r.value.blocks) records;
  total = sum_by (λ r. r.total) records;
}

-- those that a manager wrote
abbrev pub of_manager : ℕ → List Listed → List Listed
of_manager rmid records = filter (λ r. r.value.rmid == rmid) records

-- the sums of no records
abbrev pub no_sums : Sums
no_sums = record { records = 0; images = 0; total = 0 }

-- The sizes of segments, and the names of segment files (PostgreSQL's xlog_internal.h).
use Rattle.std.specs.Prelude.{ℕ, ◌/◌, ◌%◌, ◌^◌, Bool, IsTrue, List, [], ◌∷◌, ◌++◌, ◌==◌}
use Rattle.std.specs.List.{list_any}
use Rattle.wal_types.specs.Hexadecimal.{eight_digits}
use Rattle.byte_position.specs.Layout.{page_size}

-- whether this is a size of segments: a power of two from 1 MiB to 1 GiB
abbrev pub is_segment_size : ℕ → Bool
is_segment_size size =
    list_any (λ k. size == 2 ^ k) (20 ∷ 21 ∷ 22 ∷ 23 ∷ 24 ∷ 25 ∷ 26 ∷ 27 ∷ 28 ∷ 29 ∷ 30 ∷ [])

abbrev pub IsSegmentSize : ℕ → Type 0
IsSegmentSize size = IsTrue (is_segment_size size)

-- how many pages a segment has
abbrev pub pages_of : ℕ → ℕ
pages_of size = size / page_size

-- a segment's file name: timeline 1, then the segment's number in two parts, eight digits each
abbrev pub file_name : ℕ → ℕ → List ℕ
file_name size segment = eight_digits 1 ++ eight_digits (segment / (2 ^ 32 / size))
    ++ eight_digits (segment % (2 ^ 32 / size))

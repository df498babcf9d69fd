-- What a record's header and the heads of its blocks say of it to a filter.
use Rattle.std.specs.Prelude.{ℕ, Bool, ◌&&◌, ◌||◌, not, is_some, List, slice_index, if◌then◌else◌}
use Rattle.std.specs.Int.{w32}
use Rattle.std.specs.List.{list_any, sum_by}
use Rattle.wal_types.specs.declared.record.Record.{Record}
use Rattle.wal_spelling.specs.Layout.{manager_offset, xid_offset}
use Rattle.wal_spelling.specs.Numbers.{number_at}
use Rattle.wal_record.specs.declared.head.BlockHead.{BlockHead}
use Rattle.wal_record.specs.Reading.{image_len}
use Rattle.wal_reader.specs.declared.found.RecordHead.{RecordHead}
use Rattle.waldump_filter.specs.declared.Filter.{Filter}
use Rattle.waldump_filter.specs.declared.listed.Listed.{Listed}
use Rattle.waldump_filter.specs.Keeping.{asks_for_block, meets_header, meets_place}

-- whether a record meets all rules beside the start, by its bytes and the heads of its blocks
abbrev pub meets_by_heads : Filter → List ℕ → List BlockHead → Bool
meets_by_heads filter bytes heads =
    meets_header filter (slice_index bytes manager_offset)
    (record { 0 = number_at w32 bytes xid_offset })
    && (not (asks_for_block filter)
    || list_any (λ h. meets_place filter h.rel h.blk h.fork) heads)
    && (not filter.fullpage || list_any (λ h. is_some h.image) heads)

-- how many bytes the images of blocks have together, by their heads
abbrev pub images_by_heads : List BlockHead → ℕ
images_by_heads heads = sum_by (λ h. image_len h.image) heads

-- the record that was read last, where it is kept unless it is refused
abbrev pub held_of : Bool → Record → Record → Record
held_of refused spelled value = if refused then spelled else value

-- a record as it is listed, which stands here
abbrev pub listed_with : Record → RecordHead → Listed
listed_with value head =
    record { start = head.start; prev = head.prev; total = head.total; value = value }

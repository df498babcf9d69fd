-- A record's line, and what of it other forms have too.
use Rattle.std.specs.Prelude.{ℕ, ◌-◌, ◌/◌, ◌%◌, Bool, ◌&&◌, ◌||◌, nat_le, nat_lt, List, [], ◌∷◌, ◌++◌, length, take, codes, slice_index_or, Option, Some, None, ◌==◌, ℤ, if◌then◌else◌}
use Rattle.std.specs.Fmt.{decimal}
use Rattle.std.specs.Int.{cast_signed, from_le_bytes, w64}
use Rattle.std.specs.List.{flat_map}
use Rattle.std.specs.Option.{option_map_or}
use Rattle.wal_types.specs.LsnText.{lsn_text}
use Rattle.wal_types.specs.declared.record.Block.{Block}
use Rattle.wal_types.specs.declared.record.Record.{Record}
use Rattle.waldump_filter.specs.declared.listed.Listed.{Listed}
use Rattle.waldump_text.specs.Listing.{image_text}
use Rattle.waldump_text.specs.Names.{hexadecimal, manager_name}
use Rattle.waldump_text.specs.Put.{joined, padded_left, padded_right}
use Rattle.waldump_text.specs.Sums.{images_len}
use Rattle.waldump_text.specs.TimeText.{time_text}
use Rattle.cluster_listing.specs.Kinds.{kind_word}

-- what is shown_bytes of main data: all of it where that is asked for, or its first 64 bytes
abbrev pub shown_bytes : Bool → List ℕ → List ℕ
shown_bytes whole main = if whole then main else take 64 main

-- what stands behind it where there is more
abbrev pub cut_mark : Bool → List ℕ → List ℕ
cut_mark whole main = if whole then [] else (if nat_lt 64 (length main) then codes ".." else [])

-- the main data in hexadecimal, or `-` for none
abbrev pub shown_text : Bool → List ℕ → List ℕ
shown_text whole main =
    if length main == 0 then codes "-"
    else hexadecimal (shown_bytes whole main) ++ cut_mark whole main

-- whether a transaction's record of this kind begins with a time: a commit or an abort, of a
-- prepared one too
abbrev pub tells_time : ℕ → Bool
tells_time kind = (kind == 0) || (kind == 2) || (kind == 3) || (kind == 4)

-- when a transaction ended, by a record that tells it: a signed number of 8 bytes, with which its
-- main data begins
abbrev pub ended_time : Record → Option ℤ
ended_time value =
    if value.rmid == 1 && tells_time (value.info / 16 % 8) && nat_le 8 (length value.main)
    then Some (cast_signed w64 (from_le_bytes w64 (take 8 value.main))) else None

abbrev pub ended_text : Record → List ℕ
ended_text value = option_map_or time_text (ended_time value) []

-- how many bytes a record has without its images
abbrev pub len_without_images : Listed → ℕ
len_without_images r = r.total - images_len r.value.blocks

-- a line before its data, in the places of pg_waldump: manager, size without and with images,
-- transaction, its start, that of the record before and its word
abbrev pub manager_part : Listed → List ℕ
manager_part r = codes "rmgr: " ++ padded_right 11 (manager_name r.value.rmid)

abbrev pub sizes_part : Listed → List ℕ
sizes_part r =
    codes " len (rec/tot): "
    ++ (padded_left 6 (decimal (len_without_images r))
    ++ (codes "/" ++ padded_left 6 (decimal r.total)))

abbrev pub xid_part : Listed → List ℕ
xid_part r = codes ", tx: " ++ padded_left 10 (decimal r.value.xid.0)

abbrev pub place_pieces : Listed → List (List ℕ)
place_pieces r =
    codes ", lsn: " ∷ lsn_text r.start.0 ∷ codes ", prev " ∷ lsn_text r.prev.0 ∷ codes ", desc: "
    ∷ kind_word r.value.rmid r.value.info ∷ codes " data " ∷ []

abbrev pub line_head : Listed → List ℕ
line_head r = manager_part r ++ (sizes_part r ++ (xid_part r ++ joined (place_pieces r)))

-- a fork other than the main one is named
abbrev pub fork_labels : List (List ℕ)
fork_labels = codes "" ∷ codes " fork fsm" ∷ codes " fork vm" ∷ codes " fork init" ∷ []

-- a reference to a block
abbrev pub block_reference : Block → List (List ℕ)
block_reference b =
    codes ", blkref #" ∷ decimal b.id ∷ codes ": rel " ∷ decimal b.rel.spc ∷ codes "/"
    ∷ decimal b.rel.db ∷ codes "/" ∷ decimal b.rel.rel ∷ slice_index_or fork_labels b.fork []
    ∷ codes " blk " ∷ decimal b.blk ∷ image_text b.image ∷ []

abbrev pub blocks_line : List Block → List ℕ
blocks_line blocks = flat_map (λ b. joined (block_reference b)) blocks

-- a record's line
abbrev pub record_line : Bool → Listed → List ℕ
record_line whole r =
    line_head r
    ++ (shown_text whole r.value.main
    ++ (ended_text r.value ++ (blocks_line r.value.blocks ++ codes "\n")))

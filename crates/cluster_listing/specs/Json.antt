-- A record as a JSON object on a line.
use Rattle.std.specs.Prelude.{ℕ, Bool, ℤ, List, [], ◌∷◌, ◌++◌, length, drop, codes, slice_index_or, Option, Some, None, if◌then◌else◌}
use Rattle.std.specs.Fmt.{decimal}
use Rattle.std.specs.Option.{option_map_or}
use Rattle.wal_types.specs.LsnText.{lsn_text}
use Rattle.wal_types.specs.declared.record.Block.{Block}
use Rattle.wal_types.specs.declared.record.Image.{Image}
use Rattle.waldump_filter.specs.declared.listed.Listed.{Listed}
use Rattle.waldump_filter.specs.Names.{fork_names}
use Rattle.waldump_text.specs.Names.{hexadecimal, manager_name}
use Rattle.waldump_text.specs.Put.{joined}
use Rattle.waldump_text.specs.TimeText.{time_text}
use Rattle.cluster_listing.specs.Kinds.{kind_word}
use Rattle.cluster_listing.specs.Line.{len_without_images, shown_bytes, ended_time}

-- what an object begins with: the fields of a line before its data, and the length of the main data
abbrev pub object_head : Listed → List (List ℕ)
object_head r =
    codes "{\"rmgr\":\"" ∷ manager_name r.value.rmid
    ∷ codes "\",\"rec_len\":" ∷ decimal (len_without_images r)
    ∷ codes ",\"total_len\":" ∷ decimal r.total ∷ codes ",\"xid\":" ∷ decimal r.value.xid.0
    ∷ codes ",\"lsn\":\"" ∷ lsn_text r.start.0 ∷ codes "\",\"prev\":\"" ∷ lsn_text r.prev.0
    ∷ codes "\",\"desc\":\"" ∷ kind_word r.value.rmid r.value.info
    ∷ codes "\",\"main_len\":" ∷ decimal (length r.value.main) ∷ []

-- the main data in hexadecimal
abbrev pub main_field : Bool → List ℕ → List ℕ
main_field whole main =
    codes ",\"main\":\"" ++ (hexadecimal (shown_bytes whole main) ++ codes "\"")

-- a time without the word before it
abbrev pub time_field : ℤ → List ℕ
time_field time = joined (codes ",\"time\":\"" ∷ drop 4 (time_text time) ∷ codes "\"" ∷ [])

-- an image: whether redo applies it, its hole, and how many bytes it has without
abbrev pub image_field : Option Image → List (List ℕ)
image_field None = []
image_field (Some image) =
    codes ",\"image\":{\"apply\":" ∷ (if image.apply then codes "true" else codes "false")
    ∷ codes ",\"hole_offset\":" ∷ decimal image.hole_offset
    ∷ codes ",\"hole_len\":" ∷ decimal image.hole_len
    ∷ codes ",\"len\":" ∷ decimal (length image.bytes) ∷ codes "}" ∷ []

-- a reference to a block up to its image
abbrev pub block_head : Block → List (List ℕ)
block_head b =
    codes "{\"id\":" ∷ decimal b.id ∷ codes ",\"spc\":" ∷ decimal b.rel.spc
    ∷ codes ",\"db\":" ∷ decimal b.rel.db ∷ codes ",\"rel\":" ∷ decimal b.rel.rel
    ∷ codes ",\"fork\":\"" ∷ slice_index_or fork_names b.fork []
    ∷ codes "\",\"blk\":" ∷ decimal b.blk
    ∷ codes ",\"data_len\":" ∷ decimal (length b.content) ∷ []

abbrev pub block_object : Block → List ℕ
block_object b = joined (block_head b) ++ joined (image_field b.image) ++ codes "}"

-- objects of blocks, this before the first and a comma before each other
abbrev pub blocks_behind : List ℕ → List Block → List ℕ
blocks_behind before [] = []
blocks_behind before (b ∷ bs) = before ++ (block_object b ++ blocks_behind (codes ",") bs)

abbrev pub blocks_field : List Block → List ℕ
blocks_field blocks = codes ",\"blocks\":[" ++ (blocks_behind [] blocks ++ codes "]}\n")

-- a record's object
abbrev pub object_text : Bool → Listed → List ℕ
object_text whole r =
    joined (object_head r)
    ++ (main_field whole r.value.main
    ++ (option_map_or time_field (ended_time r.value) [] ++ blocks_field r.value.blocks))

-- A record's bytes read as they are stored: an image may be compressed, and is not unpacked
-- (PostgreSQL's DecodeXLogRecord of xlogreader.c). All else is read as in Reading.
use Rattle.std.specs.Prelude.{ℕ, zero, suc, ◌+◌, Bool, ◌&&◌, ◌||◌, not, List, [], ◌∷◌, ◌++◌, length, drop, slice_index, Option, Some, None, Result, Ok, Err, ◌==◌, nat_lt, nat_le, if◌then◌else◌}
use Rattle.std.specs.Int.{w16, w32}
use Rattle.wal_types.specs.declared.record.Record.{Record}
use Rattle.wal_record.specs.declared.head.BlockHead.{BlockHead}
use Rattle.wal_record.specs.declared.head.ImageHead.{ImageHead}
use Rattle.wal_record.specs.declared.fault.RecErr.{RecErr}
use Rattle.wal_record.specs.declared.fault.RecErr.TheVariants.{Malformed}
use Rattle.wal_record.specs.declared.fault.RecKind.TheVariants as kinds
use Rattle.wal_spelling.specs.Layout.{data_page_size, manager_offset, origin_tag, record_header_size, size_offset, top_xid_tag}
use Rattle.wal_spelling.specs.Numbers.{number_at}
use Rattle.wal_spelling.specs.Record.{is_free_manager}
use Rattle.wal_record.specs.Reading.{◌>>=◌, HeaderCursor, HeadersRead, ItemRead, begins_block, checked, cut_row, fork_item, has_header, headers_to, image_flags, image_item, least_id, main_item, number_item, optional_item, payload_len, record_of, relation_item, skip, start_of_headers}

-- the length of a compressed image's hole, which is told behind the image's header
unfoldable pub hole_item : Bool → HeaderCursor → Result (ItemRead ℕ) RecErr
hole_item has s =
    if has
    then checked (cut_row 2 s ∷ []) (record { value = number_at w16 s.rest 0; next = skip 2 s })
    else Ok (record { value = 0; next = s })

-- whether a compressed image's hole is not one: it begins behind the page's first byte, and has a
-- length; without one both are 0
abbrev pub is_no_hole : ℕ → ℕ → Bool → Bool
is_no_hole hole_offset hole_len has_hole =
    if has_hole then (hole_offset == 0) || (hole_len == 0) else not (hole_offset == 0)

-- an image as it is stored: that of a page, or a compressed one, which is shorter than a page
unfoldable pub stored_image_item : Bool → ℕ → HeaderCursor
    → Result (ItemRead (Option ImageHead)) RecErr
stored_image_item has id s =
    let len = number_at w16 s.rest 0 in
    let hole_offset = number_at w16 s.rest 2 in
    let flags = image_flags (slice_index s.rest 4) in
    if not has then Ok (record { value = None; next = s })
    else (if nat_lt (length s.rest) 5 then Err (Malformed s.at kinds.Short)
    else (if not flags.compressed then image_item has id s
    else (if nat_le data_page_size len || flags.unknown then Err (Malformed s.at kinds.Image)
    else (hole_item flags.has_hole (skip 5 s) >>= λ hole.
    let head : ImageHead = record {
      apply = flags.apply;
      hole_offset = hole_offset;
      hole_len = hole.value;
      len = len;
    } in
    if is_no_hole hole_offset hole.value flags.has_hole then Err (Malformed s.at kinds.Image)
    else Ok (record { value = Some head; next = hole.next })))))

-- a block's header with such an image, behind that of the block before
unfoldable pub stored_block_item : Option BlockHead → HeaderCursor
    → Result (ItemRead BlockHead) RecErr
stored_block_item before s =
    if nat_lt (slice_index s.rest 0) (least_id before) then Err (Malformed s.at kinds.Order)
    else (fork_item (skip 1 s) >>= λ fork.
    stored_image_item fork.value.0.has_image (slice_index s.rest 0) fork.next >>= λ image.
    relation_item fork.value.0.same before image.next >>= λ rel.
    number_item rel.next >>= λ blk.
    let head : BlockHead = record {
      id = slice_index s.rest 0;
      rel = rel.value;
      fork = fork.value.0.fork;
      blk = blk.value;
      will_init = fork.value.0.will_init;
      image = image.value;
      content_len = fork.value.1;
    } in
    let owed = s.owed + payload_len head in
    let behind : HeaderCursor = record { at = blk.next.at; rest = blk.next.rest; owed = owed } in
    Ok (record { value = head; next = behind }))

-- those that stand here, at most n, behind those that were read
unfoldable pub stored_block_items : ℕ → Option BlockHead → List BlockHead → HeaderCursor
    → Result (ItemRead (List BlockHead)) RecErr
stored_block_items zero before heads s = Ok (record { value = heads; next = s })
stored_block_items (suc n) before heads s =
    if has_header s && begins_block s.rest then
    (stored_block_item before s >>= λ block.
    stored_block_items n (Some block.value) (heads ++ block.value ∷ []) block.next)
    else Ok (record { value = heads; next = s })

-- the headers behind the record's own
unfoldable pub stored_headers_of : HeaderCursor → Result HeadersRead RecErr
stored_headers_of s = do
  blocks ← stored_block_items (length s.rest) None [] s
  origin ← optional_item origin_tag w16 blocks.next
  top ← optional_item top_xid_tag w32 origin.next
  end ← main_item top.next
  headers_to end blocks.value origin.value top.value

-- a record's bytes as they are stored: images have the bytes that there are for them
unfoldable pub stored_of : List ℕ → Result Record RecErr
stored_of bytes =
    let is_short = nat_lt (length bytes) record_header_size in
    let is_counted = number_at w32 bytes size_offset == length bytes in
    if is_short || not is_counted then Err (Malformed size_offset kinds.Length)
    else (if is_free_manager (slice_index bytes manager_offset) then
    Err (Malformed manager_offset kinds.Rmgr)
    else (stored_headers_of (start_of_headers (drop record_header_size bytes)) >>= λ headers.
    Ok (record_of bytes headers)))

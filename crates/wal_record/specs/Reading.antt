-- Reading a record's bytes from left to right, with the first check that fails (PostgreSQL's
-- DecodeXLogRecord of xlogreader.c).
use Rattle.std.specs.Prelude.{◌≡◌, ℕ, zero, suc, ◌+◌, ◌-◌, ◌/◌, ◌%◌, Bool, true, false, ◌&&◌, ◌||◌, not, List, [], ◌∷◌, ◌++◌, length, take, drop, slice_index, Option, Some, None, option_map, Result, Ok, Err, ◌==◌, nat_lt, nat_le, if◌then◌else◌}
use Rattle.std.specs.Int.{Width, w16, w32, byte_len}
use Rattle.wal_types.specs.declared.record.Record.{Record}
use Rattle.wal_types.specs.declared.record.Block.{Block}
use Rattle.wal_types.specs.declared.record.Image.{Image}
use Rattle.wal_types.specs.declared.record.Rel.{Rel}
use Rattle.wal_record.specs.declared.head.BlockHead.{BlockHead}
use Rattle.wal_record.specs.declared.head.ForkFlags.{ForkFlags}
use Rattle.wal_record.specs.declared.head.ImageFlags.{ImageFlags}
use Rattle.wal_record.specs.declared.head.ImageHead.{ImageHead}
use Rattle.wal_record.specs.declared.fault.RecErr.{RecErr}
use Rattle.wal_record.specs.declared.fault.RecErr.TheVariants.{Memory, Malformed, Compressed}
use Rattle.wal_record.specs.declared.fault.RecKind.TheVariants as kinds
use Rattle.wal_spelling.specs.Layout.{data_page_size, info_offset, last_block_id, last_fork, long_main_tag, manager_offset, origin_tag, record_header_size, short_main_tag, size_offset, top_xid_tag, xid_offset}
use Rattle.wal_spelling.specs.Numbers.{number_at}
use Rattle.wal_spelling.specs.Record.{is_free_manager}

infixl 10 ◌>>=◌
abbrev pub ◌>>=◌ : {A B : Type 0} → Result A RecErr → (A → Result B RecErr) → Result B RecErr
(Ok x) >>= f = f x
(Err e) >>= f = Err e

-- whether an item begins with this byte
abbrev pub begins_with : ℕ → List ℕ → Bool
begins_with tag [] = false
begins_with tag (b ∷ bs) = b == tag

-- whether an item begins with a block's number
abbrev pub begins_block : List ℕ → Bool
begins_block [] = false
begins_block (b ∷ bs) = nat_le b last_block_id

-- where a reader of the headers stands: the offset, the bytes from there on, and how many bytes of
-- payload are owed
pub record HeaderCursor : Type 0 where
  pub at : ℕ
  pub rest : List ℕ
  pub owed : ℕ

-- what was read, and where the reader stands then
pub record ItemRead (X : Type 0) : Type 0 where
  pub value : X
  pub next : HeaderCursor

abbrev pub skip : ℕ → HeaderCursor → HeaderCursor
skip n s = record { at = s.at + n; rest = drop n s.rest; owed = s.owed }

-- whether another header stands here: more is left than is owed
abbrev pub has_header : HeaderCursor → Bool
has_header s = nat_lt s.owed (length s.rest)

-- a table of checks in their order, each with the error that is told where it fails
abbrev pub Checks : Type 0
Checks = List (Bool × RecErr)

-- the error of the first check that fails, or what was read
abbrev pub checked : {X : Type 0} → Checks → X → Result X RecErr
checked [] x = Ok x
checked (row ∷ rows) x = if row.0 then Err row.1 else checked rows x

-- a group of n bytes that is cut short is told where it begins
abbrev pub cut_row : ℕ → HeaderCursor → Bool × RecErr
cut_row n s = (nat_lt (length s.rest) n, Malformed s.at kinds.Short)

-- ---- a block's header

-- the flags of a block's fork byte
abbrev pub fork_flags : ℕ → ForkFlags
fork_flags byte = record {
  fork = byte % 16;
  has_image = byte / 16 % 2 == 1;
  has_data = byte / 32 % 2 == 1;
  will_init = byte / 64 % 2 == 1;
  same = byte / 128 % 2 == 1;
}

-- the fork is one of four, and there is data exactly where its length is not 0
abbrev pub fork_checks : HeaderCursor → Checks
fork_checks s =
    let flags = fork_flags (slice_index s.rest 0) in
    let len = number_at w16 s.rest 1 in
    cut_row 3 s
    ∷ (nat_lt last_fork flags.fork, Malformed s.at kinds.Fork)
    ∷ ((if flags.has_data then len == 0 else nat_lt 0 len), Malformed s.at kinds.Data)
    ∷ []

unfoldable pub fork_item : HeaderCursor → Result (ItemRead (ForkFlags × ℕ)) RecErr
fork_item s =
    let said : ForkFlags × ℕ = (fork_flags (slice_index s.rest 0), number_at w16 s.rest 1) in
    checked (fork_checks s) (record { value = said; next = skip 3 s })

-- the flags of an image's header; three bits tell how it is compressed, and three mean nothing
abbrev pub image_flags : ℕ → ImageFlags
image_flags byte = record {
  has_hole = byte % 2 == 1;
  apply = byte / 2 % 2 == 1;
  compressed = nat_lt 0 (byte / 4 % 8);
  unknown = nat_le 32 byte;
}

-- what it says
abbrev pub image_head_of : ℕ → ℕ → ℕ → ImageHead
image_head_of len hole_offset info = record {
  apply = (image_flags info).apply;
  hole_offset = hole_offset;
  hole_len = data_page_size - len;
  len = len;
}

-- whether the hole is not one of a page
abbrev pub is_wrong_hole : ℕ → ℕ → Bool → Bool
is_wrong_hole len hole_offset has_hole =
    let hole_end = hole_offset + (data_page_size - len) in
    if has_hole then
    (hole_offset == 0) || (len == data_page_size) || nat_lt data_page_size hole_end
    else not ((hole_offset == 0) && (len == data_page_size))

-- an image is that of a page, and not compressed
abbrev pub image_checks : ℕ → HeaderCursor → Checks
image_checks id s =
    let len = number_at w16 s.rest 0 in
    let hole_offset = number_at w16 s.rest 2 in
    let flags = image_flags (slice_index s.rest 4) in
    cut_row 5 s
    ∷ (nat_lt data_page_size len || flags.unknown, Malformed s.at kinds.Image)
    ∷ (flags.compressed, Compressed id)
    ∷ (is_wrong_hole len hole_offset flags.has_hole, Malformed s.at kinds.Image)
    ∷ []

unfoldable pub image_item : Bool → ℕ → HeaderCursor → Result (ItemRead (Option ImageHead)) RecErr
image_item has id s =
    let info = slice_index s.rest 4 in
    let head = image_head_of (number_at w16 s.rest 0) (number_at w16 s.rest 2) info in
    if has then checked (image_checks id s) (record { value = Some head; next = skip 5 s })
    else Ok (record { value = None; next = s })

-- the relation, spelled here or that of the block before
unfoldable pub relation_item : Bool → Option BlockHead → HeaderCursor → Result (ItemRead Rel) RecErr
relation_item true None s = Err (Malformed s.at kinds.Same)
relation_item true (Some before) s = Ok (record { value = before.rel; next = s })
relation_item false before s =
    let number = number_at w32 s.rest in
    let rel : Rel = record { spc = number 0; db = number 4; rel = number 8 } in
    checked (cut_row 12 s ∷ []) (record { value = rel; next = skip 12 s })

unfoldable pub number_item : HeaderCursor → Result (ItemRead ℕ) RecErr
number_item s =
    checked (cut_row 4 s ∷ []) (record { value = number_at w32 s.rest 0; next = skip 4 s })

-- the least number that a block may have behind another
abbrev pub least_id : Option BlockHead → ℕ
least_id None = 0
least_id (Some before) = before.id + 1

-- how many bytes of payload a block's header promises
abbrev pub image_len : Option ImageHead → ℕ
image_len None = 0
image_len (Some i) = i.len

abbrev pub payload_len : BlockHead → ℕ
payload_len h = image_len h.image + h.content_len

-- a block's header, behind that of the block before
unfoldable pub block_item : Option BlockHead → HeaderCursor → Result (ItemRead BlockHead) RecErr
block_item before s =
    if nat_lt (slice_index s.rest 0) (least_id before) then Err (Malformed s.at kinds.Order)
    else (fork_item (skip 1 s) >>= λ fork.
    image_item fork.value.0.has_image (slice_index s.rest 0) fork.next >>= λ image.
    relation_item fork.value.0.same before image.next >>= λ rel.
    number_item rel.next >>= λ blk.
    let head : BlockHead = record {
      id = slice_index s.rest 0;
      rel = rel.value;
      fork = fork.value.0.fork;
      blk = blk.value;
      will_init = fork.value.0.will_init;
      image = image.value;
      content_len = fork.value.1;
    } in
    let owed = s.owed + payload_len head in
    let behind : HeaderCursor = record { at = blk.next.at; rest = blk.next.rest; owed = owed } in
    Ok (record { value = head; next = behind }))

-- the headers of blocks that stand here, at most n, behind those that were read
unfoldable pub block_items : ℕ → Option BlockHead → List BlockHead → HeaderCursor
    → Result (ItemRead (List BlockHead)) RecErr
block_items zero before heads s = Ok (record { value = heads; next = s })
block_items (suc n) before heads s =
    if has_header s && begins_block s.rest then
    (block_item before s >>= λ block.
    block_items n (Some block.value) (heads ++ block.value ∷ []) block.next)
    else Ok (record { value = heads; next = s })

-- ---- the other items

-- an item of a tag and a number, where it stands here; where it is cut short, the place of the
-- number is told
unfoldable pub optional_item : ℕ → Width → HeaderCursor → Result (ItemRead (Option ℕ)) RecErr
optional_item tag w s =
    if has_header s && begins_with tag s.rest then
    (if nat_lt (length s.rest) (1 + byte_len w) then Err (Malformed (s.at + 1) kinds.Short)
    else Ok (record { value = Some (number_at w s.rest 1); next = skip (1 + byte_len w) s }))
    else Ok (record { value = None; next = s })

-- behind the main data's header, which ends the headers
abbrev pub owing_more : ℕ → HeaderCursor → HeaderCursor
owing_more len s = record { at = s.at; rest = s.rest; owed = s.owed + len }

-- the main data's header: none, a short one (with a byte of length) or a long one (with four); no
-- other item may stand here any more
unfoldable pub main_item : HeaderCursor → Result HeaderCursor RecErr
main_item s =
    if not (has_header s) then Ok s
    else (if begins_with short_main_tag s.rest then
    (if nat_lt (length s.rest) 2 then Err (Malformed (s.at + 1) kinds.Short)
    else Ok (owing_more (slice_index s.rest 1) (skip 2 s)))
    else (if begins_with long_main_tag s.rest then
    (if nat_lt (length s.rest) 5 then Err (Malformed (s.at + 1) kinds.Short)
    else Ok (owing_more (number_at w32 s.rest 1) (skip 5 s)))
    else (if begins_with origin_tag s.rest
    || begins_with top_xid_tag s.rest
    || begins_block s.rest
    then Err (Malformed s.at kinds.Order)
    else Err (Malformed s.at kinds.Id))))

-- ---- the payload: each block's image, then its data, and the main data last

abbrev pub image_read : Option ImageHead → List ℕ → Option Image
image_read None bytes = None
image_read (Some i) bytes = Some (record {
  apply = i.apply;
  hole_offset = i.hole_offset;
  hole_len = i.hole_len;
  bytes = bytes;
})

abbrev pub block_of : BlockHead → List ℕ → Block
block_of h bytes = record {
  id = h.id;
  rel = h.rel;
  fork = h.fork;
  blk = h.blk;
  will_init = h.will_init;
  content = drop (image_len h.image) bytes;
  image = image_read h.image (take (image_len h.image) bytes);
}

abbrev pub blocks_read : List BlockHead → List ℕ → List Block
blocks_read [] payload = []
blocks_read (h ∷ hs) payload =
    block_of h (take (payload_len h) payload) ∷ blocks_read hs (drop (payload_len h) payload)

abbrev pub main_of : List BlockHead → List ℕ → List ℕ
main_of [] payload = payload
main_of (h ∷ hs) payload = main_of hs (drop (payload_len h) payload)

-- ---- a record

-- what a record's headers say: those of its blocks, its origin, its top-level transaction; and the
-- payload behind them
pub record HeadersRead : Type 0 where
  pub blocks : List BlockHead
  pub origin : Option ℕ
  pub top_xid : Option ℕ
  pub payload : List ℕ

-- what the headers say that end here: just the payload is left that they owe
abbrev pub headers_to : HeaderCursor → List BlockHead → Option ℕ → Option ℕ
    → Result HeadersRead RecErr
headers_to end blocks origin top =
    if length end.rest == end.owed then
    Ok (record { blocks = blocks; origin = origin; top_xid = top; payload = end.rest })
    else Err (Malformed end.at kinds.Fill)

-- the headers behind the record's own
unfoldable pub headers_of : HeaderCursor → Result HeadersRead RecErr
headers_of s = do
  blocks ← block_items (length s.rest) None [] s
  origin ← optional_item origin_tag w16 blocks.next
  top ← optional_item top_xid_tag w32 origin.next
  end ← main_item top.next
  headers_to end blocks.value origin.value top.value

-- the record of these headers
abbrev pub record_of : List ℕ → HeadersRead → Record
record_of bytes h = record {
  xid = record { 0 = number_at w32 bytes xid_offset };
  rmid = slice_index bytes manager_offset;
  info = slice_index bytes info_offset;
  origin = h.origin;
  top_xid = option_map (λ n. record { 0 = n }) h.top_xid;
  blocks = blocks_read h.blocks h.payload;
  main = main_of h.blocks h.payload;
}

-- a reader of the headers as it begins, with the bytes behind the record's own
abbrev pub start_of_headers : List ℕ → HeaderCursor
start_of_headers bytes = record { at = record_header_size; rest = bytes; owed = 0 }

-- what stands behind a record's header
unfoldable pub items_of : List ℕ → Result Record RecErr
items_of bytes = do
  headers ← headers_of (start_of_headers (drop record_header_size bytes))
  Ok (record_of bytes headers)

-- a record's bytes: its first number is their count, its manager is one that there may be, and its
-- items fill it
unfoldable pub reading_of : List ℕ → Result Record RecErr
reading_of bytes =
    let is_short = nat_lt (length bytes) record_header_size in
    let is_counted = number_at w32 bytes size_offset == length bytes in
    if is_short || not is_counted then Err (Malformed size_offset kinds.Length)
    else (if is_free_manager (slice_index bytes manager_offset) then
    Err (Malformed manager_offset kinds.Rmgr)
    else items_of bytes)

-- the reading's answer, where it is an error that a call answered; a want of memory says nothing
abbrev pub TellsErrorOf : {Y : Type 0} → RecErr → Result Y RecErr → Type 0
TellsErrorOf Memory reading = Unit {0}
TellsErrorOf (Malformed at kind) reading = reading ≡ Err (Malformed at kind)
TellsErrorOf (Compressed block) reading = reading ≡ Err (Compressed block)

-- what a call answered, seen by `view`, is what the reading gives, unless memory ran out
abbrev pub GivesAs : {X Y : Type 0} → (X → Y) → Result X RecErr → Result Y RecErr → Type 0
GivesAs view (Ok x) reading = reading ≡ Ok (view x)
GivesAs view (Err e) reading = TellsErrorOf e reading

-- what a call answered is what the reading gives, unless memory ran out
abbrev pub GivesReading : Result Record RecErr → Result Record RecErr → Type 0
GivesReading = GivesAs (λ r. r)

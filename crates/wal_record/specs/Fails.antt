-- The first check of a record's bytes that fails, and where.
--
-- A record's first number is the count of its bytes, its manager is one that there may be, and
-- behind its header stand the headers of its items (Spelling of wal_spelling has the layout).
-- Whole items are spelled (`ReachesItem`) up to one that breaks a check (`BreaksItem`), or up to
-- the last, behind which something else is left than the payload that they promise (`LeavesFill`).
-- The checks of an item stand here by offsets in the record's bytes, apart from the reading.
use Rattle.std.specs.Prelude.{◌≡◌, ◌≢◌, ℕ, ◌+◌, ◌-◌, ◌/◌, ◌%◌, ◌^◌, ◌<◌, ◌≤◌, ◌⊎◌, Bool, true, false, ◌&&◌, ◌||◌, not, IsTrue, List, [], ◌∷◌, ◌++◌, length, drop, slice_index, Option, Some, None, is_some, ◌==◌, nat_lt, nat_le, if◌then◌else◌}
use Rattle.std.specs.Int.{w16, w32, to_le_bytes}
use Rattle.std.specs.List.{sum_by}
use Rattle.wal_record.specs.declared.head.BlockHead.{BlockHead}
use Rattle.wal_record.specs.declared.fault.RecErr.{RecErr}
use Rattle.wal_record.specs.declared.fault.RecErr.TheVariants.{Memory, Malformed, Compressed}
use Rattle.wal_record.specs.declared.fault.RecKind.TheVariants as kinds
use Rattle.wal_spelling.specs.Checks.{first_fault}
use Rattle.wal_spelling.specs.Layout.{data_page_size, last_block_id, last_fork, long_main_tag, manager_offset, origin_tag, record_header_size, short_main_tag, size_offset, top_xid_tag}
use Rattle.wal_spelling.specs.Record.{is_free_manager}
use Rattle.wal_spelling.specs.Numbers.{number_at}
use Rattle.wal_spelling.specs.Spelling.{main_header}
use Rattle.wal_record.specs.Reading.{Checks, HeaderCursor, least_id, payload_len}
use Rattle.wal_record.specs.Items.{Items, SpellsItems, StandsBehind, head_text}

-- ---- the checks of one item, in their order; `at` is its offset in the record's bytes

-- fewer than n bytes are left at an offset
abbrev pub is_cut_at : List ℕ → ℕ → ℕ → Bool
is_cut_at bytes at n = nat_lt (length bytes) (at + n)

-- a fork with its flags, and the length of the block's data: the fork is one of four, and there is
-- data (flag 32) exactly where its length is not 0
abbrev pub fork_rows : List ℕ → ℕ → Checks
fork_rows bytes at =
    let flags = slice_index bytes at in
    let len = number_at w16 bytes (at + 1) in
    (is_cut_at bytes at 3, Malformed at kinds.Short)
    ∷ (nat_lt last_fork (flags % 16), Malformed at kinds.Fork)
    ∷ ((if flags / 32 % 2 == 1 then len == 0 else nat_lt 0 len), Malformed at kinds.Data)
    ∷ []

-- an image's length, its hole's offset and its flags: it is that of a page, not compressed (flags
-- 4, 8 and 16), and its hole (flag 1) lies within the page, behind its first byte
abbrev pub image_rows : ℕ → List ℕ → ℕ → Checks
image_rows block bytes at =
    let len = number_at w16 bytes at in
    let hole_offset = number_at w16 bytes (at + 2) in
    let flags = slice_index bytes (at + 4) in
    let hole_end = hole_offset + (data_page_size - len) in
    let no_hole = (hole_offset == 0) && (len == data_page_size) in
    let wrong_hole =
    (hole_offset == 0) || (len == data_page_size) || nat_lt data_page_size hole_end in
    (is_cut_at bytes at 5, Malformed at kinds.Short)
    ∷ (nat_lt data_page_size len || nat_le 32 flags, Malformed at kinds.Image)
    ∷ (nat_lt 0 (flags / 4 % 8), Compressed block)
    ∷ ((if flags % 2 == 1 then wrong_hole else not no_hole), Malformed at kinds.Image)
    ∷ []

-- the relation is spelled, or there is a block before that has it
abbrev pub relation_rows : Bool → Option BlockHead → List ℕ → ℕ → Checks
relation_rows true None bytes at = (true, Malformed at kinds.Same) ∷ []
relation_rows true (Some before) bytes at = []
relation_rows false before bytes at = (is_cut_at bytes at 12, Malformed at kinds.Short) ∷ []

-- a block's header behind that of the block before: its number, its fork and data, its image (flag
-- 16), its relation (unless flag 128 says that the block before has it), and its block number
abbrev pub block_rows : Option BlockHead → List ℕ → ℕ → Checks
block_rows before bytes at =
    let id = slice_index bytes at in
    let flags = slice_index bytes (at + 1) in
    let has_image = flags / 16 % 2 == 1 in
    let same = flags / 128 % 2 == 1 in
    let image = at + 1 + 3 in
    let relation = if has_image then image + 5 else image in
    let number = if same then relation else relation + 12 in
    (nat_lt id (least_id before), Malformed at kinds.Order)
    ∷ fork_rows bytes (at + 1)
    ++ (if has_image then image_rows id bytes image else [])
    ++ relation_rows same before bytes relation
    ++ (is_cut_at bytes number 4, Malformed number kinds.Short) ∷ []

-- the last of some blocks
abbrev pub last_of : Option BlockHead → List BlockHead → Option BlockHead
last_of before [] = before
last_of before (h ∷ hs) = last_of (Some h) hs

-- an item that is cut short behind its first byte
abbrev pub cut_behind_row : List ℕ → ℕ → ℕ → Bool × RecErr
cut_behind_row bytes at n = (is_cut_at bytes at n, Malformed (at + 1) kinds.Short)

-- the item that stands behind others: by its first byte a block, an origin, a top-level
-- transaction, main data in its two forms, or none of them; blocks stand before the origin, and
-- both before the top-level transaction
abbrev pub item_rows : Items → List ℕ → ℕ → Checks
item_rows items bytes at =
    let first = slice_index bytes at in
    let is_late = is_some items.origin || is_some items.top_xid in
    let before = last_of None items.blocks in
    if nat_le first last_block_id then
    (is_late, Malformed at kinds.Order) ∷ block_rows before bytes at
    else (if first == origin_tag then
    (is_late, Malformed at kinds.Order) ∷ cut_behind_row bytes at 3 ∷ []
    else (if first == top_xid_tag then
    (is_some items.top_xid, Malformed at kinds.Order) ∷ cut_behind_row bytes at 5 ∷ []
    else (if first == short_main_tag then cut_behind_row bytes at 2 ∷ []
    else (if first == long_main_tag then cut_behind_row bytes at 5 ∷ []
    else (true, Malformed at kinds.Id) ∷ []))))

-- ---- the causes

-- the bytes have a header, whose first number is their count
pub record HasLength (bytes : List ℕ) : Type 0 where
  pub long : record_header_size ≤ length bytes
  pub counted : number_at w32 bytes size_offset ≡ length bytes

-- and its manager is one that there may be
pub record HasHead (bytes : List ℕ) : Type 0 where
  pub length_is : HasLength bytes
  pub manager : IsTrue (not (is_free_manager (slice_index bytes manager_offset)))

-- whole items, none of them main data, fill the bytes behind the header up to this place, and more
-- is left there than they owe
pub record ReachesItem (bytes : List ℕ) (items : Items) (s : HeaderCursor) : Type 0 where
  pub text : List ℕ
  pub spelled : SpellsItems items text
  pub rest_is : drop record_header_size bytes ≡ text ++ s.rest
  pub at_is : s.at ≡ record_header_size + length text
  pub owed_is : s.owed ≡ sum_by payload_len items.blocks
  pub more : s.owed < length s.rest

-- the item behind whole items breaks a check, this being the first
pub record BreaksItem (bytes : List ℕ) (e : RecErr) : Type 0 where
  pub items : Items
  pub place : HeaderCursor
  pub reaches : ReachesItem bytes items place
  pub breaks : first_fault (item_rows items bytes place.at) ≡ Some e

-- these bytes are one more item behind others, which promises so much payload: a block, an origin,
-- a top-level transaction
pub record NextBlock (items : Items) (text : List ℕ) (promised : ℕ) : Type 0 where
  pub no_origin : items.origin ≡ None
  pub no_top_xid : items.top_xid ≡ None
  pub same : Bool
  pub head : BlockHead
  pub stands : StandsBehind (last_of None items.blocks) same head
  pub spelled : text ≡ head_text same head
  pub promises : promised ≡ payload_len head

pub record NextOrigin (items : Items) (text : List ℕ) (promised : ℕ) : Type 0 where
  pub no_origin : items.origin ≡ None
  pub no_top_xid : items.top_xid ≡ None
  pub number : ℕ
  pub fits : number < 2 ^ 16
  pub spelled : text ≡ origin_tag ∷ to_le_bytes w16 number
  pub promises : promised ≡ 0

pub record NextTopXid (items : Items) (text : List ℕ) (promised : ℕ) : Type 0 where
  pub no_top_xid : items.top_xid ≡ None
  pub number : ℕ
  pub fits : number < 2 ^ 32
  pub spelled : text ≡ top_xid_tag ∷ to_le_bytes w32 number
  pub promises : promised ≡ 0

-- the header of main data, in either form
abbrev pub IsMainHead : List ℕ → ℕ → Type 0
IsMainHead text len =
    ((len < 256) × (text ≡ main_header true len))
    ⊎ ((len < 2 ^ 32) × (text ≡ main_header false len))

-- the headers end behind this item: it is that of main data, or no more is left than is owed
abbrev pub EndsHeaders : Items → List ℕ → ℕ → ℕ → ℕ → Type 0
EndsHeaders items text promised left owed =
    IsMainHead text promised
    ⊎ ((left ≤ owed)
    × (NextBlock items text promised
    ⊎ (NextOrigin items text promised ⊎ NextTopXid items text promised)))

-- behind the item where the headers end, what is left is not what is owed
pub record LeavesFill (bytes : List ℕ) (e : RecErr) : Type 0 where
  pub items : Items
  pub place : HeaderCursor
  pub reaches : ReachesItem bytes items place
  pub text : List ℕ
  pub promised : ℕ
  pub rest : List ℕ
  pub rest_is : place.rest ≡ text ++ rest
  pub ends : EndsHeaders items text promised (length rest) (place.owed + promised)
  pub wrong : length rest ≢ place.owed + promised
  pub told : e ≡ Malformed (place.at + length text) kinds.Fill

-- the first of four causes for which bytes are no record
abbrev pub FailsAt : List ℕ → RecErr → Type 0
FailsAt bytes e =
    ((HasLength bytes → ⊥) × (e ≡ Malformed size_offset kinds.Length))
    ⊎ ((HasLength bytes
    × IsTrue (is_free_manager (slice_index bytes manager_offset))
    × (e ≡ Malformed manager_offset kinds.Rmgr))
    ⊎ (HasHead bytes × (BreaksItem bytes e ⊎ LeavesFill bytes e)))

-- an error that a call answered is the first cause; a want of memory says nothing
abbrev pub TellsFirstFault : List ℕ → RecErr → Type 0
TellsFirstFault bytes Memory = Unit {0}
TellsFirstFault bytes (Malformed at kind) = FailsAt bytes (Malformed at kind)
TellsFirstFault bytes (Compressed block) = FailsAt bytes (Compressed block)

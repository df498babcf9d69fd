-- The checks of one item as the reading meets them, at its cursor, are those at its offset in the record's bytes.
use Rattle.std.proofs.Common.{◌≡◌, ℕ, ◌+◌, ◌-◌, ◌/◌, ◌%◌, ◌<◌, Bool, true, false, ◌&&◌, ◌||◌, not, List, [], ◌∷◌, ◌++◌, length, get_or, take, drop, Option, Some, None, refl, sym, ap, ◌∙◌, arith, inl, inr, ltb}
use Rattle.std.specs.Prelude.{slice_index, is_some, nat_lt, nat_le, ◌==◌, if◌then◌else◌}
use Rattle.std.specs.Int.{Width, w16, byte_len, from_le_bytes}
use Rattle.std.proofs.lemmas.Bool.{cases_Bool, lt-ltb, le-ltb, ltb-true, ltb-false}
use Rattle.std.proofs.lemmas.List.{drop-drop, get_or-drop, length-drop}
use Rattle.wal_spelling.specs.Numbers.{number_at}
use Rattle.wal_record.specs.declared.fault.RecErr.{RecErr}
use Rattle.wal_record.specs.declared.fault.RecErr.TheVariants.{Malformed, Compressed}
use Rattle.wal_record.specs.declared.fault.RecKind.TheVariants as kinds
use Rattle.wal_record.specs.declared.head.BlockHead.{BlockHead}
use Rattle.wal_record.specs.Reading.{Checks, HeaderCursor, begins_block, begins_with, fork_checks, fork_flags, image_checks, cut_row, least_id, skip}
use Rattle.wal_record.specs.Items.{Items}
use Rattle.wal_record.specs.Fails.{block_rows, fork_rows, image_rows, is_cut_at, item_rows, last_of, relation_rows}

-- ---- the checks at the cursor

abbrev pub relation_checks : Bool → Option BlockHead → HeaderCursor → Checks
relation_checks true None s = (true, Malformed s.at kinds.Same) ∷ []
relation_checks true (Some before) s = []
relation_checks false before s = cut_row 12 s ∷ []

abbrev pub block_checks : Option BlockHead → HeaderCursor → Checks
block_checks before s =
    let flags = fork_flags (slice_index (skip 1 s).rest 0) in
    let image = skip 3 (skip 1 s) in
    let relation = if flags.has_image then skip 5 image else image in
    let number = if flags.same then relation else skip 12 relation in
    (nat_lt (slice_index s.rest 0) (least_id before), Malformed s.at kinds.Order) ∷ fork_checks (skip 1 s) ++ (if flags.has_image then image_checks (slice_index s.rest 0) image else []) ++ relation_checks flags.same before relation ++ cut_row 4 number ∷ []

abbrev pub is_cut_behind : ℕ → HeaderCursor → Bool × RecErr
is_cut_behind n s = (nat_lt (length s.rest) n, Malformed (s.at + 1) kinds.Short)

abbrev pub item_checks : Items → HeaderCursor → Checks
item_checks items s =
    if begins_block s.rest then (is_some items.origin || is_some items.top_xid, Malformed s.at kinds.Order) ∷ block_checks (last_of None items.blocks) s
    else (if begins_with 253 s.rest then (is_some items.origin || is_some items.top_xid, Malformed s.at kinds.Order) ∷ is_cut_behind 3 s ∷ []
    else (if begins_with 252 s.rest then (is_some items.top_xid, Malformed s.at kinds.Order) ∷ is_cut_behind 5 s ∷ []
    else (if begins_with 255 s.rest then is_cut_behind 2 s ∷ []
    else (if begins_with 254 s.rest then is_cut_behind 5 s ∷ []
    else (true, Malformed s.at kinds.Id) ∷ []))))

-- ---- what is read at a cursor that stands in the record's bytes

abbrev pub StandsIn : List ℕ → HeaderCursor → Type 0
StandsIn bytes s = s.rest ≡ drop s.at bytes

behind : (bytes : List ℕ) (s : HeaderCursor) (n : ℕ) → StandsIn bytes s → StandsIn bytes (skip n s)
behind bytes s n e = ap (drop n) e ∙ drop-drop n s.at bytes

byte_same : (bytes : List ℕ) (s : HeaderCursor) (k : ℕ) → StandsIn bytes s → get_or s.rest k 0 ≡ get_or bytes (s.at + k) 0
byte_same bytes s k e = ap (λ (l : List ℕ). get_or l k 0) e ∙ get_or-drop s.at bytes k 0

first_same : (bytes : List ℕ) (s : HeaderCursor) → StandsIn bytes s → get_or s.rest 0 0 ≡ get_or bytes s.at 0
first_same bytes s e = byte_same bytes s 0 e ∙ ap (λ (n : ℕ). get_or bytes n 0) (omega arith)

number_same : (w : Width) (bytes : List ℕ) (s : HeaderCursor) (k : ℕ) → StandsIn bytes s → number_at w s.rest k ≡ number_at w bytes (s.at + k)
number_same w bytes s k e = ap (λ (l : List ℕ). from_le_bytes w (take (byte_len w) l)) (ap (drop k) e ∙ drop-drop k s.at bytes)

number_first : (w : Width) (bytes : List ℕ) (s : HeaderCursor) → StandsIn bytes s → number_at w s.rest 0 ≡ number_at w bytes s.at
number_first w bytes s e = ap (λ (l : List ℕ). from_le_bytes w (take (byte_len w) l)) e

cut_same : (bytes : List ℕ) (s : HeaderCursor) (n : ℕ) → 0 < n → StandsIn bytes s → ltb (length s.rest) n ≡ is_cut_at bytes s.at n
cut_same bytes s n some e =
    let len : length s.rest ≡ length bytes - s.at = ap length e ∙ length-drop s.at bytes in
    elim (cases_Bool (ltb (length s.rest) n)) [
      | inl few ↦ few ∙ sym (lt-ltb (length bytes) (s.at + n) (omega (arith, ltb-true (length s.rest) n few, len)))
      | inr many ↦ many ∙ sym (le-ltb (length bytes) (s.at + n) (omega (arith, ltb-false (length s.rest) n many, len, some)))
    ]

-- ---- a block's groups

fork_by : ℕ → ℕ → Bool → ℕ → Checks
fork_by flags len cut at =
    (cut, Malformed at kinds.Short)
    ∷ (nat_lt 3 (flags % 16), Malformed at kinds.Fork)
    ∷ ((if flags / 32 % 2 == 1 then len == 0 else nat_lt 0 len), Malformed at kinds.Data)
    ∷ []

fork_same : (bytes : List ℕ) (s : HeaderCursor) → StandsIn bytes s → fork_rows bytes s.at ≡ fork_checks s
unfolding fork_by
fork_same bytes s e =
    sym (ap (λ (flags : ℕ). fork_by flags (number_at w16 s.rest 1) (ltb (length s.rest) 3) s.at) (first_same bytes s e)
    ∙ ap (λ (len : ℕ). fork_by (get_or bytes s.at 0) len (ltb (length s.rest) 3) s.at) (number_same w16 bytes s 1 e)
    ∙ ap (λ (cut : Bool). fork_by (get_or bytes s.at 0) (number_at w16 bytes (s.at + 1)) cut s.at) (cut_same bytes s 3 (omega arith) e))

image_by : ℕ → ℕ → ℕ → ℕ → Bool → ℕ → Checks
image_by block len hole_offset flags cut at =
    (cut, Malformed at kinds.Short)
    ∷ (nat_lt 8192 len || nat_le 32 flags, Malformed at kinds.Image)
    ∷ (nat_lt 0 (flags / 4 % 8), Compressed block)
    ∷ ((if flags % 2 == 1 then (hole_offset == 0) || (len == 8192) || nat_lt 8192 (hole_offset + (8192 - len)) else not ((hole_offset == 0) && (len == 8192))), Malformed at kinds.Image)
    ∷ []

image_same : (block : ℕ) (bytes : List ℕ) (s : HeaderCursor) → StandsIn bytes s → image_rows block bytes s.at ≡ image_checks block s
unfolding image_by
image_same block bytes s e =
    let len = number_at w16 bytes s.at in
    let hole = number_at w16 bytes (s.at + 2) in
    sym (ap (λ (n : ℕ). image_by block n (number_at w16 s.rest 2) (get_or s.rest 4 0) (ltb (length s.rest) 5) s.at) (number_first w16 bytes s e)
    ∙ ap (λ (n : ℕ). image_by block len n (get_or s.rest 4 0) (ltb (length s.rest) 5) s.at) (number_same w16 bytes s 2 e)
    ∙ ap (λ (flags : ℕ). image_by block len hole flags (ltb (length s.rest) 5) s.at) (byte_same bytes s 4 e)
    ∙ ap (λ (cut : Bool). image_by block len hole (get_or bytes (s.at + 4) 0) cut s.at) (cut_same bytes s 5 (omega arith) e))

cut_row_same : (bytes : List ℕ) (s : HeaderCursor) (n : ℕ) → 0 < n → StandsIn bytes s → (let row : Bool × RecErr = (is_cut_at bytes s.at n, Malformed s.at kinds.Short) in row ≡ cut_row n s)
cut_row_same bytes s n some e = ap (λ (cut : Bool). (cut, Malformed s.at kinds.Short)) (sym (cut_same bytes s n some e))

relation_same : (same : Bool) (before : Option BlockHead) (bytes : List ℕ) (s : HeaderCursor) → StandsIn bytes s → relation_rows same before bytes s.at ≡ relation_checks same before s
relation_same true None bytes s e = refl
relation_same true (Some before) bytes s e = refl
relation_same false before bytes s e = ap (λ (row : Bool × RecErr). row ∷ []) (cut_row_same bytes s 12 (omega arith) e)

-- ---- a block

-- from the relation on
abbrev NumberAt : Bool → HeaderCursor → HeaderCursor
NumberAt same relation = if same then relation else skip 12 relation

ends_same : (same : Bool) (before : Option BlockHead) (bytes : List ℕ) (relation : HeaderCursor) → StandsIn bytes relation → (front : Checks)
    → (let number : ℕ = (if same then relation.at else relation.at + 12) in front ++ relation_rows same before bytes relation.at ++ (is_cut_at bytes number 4, Malformed number kinds.Short) ∷ []) ≡ front ++ relation_checks same before relation ++ cut_row 4 (NumberAt same relation) ∷ []
ends_same true before bytes relation e front =
    ap (λ (rows : Checks). front ++ rows ++ (is_cut_at bytes relation.at 4, Malformed relation.at kinds.Short) ∷ []) (relation_same true before bytes relation e)
    ∙ ap (λ (row : Bool × RecErr). front ++ relation_checks true before relation ++ row ∷ []) (cut_row_same bytes relation 4 (omega arith) e)
ends_same false before bytes relation e front =
    ap (λ (rows : Checks). front ++ rows ++ (is_cut_at bytes (relation.at + 12) 4, Malformed (relation.at + 12) kinds.Short) ∷ []) (relation_same false before bytes relation e)
    ∙ ap (λ (row : Bool × RecErr). front ++ relation_checks false before relation ++ row ∷ []) (cut_row_same bytes (skip 12 relation) 4 (omega arith) (behind bytes relation 12 e))

block_at : Bool → Bool → ℕ → Option BlockHead → List ℕ → ℕ → Checks → Checks
block_at has same id before bytes at fork =
    let image = at + 1 + 3 in
    let relation = if has then image + 5 else image in
    let number = if same then relation else relation + 12 in
    (nat_lt id (least_id before), Malformed at kinds.Order) ∷ fork ++ (if has then image_rows id bytes image else []) ++ relation_rows same before bytes relation ++ (is_cut_at bytes number 4, Malformed number kinds.Short) ∷ []

block_by : Bool → Bool → ℕ → Option BlockHead → HeaderCursor → Checks → Checks
block_by has same id before s fork =
    let image = skip 3 (skip 1 s) in
    let relation = if has then skip 5 image else image in
    (nat_lt id (least_id before), Malformed s.at kinds.Order) ∷ fork ++ (if has then image_checks id image else []) ++ relation_checks same before relation ++ cut_row 4 (NumberAt same relation) ∷ []

at_same : (has same : Bool) (id : ℕ) (before : Option BlockHead) (bytes : List ℕ) (s : HeaderCursor) (fork : Checks) → StandsIn bytes s → block_at has same id before bytes s.at fork ≡ block_by has same id before s fork
unfolding block_at block_by
at_same true same id before bytes s fork e =
    let image = skip 3 (skip 1 s) in
    let there = behind bytes (skip 1 s) 3 (behind bytes s 1 e) in
    let order : Bool × RecErr = (nat_lt id (least_id before), Malformed s.at kinds.Order) in
    ends_same same before bytes (skip 5 image) (behind bytes image 5 there) (order ∷ fork ++ image_rows id bytes image.at)
    ∙ ap (λ (rows : Checks). order ∷ fork ++ rows ++ relation_checks same before (skip 5 image) ++ cut_row 4 (NumberAt same (skip 5 image)) ∷ []) (image_same id bytes image there)
at_same false same id before bytes s fork e =
    let image = skip 3 (skip 1 s) in
    let there = behind bytes (skip 1 s) 3 (behind bytes s 1 e) in
    let order : Bool × RecErr = (nat_lt id (least_id before), Malformed s.at kinds.Order) in
    ends_same same before bytes image there (order ∷ fork ++ [])

has_image : ℕ → Bool
has_image flags = flags / 16 % 2 == 1

is_same : ℕ → Bool
is_same flags = flags / 128 % 2 == 1

block_same : (before : Option BlockHead) (bytes : List ℕ) (s : HeaderCursor) → StandsIn bytes s → block_rows before bytes s.at ≡ block_checks before s
unfolding block_at block_by has_image is_same
block_same before bytes s e =
    let id = get_or bytes s.at 0 in
    let flags = get_or bytes (s.at + 1) 0 in
    let there = behind bytes s 1 e in
    let first = first_same bytes s e in
    let second : get_or (skip 1 s).rest 0 0 ≡ flags = first_same bytes (skip 1 s) there in
    at_same (has_image flags) (is_same flags) id before bytes s (fork_rows bytes (s.at + 1)) e
    ∙ ap (block_by (has_image flags) (is_same flags) id before s) (fork_same bytes (skip 1 s) there)
    ∙ ap (λ (n : ℕ). block_by (has_image n) (is_same n) id before s (fork_checks (skip 1 s))) (sym second)
    ∙ ap (λ (n : ℕ). block_by (has_image (get_or (skip 1 s).rest 0 0)) (is_same (get_or (skip 1 s).rest 0 0)) n before s (fork_checks (skip 1 s))) (sym first)

-- ---- any item

item_by : ℕ → Items → ℕ → Checks → Bool → Bool → Bool → Checks
item_by first items at blocks two three five =
    if nat_le first 32 then (is_some items.origin || is_some items.top_xid, Malformed at kinds.Order) ∷ blocks
    else (if first == 253 then (is_some items.origin || is_some items.top_xid, Malformed at kinds.Order) ∷ (three, Malformed (at + 1) kinds.Short) ∷ []
    else (if first == 252 then (is_some items.top_xid, Malformed at kinds.Order) ∷ (five, Malformed (at + 1) kinds.Short) ∷ []
    else (if first == 255 then (two, Malformed (at + 1) kinds.Short) ∷ []
    else (if first == 254 then (five, Malformed (at + 1) kinds.Short) ∷ []
    else (true, Malformed at kinds.Id) ∷ []))))

begun : (items : Items) (at owed : ℕ) (rest : List ℕ) → 0 < length rest → (let s : HeaderCursor = record { at = at; rest = rest; owed = owed } in item_by (get_or rest 0 0) items at (block_checks (last_of None items.blocks) s) (ltb (length rest) 2) (ltb (length rest) 3) (ltb (length rest) 5) ≡ item_checks items s)
unfolding item_by
begun items at owed [] some = absurd (omega arith)
begun items at owed (b ∷ bs) some = refl

pub item_same : (items : Items) (bytes : List ℕ) (s : HeaderCursor) → StandsIn bytes s → 0 < length s.rest → item_rows items bytes s.at ≡ item_checks items s
unfolding item_by
item_same items bytes s e some =
    let before = last_of None items.blocks in
    let blocks = block_checks before s in
    let first = get_or bytes s.at 0 in
    let two = is_cut_at bytes s.at 2 in
    let three = is_cut_at bytes s.at 3 in
    let five = is_cut_at bytes s.at 5 in
    ap (λ (rows : Checks). item_by first items s.at rows two three five) (block_same before bytes s e)
    ∙ ap (λ (cut : Bool). item_by first items s.at blocks cut three five) (sym (cut_same bytes s 2 (omega arith) e))
    ∙ ap (λ (cut : Bool). item_by first items s.at blocks (ltb (length s.rest) 2) cut five) (sym (cut_same bytes s 3 (omega arith) e))
    ∙ ap (λ (cut : Bool). item_by first items s.at blocks (ltb (length s.rest) 2) (ltb (length s.rest) 3) cut) (sym (cut_same bytes s 5 (omega arith) e))
    ∙ ap (λ (n : ℕ). item_by n items s.at blocks (ltb (length s.rest) 2) (ltb (length s.rest) 3) (ltb (length s.rest) 5)) (sym (first_same bytes s e))
    ∙ begun items s.at s.owed s.rest some

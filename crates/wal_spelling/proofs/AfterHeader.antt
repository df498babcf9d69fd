-- What a record carries is bytes.
use Rattle.std.proofs.Common.{◌≡◌, ℕ, ◌+◌, ◌<◌, ◌≤◌, Bool, true, false, ◌&&◌, cond, List, [], ◌∷◌, ◌++◌, length, eqb, ltb, leb, Option, Some, None, All, arith}
use Rattle.std.specs.Prelude.{IfSome, is_some}
use Rattle.std.specs.Int.{w16, w32, w64, to_le_bytes}
use Rattle.std.specs.List.{flat_map, AllByRecursion}
use Rattle.std.proofs.lemmas.Bool.{and_parts, leb-true, ltb-true, cond_both}
use Rattle.std.proofs.lemmas.List.Elements.{All-nil, All-cons, All-append, All-from_recursion, recursion_from_All}
use Rattle.wal_types.specs.declared.record.Record.{Record}
use Rattle.wal_types.specs.declared.record.Block.{Block}
use Rattle.wal_types.specs.declared.record.Image.{Image}
use Rattle.wal_types.specs.declared.record.Rel.{Rel}
use Rattle.wal_types.specs.declared.record.Xid.{Xid}
use Rattle.wal_spelling.specs.Record.{BlockFits, ImageFits, are_right_blocks, is_right_block, is_right_image}
use Rattle.wal_spelling.specs.Spelling.{flag, image_header, image_bytes, is_same_relation, relation_bytes, block_header, block_headers, block_payload, origin_item, top_xid_item, main_header, after_header}

-- each element is a byte; a record, so that the lists are found from the facts
pub record AreBytes (bytes : List ℕ) : Type 0 where
  pub each : All (λ b. b < 256) bytes

no_bytes : AreBytes []
no_bytes = record { each = All-nil (λ b. b < 256) }

byte_and : (b : ℕ) (bytes : List ℕ) → b < 256 → AreBytes bytes → AreBytes (b ∷ bytes)
byte_and b bytes h k = record { each = All-cons (λ b. b < 256) b bytes h k.each }

pub bytes_and : {xs ys : List ℕ} → AreBytes xs → AreBytes ys → AreBytes (xs ++ ys)
bytes_and {xs} {ys} h k = record { each = All-append (λ b. b < 256) xs ys h.each k.each }

pub bytes16 : (n : ℕ) → AreBytes (to_le_bytes w16 n)
bytes16 n = record { each = All-from_recursion (λ b. b < 256) (to_le_bytes w16 n) (omega arith, (omega arith, tt)) }

pub bytes32 : (n : ℕ) → AreBytes (to_le_bytes w32 n)
bytes32 n = record { each = All-from_recursion (λ b. b < 256) (to_le_bytes w32 n) (omega arith, (omega arith, (omega arith, (omega arith, tt)))) }

pub bytes64 : (n : ℕ) → AreBytes (to_le_bytes w64 n)
bytes64 n = record { each = All-from_recursion (λ b. b < 256) (to_le_bytes w64 n) (omega arith, (omega arith, (omega arith, (omega arith, (omega arith, (omega arith, (omega arith, (omega arith, tt)))))))) }

-- ---- blocks

flag_le : (b : Bool) (worth : ℕ) → flag b worth ≤ worth
flag_le true worth = omega arith
flag_le false worth = omega arith

image_header_bytes : (image : Option Image) → AreBytes (image_header image)
image_header_bytes None = no_bytes
image_header_bytes (Some i) =
    bytes_and (bytes_and (bytes16 (length i.bytes)) (bytes16 i.hole_offset)) (byte_and (flag (ltb 0 i.hole_len) 1 + flag i.apply 2) [] (omega (arith, flag_le (ltb 0 i.hole_len) 1, flag_le i.apply 2)) no_bytes)

relation_is_bytes : (rel : Rel) → AreBytes (relation_bytes rel)
relation_is_bytes rel = bytes_and (bytes_and (bytes32 rel.spc) (bytes32 rel.db)) (bytes32 rel.rel)

block_header_bytes : (b : Block) (same : Bool) → b.fork ≤ 3 → BlockFits b → AreBytes (block_header b same)
block_header_bytes b same fork fits =
    let flags = b.fork + flag (is_some b.image) 16 + flag (ltb 0 (length b.content)) 32 + flag b.will_init 64 + flag same 128 in
    let flags_fit : flags < 256 = omega (arith, flag_le (is_some b.image) 16, flag_le (ltb 0 (length b.content)) 32, flag_le b.will_init 64, flag_le same 128) in
    let front = byte_and b.id (flags ∷ to_le_bytes w16 (length b.content)) fits.numbers.id (byte_and flags (to_le_bytes w16 (length b.content)) flags_fit (bytes16 (length b.content))) in
    let relation : AreBytes (cond same [] (relation_bytes b.rel)) = cond_both same [] (relation_bytes b.rel) AreBytes (λ _. no_bytes) (λ _. relation_is_bytes b.rel) in
    bytes_and (bytes_and (bytes_and front (image_header_bytes b.image)) relation) (bytes32 b.blk)

block_headers_bytes : (before : Option Rel) (floor : ℕ) (bs : List Block) → are_right_blocks floor bs ≡ true → AllByRecursion BlockFits bs → AreBytes (block_headers before bs)
block_headers_bytes before floor [] right fits = no_bytes
block_headers_bytes before floor (b ∷ bs) right fits =
    let both = and_parts (is_right_block floor b) (are_right_blocks (b.id + 1) bs) right in
    let to_content = and_parts (leb floor b.id && leb b.id 32 && leb b.fork 3 && leb (length b.content) 65535) (is_right_image b.image) both.0 in
    let to_fork = and_parts (leb floor b.id && leb b.id 32 && leb b.fork 3) (leb (length b.content) 65535) to_content.0 in
    let fork = and_parts (leb floor b.id && leb b.id 32) (leb b.fork 3) to_fork.0 in
    bytes_and (block_header_bytes b (is_same_relation before b.rel) (leb-true b.fork 3 fork.1) fits.0) (block_headers_bytes (Some b.rel) (b.id + 1) bs both.1 fits.1)

image_is_bytes : (image : Option Image) → IfSome image ImageFits → AreBytes (image_bytes image)
image_is_bytes None fits = no_bytes
image_is_bytes (Some i) fits = record { each = fits.bytes }

payload_bytes : (bs : List Block) → AllByRecursion BlockFits bs → AreBytes (flat_map block_payload bs)
payload_bytes [] fits = no_bytes
payload_bytes (b ∷ bs) fits = bytes_and (bytes_and (image_is_bytes b.image fits.0.image) (record { each = fits.0.content })) (payload_bytes bs fits.1)

-- ---- items

origin_bytes : (origin : Option ℕ) → AreBytes (origin_item origin)
origin_bytes None = no_bytes
origin_bytes (Some n) = byte_and 253 (to_le_bytes w16 n) (omega arith) (bytes16 n)

top_xid_bytes : (top : Option Xid) → AreBytes (top_xid_item top)
top_xid_bytes None = no_bytes
top_xid_bytes (Some x) = byte_and 252 (to_le_bytes w32 x.0) (omega arith) (bytes32 x.0)

main_header_bytes : (main : List ℕ) → AreBytes (cond (eqb (length main) 0) [] (main_header (ltb (length main) 256) (length main)))
main_header_bytes main =
    cond_both (eqb (length main) 0) _ _ AreBytes (λ _. no_bytes) (λ _.
    cond_both (ltb (length main) 256) _ _ AreBytes (λ few. byte_and 255 (length main ∷ []) (omega arith) (byte_and (length main) [] (ltb-true _ _ few) no_bytes)) (λ _. byte_and 254 (to_le_bytes w32 (length main)) (omega arith) (bytes32 (length main))))

pub after_header_bytes : (r : Record) → are_right_blocks 0 r.blocks ≡ true → All BlockFits r.blocks → All (λ b. b < 256) r.main → AreBytes (after_header r)
after_header_bytes r right fits main =
    let each = recursion_from_All BlockFits r.blocks fits in
    bytes_and (bytes_and (bytes_and (bytes_and (bytes_and (block_headers_bytes None 0 r.blocks right each) (origin_bytes r.origin)) (top_xid_bytes r.top_xid)) (main_header_bytes r.main)) (payload_bytes r.blocks each)) (record { each = main })

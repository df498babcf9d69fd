-- The blocks of a record that is spelled.
use Rattle.std.proofs.Common.{◌≡◌, ℕ, ◌+◌, ◌≤◌, true, List, [], ◌∷◌, ◌++◌, length, All, ap, arith}
use Rattle.std.specs.Int.{w32, to_le_bytes}
use Rattle.std.specs.List.{flat_map, sum_by}
use Rattle.std.proofs.lemmas.Bool.{and_parts}
use Rattle.std.proofs.lemmas.List.{length-append}
use Rattle.std.proofs.lemmas.List.Elements.{All-cons, All-nil}
use Rattle.std.proofs.lemmas.List.Sums.{sum_by-cons}
use Rattle.wal_types.specs.declared.record.Block.{Block}
use Rattle.wal_types.specs.declared.record.Record.{Record}
use Rattle.wal_spelling.specs.Record.{are_right_blocks, is_right_block}
use Rattle.wal_spelling.specs.Spelling.{block_payload, image_bytes, origin_item, top_xid_item}
use Rattle.wal_spelling.proofs.RightBlocks.{right_parts}
use Rattle.wal_record.specs.Spells.{Spells}

-- ---- their forks

forks_of_right : (floor : ℕ) (blocks : List Block) → are_right_blocks floor blocks ≡ true → All (λ b. b.fork ≤ 3) blocks
forks_of_right floor [] right = All-nil (λ b. b.fork ≤ 3)
forks_of_right floor (b ∷ blocks) right =
    let both = and_parts (is_right_block floor b) (are_right_blocks (b.id + 1) blocks) right in
    All-cons (λ b. b.fork ≤ 3) b blocks (right_parts floor b both.0).fork_le (forks_of_right (b.id + 1) blocks both.1)

pub forks_spelled : (bytes : List ℕ) (r : Record) → Spells bytes r → All (λ b. b.fork ≤ 3) r.blocks
forks_spelled bytes r s = forks_of_right 0 r.blocks s.blocks

-- ---- their images

images-le-payload : (blocks : List Block) → sum_by (λ (b : Block). length (image_bytes b.image)) blocks ≤ length (flat_map block_payload blocks)
images-le-payload [] = omega arith
images-le-payload (b ∷ blocks) =
    let image = image_bytes b.image in
    omega (arith, sum_by-cons (λ (x : Block). length (image_bytes x.image)) b blocks, length-append (image ++ b.content) (flat_map block_payload blocks), length-append image b.content, images-le-payload blocks)

part-le-whole : (front part behind : List ℕ) → length part ≤ length (front ++ part ++ behind)
part-le-whole front part behind = omega (arith, length-append (front ++ part) behind, length-append front part)

pub images_spelled : (bytes : List ℕ) (r : Record) → Spells bytes r → sum_by (λ (b : Block). length (image_bytes b.image)) r.blocks ≤ length bytes
images_spelled bytes r s =
    let front = to_le_bytes w32 (length bytes) ++ to_le_bytes w32 r.xid.0 ++ s.prev ++ (r.info ∷ r.rmid ∷ s.spare) ++ s.crc ++ s.headers ++ origin_item r.origin ++ top_xid_item r.top_xid ++ s.main_head in
    let whole = part-le-whole front (flat_map block_payload r.blocks) r.main in
    omega (arith, ap length s.spelled, images-le-payload r.blocks)

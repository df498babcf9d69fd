-- The pages of images, and the images of a record that is spelled.
use Rattle.std.proofs.Common.{◌≡◌, ℕ, ◌+◌, ◌-◌, ◌≤◌, ◌&&◌, ◌++◌, ◌∙◌, refl, sym, ap, Bool, true, false, List, [], ◌∷◌, length, take, drop, replicate, All, Bor, Option, Some, None, eqb, leb, ltb, arith}
use Rattle.std.specs.Prelude.{IfSome, MatchOption, ◌≢◌, ◌↔◌, if◌then◌else◌}
use Rattle.std.specs.Array.{IsWholeChunk}
use Rattle.std.proofs.lemmas.Bool.{and_parts, eqb-true, leb-true}
use Rattle.std.proofs.lemmas.List.{take-append-drop}
use Rattle.std.proofs.lemmas.List.Elements.{All-cons, All-nil}
use Rattle.wal_types.specs.declared.record.Block.{Block}
use Rattle.wal_types.specs.declared.record.Image.{Image}
use Rattle.wal_reader.specs.declared.found.FoundRecord.{FoundRecord}
use Rattle.wal_reader.specs.Spelled.{IsSpelled}
use Rattle.wal_spelling.specs.Record.{are_right_blocks, is_right_block, is_right_image}
use Rattle.wal_spelling.proofs.RightBlocks.{right_parts}
use Rattle.wal_redo.specs.Images.{IsRedoable, MakesPage, page_of}

-- an image that has all of a page's bytes has no hole
unholed : (image : Image) → MakesPage image → length image.bytes ≡ 8192 → image.bytes ≡ page_of image
unholed image makes all =
    let none : image.hole_len ≡ 0 = omega (arith, makes.whole, all) in
    let page = λ (hole : ℕ). take image.hole_offset image.bytes ++ (replicate hole 0 ++ drop image.hole_offset image.bytes) in
    sym (ap page none ∙ take-append-drop image.hole_offset image.bytes)

-- so they are its page
pub whole_page : (image : Image) (bytes : List ℕ) (result : Option (Bor (List ℕ))) → MakesPage image → bytes ≡ image.bytes → MatchOption result (length bytes ≢ 8192) (λ page. IsWholeChunk bytes page.now 8192) → IfSome result (λ page. page.now ≡ page_of image)
whole_page image bytes None makes same is = tt
whole_page image bytes (Some page) makes same is = is.same ∙ same ∙ unholed image makes (ap length (sym same) ∙ is.long)

-- and it has them all just where it has no hole
pub all_bytes : (image : Image) (bytes : List ℕ) → MakesPage image → bytes ≡ image.bytes → (length bytes ≡ 8192) ↔ (image.hole_len ≡ 0)
all_bytes image bytes makes same = (λ all. omega (arith, makes.whole, ap length same, all), λ none. omega (arith, makes.whole, ap length same, none))

within : (image : Image) (holeless : Bool) → eqb image.hole_len 0 ≡ holeless → length image.bytes + image.hole_len ≡ 8192
    → (if holeless then eqb image.hole_offset 0 else ltb 0 image.hole_offset && leb (image.hole_offset + image.hole_len) 8192) ≡ true → image.hole_offset + image.hole_len ≤ 8192
within image true none whole right = omega (arith, eqb-true image.hole_len 0 none, eqb-true image.hole_offset 0 right)
within image false some whole right = leb-true (image.hole_offset + image.hole_len) 8192 (and_parts (ltb 0 image.hole_offset) (leb (image.hole_offset + image.hole_len) 8192) right).1

makes_page : (image : Option Image) → is_right_image image ≡ true → IfSome image MakesPage
makes_page None right = tt
makes_page (Some image) right =
    let both = and_parts (eqb (length image.bytes + image.hole_len) 8192) _ right in
    let whole = eqb-true (length image.bytes + image.hole_len) 8192 both.0 in
    record { whole = whole; within = within image (eqb image.hole_len 0) refl whole both.1 }

redoable : (floor : ℕ) (blocks : List Block) → are_right_blocks floor blocks ≡ true → All IsRedoable blocks
redoable floor [] right = All-nil IsRedoable
redoable floor (b ∷ blocks) right =
    let both = and_parts (is_right_block floor b) (are_right_blocks (b.id + 1) blocks) right in
    let parts = right_parts floor b both.0 in
    All-cons IsRedoable b blocks (record { image = makes_page b.image parts.image }) (redoable (b.id + 1) blocks both.1)

few : (floor : ℕ) (blocks : List Block) → are_right_blocks floor blocks ≡ true → length blocks ≤ 33 - floor
few floor [] right = omega arith
few floor (b ∷ blocks) right =
    let both = and_parts (is_right_block floor b) (are_right_blocks (b.id + 1) blocks) right in
    let parts = right_parts floor b both.0 in
    omega (arith, parts.floor_le, parts.id_le, few (b.id + 1) blocks both.1)

-- a record that was read can be redone, and has at most 33 blocks
pub redoable_spelled : (found : FoundRecord) → IsSpelled found → All IsRedoable found.value.blocks
unfolding IsSpelled
redoable_spelled found is = redoable 0 found.value.blocks is.spelled.blocks

pub few_spelled : (found : FoundRecord) → IsSpelled found → length found.value.blocks ≤ 33
unfolding IsSpelled
few_spelled found is = few 0 found.value.blocks is.spelled.blocks

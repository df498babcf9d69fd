-- What is known of blocks that are right, and where the first one stands that is not.
use Rattle.std.proofs.Common.{◌≡◌, ℕ, suc, ◌+◌, ◌*◌, ◌<◌, ◌≤◌, Bool, true, false, ◌&&◌, cond, List, [], ◌∷◌, ◌++◌, length, eqb, leb, Option, Some, None, All, refl, inl, inr, ◌↔◌, add-one, take, zero, arith}
use Rattle.std.specs.Prelude.{IsTrue, option_map}
use Rattle.std.specs.Int.{w32, to_le_bytes}
use Rattle.std.specs.List.{flat_map}
use Rattle.std.proofs.lemmas.Bool.{and_cases, and_from, and_left, and_parts, and_right, cases_Bool, eqb-true, le-leb, leb-true}
use Rattle.std.proofs.lemmas.List.{length-append}
use Rattle.std.proofs.lemmas.List.Elements.{All-nil, All-cons}
use Rattle.wal_types.specs.declared.record.Block.{Block}
use Rattle.wal_types.specs.declared.record.Image.{Image}
use Rattle.wal_types.specs.declared.record.Rel.{Rel}
use Rattle.wal_spelling.specs.Record.{are_right_blocks, is_right_block, is_right_image}
use Rattle.wal_spelling.specs.Refusal.{first_bad_block}
use Rattle.wal_spelling.specs.Spelling.{block_header, block_headers, block_payload, image_bytes, image_header, is_same_relation, relation_bytes}

-- ---- a right block

pub record IsRight (floor : ℕ) (b : Block) : Type 0 where
  pub floor_le : floor ≤ b.id
  pub id_le : b.id ≤ 32
  pub fork_le : b.fork ≤ 3
  pub content_le : length b.content ≤ 65535
  pub image : is_right_image b.image ≡ true

pub right_parts : (floor : ℕ) (b : Block) → is_right_block floor b ≡ true → IsRight floor b
right_parts floor b right =
    let to_content = and_parts (leb floor b.id && leb b.id 32 && leb b.fork 3 && leb (length b.content) 65535) (is_right_image b.image) right in
    let to_fork = and_parts (leb floor b.id && leb b.id 32 && leb b.fork 3) (leb (length b.content) 65535) to_content.0 in
    let to_id = and_parts (leb floor b.id && leb b.id 32) (leb b.fork 3) to_fork.0 in
    let of_id = and_parts (leb floor b.id) (leb b.id 32) to_id.0 in
    record {
      floor_le = leb-true floor b.id of_id.0;
      id_le = leb-true b.id 32 of_id.1;
      fork_le = leb-true b.fork 3 to_id.1;
      content_le = leb-true (length b.content) 65535 to_fork.1;
      image = to_content.1;
    }

pub right_from_zero : (floor : ℕ) (b : Block) → is_right_block floor b ≡ true → is_right_block 0 b ≡ true
right_from_zero floor b right =
    let parts = right_parts floor b right in
    rw (le-leb 0 b.id (omega arith), le-leb b.id 32 parts.id_le, le-leb b.fork 3 parts.fork_le, le-leb (length b.content) 65535 parts.content_le, parts.image) refl

pub each_right : (floor : ℕ) (bs : List Block) → are_right_blocks floor bs ≡ true → All (λ b. IsTrue (is_right_block 0 b)) bs
each_right floor [] right = All-nil (λ b. IsTrue (is_right_block 0 b))
each_right floor (b ∷ bs) right =
    let both = and_parts (is_right_block floor b) (are_right_blocks (b.id + 1) bs) right in
    All-cons (λ b. IsTrue (is_right_block 0 b)) b bs (right_from_zero floor b both.0) (each_right (b.id + 1) bs both.1)

-- ---- their length

image_len_le : (image : Option Image) → is_right_image image ≡ true → length (image_header image) + length (image_bytes image) ≤ 8197
image_len_le None right = omega arith
image_len_le (Some i) right =
    let page = and_parts (eqb (length i.bytes + i.hole_len) 8192) _ right in
    omega (arith, eqb-true (length i.bytes + i.hole_len) 8192 page.0)

relation_len_le : (same : Bool) (rel : Rel) → length (cond same [] (relation_bytes rel)) ≤ 12
relation_len_le true rel = omega arith
relation_len_le false rel = omega arith

pub block_len_le : (before : Option Rel) (floor : ℕ) (b : Block) → is_right_block floor b ≡ true → length (block_header b (is_same_relation before b.rel)) + length (block_payload b) ≤ 73752
block_len_le before floor b right =
    let parts = right_parts floor b right in
    let relation = cond (is_same_relation before b.rel) [] (relation_bytes b.rel) in
    omega (arith, parts.content_le, image_len_le b.image parts.image, relation_len_le (is_same_relation before b.rel) b.rel, length-append (image_header b.image) relation, length-append (image_header b.image ++ relation) (to_le_bytes w32 b.blk), length-append (image_bytes b.image) b.content)

pub blocks_len_le : (before : Option Rel) (floor : ℕ) (bs : List Block) → floor ≤ 33 → are_right_blocks floor bs ≡ true → length (block_headers before bs) + length (flat_map block_payload bs) + 73752 * floor ≤ 73752 * 33
blocks_len_le before floor [] few right = omega arith
blocks_len_le before floor (b ∷ bs) few right =
    let both = and_parts (is_right_block floor b) (are_right_blocks (b.id + 1) bs) right in
    let parts = right_parts floor b both.0 in
    let here = block_len_le before floor b both.0 in
    let rest = blocks_len_le (Some b.rel) (b.id + 1) bs (omega (arith, parts.id_le)) both.1 in
    omega (arith, here, rest, parts.floor_le, parts.id_le, length-append (block_header b (is_same_relation before b.rel)) (block_headers (Some b.rel) bs), length-append (block_payload b) (flat_map block_payload bs))

-- ---- that none is bad

unmapped : (o : Option ℕ) → option_map suc o ≡ None → o ≡ None
unmapped None e = refl
unmapped (Some k) e = absurd cc

some_is_some : (k : ℕ) → Some k ≡ None → ⊥
some_is_some k e = cc

pub none_bad : (floor : ℕ) (bs : List Block) → first_bad_block floor bs ≡ None → are_right_blocks floor bs ≡ true
none_bad floor [] none = refl
none_bad floor (b ∷ bs) none =
    elim (cases_Bool (is_right_block floor b)) [
      | inl right ↦ and_from _ _ right (none_bad (b.id + 1) bs (unmapped (first_bad_block (b.id + 1) bs) (rw right at none)))
      | inr wrong ↦ absurd (some_is_some 0 (rw wrong at none))
    ]

pub right_none_bad : (floor : ℕ) (bs : List Block) → are_right_blocks floor bs ≡ true → first_bad_block floor bs ≡ None
right_none_bad floor [] right = refl
right_none_bad floor (b ∷ bs) right =
    let both = and_parts (is_right_block floor b) (are_right_blocks (b.id + 1) bs) right in
    rw (both.0, right_none_bad (b.id + 1) bs both.1) refl

-- ---- the first that is bad

mapped : (o : Option ℕ) (k : ℕ) → option_map suc o ≡ Some k → (j : ℕ) × (o ≡ Some j) × (k ≡ suc j)
mapped None k e = absurd cc
mapped (Some j) k e = (j, refl, cc)

-- the blocks before this place are right, and with the one at it they are not
pub record IsFirstBad (floor : ℕ) (bs : List Block) (k : ℕ) : Type 0 where
  pub within : k < length bs
  pub before : are_right_blocks floor (take k bs) ≡ true
  pub here : are_right_blocks floor (take (suc k) bs) ≡ false

first_bad_is : (floor : ℕ) (bs : List Block) (k : ℕ) → first_bad_block floor bs ≡ Some k → IsFirstBad floor bs k
first_bad_is floor [] k e = absurd cc
first_bad_is floor (b ∷ bs) k e =
    elim (cases_Bool (is_right_block floor b)) [
      | inl right ↦
          let later = mapped (first_bad_block (b.id + 1) bs) k (rw right at e) in
          let rest = first_bad_is (b.id + 1) bs later.0 later.1 in
          rw later.2 (record { within = omega (arith, rest.within); before = and_from _ _ right rest.before; here = and_right _ _ rest.here })
      | inr wrong ↦
          let e0 : Some 0 ≡ Some k = rw wrong at e in
          let zero : k ≡ 0 = cc in
          rw zero (record { within = omega arith; before = refl; here = and_left _ _ wrong })
    ]

is_first_bad : (floor : ℕ) (bs : List Block) (k : ℕ) → IsFirstBad floor bs k → first_bad_block floor bs ≡ Some k
is_first_bad floor [] k bad = absurd (omega (arith, bad.within))
is_first_bad floor (b ∷ bs) zero bad =
    elim (and_cases (is_right_block floor b) true bad.here) [
      | inl wrong ↦ rw wrong refl
      | inr other ↦ absurd cc
    ]
is_first_bad floor (b ∷ bs) (suc k) bad =
    let both = and_parts (is_right_block floor b) (are_right_blocks (b.id + 1) (take k bs)) bad.before in
    let rest : are_right_blocks (b.id + 1) (take (suc k) bs) ≡ false = rw both.0 at bad.here in
    let later = is_first_bad (b.id + 1) bs k (record { within = omega (arith, bad.within); before = both.1; here = rest }) in
    rw (both.0, later) refl

pub bad_block_is_first : (bs : List Block) (k : ℕ) → (first_bad_block 0 bs ≡ Some k) ↔ ((k < length bs) × (are_right_blocks 0 (take k bs) ≡ true) × (are_right_blocks 0 (take (k + 1) bs) ≡ false))
bad_block_is_first bs k = (
  λ e. let bad = first_bad_is 0 bs k e in (bad.within, bad.before, rw add-one bad.here),
  λ h. is_first_bad 0 bs k (record { within = h.0; before = h.1; here = rw add-one at h.2 }),
)

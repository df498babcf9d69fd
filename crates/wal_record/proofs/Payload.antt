-- The payload, cut into the blocks' bytes and the main data.
use Rattle.std.proofs.Common.{◌≡◌, ℕ, ◌+◌, ◌<◌, ◌≤◌, List, [], ◌∷◌, ◌++◌, length, get_or, take, drop, map, Option, Some, None, refl, sym, ap, ◌∙◌, append_assoc, arith, subst, length-drop}
use Rattle.std.specs.List.{flat_map, sum_by}
use Rattle.std.proofs.lemmas.List.{drop_more, length-append, length-take, take_at, drop_at, take-append-drop}
use Rattle.std.proofs.lemmas.List.Sums.{sum_by-cons}
use Rattle.wal_types.specs.declared.record.Block.{Block}
use Rattle.wal_types.specs.declared.record.Image.{Image}
use Rattle.wal_record.specs.declared.head.BlockHead.{BlockHead}
use Rattle.wal_record.specs.declared.head.ImageHead.{ImageHead}
use Rattle.wal_spelling.specs.Spelling.{block_payload, image_bytes}
use Rattle.wal_record.specs.Reading.{block_of, blocks_read, image_len, image_read, main_of, payload_len}
use Rattle.wal_record.proofs.BlockHeads.{head_of, image_head}

-- what the loop over the headers keeps, where these headers are still to come
pub record StillToCome (whole : List Block) (last : List ℕ) (heads : List BlockHead) (blocks : List Block) (rest : List ℕ) : Type 0 where
  pub long : sum_by payload_len heads ≤ length rest
  pub so_far : whole ≡ blocks ++ blocks_read heads rest
  pub main : last ≡ main_of heads rest

one_behind : (whole : List Block) (last : List ℕ) (h : BlockHead) (heads : List BlockHead) (blocks : List Block) (rest : List ℕ) → StillToCome whole last (h ∷ heads) blocks rest → StillToCome whole last heads (blocks ++ block_of h (take (payload_len h) rest) ∷ []) (drop (payload_len h) rest)
one_behind whole last h heads blocks rest s = record {
  long = omega (arith, s.long, sum_by-cons payload_len h heads, length-drop (payload_len h) rest);
  so_far = s.so_far ∙ sym (append_assoc blocks (block_of h (take (payload_len h) rest) ∷ []) (blocks_read heads (drop (payload_len h) rest)));
  main = s.main;
}

-- one block more is cut off the payload
pub one_more : (whole : List Block) (last : List ℕ) (heads : List BlockHead) (i : ℕ) (d : BlockHead) (blocks now : List Block) (rest bytes behind : List ℕ) (len : ℕ) (b : Block) → i < length heads → StillToCome whole last (drop i heads) blocks rest
    → len ≡ payload_len (get_or heads i d) → bytes ≡ take len rest → behind ≡ drop len rest → b ≡ block_of (get_or heads i d) bytes → now ≡ blocks ++ b ∷ [] → StillToCome whole last (drop (i + 1) heads) now behind
one_more whole last heads i d blocks now rest bytes behind len b lt s e front back made pushed =
    let h = get_or heads i d in
    let split = subst (λ (hs : List BlockHead). StillToCome whole last hs blocks rest) (drop_more heads i d lt) s in
    let next = one_behind whole last h (drop (i + 1) heads) blocks rest split in
    let behind_is : drop (payload_len h) rest ≡ behind = ap (λ (n : ℕ). drop n rest) (sym e) ∙ sym back in
    let bytes_is : take (payload_len h) rest ≡ bytes = ap (λ (n : ℕ). take n rest) (sym e) ∙ sym front in
    let now_is : blocks ++ block_of h (take (payload_len h) rest) ∷ [] ≡ now = ap (λ (l : List ℕ). blocks ++ block_of h l ∷ []) bytes_is ∙ ap (λ (x : Block). blocks ++ x ∷ []) (sym made) ∙ sym pushed in
    subst (λ (l : List ℕ). StillToCome whole last (drop (i + 1) heads) now l) behind_is (subst (λ (bs : List Block). StillToCome whole last (drop (i + 1) heads) bs (drop (payload_len h) rest)) now_is next)

-- ---- the payload of headers that were read

-- the bytes of one block
pub record IsBlockOf (h : BlockHead) (bytes : List ℕ) : Type 0 where
  pub head_is : head_of (block_of h bytes) ≡ h
  pub payload_is : block_payload (block_of h bytes) ≡ bytes

image_head_back : (image : Option ImageHead) (bytes : List ℕ) → image_len image ≤ length bytes → image_head (image_read image (take (image_len image) bytes)) ≡ image
image_head_back None bytes le = refl
image_head_back (Some i) bytes le = let front : length (take i.len bytes) ≡ i.len = omega (arith, length-take i.len bytes) in ap (λ (n : ℕ). Some (record { apply = i.apply; hole_offset = i.hole_offset; hole_len = i.hole_len; len = n })) front

image_bytes_back : (image : Option ImageHead) (bytes : List ℕ) → image_bytes (image_read image (take (image_len image) bytes)) ≡ take (image_len image) bytes
image_bytes_back None bytes = refl
image_bytes_back (Some i) bytes = refl

same_head : (h : BlockHead) (image : Option ImageHead) (len : ℕ) → image ≡ h.image → len ≡ h.content_len → (let made : BlockHead = record { id = h.id; rel = h.rel; fork = h.fork; blk = h.blk; will_init = h.will_init; image = image; content_len = len } in made ≡ h)
same_head h image len a b = rw (a, b) refl

is_block_of : (h : BlockHead) (bytes : List ℕ) → length bytes ≡ payload_len h → IsBlockOf h bytes
is_block_of h bytes len = record {
  head_is = same_head h _ _ (image_head_back h.image bytes (omega arith)) (omega (arith, length-drop (image_len h.image) bytes));
  payload_is = ap (λ (l : List ℕ). l ++ drop (image_len h.image) bytes) (image_bytes_back h.image bytes) ∙ take-append-drop (image_len h.image) bytes;
}

-- the payload is cut into the blocks of these headers, and main data
pub record IsPayloadOf (heads : List BlockHead) (payload : List ℕ) : Type 0 where
  pub heads_are : map head_of (blocks_read heads payload) ≡ heads
  pub payload_is : payload ≡ flat_map block_payload (blocks_read heads payload) ++ main_of heads payload
  pub length_is : length payload ≡ sum_by payload_len heads + length (main_of heads payload)

pub is_payload_of : (heads : List BlockHead) (payload : List ℕ) → sum_by payload_len heads ≤ length payload → IsPayloadOf heads payload
is_payload_of [] payload le = record { heads_are = refl; payload_is = refl; length_is = omega arith }
is_payload_of (h ∷ hs) payload le =
    let n = payload_len h in
    let sum = sum_by-cons payload_len h hs in
    let first = is_block_of h (take n payload) (omega (arith, length-take n payload)) in
    let behind = is_payload_of hs (drop n payload) (omega (arith, length-drop n payload)) in
    record {
      heads_are = rw (first.head_is, behind.heads_are) refl;
      payload_is = sym (take-append-drop n payload) ∙ ap (λ (l : List ℕ). l ++ drop n payload) (sym first.payload_is) ∙ ap (λ (l : List ℕ). block_payload (block_of h (take n payload)) ++ l) behind.payload_is ∙ sym (append_assoc (block_payload (block_of h (take n payload))) (flat_map block_payload (blocks_read hs (drop n payload))) (main_of hs (drop n payload)));
      length_is = omega (arith, behind.length_is, length-drop n payload);
    }

-- ---- the payload of a record's blocks

image_length : (image : Option Image) → image_len (image_head image) ≡ length (image_bytes image)
image_length None = refl
image_length (Some i) = refl

payload_length : (b : Block) → payload_len (head_of b) ≡ length (block_payload b)
payload_length b = ap (λ (n : ℕ). n + length b.content) (image_length b.image) ∙ sym (length-append (image_bytes b.image) b.content)

image_back : (image : Option Image) → image_read (image_head image) (image_bytes image) ≡ image
image_back None = refl
image_back (Some i) = refl

same_block : (b : Block) (content : List ℕ) (image : Option Image) → content ≡ b.content → image ≡ b.image → (let made : Block = record { id = b.id; rel = b.rel; fork = b.fork; blk = b.blk; will_init = b.will_init; content = content; image = image } in made ≡ b)
same_block b content image c i = rw (c, i) refl

block_again : (b : Block) → block_of (head_of b) (block_payload b) ≡ b
block_again b =
    let n = image_len (image_head b.image) in
    let len : length (image_bytes b.image) ≡ n = sym (image_length b.image) in
    same_block b _ _ (drop_at (image_bytes b.image) b.content n len) (ap (image_read (image_head b.image)) (take_at (image_bytes b.image) b.content n len) ∙ image_back b.image)

-- a record's blocks and main data are found in their payload again
pub record IsFoundAgain (blocks : List Block) (main : List ℕ) : Type 0 where
  pub sum_is : sum_by payload_len (map head_of blocks) ≡ length (flat_map block_payload blocks)
  pub blocks_are : blocks_read (map head_of blocks) (flat_map block_payload blocks ++ main) ≡ blocks
  pub main_is : main_of (map head_of blocks) (flat_map block_payload blocks ++ main) ≡ main

pub is_found_again : (blocks : List Block) (main : List ℕ) → IsFoundAgain blocks main
is_found_again [] main = record { sum_is = refl; blocks_are = refl; main_is = refl }
is_found_again (b ∷ bs) main =
    let n = payload_len (head_of b) in
    let len = payload_length b in
    let behind = flat_map block_payload bs ++ main in
    let found = is_found_again bs main in
    let text : flat_map block_payload (b ∷ bs) ++ main ≡ block_payload b ++ behind = append_assoc (block_payload b) (flat_map block_payload bs) main in
    let front : take n (flat_map block_payload (b ∷ bs) ++ main) ≡ block_payload b = ap (take n) text ∙ take_at (block_payload b) behind n (sym len) in
    let rest : drop n (flat_map block_payload (b ∷ bs) ++ main) ≡ behind = ap (drop n) text ∙ drop_at (block_payload b) behind n (sym len) in
    record {
      sum_is = sum_by-cons payload_len (head_of b) (map head_of bs) ∙ ap (λ (k : ℕ). k + sum_by payload_len (map head_of bs)) len ∙ ap (λ (k : ℕ). length (block_payload b) + k) found.sum_is ∙ sym (length-append (block_payload b) (flat_map block_payload bs));
      blocks_are = ap (λ (l : List ℕ). block_of (head_of b) l ∷ blocks_read (map head_of bs) (drop n (flat_map block_payload (b ∷ bs) ++ main))) front ∙ ap (λ (l : List ℕ). block_of (head_of b) (block_payload b) ∷ blocks_read (map head_of bs) l) rest ∙ ap (λ (x : Block). x ∷ blocks_read (map head_of bs) behind) (block_again b) ∙ ap (λ (xs : List Block). b ∷ xs) found.blocks_are;
      main_is = ap (main_of (map head_of bs)) rest ∙ found.main_is;
    }

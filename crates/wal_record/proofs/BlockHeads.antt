-- What the headers of items say of a record's blocks: they are spelled as blocks, and blocks as they.
use Rattle.std.proofs.Common.{◌≡◌, ℕ, ◌+◌, ◌^◌, ◌<◌, ◌≤◌, Bool, true, false, ◌&&◌, eqb, ltb, leb, List, [], ◌∷◌, ◌++◌, length, map, Option, Some, None, refl, sym, ap, ◌∙◌, arith, inl, inr}
use Rattle.std.specs.Bool.{MatchBool, OnTrue}
use Rattle.std.specs.Prelude.{IfSome, IsTrue, is_some, option_map, if◌then◌else◌}
use Rattle.std.specs.Int.{w16, w32, to_le_bytes}
use Rattle.std.specs.List.{AllByRecursion}
use Rattle.std.proofs.lemmas.Bool.{MatchBool-at_false, MatchBool-at_true, OnTrue_at, OnTrue_from, and_from, and_parts, cases_Bool, eq-eqb, eqb-false, eqb-true, le-leb, leb-true, lt-ltb, ltb-false, ltb-true, ne_eqb}
use Rattle.wal_types.specs.declared.record.Block.{Block}
use Rattle.wal_types.specs.declared.record.Image.{Image}
use Rattle.wal_types.specs.declared.record.Record.{Record}
use Rattle.wal_types.specs.declared.record.Rel.{Rel}
use Rattle.wal_types.specs.declared.record.Xid.{Xid}
use Rattle.wal_record.specs.declared.head.BlockHead.{BlockHead}
use Rattle.wal_record.specs.declared.head.ImageHead.{ImageHead}
use Rattle.wal_spelling.specs.Record.{BlockFits, are_right_blocks, is_right_block, is_right_image}
use Rattle.wal_spelling.specs.Spelling.{block_header, flag, image_header, is_same_relation, origin_item, relation_bytes, top_xid_item}
use Rattle.wal_spelling.proofs.RightBlocks.{right_parts}
use Rattle.wal_record.specs.Reading.{least_id}
use Rattle.wal_record.specs.Items.{HasRelation, IsPageImage, Items, SpellsHeads, StandsBehind, head_text, image_flag, image_head_text, item_text}
use Rattle.wal_record.specs.Spells.{SpellsBlockHeaders}

-- what a block's header says of it
abbrev pub image_head : Option Image → Option ImageHead
image_head None = None
image_head (Some i) = Some (record { apply = i.apply; hole_offset = i.hole_offset; hole_len = i.hole_len; len = length i.bytes })

abbrev pub head_of : Block → BlockHead
head_of b = record {
  id = b.id;
  rel = b.rel;
  fork = b.fork;
  blk = b.blk;
  will_init = b.will_init;
  image = image_head b.image;
  content_len = length b.content;
}

-- the items of a record
abbrev pub items_in : Record → Items
items_in r = record { blocks = map head_of r.blocks; origin = r.origin; top_xid = option_map (λ (x : Xid). x.0) r.top_xid }

-- ---- a block's header

flag_is : (image : Option Image) → flag (is_some image) 16 ≡ image_flag (image_head image)
flag_is None = refl
flag_is (Some i) = refl

image_header-is : (image : Option Image) → image_header image ≡ image_head_text (image_head image)
image_header-is None = refl
image_header-is (Some i) = refl

header_is : (b : Block) (same : Bool) → block_header b same ≡ head_text same (head_of b)
header_is b same =
    let flags : ℕ → ℕ = λ n. b.fork + n + flag (ltb 0 (length b.content)) 32 + flag b.will_init 64 + flag same 128 in
    let text : ℕ → List ℕ → List ℕ = λ n image. b.id ∷ flags n ∷ to_le_bytes w16 (length b.content) ++ image ++ (if same then [] else relation_bytes b.rel) ++ to_le_bytes w32 b.blk in
    ap (λ (n : ℕ). text n (image_header b.image)) (flag_is b.image) ∙ ap (text (image_flag (image_head b.image))) (image_header-is b.image)

-- ---- an image

hole_right : (hole offset : ℕ) → MatchBool (ltb 0 hole) ((0 < offset) × (offset + hole ≤ 8192)) (offset ≡ 0) → (if eqb hole 0 then eqb offset 0 else ltb 0 offset && leb (offset + hole) 8192) ≡ true
hole_right hole offset right =
    elim (cases_Bool (ltb 0 hole)) [
      | inl some ↦
          let p = MatchBool-at_true _ _ some right in
          let e : eqb hole 0 ≡ false = ne_eqb hole 0 (λ z. absurd (omega (arith, ltb-true 0 hole some))) in
          rw e (and_from _ _ (lt-ltb _ _ p.0) (le-leb _ _ p.1))
      | inr none ↦
          let p : offset ≡ 0 = MatchBool-at_false _ _ none right in
          let e : eqb hole 0 ≡ true = eq-eqb hole 0 (omega (arith, ltb-false 0 hole none)) in
          rw e (eq-eqb offset 0 p)
    ]

hole_is : (hole offset : ℕ) → (if eqb hole 0 then eqb offset 0 else ltb 0 offset && leb (offset + hole) 8192) ≡ true → MatchBool (ltb 0 hole) ((0 < offset) × (offset + hole ≤ 8192)) (offset ≡ 0)
hole_is hole offset e =
    elim (cases_Bool (eqb hole 0)) [
      | inl none ↦ let z : hole ≡ 0 = eqb-true _ _ none in rw z (eqb-true offset 0 (rw none at e))
      | inr some ↦
          let t : ltb 0 hole ≡ true = lt-ltb 0 hole (omega (arith, eqb-false hole 0 some)) in
          let p = and_parts (ltb 0 offset) (leb (offset + hole) 8192) (rw some at e) in
          rw t (ltb-true _ _ p.0, leb-true _ _ p.1)
    ]

option_right : (image : Option Image) → IfSome (image_head image) IsPageImage → is_right_image image ≡ true
option_right None right = refl
option_right (Some i) right = and_from _ _ (eq-eqb _ _ right.page) (hole_right i.hole_len i.hole_offset right.hole)

option_is : (image : Option Image) → is_right_image image ≡ true → IfSome (image_head image) IsPageImage
option_is None right = tt
option_is (Some i) right =
    let both = and_parts (eqb (length i.bytes + i.hole_len) 8192) _ right in
    record { page = eqb-true _ _ both.0; hole = hole_is i.hole_len i.hole_offset both.1 }

-- ---- the relation of the block before

abbrev relation_of : Option BlockHead → Option Rel
relation_of before = option_map (λ (h : BlockHead). h.rel) before

has_same : (before : Option BlockHead) (rel : Rel) → HasRelation before rel → is_same_relation (relation_of before) rel ≡ true
has_same None rel has = absurd has
has_same (Some h) rel has = and_from _ _ (and_from _ _ (eq-eqb _ _ (ap (λ (r : Rel). r.spc) has)) (eq-eqb _ _ (ap (λ (r : Rel). r.db) has))) (eq-eqb _ _ (ap (λ (r : Rel). r.rel) has))

same_rel : (a b : Rel) → a.spc ≡ b.spc → a.db ≡ b.db → a.rel ≡ b.rel → a ≡ b
same_rel a b p q r = made a.spc a.db a.rel b p q r
  where
    made : (x y z : ℕ) (b : Rel) → x ≡ b.spc → y ≡ b.db → z ≡ b.rel → (let m : Rel = record { spc = x; db = y; rel = z } in m ≡ b)
    made x y z b p q r = rw (p, q, r) refl

same_has : (before : Option BlockHead) (rel : Rel) → is_same_relation (relation_of before) rel ≡ true → HasRelation before rel
same_has None rel e = absurd cc
same_has (Some h) rel e =
    let a = and_parts ((eqb h.rel.spc rel.spc) && (eqb h.rel.db rel.db)) (eqb h.rel.rel rel.rel) e in
    let b = and_parts (eqb h.rel.spc rel.spc) (eqb h.rel.db rel.db) a.0 in
    same_rel h.rel rel (eqb-true _ _ b.0) (eqb-true _ _ b.1) (eqb-true _ _ a.1)

-- ---- a block behind another

stands_right : (before : Option BlockHead) (same : Bool) (b : Block) → StandsBehind before same (head_of b) → is_right_block (least_id before) b ≡ true
stands_right before same b s =
    let ids = and_from _ _ (le-leb (least_id before) b.id s.above) (le-leb b.id 32 s.id) in
    let fork = and_from _ _ ids (le-leb b.fork 3 s.fork) in
    let content = and_from _ _ fork (le-leb (length b.content) 65535 (omega (arith, s.content))) in
    and_from _ _ content (option_right b.image s.image)

right_stands : (before : Option BlockHead) (same : Bool) (b : Block) → is_right_block (least_id before) b ≡ true → BlockFits b → OnTrue same (IsTrue (is_same_relation (relation_of before) b.rel)) → StandsBehind before same (head_of b)
right_stands before same b right fits left_out =
    let parts = right_parts (least_id before) b right in
    record {
      above = parts.floor_le;
      id = parts.id_le;
      fork = parts.fork_le;
      content = omega (arith, parts.content_le);
      image = option_is b.image parts.image;
      tablespace = fits.numbers.tablespace;
      database = fits.numbers.database;
      relation = fits.numbers.relation;
      number = fits.numbers.number;
      relation_before = OnTrue_from same _ (λ e. same_has before b.rel (OnTrue_at e left_out));
    }

-- ---- blocks

abbrev SpelledAndRight : Option BlockHead → List Block → List ℕ → Type 0
SpelledAndRight before bs text = SpellsBlockHeaders (relation_of before) bs text × (are_right_blocks (least_id before) bs ≡ true)

pub heads_are_blocks : (before : Option BlockHead) (bs : List Block) (text : List ℕ) → SpellsHeads before (map head_of bs) text → SpelledAndRight before bs text
heads_are_blocks before [] text spelled = (spelled, refl)
heads_are_blocks before (b ∷ bs) text spelled =
    let same = spelled.0 in
    let rest = spelled.1.0 in
    let stands = spelled.1.1.1.0 in
    let behind = heads_are_blocks (Some (head_of b)) bs rest spelled.1.1.1.1 in
    let left_out = OnTrue_from same (IsTrue (is_same_relation (relation_of before) b.rel)) (λ e. has_same before b.rel (OnTrue_at e stands.relation_before)) in
    let text_is : text ≡ block_header b same ++ rest = spelled.1.1.0 ∙ ap (λ (l : List ℕ). l ++ rest) (sym (header_is b same)) in
    ((same, (left_out, (rest, (text_is, behind.0)))), and_from _ _ (stands_right before same b stands) behind.1)

pub blocks_are_heads : (before : Option BlockHead) (bs : List Block) (text : List ℕ) → SpellsBlockHeaders (relation_of before) bs text → are_right_blocks (least_id before) bs ≡ true → AllByRecursion BlockFits bs → SpellsHeads before (map head_of bs) text
blocks_are_heads before [] text spelled right fits = spelled
blocks_are_heads before (b ∷ bs) text spelled right fits =
    let same = spelled.0 in
    let rest = spelled.1.1.0 in
    let both = and_parts (is_right_block (least_id before) b) (are_right_blocks (b.id + 1) bs) right in
    let behind = blocks_are_heads (Some (head_of b)) bs rest spelled.1.1.1.1 both.1 fits.1 in
    let text_is : text ≡ head_text same (head_of b) ++ rest = spelled.1.1.1.0 ∙ ap (λ (l : List ℕ). l ++ rest) (header_is b same) in
    (same, (rest, (text_is, (right_stands before same b both.0 fits.0 spelled.1.0, behind))))

-- ---- the other items

pub origin_is : (o : Option ℕ) → origin_item o ≡ item_text 253 w16 o
origin_is None = refl
origin_is (Some n) = refl

pub top_is : (o : Option Xid) → top_xid_item o ≡ item_text 252 w32 (option_map (λ (x : Xid). x.0) o)
top_is None = refl
top_is (Some x) = refl

pub top_number_fits : (o : Option Xid) → IfSome o (λ x. x.0 < 2 ^ 32) → IfSome (option_map (λ (x : Xid). x.0) o) (λ n. n < 2 ^ 32)
top_number_fits None h = tt
top_number_fits (Some x) h = h

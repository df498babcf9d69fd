-- What is read of a block's header is spelled so.
use Rattle.std.proofs.Common.{◌≡◌, ℕ, ◌+◌, ◌-◌, ◌/◌, ◌%◌, ◌^◌, ◌<◌, ◌≤◌, Bool, true, false, cond, eqb, ltb, leb, ◌||◌, List, [], ◌∷◌, ◌++◌, length, get_or, take, drop, Option, Some, None, Ok, refl, sym, ap, subst, ◌∙◌, append_assoc, arith}
use Rattle.std.specs.Bool.{MatchBool, OnTrue}
use Rattle.std.specs.Prelude.{IfSome}
use Rattle.std.specs.Int.{Width, w16, w32, byte_len, to_le_bytes}
use Rattle.std.proofs.lemmas.Bool.{eqb-true, eqb-false, ltb-false, leb-false, leb-true, lt-ltb, le-ltb, or_parts, not-false, and_parts}
use Rattle.std.proofs.lemmas.List.{drop_more, length-take, length-drop, length-append}
use Rattle.wal_types.specs.declared.record.Rel.{Rel}
use Rattle.wal_record.specs.declared.head.BlockHead.{BlockHead}
use Rattle.wal_record.specs.declared.head.ForkFlags.{ForkFlags}
use Rattle.wal_record.specs.declared.head.ImageHead.{ImageHead}
use Rattle.wal_spelling.specs.Spelling.{flag, relation_bytes}
use Rattle.wal_spelling.specs.Numbers.{number_at}
use Rattle.wal_record.specs.Reading.{ItemRead, HeaderCursor, skip, begins_block, fork_flags, fork_item, image_head_of, image_item, is_wrong_hole, relation_item, number_item, block_item, least_id, payload_len}
use Rattle.wal_record.specs.Items.{image_flag, image_head_text, head_text, IsPageImage, HasRelation, StandsBehind}
use Rattle.wal_spelling.proofs.Bytes.{IsBytes, IsBytes-drop, IsBytes-take, IsWide, wide16, wide32}
use Rattle.wal_record.proofs.HeaderParts.{piece}
use Rattle.wal_record.proofs.Flags.{fork_byte, fork_byte-back, info-back}
use Rattle.wal_record.proofs.Steps.{bind_ok, not_refused, ok_is}

-- a number, and what is behind it
pub number_back : (w : Width) (limit : ℕ) → IsWide w limit → (bytes : List ℕ) (at : ℕ) → IsBytes bytes → at + byte_len w ≤ length bytes → drop at bytes ≡ to_le_bytes w (number_at w bytes at) ++ drop (at + byte_len w) bytes
number_back w limit wide bytes at fits long =
    let number = take (byte_len w) (drop at bytes) in
    let number_fits = IsBytes-take (byte_len w) (drop at bytes) (IsBytes-drop at bytes fits) in
    let len : length number ≡ byte_len w = omega (arith, length-take (byte_len w) (drop at bytes), length-drop at bytes) in
    piece at (byte_len w) bytes ∙ ap (λ (l : List ℕ). l ++ drop (at + byte_len w) bytes) (sym (wide.back number len number_fits))

pub number_below : (w : Width) (limit : ℕ) → IsWide w limit → (bytes : List ℕ) (at : ℕ) → IsBytes bytes → number_at w bytes at < limit
number_below w limit wide bytes at fits = wide.below _ (IsBytes-take (byte_len w) (drop at bytes) (IsBytes-drop at bytes fits))

-- what a reader has passed on the way from one place to another
pub record Passes (s : HeaderCursor) (text : List ℕ) (next : HeaderCursor) : Type 0 where
  pub rest_is : s.rest ≡ text ++ next.rest
  pub at_is : next.at ≡ s.at + length text
  pub owed_is : next.owed ≡ s.owed
  pub fits : IsBytes next.rest

pub passes_skip : (n : ℕ) (s : HeaderCursor) (text : List ℕ) → IsBytes s.rest → s.rest ≡ text ++ drop n s.rest → length text ≡ n → Passes s text (skip n s)
passes_skip n s text fits e len = record { rest_is = e; at_is = rw len refl; owed_is = refl; fits = IsBytes-drop n s.rest fits }

pub passes_both : {s m n : HeaderCursor} {xs ys : List ℕ} → Passes s xs m → Passes m ys n → Passes s (xs ++ ys) n
passes_both {s} {m} {n} {xs} {ys} a b = record {
  rest_is = a.rest_is ∙ ap (λ (l : List ℕ). xs ++ l) b.rest_is ∙ sym (append_assoc xs ys n.rest);
  at_is = omega (arith, a.at_is, b.at_is, length-append xs ys);
  owed_is = b.owed_is ∙ a.owed_is;
  fits = b.fits;
}

-- ---- the fork byte and the data's length

pub record ForkTaken (s : HeaderCursor) (x : ItemRead (ForkFlags × ℕ)) : Type 0 where
  pub passes : Passes s (fork_byte x.value.0 ∷ to_le_bytes w16 x.value.1) x.next
  pub fork : x.value.0.fork ≤ 3
  pub has_data : x.value.0.has_data ≡ ltb 0 x.value.1
  pub content : x.value.1 < 2 ^ 16

data_agrees : (has : Bool) (len : ℕ) → cond has (eqb len 0) (ltb 0 len) ≡ false → has ≡ ltb 0 len
data_agrees true len e = let some : 0 < len = omega (arith, eqb-false len 0 e) in sym (lt-ltb 0 len some)
data_agrees false len e = sym e

pub fork_takes : (s : HeaderCursor) (x : ItemRead (ForkFlags × ℕ)) → IsBytes s.rest → fork_item s ≡ Ok x → ForkTaken s x
unfolding fork_item
fork_takes s x fits e =
    let byte = get_or s.rest 0 0 in
    let len = number_at w16 s.rest 1 in
    let a = not_refused (ltb (length s.rest) 3) _ _ x e in
    let b = not_refused (ltb 3 (byte % 16)) _ _ x a.1 in
    let c = not_refused (cond (eqb (byte / 32 % 2) 1) (eqb len 0) (ltb 0 len)) _ _ x b.1 in
    let long = ltb-false _ _ a.0 in
    let made : ItemRead (ForkFlags × ℕ) = record { value = (fork_flags byte, len); next = skip 3 s } in
    let spelled : s.rest ≡ (byte ∷ to_le_bytes w16 len) ++ drop 3 s.rest = drop_more s.rest 0 0 (omega arith) ∙ ap (λ (l : List ℕ). byte ∷ l) (number_back w16 (2 ^ 16) wide16 s.rest 1 fits (omega arith)) in
    let again : s.rest ≡ (fork_byte (fork_flags byte) ∷ to_le_bytes w16 len) ++ drop 3 s.rest = spelled ∙ ap (λ (n : ℕ). (n ∷ to_le_bytes w16 len) ++ drop 3 s.rest) (sym (fork_byte-back byte (fits 0))) in
    subst (ForkTaken s) (ok_is made x c.1) (record {
      passes = passes_skip 3 s _ fits again refl;
      fork = ltb-false _ _ b.0;
      has_data = data_agrees _ len c.0;
      content = number_below w16 (2 ^ 16) wide16 s.rest 1 fits;
    })

-- ---- an image's header

pub record ImageTaken (has : Bool) (s : HeaderCursor) (x : ItemRead (Option ImageHead)) : Type 0 where
  pub passes : Passes s (image_head_text x.value) x.next
  pub right : IfSome x.value IsPageImage
  pub flag_is : flag has 16 ≡ image_flag x.value

-- a hole that is not wrong
hole_takes : (len offset : ℕ) (has : Bool) → len ≤ 8192 → is_wrong_hole len offset has ≡ false → (ltb 0 (8192 - len) ≡ has) × MatchBool (ltb 0 (8192 - len)) ((0 < offset) × (offset + (8192 - len) ≤ 8192)) (offset ≡ 0)
hole_takes len offset true le e =
    let a = or_parts (eqb offset 0 || eqb len 8192) (ltb 8192 (offset + (8192 - len))) e in
    let b = or_parts (eqb offset 0) (eqb len 8192) a.0 in
    let short : 0 < 8192 - len = omega (arith, eqb-false len 8192 b.1) in
    let t : ltb 0 (8192 - len) ≡ true = lt-ltb _ _ short in
    (t, rw t (omega (arith, eqb-false offset 0 b.0), ltb-false _ _ a.1))
hole_takes len offset false le e =
    let a = and_parts (eqb offset 0) (eqb len 8192) (not-false _ e) in
    let whole : 8192 - len ≤ 0 = omega (arith, eqb-true len 8192 a.1) in
    let t : ltb 0 (8192 - len) ≡ false = le-ltb _ _ whole in
    (t, rw t (eqb-true offset 0 a.0))

image_there : (id : ℕ) (s : HeaderCursor) (x : ItemRead (Option ImageHead)) → IsBytes s.rest → image_item true id s ≡ Ok x → ImageTaken true s x
unfolding image_item
image_there id s x fits e =
    let len = number_at w16 s.rest 0 in
    let offset = number_at w16 s.rest 2 in
    let info = get_or s.rest 4 0 in
    let a = not_refused (ltb (length s.rest) 5) _ _ x e in
    let b = not_refused (ltb 8192 len || leb 32 info) _ _ x a.1 in
    let c = not_refused (ltb 0 (info / 4 % 8)) _ _ x b.1 in
    let d = not_refused (is_wrong_hole len offset (eqb (info % 2) 1)) _ _ x c.1 in
    let long = ltb-false _ _ a.0 in
    let within = or_parts (ltb 8192 len) (leb 32 info) b.0 in
    let few : len ≤ 8192 = ltb-false _ _ within.0 in
    let low : info < 4 = omega (arith, leb-false 32 info within.1, ltb-false 0 (info / 4 % 8) c.0) in
    let hole = hole_takes len offset (eqb (info % 2) 1) few d.0 in
    let info_is : info ≡ flag (ltb 0 (8192 - len)) 1 + flag (eqb (info / 2 % 2) 1) 2 = sym (ap (λ (t : Bool). flag t 1 + flag (eqb (info / 2 % 2) 1) 2) hole.0 ∙ info-back info low) in
    let head = image_head_of len offset info in
    let made : ItemRead (Option ImageHead) = record { value = Some head; next = skip 5 s } in
    let behind : drop 4 s.rest ≡ (flag (ltb 0 (8192 - len)) 1 + flag (eqb (info / 2 % 2) 1) 2) ∷ drop 5 s.rest = drop_more s.rest 4 0 (omega arith) ∙ ap (λ (n : ℕ). n ∷ drop 5 s.rest) info_is in
    let spelled : s.rest ≡ image_head_text (Some head) ++ drop 5 s.rest = number_back w16 (2 ^ 16) wide16 s.rest 0 fits (omega arith) ∙ ap (λ (l : List ℕ). to_le_bytes w16 len ++ l) (number_back w16 (2 ^ 16) wide16 s.rest 2 fits (omega arith) ∙ ap (λ (l : List ℕ). to_le_bytes w16 offset ++ l) behind) in
    subst (ImageTaken true s) (ok_is made x d.1) (record {
      passes = passes_skip 5 s _ fits spelled refl;
      right = record { page = omega arith; hole = hole.1 };
      flag_is = refl;
    })

image_absent : (id : ℕ) (s : HeaderCursor) (x : ItemRead (Option ImageHead)) → IsBytes s.rest → image_item false id s ≡ Ok x → ImageTaken false s x
unfolding image_item
image_absent id s x fits e =
    let made : ItemRead (Option ImageHead) = record { value = None; next = s } in
    subst (ImageTaken false s) (ok_is made x e) (record {
      passes = record { rest_is = refl; at_is = omega arith; owed_is = refl; fits = fits };
      right = tt;
      flag_is = refl;
    })

pub image_takes : (has : Bool) (id : ℕ) (s : HeaderCursor) (x : ItemRead (Option ImageHead)) → IsBytes s.rest → image_item has id s ≡ Ok x → ImageTaken has s x
image_takes true id s x fits e = image_there id s x fits e
image_takes false id s x fits e = image_absent id s x fits e

-- ---- the relation

pub record RelationTaken (same : Bool) (before : Option BlockHead) (s : HeaderCursor) (x : ItemRead Rel) : Type 0 where
  pub passes : Passes s (cond same [] (relation_bytes x.value)) x.next
  pub tablespace : x.value.spc < 2 ^ 32
  pub database : x.value.db < 2 ^ 32
  pub relation : x.value.rel < 2 ^ 32
  pub relation_before : OnTrue same (HasRelation before x.value)

-- the numbers of a block before fit their fields
pub record RelationFits (rel : Rel) : Type 0 where
  pub tablespace : rel.spc < 2 ^ 32
  pub database : rel.db < 2 ^ 32
  pub relation : rel.rel < 2 ^ 32

abbrev pub BeforeFits : Option BlockHead → Type 0
BeforeFits before = IfSome before (λ h. RelationFits h.rel)

relation_spelled : (before : Option BlockHead) (s : HeaderCursor) (x : ItemRead Rel) → IsBytes s.rest → relation_item false before s ≡ Ok x → RelationTaken false before s x
unfolding relation_item
relation_spelled before s x fits e =
    let a = not_refused (ltb (length s.rest) 12) _ _ x e in
    let long = ltb-false _ _ a.0 in
    let rel : Rel = record { spc = number_at w32 s.rest 0; db = number_at w32 s.rest 4; rel = number_at w32 s.rest 8 } in
    let made : ItemRead Rel = record { value = rel; next = skip 12 s } in
    let spelled : s.rest ≡ relation_bytes rel ++ drop 12 s.rest = number_back w32 (2 ^ 32) wide32 s.rest 0 fits (omega arith) ∙ ap (λ (l : List ℕ). to_le_bytes w32 rel.spc ++ l) (number_back w32 (2 ^ 32) wide32 s.rest 4 fits (omega arith) ∙ ap (λ (l : List ℕ). to_le_bytes w32 rel.db ++ l) (number_back w32 (2 ^ 32) wide32 s.rest 8 fits (omega arith))) in
    subst (RelationTaken false before s) (ok_is made x a.1) (record {
      passes = passes_skip 12 s _ fits spelled refl;
      tablespace = number_below w32 (2 ^ 32) wide32 s.rest 0 fits;
      database = number_below w32 (2 ^ 32) wide32 s.rest 4 fits;
      relation = number_below w32 (2 ^ 32) wide32 s.rest 8 fits;
      relation_before = tt;
    })

relation_kept : (b : BlockHead) (s : HeaderCursor) (x : ItemRead Rel) → IsBytes s.rest → RelationFits b.rel → relation_item true (Some b) s ≡ Ok x → RelationTaken true (Some b) s x
unfolding relation_item
relation_kept b s x fits before e =
    let made : ItemRead Rel = record { value = b.rel; next = s } in
    subst (RelationTaken true (Some b) s) (ok_is made x e) (record {
      passes = record { rest_is = refl; at_is = omega arith; owed_is = refl; fits = fits };
      tablespace = before.tablespace;
      database = before.database;
      relation = before.relation;
      relation_before = refl;
    })

relation_missing : (s : HeaderCursor) (x : ItemRead Rel) → relation_item true None s ≡ Ok x → ⊥
unfolding relation_item
relation_missing s x e = cc

pub relation_takes : (same : Bool) (before : Option BlockHead) (s : HeaderCursor) (x : ItemRead Rel) → IsBytes s.rest → BeforeFits before → relation_item same before s ≡ Ok x → RelationTaken same before s x
relation_takes true None s x fits before e = absurd (relation_missing s x e)
relation_takes true (Some b) s x fits before e = relation_kept b s x fits before e
relation_takes false before s x fits b e = relation_spelled before s x fits e

-- ---- the block's number

pub record NumberTaken (s : HeaderCursor) (x : ItemRead ℕ) : Type 0 where
  pub passes : Passes s (to_le_bytes w32 x.value) x.next
  pub number : x.value < 2 ^ 32

pub number_takes : (s : HeaderCursor) (x : ItemRead ℕ) → IsBytes s.rest → number_item s ≡ Ok x → NumberTaken s x
unfolding number_item
number_takes s x fits e =
    let a = not_refused (ltb (length s.rest) 4) _ _ x e in
    let long = ltb-false _ _ a.0 in
    let made : ItemRead ℕ = record { value = number_at w32 s.rest 0; next = skip 4 s } in
    subst (NumberTaken s) (ok_is made x a.1) (record {
      passes = passes_skip 4 s _ fits (number_back w32 (2 ^ 32) wide32 s.rest 0 fits (omega arith)) refl;
      number = number_below w32 (2 ^ 32) wide32 s.rest 0 fits;
    })

-- ---- a block's header

pub record BlockTaken (before : Option BlockHead) (s : HeaderCursor) (x : ItemRead BlockHead) : Type 0 where
  pub same : Bool
  pub rest_is : s.rest ≡ head_text same x.value ++ x.next.rest
  pub at_is : x.next.at ≡ s.at + length (head_text same x.value)
  pub owed_is : x.next.owed ≡ s.owed + payload_len x.value
  pub fits : IsBytes x.next.rest
  pub stands : StandsBehind before same x.value

begins_id : (bytes : List ℕ) → begins_block bytes ≡ true → (get_or bytes 0 0 ≤ 32) × (bytes ≡ get_or bytes 0 0 ∷ drop 1 bytes)
begins_id [] e = absurd cc
begins_id (b ∷ bs) e = (leb-true b 32 e, refl)

block_made : (before : Option BlockHead) (s : HeaderCursor) (fork : ItemRead (ForkFlags × ℕ)) (image : ItemRead (Option ImageHead)) (rel : ItemRead Rel) (blk : ItemRead ℕ)
    → IsBytes s.rest → begins_block s.rest ≡ true → least_id before ≤ get_or s.rest 0 0 → ForkTaken (skip 1 s) fork → ImageTaken fork.value.0.has_image fork.next image → RelationTaken fork.value.0.same before image.next rel → NumberTaken rel.next blk
    → let head : BlockHead = record { id = get_or s.rest 0 0; rel = rel.value; fork = fork.value.0.fork; blk = blk.value; will_init = fork.value.0.will_init; image = image.value; content_len = fork.value.1 } in
    BlockTaken before s (record { value = head; next = record { at = blk.next.at; rest = blk.next.rest; owed = s.owed + payload_len head } })
block_made before s fork image rel blk fits begins above f i r n =
    let id = get_or s.rest 0 0 in
    let b = begins_id s.rest begins in
    let first : Passes s (id ∷ []) (skip 1 s) = passes_skip 1 s (id ∷ []) fits b.1 refl in
    let flags = fork.value.0 in
    let all = passes_both (passes_both (passes_both (passes_both first f.passes) i.passes) r.passes) n.passes in
    let tail : List ℕ → List ℕ = λ front. front ++ to_le_bytes w16 fork.value.1 ++ image_head_text image.value ++ cond flags.same [] (relation_bytes rel.value) ++ to_le_bytes w32 blk.value in
    let byte_is : fork_byte flags ≡ flags.fork + image_flag image.value + flag (ltb 0 fork.value.1) 32 + flag flags.will_init 64 + flag flags.same 128 = ap (λ (n : ℕ). flags.fork + n + flag flags.has_data 32 + flag flags.will_init 64 + flag flags.same 128) i.flag_is ∙ ap (λ (t : Bool). flags.fork + image_flag image.value + flag t 32 + flag flags.will_init 64 + flag flags.same 128) f.has_data in
    let text_is = ap (λ (n : ℕ). tail (id ∷ n ∷ [])) byte_is in
    record {
      same = flags.same;
      rest_is = all.rest_is ∙ ap (λ (l : List ℕ). l ++ blk.next.rest) text_is;
      at_is = all.at_is ∙ ap (λ (l : List ℕ). s.at + length l) text_is;
      owed_is = refl;
      fits = all.fits;
      stands = record { above = above; id = b.0; fork = f.fork; content = f.content; image = i.right; tablespace = r.tablespace; database = r.database; relation = r.relation; number = n.number; relation_before = r.relation_before };
    }

pub block_takes : (before : Option BlockHead) (s : HeaderCursor) (x : ItemRead BlockHead) → IsBytes s.rest → begins_block s.rest ≡ true → BeforeFits before → block_item before s ≡ Ok x → BlockTaken before s x
unfolding block_item
block_takes before s x fits begins before_fits e =
    let id = get_or s.rest 0 0 in
    let a = not_refused (ltb id (least_id before)) _ _ x e in
    let b = bind_ok (fork_item (skip 1 s)) _ x a.1 in
    let f = fork_takes (skip 1 s) b.0 (IsBytes-drop 1 s.rest fits) b.1 in
    let c = bind_ok (image_item b.0.value.0.has_image id b.0.next) _ x b.2 in
    let i = image_takes b.0.value.0.has_image id b.0.next c.0 f.passes.fits c.1 in
    let d = bind_ok (relation_item b.0.value.0.same before c.0.next) _ x c.2 in
    let r = relation_takes b.0.value.0.same before c.0.next d.0 i.passes.fits before_fits d.1 in
    let k = bind_ok (number_item d.0.next) _ x d.2 in
    let n = number_takes d.0.next k.0 r.passes.fits k.1 in
    let head : BlockHead = record { id = id; rel = d.0.value; fork = b.0.value.0.fork; blk = k.0.value; will_init = b.0.value.0.will_init; image = c.0.value; content_len = b.0.value.1 } in
    let made : ItemRead BlockHead = record { value = head; next = record { at = k.0.next.at; rest = k.0.next.rest; owed = s.owed + payload_len head } } in
    subst (BlockTaken before s) (ok_is made x k.2) (block_made before s b.0 c.0 d.0 k.0 fits begins (ltb-false _ _ a.0) f i r n)

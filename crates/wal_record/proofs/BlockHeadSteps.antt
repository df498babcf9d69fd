-- The loop over the headers of blocks, step by step.
use Rattle.std.proofs.Common.{◌≡◌, ℕ, zero, suc, ◌+◌, ◌/◌, ◌%◌, ◌<◌, ◌≤◌, Bool, true, false, cond, eqb, ltb, leb, ◌&&◌, ◌||◌, List, [], ◌∷◌, ◌++◌, length, get_or, Option, Some, None, Result, Ok, Err, refl, sym, ◌∙◌, subst, arith, length-drop}
use Rattle.std.specs.Int.{w16, w32}
use Rattle.std.proofs.lemmas.Bool.{and_parts, ltb-true}
use Rattle.wal_types.specs.declared.record.Rel.{Rel}
use Rattle.wal_record.specs.declared.head.BlockHead.{BlockHead}
use Rattle.wal_record.specs.declared.head.ForkFlags.{ForkFlags}
use Rattle.wal_record.specs.declared.head.ImageHead.{ImageHead}
use Rattle.wal_record.specs.declared.fault.RecErr.{RecErr}
use Rattle.wal_record.specs.declared.fault.RecErr.TheVariants.{Memory, Malformed, Compressed}
use Rattle.wal_spelling.specs.Numbers.{number_at}
use Rattle.wal_record.specs.Reading.{TellsErrorOf, ItemRead, HeaderCursor, skip, begins_block, fork_flags, fork_item, image_head_of, image_item, is_wrong_hole, relation_item, number_item, block_item, block_items, has_header, least_id, payload_len}
use Rattle.wal_record.proofs.Steps.{bind_ok, not_refused, ok_is}

pub block_items-more : (n : ℕ) (before : Option BlockHead) (heads : List BlockHead) (s : HeaderCursor) (x : ItemRead BlockHead) → (has_header s && begins_block s.rest) ≡ true → block_item before s ≡ Ok x → block_items (suc n) before heads s ≡ block_items n (Some x.value) (heads ++ x.value ∷ []) x.next
unfolding block_items
block_items-more n before heads s x more e = rw (more, e) refl

pub block_items-fails : (n : ℕ) (before : Option BlockHead) (heads : List BlockHead) (s : HeaderCursor) (e : RecErr) → (has_header s && begins_block s.rest) ≡ true → block_item before s ≡ Err e → block_items (suc n) before heads s ≡ Err e
unfolding block_items
block_items-fails n before heads s e more fails = rw (more, fails) refl

pub block_items-ends : (n : ℕ) (before : Option BlockHead) (heads : List BlockHead) (s : HeaderCursor) → (has_header s && begins_block s.rest) ≡ false → block_items n before heads s ≡ Ok (record { value = heads; next = s })
unfolding block_items
block_items-ends zero before heads s over = refl
block_items-ends (suc n) before heads s over = rw over refl

-- where there is another header, bytes are left
pub bytes_left : (s : HeaderCursor) → (has_header s && begins_block s.rest) ≡ true → s.owed < length s.rest
bytes_left s more = ltb-true _ _ (and_parts (has_header s) (begins_block s.rest) more).0

-- ---- each header is at least a byte long

pub record Shrinks (s next : HeaderCursor) : Type 0 where
  pub left : length next.rest ≤ length s.rest

pub skip_shrinks : (n : ℕ) (s : HeaderCursor) → Shrinks s (skip n s)
skip_shrinks n s = record { left = omega (arith, length-drop n s.rest) }

pub fork_shrinks : (s : HeaderCursor) (x : ItemRead (ForkFlags × ℕ)) → fork_item s ≡ Ok x → Shrinks s x.next
unfolding fork_item
fork_shrinks s x e =
    let byte = get_or s.rest 0 0 in
    let len = number_at w16 s.rest 1 in
    let a = not_refused (ltb (length s.rest) 3) _ _ x e in
    let b = not_refused (ltb 3 (byte % 16)) _ _ x a.1 in
    let c = not_refused (cond (eqb (byte / 32 % 2) 1) (eqb len 0) (ltb 0 len)) _ _ x b.1 in
    let made : ItemRead (ForkFlags × ℕ) = record { value = (fork_flags byte, len); next = skip 3 s } in
    subst (λ (y : ItemRead (ForkFlags × ℕ)). Shrinks s y.next) (ok_is made x c.1) (skip_shrinks 3 s)

pub image_shrinks : (has : Bool) (id : ℕ) (s : HeaderCursor) (x : ItemRead (Option ImageHead)) → image_item has id s ≡ Ok x → Shrinks s x.next
unfolding image_item
image_shrinks true id s x e =
    let len = number_at w16 s.rest 0 in
    let offset = number_at w16 s.rest 2 in
    let info = get_or s.rest 4 0 in
    let a = not_refused (ltb (length s.rest) 5) _ _ x e in
    let b = not_refused (ltb 8192 len || leb 32 info) _ _ x a.1 in
    let c = not_refused (ltb 0 (info / 4 % 8)) _ _ x b.1 in
    let d = not_refused (is_wrong_hole len offset (eqb (info % 2) 1)) _ _ x c.1 in
    let made : ItemRead (Option ImageHead) = record { value = Some (image_head_of len offset info); next = skip 5 s } in
    subst (λ (y : ItemRead (Option ImageHead)). Shrinks s y.next) (ok_is made x d.1) (skip_shrinks 5 s)
image_shrinks false id s x e =
    let made : ItemRead (Option ImageHead) = record { value = None; next = s } in
    subst (λ (y : ItemRead (Option ImageHead)). Shrinks s y.next) (ok_is made x e) (record { left = omega arith })

pub relation_shrinks : (same : Bool) (before : Option BlockHead) (s : HeaderCursor) (x : ItemRead Rel) → relation_item same before s ≡ Ok x → Shrinks s x.next
unfolding relation_item
relation_shrinks true None s x e = absurd cc
relation_shrinks true (Some b) s x e =
    let made : ItemRead Rel = record { value = b.rel; next = s } in
    subst (λ (y : ItemRead Rel). Shrinks s y.next) (ok_is made x e) (record { left = omega arith })
relation_shrinks false before s x e =
    let a = not_refused (ltb (length s.rest) 12) _ _ x e in
    let rel : Rel = record { spc = number_at w32 s.rest 0; db = number_at w32 s.rest 4; rel = number_at w32 s.rest 8 } in
    let made : ItemRead Rel = record { value = rel; next = skip 12 s } in
    subst (λ (y : ItemRead Rel). Shrinks s y.next) (ok_is made x a.1) (skip_shrinks 12 s)

pub number_shrinks : (s : HeaderCursor) (x : ItemRead ℕ) → number_item s ≡ Ok x → Shrinks s x.next
unfolding number_item
number_shrinks s x e =
    let a = not_refused (ltb (length s.rest) 4) _ _ x e in
    let made : ItemRead ℕ = record { value = number_at w32 s.rest 0; next = skip 4 s } in
    subst (λ (y : ItemRead ℕ). Shrinks s y.next) (ok_is made x a.1) (skip_shrinks 4 s)

pub block_shrinks : (before : Option BlockHead) (s : HeaderCursor) (x : ItemRead BlockHead) → 0 < length s.rest → block_item before s ≡ Ok x → length x.next.rest < length s.rest
unfolding block_item
block_shrinks before s x some e =
    let id = get_or s.rest 0 0 in
    let a = not_refused (ltb id (least_id before)) _ _ x e in
    let b = bind_ok (fork_item (skip 1 s)) _ x a.1 in
    let c = bind_ok (image_item b.0.value.0.has_image id b.0.next) _ x b.2 in
    let d = bind_ok (relation_item b.0.value.0.same before c.0.next) _ x c.2 in
    let k = bind_ok (number_item d.0.next) _ x d.2 in
    let head : BlockHead = record { id = id; rel = d.0.value; fork = b.0.value.0.fork; blk = k.0.value; will_init = b.0.value.0.will_init; image = c.0.value; content_len = b.0.value.1 } in
    let made : ItemRead BlockHead = record { value = head; next = record { at = k.0.next.at; rest = k.0.next.rest; owed = s.owed + payload_len head } } in
    let f = fork_shrinks (skip 1 s) b.0 b.1 in
    let i = image_shrinks b.0.value.0.has_image id b.0.next c.0 c.1 in
    let r = relation_shrinks b.0.value.0.same before c.0.next d.0 d.1 in
    let n = number_shrinks d.0.next k.0 k.1 in
    let less : length made.next.rest < length s.rest = omega (arith, f.left, i.left, r.left, n.left, length-drop 1 s.rest) in
    subst (λ (y : ItemRead BlockHead). length y.next.rest < length s.rest) (ok_is made x k.2) less

-- ---- the loop's answers

-- the loop goes on
pub goes_on : (n : ℕ) (before : Option BlockHead) (heads : List BlockHead) (s : HeaderCursor) (x : ItemRead BlockHead) (goal : Result (ItemRead (List BlockHead)) RecErr) → length s.rest ≤ n → block_items n before heads s ≡ goal
    → (has_header s && begins_block s.rest) ≡ true → block_item before s ≡ Ok x → (m : ℕ) × ((length x.next.rest ≤ m) × (block_items m (Some x.value) (heads ++ x.value ∷ []) x.next ≡ goal))
goes_on zero before heads s x goal enough e more read = absurd (omega (arith, bytes_left s more))
goes_on (suc m) before heads s x goal enough e more read = (m, (omega (arith, block_shrinks before s x (omega (arith, bytes_left s more)) read), sym (block_items-more m before heads s x more read) ∙ e))

-- the loop fails
pub fails_so : (n : ℕ) (before : Option BlockHead) (heads : List BlockHead) (s : HeaderCursor) (d : RecErr) (goal : Result (ItemRead (List BlockHead)) RecErr) → length s.rest ≤ n → block_items n before heads s ≡ goal
    → (has_header s && begins_block s.rest) ≡ true → block_item before s ≡ Err d → goal ≡ Err d
fails_so zero before heads s d goal enough e more read = absurd (omega (arith, bytes_left s more))
fails_so (suc m) before heads s d goal enough e more read = sym e ∙ block_items-fails m before heads s d more read

pub fails_here : (n : ℕ) (before : Option BlockHead) (heads : List BlockHead) (s : HeaderCursor) (d : RecErr) (goal : Result (ItemRead (List BlockHead)) RecErr) → length s.rest ≤ n → block_items n before heads s ≡ goal
    → (has_header s && begins_block s.rest) ≡ true → TellsErrorOf d (block_item before s) → TellsErrorOf d goal
fails_here n before heads s Memory goal enough e more read = tt
fails_here n before heads s (Malformed at kind) goal enough e more read = fails_so n before heads s (Malformed at kind) goal enough e more read
fails_here n before heads s (Compressed id) goal enough e more read = fails_so n before heads s (Compressed id) goal enough e more read

-- The loop over the headers of blocks whose images are read as they are stored, step by step.
use Rattle.std.proofs.Common.{◌≡◌, ℕ, zero, suc, ◌+◌, ◌<◌, ◌≤◌, Bool, true, false, ltb, leb, ◌&&◌, ◌||◌, not, List, [], ◌∷◌, ◌++◌, length, get_or, Option, Some, None, Result, Ok, Err, refl, sym, ◌∙◌, subst, arith, inl, inr, length-drop}
use Rattle.std.specs.Int.{w16}
use Rattle.wal_record.specs.declared.head.BlockHead.{BlockHead}
use Rattle.wal_record.specs.declared.head.ForkFlags.{ForkFlags}
use Rattle.wal_record.specs.declared.head.ImageHead.{ImageHead}
use Rattle.wal_record.specs.declared.fault.RecErr.{RecErr}
use Rattle.wal_record.specs.declared.fault.RecErr.TheVariants.{Memory, Malformed, Compressed}
use Rattle.wal_spelling.specs.Numbers.{number_at}
use Rattle.wal_record.specs.Reading.{TellsErrorOf, ItemRead, HeaderCursor, skip, begins_block, fork_item, image_flags, relation_item, number_item, has_header, least_id, payload_len}
use Rattle.wal_record.specs.Stored.{hole_item, is_no_hole, stored_block_item, stored_block_items, stored_image_item}
use Rattle.wal_record.proofs.BlockHeadSteps.{Shrinks, bytes_left, fork_shrinks, image_shrinks, number_shrinks, relation_shrinks, skip_shrinks}
use Rattle.wal_record.proofs.Steps.{bind_ok, chosen, not_refused, ok_is}

-- ---- each header is at least a byte long

hole_shrinks : (has : Bool) (s : HeaderCursor) (x : ItemRead ℕ) → hole_item has s ≡ Ok x → Shrinks s x.next
unfolding hole_item
hole_shrinks true s x e =
    let a = not_refused (ltb (length s.rest) 2) _ _ x e in
    let made : ItemRead ℕ = record { value = number_at w16 s.rest 0; next = skip 2 s } in
    subst (λ (y : ItemRead ℕ). Shrinks s y.next) (ok_is made x a.1) (skip_shrinks 2 s)
hole_shrinks false s x e =
    let made : ItemRead ℕ = record { value = 0; next = s } in
    subst (λ (y : ItemRead ℕ). Shrinks s y.next) (ok_is made x e) (record { left = omega arith })

stored_image_shrinks : (has : Bool) (id : ℕ) (s : HeaderCursor) (x : ItemRead (Option ImageHead)) → stored_image_item has id s ≡ Ok x → Shrinks s x.next
unfolding stored_image_item
stored_image_shrinks false id s x e =
    let made : ItemRead (Option ImageHead) = record { value = None; next = s } in
    subst (λ (y : ItemRead (Option ImageHead)). Shrinks s y.next) (ok_is made x e) (record { left = omega arith })
stored_image_shrinks true id s x e =
    let len = number_at w16 s.rest 0 in
    let offset = number_at w16 s.rest 2 in
    let info = get_or s.rest 4 0 in
    let flags = image_flags info in
    let a = not_refused (ltb (length s.rest) 5) _ _ x e in
    elim (chosen (not flags.compressed) _ _ _ a.1) [
      | inl plain ↦ image_shrinks true id s x plain.1
      | inr packed ↦
          let b = not_refused (leb 8192 len || flags.unknown) _ _ x packed.1 in
          let hole = bind_ok (hole_item flags.has_hole (skip 5 s)) _ x b.1 in
          let d = not_refused (is_no_hole offset hole.0.value flags.has_hole) _ _ x hole.2 in
          let head : ImageHead = record { apply = flags.apply; hole_offset = offset; hole_len = hole.0.value; len = len } in
          let made : ItemRead (Option ImageHead) = record { value = Some head; next = hole.0.next } in
          let h = hole_shrinks flags.has_hole (skip 5 s) hole.0 hole.1 in
          subst (λ (y : ItemRead (Option ImageHead)). Shrinks s y.next) (ok_is made x d.1) (record { left = omega (arith, h.left, length-drop 5 s.rest) })
    ]

-- what is kept of a block's header: it is at least a byte long, and its fork is one of four
pub record TakesBlock (s : HeaderCursor) (x : ItemRead BlockHead) : Type 0 where
  pub left : length x.next.rest ≤ length (skip 1 s).rest
  pub fork : ItemRead (ForkFlags × ℕ)
  pub fork_read : fork_item (skip 1 s) ≡ Ok fork
  pub fork_is : x.value.fork ≡ fork.value.0.fork

pub takes_block : (before : Option BlockHead) (s : HeaderCursor) (x : ItemRead BlockHead) → stored_block_item before s ≡ Ok x → TakesBlock s x
unfolding stored_block_item
takes_block before s x e =
    let id = get_or s.rest 0 0 in
    let a = not_refused (ltb id (least_id before)) _ _ x e in
    let b = bind_ok (fork_item (skip 1 s)) _ x a.1 in
    let c = bind_ok (stored_image_item b.0.value.0.has_image id b.0.next) _ x b.2 in
    let d = bind_ok (relation_item b.0.value.0.same before c.0.next) _ x c.2 in
    let k = bind_ok (number_item d.0.next) _ x d.2 in
    let head : BlockHead = record { id = id; rel = d.0.value; fork = b.0.value.0.fork; blk = k.0.value; will_init = b.0.value.0.will_init; image = c.0.value; content_len = b.0.value.1 } in
    let made : ItemRead BlockHead = record { value = head; next = record { at = k.0.next.at; rest = k.0.next.rest; owed = s.owed + payload_len head } } in
    let f = fork_shrinks (skip 1 s) b.0 b.1 in
    let i = stored_image_shrinks b.0.value.0.has_image id b.0.next c.0 c.1 in
    let r = relation_shrinks b.0.value.0.same before c.0.next d.0 d.1 in
    let n = number_shrinks d.0.next k.0 k.1 in
    subst (TakesBlock s) (ok_is made x k.2) (record {
      left = omega (arith, f.left, i.left, r.left, n.left);
      fork = b.0;
      fork_read = b.1;
      fork_is = refl;
    })

pub stored_shrinks : (before : Option BlockHead) (s : HeaderCursor) (x : ItemRead BlockHead) → 0 < length s.rest → stored_block_item before s ≡ Ok x → length x.next.rest < length s.rest
stored_shrinks before s x some e = omega (arith, (takes_block before s x e).left, length-drop 1 s.rest)

-- ---- the loop's answers

stored_items-more : (n : ℕ) (before : Option BlockHead) (heads : List BlockHead) (s : HeaderCursor) (x : ItemRead BlockHead) → (has_header s && begins_block s.rest) ≡ true → stored_block_item before s ≡ Ok x → stored_block_items (suc n) before heads s ≡ stored_block_items n (Some x.value) (heads ++ x.value ∷ []) x.next
unfolding stored_block_items
stored_items-more n before heads s x more e = rw (more, e) refl

stored_items-fails : (n : ℕ) (before : Option BlockHead) (heads : List BlockHead) (s : HeaderCursor) (e : RecErr) → (has_header s && begins_block s.rest) ≡ true → stored_block_item before s ≡ Err e → stored_block_items (suc n) before heads s ≡ Err e
unfolding stored_block_items
stored_items-fails n before heads s e more fails = rw (more, fails) refl

-- the loop goes on
pub stored_goes_on : (n : ℕ) (before : Option BlockHead) (heads : List BlockHead) (s : HeaderCursor) (x : ItemRead BlockHead) (goal : Result (ItemRead (List BlockHead)) RecErr) → length s.rest ≤ n → stored_block_items n before heads s ≡ goal
    → (has_header s && begins_block s.rest) ≡ true → stored_block_item before s ≡ Ok x → (m : ℕ) × ((length x.next.rest ≤ m) × (stored_block_items m (Some x.value) (heads ++ x.value ∷ []) x.next ≡ goal))
stored_goes_on zero before heads s x goal enough e more read = absurd (omega (arith, bytes_left s more))
stored_goes_on (suc m) before heads s x goal enough e more read = (m, (omega (arith, stored_shrinks before s x (omega (arith, bytes_left s more)) read), sym (stored_items-more m before heads s x more read) ∙ e))

-- the loop fails
stored_fails_so : (n : ℕ) (before : Option BlockHead) (heads : List BlockHead) (s : HeaderCursor) (d : RecErr) (goal : Result (ItemRead (List BlockHead)) RecErr) → length s.rest ≤ n → stored_block_items n before heads s ≡ goal
    → (has_header s && begins_block s.rest) ≡ true → stored_block_item before s ≡ Err d → goal ≡ Err d
stored_fails_so zero before heads s d goal enough e more read = absurd (omega (arith, bytes_left s more))
stored_fails_so (suc m) before heads s d goal enough e more read = sym e ∙ stored_items-fails m before heads s d more read

pub stored_fails_here : (n : ℕ) (before : Option BlockHead) (heads : List BlockHead) (s : HeaderCursor) (d : RecErr) (goal : Result (ItemRead (List BlockHead)) RecErr) → length s.rest ≤ n → stored_block_items n before heads s ≡ goal
    → (has_header s && begins_block s.rest) ≡ true → TellsErrorOf d (stored_block_item before s) → TellsErrorOf d goal
stored_fails_here n before heads s Memory goal enough e more read = tt
stored_fails_here n before heads s (Malformed at kind) goal enough e more read = stored_fails_so n before heads s (Malformed at kind) goal enough e more read
stored_fails_here n before heads s (Compressed id) goal enough e more read = stored_fails_so n before heads s (Compressed id) goal enough e more read

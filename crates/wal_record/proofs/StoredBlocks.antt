-- The blocks of a record that is read as it is stored.
use Rattle.std.proofs.Common.{◌≡◌, ℕ, zero, suc, ◌+◌, ◌/◌, ◌%◌, ◌≤◌, false, cond, eqb, ltb, ◌&&◌, ◌||◌, not, All, List, [], ◌∷◌, ◌++◌, length, get_or, take, drop, Option, Some, None, Result, Ok, subst, arith, inl, inr, length-drop}
use Rattle.std.specs.Int.{Width, w16, w32, byte_len}
use Rattle.std.specs.List.{sum_by}
use Rattle.std.proofs.lemmas.Bool.{cases_Bool, ltb-false}
use Rattle.std.proofs.lemmas.List.{length-take}
use Rattle.std.proofs.lemmas.List.Elements.{All-cons, All-head, All-nil, All-push, All-tail}
use Rattle.std.proofs.lemmas.List.Sums.{sum_by-cons}
use Rattle.wal_types.specs.declared.record.Block.{Block}
use Rattle.wal_types.specs.declared.record.Record.{Record}
use Rattle.wal_record.specs.declared.head.BlockHead.{BlockHead}
use Rattle.wal_record.specs.declared.head.ForkFlags.{ForkFlags}
use Rattle.wal_record.specs.declared.head.ImageHead.{ImageHead}
use Rattle.wal_record.specs.declared.fault.RecErr.{RecErr}
use Rattle.wal_record.specs.declared.fault.RecErr.TheVariants.{Malformed}
use Rattle.wal_record.specs.declared.fault.RecKind.TheVariants as kinds
use Rattle.wal_spelling.specs.Numbers.{number_at}
use Rattle.wal_spelling.specs.Record.{is_free_manager}
use Rattle.wal_spelling.specs.Spelling.{image_bytes}
use Rattle.wal_record.specs.Reading.{ItemRead, HeaderCursor, HeadersRead, begins_block, begins_with, block_of, blocks_read, fork_flags, fork_item, has_header, image_len, image_read, main_item, optional_item, owing_more, payload_len, record_of, skip, start_of_headers}
use Rattle.wal_record.specs.Stored.{stored_block_item, stored_block_items, stored_headers_of, stored_of}
use Rattle.wal_record.proofs.Steps.{accepted, bind_ok, both_refuse, chosen, not_refused, ok_is}
use Rattle.wal_record.proofs.StoredSteps.{TakesBlock, takes_block}

-- ---- what is behind the headers is no longer than what is before them, and forks are few

fork_few : (s : HeaderCursor) (x : ItemRead (ForkFlags × ℕ)) → fork_item s ≡ Ok x → x.value.0.fork ≤ 3
unfolding fork_item
fork_few s x e =
    let byte = get_or s.rest 0 0 in
    let len = number_at w16 s.rest 1 in
    let a = not_refused (ltb (length s.rest) 3) _ _ x e in
    let b = not_refused (ltb 3 (byte % 16)) _ _ x a.1 in
    let c = not_refused (cond (eqb (byte / 32 % 2) 1) (eqb len 0) (ltb 0 len)) _ _ x b.1 in
    let made : ItemRead (ForkFlags × ℕ) = record { value = (fork_flags byte, len); next = skip 3 s } in
    subst (λ (y : ItemRead (ForkFlags × ℕ)). y.value.0.fork ≤ 3) (ok_is made x c.1) (ltb-false _ _ b.0)

block_few : (s : HeaderCursor) (x : ItemRead BlockHead) → TakesBlock s x → x.value.fork ≤ 3
block_few s x taken = omega (arith, taken.fork_is, fork_few (skip 1 s) taken.fork taken.fork_read)

record HeadsFit (s : HeaderCursor) (x : ItemRead (List BlockHead)) : Type 0 where
  forks : All (λ (h : BlockHead). h.fork ≤ 3) x.value
  left : length x.next.rest ≤ length s.rest

heads_end : (heads : List BlockHead) (s : HeaderCursor) (x : ItemRead (List BlockHead)) → All (λ (h : BlockHead). h.fork ≤ 3) heads → (let y : Result (ItemRead (List BlockHead)) RecErr = Ok (record { value = heads; next = s }) in y ≡ Ok x) → HeadsFit s x
heads_end heads s x forks e = subst (HeadsFit s) (ok_is _ x e) (record { forks = forks; left = omega arith })

heads_fit : (n : ℕ) (before : Option BlockHead) (heads : List BlockHead) (s : HeaderCursor) (x : ItemRead (List BlockHead)) → All (λ (h : BlockHead). h.fork ≤ 3) heads → stored_block_items n before heads s ≡ Ok x → HeadsFit s x
unfolding stored_block_items
heads_fit zero before heads s x forks e = heads_end heads s x forks e
heads_fit (suc n) before heads s x forks e =
    elim (cases_Bool (has_header s && begins_block s.rest)) [
      | inl more ↦
          let read = bind_ok (stored_block_item before s) _ x (rw more at e) in
          let taken = takes_block before s read.0 read.1 in
          let pushed = All-push (λ (h : BlockHead). h.fork ≤ 3) heads read.0.value forks (block_few s read.0 taken) in
          let rest = heads_fit n (Some read.0.value) (heads ++ read.0.value ∷ []) read.0.next x pushed read.2 in
          record { forks = rest.forks; left = omega (arith, rest.left, taken.left, length-drop 1 s.rest) }
      | inr over ↦ heads_end heads s x forks (rw over at e)
    ]

optional_left : (tag : ℕ) (w : Width) (s : HeaderCursor) (x : ItemRead (Option ℕ)) → optional_item tag w s ≡ Ok x → length x.next.rest ≤ length s.rest
unfolding optional_item
optional_left tag w s x e =
    elim (chosen (has_header s && begins_with tag s.rest) _ _ _ e) [
      | inl h ↦
          let a = not_refused (ltb (length s.rest) (1 + byte_len w)) _ _ x h.1 in
          let made : ItemRead (Option ℕ) = record { value = Some (number_at w s.rest 1); next = skip (1 + byte_len w) s } in
          subst (λ (y : ItemRead (Option ℕ)). length y.next.rest ≤ length s.rest) (ok_is made x a.1) (omega (arith, length-drop (1 + byte_len w) s.rest))
      | inr h ↦
          let none : ItemRead (Option ℕ) = record { value = None; next = s } in
          subst (λ (y : ItemRead (Option ℕ)). length y.next.rest ≤ length s.rest) (ok_is none x h.1) (omega arith)
    ]

main_left : (s next : HeaderCursor) → main_item s ≡ Ok next → length next.rest ≤ length s.rest
unfolding main_item
main_left s next e =
    elim (chosen (not (has_header s)) _ _ _ e) [
      | inl h ↦ subst (λ (y : HeaderCursor). length y.rest ≤ length s.rest) (ok_is s next h.1) (omega arith)
      | inr h ↦ elim (chosen (begins_with 255 s.rest) _ _ _ h.1) [
        | inl k ↦ let p = not_refused (ltb (length s.rest) 2) _ _ next k.1 in subst (λ (y : HeaderCursor). length y.rest ≤ length s.rest) (ok_is (owing_more (get_or s.rest 1 0) (skip 2 s)) next p.1) (omega (arith, length-drop 2 s.rest))
        | inr k ↦ elim (chosen (begins_with 254 s.rest) _ _ _ k.1) [
          | inl m ↦ let p = not_refused (ltb (length s.rest) 5) _ _ next m.1 in subst (λ (y : HeaderCursor). length y.rest ≤ length s.rest) (ok_is (owing_more (number_at w32 s.rest 1) (skip 5 s)) next p.1) (omega (arith, length-drop 5 s.rest))
          | inr m ↦ absurd (both_refuse _ _ _ next m.1)
        ]
      ]
    ]

record HeadersFit (s : HeaderCursor) (h : HeadersRead) : Type 0 where
  forks : All (λ (h : BlockHead). h.fork ≤ 3) h.blocks
  left : length h.payload ≤ length s.rest

headers_fit : (s : HeaderCursor) (h : HeadersRead) → stored_headers_of s ≡ Ok h → HeadersFit s h
unfolding stored_headers_of
headers_fit s h e =
    let a = bind_ok (stored_block_items (length s.rest) None [] s) _ h e in
    let heads = heads_fit (length s.rest) None [] s a.0 (All-nil (λ (h : BlockHead). h.fork ≤ 3)) a.1 in
    let b = bind_ok (optional_item 253 w16 a.0.next) _ h a.2 in
    let c = bind_ok (optional_item 252 w32 b.0.next) _ h b.2 in
    let d = bind_ok (main_item c.0.next) _ h c.2 in
    let p = accepted (eqb (length d.0.rest) d.0.owed) _ _ h d.2 in
    subst (HeadersFit s) p.1 (record {
      forks = heads.forks;
      left = omega (arith, heads.left, optional_left 253 w16 a.0.next b.0 b.1, optional_left 252 w32 b.0.next c.0 c.1, main_left c.0.next d.0 d.1);
    })

-- ---- the blocks of these headers

forks_read : (heads : List BlockHead) (payload : List ℕ) → All (λ (h : BlockHead). h.fork ≤ 3) heads → All (λ (b : Block). b.fork ≤ 3) (blocks_read heads payload)
forks_read [] payload few = All-nil (λ (b : Block). b.fork ≤ 3)
forks_read (h ∷ hs) payload few =
    let n = payload_len h in
    All-cons (λ (b : Block). b.fork ≤ 3) (block_of h (take n payload)) (blocks_read hs (drop n payload)) (All-head (λ (h : BlockHead). h.fork ≤ 3) h hs few) (forks_read hs (drop n payload) (All-tail (λ (h : BlockHead). h.fork ≤ 3) h hs few))

image_within : (image : Option ImageHead) (bytes : List ℕ) → length (image_bytes (image_read image bytes)) ≤ length bytes
image_within None bytes = omega arith
image_within (Some i) bytes = omega arith

images_read : (heads : List BlockHead) (payload : List ℕ) → sum_by (λ (b : Block). length (image_bytes b.image)) (blocks_read heads payload) ≤ length payload
images_read [] payload = omega arith
images_read (h ∷ hs) payload =
    let n = payload_len h in
    let own = take (image_len h.image) (take n payload) in
    omega (arith, sum_by-cons (λ (b : Block). length (image_bytes b.image)) (block_of h (take n payload)) (blocks_read hs (drop n payload)), image_within h.image own, length-take (image_len h.image) (take n payload), length-take n payload, length-drop n payload, images_read hs (drop n payload))

-- ---- the record

pub record StoredFits (bytes : List ℕ) (r : Record) : Type 0 where
  pub manager : is_free_manager r.rmid ≡ false
  pub forks : All (λ (b : Block). b.fork ≤ 3) r.blocks
  pub images : sum_by (λ (b : Block). length (image_bytes b.image)) r.blocks ≤ length bytes

pub stored_fits : (bytes : List ℕ) (r : Record) → stored_of bytes ≡ Ok r → StoredFits bytes r
unfolding stored_of
stored_fits bytes r e =
    let length_test = ltb (length bytes) 24 || not (eqb (number_at w32 bytes 0) (length bytes)) in
    let a = not_refused length_test (Malformed 0 kinds.Length) _ r e in
    let b = not_refused (is_free_manager (get_or bytes 17 0)) (Malformed 17 kinds.Rmgr) _ r a.1 in
    let c = bind_ok (stored_headers_of (start_of_headers (drop 24 bytes))) (λ (h : HeadersRead). Ok (record_of bytes h)) r b.1 in
    let fit = headers_fit (start_of_headers (drop 24 bytes)) c.0 c.1 in
    subst (StoredFits bytes) (ok_is (record_of bytes c.0) r c.2) (record {
      manager = b.0;
      forks = forks_read c.0.blocks c.0.payload fit.forks;
      images = omega (arith, images_read c.0.blocks c.0.payload, fit.left, length-drop 24 bytes);
    })

-- The headers of a record in whole: what is read is spelled so, and what is spelled so is read.
use Rattle.std.proofs.Common.{◌≡◌, ℕ, ◌+◌, ◌^◌, ◌<◌, ◌≤◌, Bool, true, false, ◌&&◌, eqb, ltb, List, [], ◌∷◌, ◌++◌, length, Option, Some, None, Ok, refl, sym, ap, subst, ◌∙◌, append_assoc, arith, inl, inr}
use Rattle.std.specs.List.{sum_by}
use Rattle.std.specs.Prelude.{IfSome}
use Rattle.std.specs.Int.{Width, w16, w32, to_le_bytes}
use Rattle.std.proofs.lemmas.Bool.{eqb-true, eq-eqb, le-ltb, and_left, and_right}
use Rattle.std.proofs.lemmas.List.{length-append}
use Rattle.wal_record.specs.declared.head.BlockHead.{BlockHead}
use Rattle.wal_record.specs.Reading.{HeadersRead, HeaderCursor, begins_block, begins_with, block_items, has_header, headers_of, main_item, optional_item, payload_len}
use Rattle.wal_record.specs.Fails.{last_of}
use Rattle.wal_record.specs.Items.{Items, SpellsHeads, SpellsItems, item_text}
use Rattle.wal_spelling.proofs.Bytes.{IsBytes, IsWide, wide16, wide32}
use Rattle.wal_record.proofs.Steps.{accepted, bind_ok}
use Rattle.wal_record.proofs.BlockHeadSteps.{block_items-ends}
use Rattle.wal_record.proofs.HeadsAgain.{standing_at}
use Rattle.wal_record.proofs.HeadLists.{heads_taken, heads_again}
use Rattle.wal_record.proofs.Items.{SpellsMainHead, optional_takes, item_some_again, item_none_again, main_takes, main_again}

abbrev pub items_read : HeadersRead → Items
items_read h = record { blocks = h.blocks; origin = h.origin; top_xid = h.top_xid }

-- ---- what is read is spelled so

pub record HeadersTaken (s : HeaderCursor) (h : HeadersRead) : Type 0 where
  pub text : List ℕ
  pub main_head : List ℕ
  pub len : ℕ
  pub items : SpellsItems (items_read h) text
  pub main : SpellsMainHead main_head len
  pub rest_is : s.rest ≡ text ++ (main_head ++ h.payload)
  pub owed_is : length h.payload ≡ s.owed + sum_by payload_len h.blocks + len
  pub fits : IsBytes h.payload

pub headers_taken : (s : HeaderCursor) (h : HeadersRead) → IsBytes s.rest → headers_of s ≡ Ok h → HeadersTaken s h
unfolding headers_of
headers_taken s h fits e =
    let a = bind_ok (block_items (length s.rest) None [] s) _ h e in
    let heads = heads_taken (length s.rest) None [] s a.0 fits tt a.1 in
    let b = bind_ok (optional_item 253 w16 a.0.next) _ h a.2 in
    let origin = optional_takes 253 w16 (2 ^ 16) wide16 a.0.next b.0 heads.fits b.1 in
    let c = bind_ok (optional_item 252 w32 b.0.next) _ h b.2 in
    let top = optional_takes 252 w32 (2 ^ 32) wide32 b.0.next c.0 origin.passes.fits c.1 in
    let d = bind_ok (main_item c.0.next) _ h c.2 in
    let main = main_takes c.0.next d.0 top.passes.fits d.1 in
    let p = accepted (eqb (length d.0.rest) d.0.owed) _ _ h d.2 in
    let text = heads.text ++ item_text 253 w16 b.0.value ++ item_text 252 w32 c.0.value in
    let rest_is : s.rest ≡ text ++ (main.text ++ d.0.rest) = heads.rest_is ∙ ap (λ (l : List ℕ). heads.text ++ l) (origin.passes.rest_is ∙ ap (λ (l : List ℕ). item_text 253 w16 b.0.value ++ l) (top.passes.rest_is ∙ ap (λ (l : List ℕ). item_text 252 w32 c.0.value ++ l) main.rest_is)) ∙ grouped heads.text (item_text 253 w16 b.0.value) (item_text 252 w32 c.0.value) (main.text ++ d.0.rest) in
    let owed : length d.0.rest ≡ s.owed + sum_by payload_len a.0.value + main.len = eqb-true _ _ p.0 ∙ main.owed_is ∙ ap (λ (n : ℕ). n + main.len) (top.passes.owed_is ∙ origin.passes.owed_is ∙ heads.owed_is ∙ ap (λ (hs : List BlockHead). s.owed + sum_by payload_len hs) (sym heads.value_is)) in
    subst (HeadersTaken s) p.1 (record {
      text = text;
      main_head = main.text;
      len = main.len;
      items = record { heads = heads.text; heads_spelled = subst (λ (hs : List BlockHead). SpellsHeads None hs heads.text) (sym heads.value_is) heads.spelled; origin = origin.number; top_xid = top.number; spelled = refl };
      main = main.spelled;
      rest_is = rest_is;
      owed_is = owed;
      fits = main.fits;
    })
  where
    grouped : (a b c d : List ℕ) → a ++ (b ++ (c ++ d)) ≡ a ++ b ++ c ++ d
    grouped a b c d = simp append_assoc

-- ---- what is spelled so is read

-- an item that begins otherwise is not read
record Begins (q : List ℕ → Bool) : Type 0 where
  short : (xs : List ℕ) → q (255 ∷ xs) ≡ false
  long : (xs : List ℕ) → q (254 ∷ xs) ≡ false

main_stops : (q : List ℕ → Bool) → Begins q → (at owed len : ℕ) (text payload : List ℕ) → SpellsMainHead text len → length payload ≡ owed + len → (has_header (standing_at at owed (text ++ payload)) && q (text ++ payload)) ≡ false
main_stops q b at owed len text payload (inl h) left =
    let over : ltb owed (length payload) ≡ false = le-ltb _ _ (omega (arith, h.1)) in
    rw h.0 (and_left _ (q payload) over)
main_stops q b at owed len text payload (inr (inl h)) left = rw h.1 (and_right (ltb owed (length (255 ∷ len ∷ payload))) _ (b.short (len ∷ payload)))
main_stops q b at owed len text payload (inr (inr h)) left = rw h.1 (and_right (ltb owed (length (254 ∷ (to_le_bytes w32 len ++ payload)))) _ (b.long (to_le_bytes w32 len ++ payload)))

pub item_stops : (q : List ℕ → Bool) (tag : ℕ) (w : Width) (at owed : ℕ) (o : Option ℕ) (rest : List ℕ) → ((xs : List ℕ) → q (tag ∷ xs) ≡ false) → (has_header (standing_at at owed rest) && q rest) ≡ false → (has_header (standing_at at owed (item_text tag w o ++ rest)) && q (item_text tag w o ++ rest)) ≡ false
item_stops q tag w at owed None rest other over = over
item_stops q tag w at owed (Some n) rest other over = and_right (ltb owed (length (tag ∷ (to_le_bytes w n ++ rest)))) _ (other (to_le_bytes w n ++ rest))

pub optional_again : (tag : ℕ) (w : Width) (limit : ℕ) → IsWide w limit → (at owed : ℕ) (o : Option ℕ) (rest : List ℕ) → IfSome o (λ n. n < limit) → owed ≤ length rest → (has_header (standing_at at owed rest) && begins_with tag rest) ≡ false
    → optional_item tag w (standing_at at owed (item_text tag w o ++ rest)) ≡ Ok (record { value = o; next = standing_at (at + length (item_text tag w o)) owed rest })
optional_again tag w limit wide at owed None rest fits few over = item_none_again tag w (standing_at at owed rest) over ∙ ap (λ (k : ℕ). Ok (record { value = None; next = standing_at k owed rest })) (omega arith)
optional_again tag w limit wide at owed (Some n) rest fits few over = item_some_again tag w limit wide at owed n rest fits few ∙ ap (λ (k : ℕ). Ok (record { value = Some n; next = standing_at (at + k) owed rest })) (omega (arith, wide.len n))

blocks_begin : Begins begins_block
blocks_begin = record { short = λ xs. refl; long = λ xs. refl }

others_begin : (tag : ℕ) → eqb 255 tag ≡ false → eqb 254 tag ≡ false → Begins (begins_with tag)
others_begin tag short long = record { short = λ xs. short; long = λ xs. long }

pub heads_read : (at : ℕ) (heads rest : List ℕ) (blocks : List BlockHead) → SpellsHeads None blocks heads → sum_by payload_len blocks ≤ length rest → ((k : ℕ) → (has_header (standing_at k (sum_by payload_len blocks) rest) && begins_block rest) ≡ false)
    → block_items (length (heads ++ rest)) None [] (standing_at at 0 (heads ++ rest)) ≡ Ok (record { value = blocks; next = standing_at (at + length heads) (sum_by payload_len blocks) rest })
heads_read at heads rest blocks spelled few stops =
    let past = heads_again (length (heads ++ rest)) None [] blocks at 0 heads rest spelled (omega arith) (omega arith) in
    past.same ∙ ap (λ (k : ℕ). block_items past.fuel (last_of None blocks) blocks (standing_at (at + length heads) k rest)) (omega arith) ∙ block_items-ends past.fuel (last_of None blocks) blocks (standing_at (at + length heads) (sum_by payload_len blocks) rest) (stops (at + length heads))

pub headers_again : (items : Items) (text main_head payload : List ℕ) (at len : ℕ) → SpellsItems items text → SpellsMainHead main_head len → length payload ≡ sum_by payload_len items.blocks + len
    → headers_of (standing_at at 0 (text ++ (main_head ++ payload))) ≡ Ok (record { blocks = items.blocks; origin = items.origin; top_xid = items.top_xid; payload = payload })
unfolding headers_of
headers_again items text main_head payload at len spelled main left =
    let owed = sum_by payload_len items.blocks in
    let origin_text = item_text 253 w16 items.origin in
    let top_text = item_text 252 w32 items.top_xid in
    let behind_top = main_head ++ payload in
    let behind_origin = top_text ++ behind_top in
    let behind_heads = origin_text ++ behind_origin in
    let whole : text ++ behind_top ≡ spelled.heads ++ behind_heads = ap (λ (l : List ℕ). l ++ behind_top) spelled.spelled ∙ grouped spelled.heads origin_text top_text behind_top in
    let few_main : owed ≤ length behind_top = omega (arith, length-append main_head payload) in
    let few_top : owed ≤ length behind_origin = omega (arith, length-append top_text behind_top) in
    let few_origin : owed ≤ length behind_heads = omega (arith, length-append origin_text behind_origin) in
    let blocks = heads_read at spelled.heads behind_heads items.blocks spelled.heads_spelled few_origin (λ k. item_stops begins_block 253 w16 k owed items.origin behind_origin (λ xs. refl) (item_stops begins_block 252 w32 k owed items.top_xid behind_top (λ xs. refl) (main_stops begins_block blocks_begin k owed len main_head payload main left))) in
    let at1 = at + length spelled.heads in
    let origin = optional_again 253 w16 (2 ^ 16) wide16 at1 owed items.origin behind_origin spelled.origin few_top (item_stops (begins_with 253) 252 w32 at1 owed items.top_xid behind_top (λ xs. refl) (main_stops (begins_with 253) (others_begin 253 refl refl) at1 owed len main_head payload main left)) in
    let at2 = at1 + length origin_text in
    let top = optional_again 252 w32 (2 ^ 32) wide32 at2 owed items.top_xid behind_top spelled.top_xid few_main (main_stops (begins_with 252) (others_begin 252 refl refl) at2 owed len main_head payload main left) in
    let last = main_again (at2 + length top_text) owed len main_head payload main left in
    let all : eqb (length payload) (owed + len) ≡ true = eq-eqb _ _ left in
    ap (λ (l : List ℕ). headers_of (standing_at at 0 l)) whole ∙ rw (blocks, origin, top, last, all) refl
  where
    grouped : (a b c d : List ℕ) → a ++ b ++ c ++ d ≡ a ++ (b ++ (c ++ d))
    grouped a b c d = simp append_assoc

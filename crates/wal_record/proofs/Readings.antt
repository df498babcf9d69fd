-- The two laws of reading: what is read is spelled so, and what is spelled so is read.
use Rattle.std.proofs.Common.{◌≡◌, ℕ, ◌+◌, ◌^◌, ◌<◌, ◌≤◌, ◌⊎◌, Bool, true, false, eqb, ltb, ◌||◌, not, List, [], ◌∷◌, ◌++◌, length, get_or, take, drop, Option, Some, None, Result, Ok, Err, refl, sym, ap, subst, ◌∙◌, append_assoc, arith, inl, inr}
use Rattle.std.specs.Prelude.{IfOk, IfSome, option_map}
use Rattle.std.specs.Int.{w16, w32, from_le_bytes, to_le_bytes}
use Rattle.std.specs.List.{AllByRecursion, flat_map}
use Rattle.std.proofs.lemmas.Bool.{eqb-true, eq-eqb, ltb-false, le-ltb, or_parts, not-true, not-false, not_from_false}
use Rattle.std.proofs.lemmas.List.{length-append, length-take, length-drop}
use Rattle.std.proofs.lemmas.List.Elements.{All-from_recursion, recursion_from_All}
use Rattle.wal_types.specs.declared.record.Block.{Block}
use Rattle.wal_types.specs.declared.record.Record.{Record}
use Rattle.wal_types.specs.declared.record.Xid.{Xid}
use Rattle.wal_record.specs.declared.head.BlockHead.{BlockHead}
use Rattle.wal_record.specs.declared.head.ImageHead.{ImageHead}
use Rattle.wal_record.specs.declared.fault.RecErr.{RecErr}
use Rattle.wal_record.specs.declared.fault.RecErr.TheVariants.{Malformed}
use Rattle.wal_record.specs.declared.fault.RecKind.TheVariants as kinds
use Rattle.wal_spelling.specs.Record.{BlockFits, ImageFits, is_free_manager}
use Rattle.wal_spelling.specs.Spelling.{block_payload, main_header, origin_item, top_xid_item}
use Rattle.wal_spelling.specs.Numbers.{number_at}
use Rattle.wal_record.specs.Reading.{GivesReading, HeadersRead, HeaderCursor, block_of, blocks_read, headers_of, image_len, image_read, items_of, main_of, payload_len, reading_of, record_of}
use Rattle.wal_record.specs.Items.{IsPageImage, SpellsHeads, SpellsItems, StandsBehind, item_text}
use Rattle.wal_record.specs.Spells.{Spells}
use Rattle.wal_spelling.proofs.Bytes.{IsBytes, IsBytes-drop, IsBytes-take, wide32, All-from_IsBytes}
use Rattle.wal_record.proofs.HeaderParts.{cut, HasParts, put_together}
use Rattle.wal_record.proofs.Steps.{bind_ok, not_refused, ok_is}
use Rattle.wal_record.proofs.HeadsAgain.{offset_below}
use Rattle.wal_record.proofs.HeaderLists.{HeadersTaken, headers_again, headers_taken}
use Rattle.wal_record.proofs.BlockHeads.{blocks_are_heads, heads_are_blocks, items_in, origin_is, top_is, top_number_fits}
use Rattle.wal_record.proofs.Items.{SpellsMainHead}
use Rattle.wal_record.proofs.Payload.{is_payload_of, is_found_again}

-- the parts of a record's bytes, grouped to the left and to the right
regrouped : (size xid prev fixed crc heads origin top head payload main : List ℕ) → size ++ xid ++ prev ++ fixed ++ crc ++ heads ++ origin ++ top ++ head ++ payload ++ main ≡ size ++ (xid ++ (prev ++ (fixed ++ (crc ++ ((heads ++ origin ++ top) ++ (head ++ (payload ++ main)))))))
regrouped size xid prev fixed crc heads origin top head payload main = simp append_assoc

-- ---- what is read is spelled so

-- the first two numbers, as bytes
size_bytes : (bytes : List ℕ) → IsBytes bytes → 24 ≤ length bytes → number_at w32 bytes 0 ≡ length bytes → to_le_bytes w32 (length bytes) ≡ take 4 bytes
size_bytes bytes fits long size = ap (to_le_bytes w32) (sym size) ∙ wide32.back (take 4 bytes) (omega (arith, length-take 4 bytes)) (IsBytes-take 4 bytes fits)

xid_bytes : (bytes : List ℕ) → IsBytes bytes → 24 ≤ length bytes → to_le_bytes w32 (number_at w32 bytes 4) ≡ take 4 (drop 4 bytes)
xid_bytes bytes fits long = wide32.back (take 4 (drop 4 bytes)) (omega (arith, length-take 4 (drop 4 bytes), length-drop 4 bytes)) (IsBytes-take 4 (drop 4 bytes) (IsBytes-drop 4 bytes fits))

parts_spelled : (bytes behind : List ℕ) → IsBytes bytes → 24 ≤ length bytes → number_at w32 bytes 0 ≡ length bytes → drop 24 bytes ≡ behind
    → bytes ≡ to_le_bytes w32 (length bytes) ++ (to_le_bytes w32 (number_at w32 bytes 4) ++ (take 8 (drop 8 bytes) ++ ((get_or bytes 16 0 ∷ get_or bytes 17 0 ∷ take 2 (drop 18 bytes)) ++ (take 4 (drop 20 bytes) ++ behind))))
parts_spelled bytes behind fits long size e =
    let fixed = get_or bytes 16 0 ∷ get_or bytes 17 0 ∷ take 2 (drop 18 bytes) in
    cut bytes long
    ∙ ap (λ (l : List ℕ). l ++ (take 4 (drop 4 bytes) ++ (take 8 (drop 8 bytes) ++ (fixed ++ (take 4 (drop 20 bytes) ++ drop 24 bytes))))) (sym (size_bytes bytes fits long size))
    ∙ ap (λ (l : List ℕ). to_le_bytes w32 (length bytes) ++ (l ++ (take 8 (drop 8 bytes) ++ (fixed ++ (take 4 (drop 20 bytes) ++ drop 24 bytes))))) (sym (xid_bytes bytes fits long))
    ∙ ap (λ (l : List ℕ). to_le_bytes w32 (length bytes) ++ (to_le_bytes w32 (number_at w32 bytes 4) ++ (take 8 (drop 8 bytes) ++ (fixed ++ (take 4 (drop 20 bytes) ++ l))))) e

-- the numbers of the blocks that are read fit
image_fits : (image : Option ImageHead) (bytes : List ℕ) → IfSome image IsPageImage → IsBytes bytes → IfSome (image_read image bytes) ImageFits
image_fits None bytes right fits = tt
image_fits (Some i) bytes right fits = record { hole_offset = offset_below i right; hole_len = omega (arith, right.page); bytes = All-from_IsBytes bytes fits }

block_fits : (before : Option BlockHead) (same : Bool) (h : BlockHead) (bytes : List ℕ) → StandsBehind before same h → IsBytes bytes → BlockFits (block_of h bytes)
block_fits before same h bytes s fits = record {
  numbers = record { id = omega (arith, s.id); tablespace = s.tablespace; database = s.database; relation = s.relation; fork = omega (arith, s.fork); number = s.number };
  content = All-from_IsBytes _ (IsBytes-drop (image_len h.image) bytes fits);
  image = image_fits h.image (take (image_len h.image) bytes) s.image (IsBytes-take (image_len h.image) bytes fits);
}

blocks_fit : (before : Option BlockHead) (heads : List BlockHead) (text payload : List ℕ) → SpellsHeads before heads text → IsBytes payload → AllByRecursion BlockFits (blocks_read heads payload)
blocks_fit before [] text payload spelled fits = tt
blocks_fit before (h ∷ hs) text payload spelled fits = (block_fits before spelled.0 h (take (payload_len h) payload) spelled.1.1.1.0 (IsBytes-take (payload_len h) payload fits), blocks_fit (Some h) hs spelled.1.0 (drop (payload_len h) payload) spelled.1.1.1.1 (IsBytes-drop (payload_len h) payload fits))

main_fits : (heads : List BlockHead) (payload : List ℕ) → IsBytes payload → IsBytes (main_of heads payload)
main_fits [] payload fits = fits
main_fits (h ∷ hs) payload fits = main_fits hs (drop (payload_len h) payload) (IsBytes-drop (payload_len h) payload fits)

xids : Option ℕ → Option Xid
xids o = option_map (λ n. record { 0 = n }) o

top_fits : (o : Option ℕ) → IfSome o (λ n. n < 2 ^ 32) → IfSome (xids o) (λ x. x.0 < 2 ^ 32)
unfolding xids
top_fits None h = tt
top_fits (Some n) h = h

numbers-xids : (o : Option ℕ) → option_map (λ (x : Xid). x.0) (xids o) ≡ o
unfolding xids
numbers-xids None = refl
numbers-xids (Some n) = refl

xids-numbers : (o : Option Xid) → xids (option_map (λ (x : Xid). x.0) o) ≡ o
unfolding xids
xids-numbers None = refl
xids-numbers (Some x) = refl

-- the items that were read are those of the record
items_made : (heads : List ℕ) (origin top : Option ℕ) → heads ++ item_text 253 w16 origin ++ item_text 252 w32 top ≡ heads ++ origin_item origin ++ top_xid_item (xids top)
items_made heads origin top =
    let number : item_text 252 w32 top ≡ top_xid_item (xids top) = sym (top_is (xids top) ∙ ap (item_text 252 w32) (numbers-xids top)) in
    ap (λ (l : List ℕ). heads ++ l ++ item_text 252 w32 top) (sym (origin_is origin)) ∙ ap (λ (l : List ℕ). heads ++ origin_item origin ++ l) number

abbrev HasMainForm : List ℕ → ℕ → Type 0
HasMainForm text len = ((text ≡ []) × (len ≡ 0)) ⊎ (((len < 256) × (text ≡ main_header true len)) ⊎ (text ≡ main_header false len))

main_form : (text : List ℕ) (len : ℕ) → SpellsMainHead text len → HasMainForm text len
main_form text len (inl h) = inl h
main_form text len (inr (inl h)) = inr (inl h)
main_form text len (inr (inr h)) = inr (inr h.1)

form_main : (text : List ℕ) (len : ℕ) → len < 2 ^ 32 → HasMainForm text len → SpellsMainHead text len
form_main text len fits (inl h) = inl h
form_main text len fits (inr (inl h)) = inr (inl h)
form_main text len fits (inr (inr h)) = inr (inr (fits, h))

spells_made : (bytes : List ℕ) (h : HeadersRead) → IsBytes bytes → 24 ≤ length bytes → number_at w32 bytes 0 ≡ length bytes → is_free_manager (get_or bytes 17 0) ≡ false → HeadersTaken (record { at = 24; rest = drop 24 bytes; owed = 0 }) h → Spells bytes (record_of bytes h)
unfolding xids
spells_made bytes h fits long size manager t =
    let payload = is_payload_of h.blocks h.payload (omega (arith, t.owed_is)) in
    let blocks = blocks_read h.blocks h.payload in
    let main = main_of h.blocks h.payload in
    let heads = t.items.heads in
    let text = heads ++ origin_item h.origin ++ top_xid_item (xids h.top_xid) in
    let text_is : t.text ≡ text = t.items.spelled ∙ items_made heads h.origin h.top_xid in
    let behind : drop 24 bytes ≡ text ++ (t.main_head ++ (flat_map block_payload blocks ++ main)) = t.rest_is ∙ ap (λ (l : List ℕ). t.text ++ (t.main_head ++ l)) payload.payload_is ∙ ap (λ (l : List ℕ). l ++ (t.main_head ++ (flat_map block_payload blocks ++ main))) text_is in
    let as_blocks = heads_are_blocks None blocks heads (subst (λ (hs : List BlockHead). SpellsHeads None hs heads) (sym payload.heads_are) t.items.heads_spelled) in
    record {
      fits = record {
        xid = wide32.below (take 4 (drop 4 bytes)) (IsBytes-take 4 (drop 4 bytes) (IsBytes-drop 4 bytes fits));
        manager = fits 17;
        info = fits 16;
        origin = t.items.origin;
        top_xid = top_fits h.top_xid t.items.top_xid;
        blocks = All-from_recursion BlockFits blocks (blocks_fit None h.blocks t.items.heads h.payload t.items.heads_spelled t.fits);
        main = All-from_IsBytes main (main_fits h.blocks h.payload t.fits);
      };
      size = rw (← size) (wide32.below (take 4 bytes) (IsBytes-take 4 bytes fits));
      manager = not_from_false _ manager;
      blocks = as_blocks.1;
      prev = take 8 (drop 8 bytes);
      prev_length = omega (arith, length-take 8 (drop 8 bytes), length-drop 8 bytes);
      spare = take 2 (drop 18 bytes);
      spare_length = omega (arith, length-take 2 (drop 18 bytes), length-drop 18 bytes);
      crc = take 4 (drop 20 bytes);
      crc_length = omega (arith, length-take 4 (drop 20 bytes), length-drop 20 bytes);
      headers = heads;
      headers_spelled = as_blocks.0;
      main_head = t.main_head;
      main_spelled = main_form t.main_head (length main) (subst (SpellsMainHead t.main_head) (omega (arith, t.owed_is, payload.length_is)) t.main);
      spelled = parts_spelled bytes _ fits long size behind ∙ sym (regrouped (to_le_bytes w32 (length bytes)) (to_le_bytes w32 (number_at w32 bytes 4)) (take 8 (drop 8 bytes)) (get_or bytes 16 0 ∷ get_or bytes 17 0 ∷ take 2 (drop 18 bytes)) (take 4 (drop 20 bytes)) heads (origin_item h.origin) (top_xid_item (xids h.top_xid)) t.main_head (flat_map block_payload blocks) main);
    }

items_found : (bytes : List ℕ) (r : Record) → IsBytes bytes → 24 ≤ length bytes → number_at w32 bytes 0 ≡ length bytes → is_free_manager (get_or bytes 17 0) ≡ false → items_of bytes ≡ Ok r → Spells bytes r
unfolding items_of
items_found bytes r fits long size manager e =
    let start : HeaderCursor = record { at = 24; rest = drop 24 bytes; owed = 0 } in
    let a = bind_ok (headers_of start) (λ (h : HeadersRead). Ok (record_of bytes h)) r e in
    subst (Spells bytes) (ok_is (record_of bytes a.0) r a.2) (spells_made bytes a.0 fits long size manager (headers_taken start a.0 (IsBytes-drop 24 bytes fits) a.1))

pub found : (bytes : List ℕ) (r : Record) → IsBytes bytes → reading_of bytes ≡ Ok r → Spells bytes r
unfolding reading_of
found bytes r fits e =
    let length_test = ltb (length bytes) 24 || not (eqb (number_at w32 bytes 0) (length bytes)) in
    let a = not_refused length_test (Malformed 0 kinds.Length) _ r e in
    let tests = or_parts (ltb (length bytes) 24) (not (eqb (number_at w32 bytes 0) (length bytes))) a.0 in
    let b = not_refused (is_free_manager (get_or bytes 17 0)) (Malformed 17 kinds.Rmgr) _ r a.1 in
    items_found bytes r fits (ltb-false _ _ tests.0) (eqb-true _ _ (not-false _ tests.1)) b.0 b.1

-- what a call answered is spelled so, if it gives the reading
pub found_by : (answer : Result Record RecErr) (bytes : List ℕ) → IsBytes bytes → GivesReading answer (reading_of bytes) → IfOk answer (Spells bytes)
found_by (Ok r) bytes fits gives = found bytes r fits gives
found_by (Err e) bytes fits gives = tt

-- ---- what is spelled so is read

-- the headers of a record
abbrev headers_in : Record → HeadersRead
headers_in r = record { blocks = (items_in r).blocks; origin = r.origin; top_xid = (items_in r).top_xid; payload = flat_map block_payload r.blocks ++ r.main }

same_record : (bytes : List ℕ) (r : Record) → number_at w32 bytes 4 ≡ r.xid.0 → get_or bytes 17 0 ≡ r.rmid → get_or bytes 16 0 ≡ r.info → record_of bytes (headers_in r) ≡ r
unfolding xids
same_record bytes r a b c =
    let found = is_found_again r.blocks r.main in
    made r _ _ _ _ _ _ a b c (xids-numbers r.top_xid) found.blocks_are found.main_is
  where
    made : (r : Record) (xid rmid info : ℕ) (top : Option Xid) (blocks : List Block) (main : List ℕ) → xid ≡ r.xid.0 → rmid ≡ r.rmid → info ≡ r.info → top ≡ r.top_xid → blocks ≡ r.blocks → main ≡ r.main → (let m : Record = record { xid = record { 0 = xid }; rmid = rmid; info = info; origin = r.origin; top_xid = top; blocks = blocks; main = main } in m ≡ r)
    made r xid rmid info top blocks main a b c d e f = rw (a, b, c, d, e, f) refl

items_again : (bytes : List ℕ) (r : Record) (text main_head : List ℕ) → SpellsItems (items_in r) text → SpellsMainHead main_head (length r.main) → number_at w32 bytes 4 ≡ r.xid.0 → get_or bytes 17 0 ≡ r.rmid → get_or bytes 16 0 ≡ r.info
    → drop 24 bytes ≡ text ++ (main_head ++ (flat_map block_payload r.blocks ++ r.main)) → items_of bytes ≡ Ok r
unfolding items_of
items_again bytes r text main_head items main xid manager info behind =
    let payload = flat_map block_payload r.blocks ++ r.main in
    let found = is_found_again r.blocks r.main in
    let read = headers_again (items_in r) text main_head payload 24 (length r.main) items main (length-append (flat_map block_payload r.blocks) r.main ∙ ap (λ (n : ℕ). n + length r.main) (sym found.sum_is)) in
    rw (behind, read) (ap Ok (same_record bytes r xid manager info))

items_spelled : (bytes : List ℕ) (r : Record) (s : Spells bytes r) → SpellsItems (items_in r) (s.headers ++ origin_item r.origin ++ top_xid_item r.top_xid)
items_spelled bytes r s = record {
  heads = s.headers;
  heads_spelled = blocks_are_heads None r.blocks s.headers s.headers_spelled s.blocks (recursion_from_All BlockFits r.blocks s.fits.blocks);
  origin = s.fits.origin;
  top_xid = top_number_fits r.top_xid s.fits.top_xid;
  spelled = ap (λ (l : List ℕ). s.headers ++ l ++ top_xid_item r.top_xid) (origin_is r.origin) ∙ ap (λ (l : List ℕ). s.headers ++ item_text 253 w16 r.origin ++ l) (top_is r.top_xid);
}

main_shorter : (front main : List ℕ) → length main ≤ length (front ++ main)
main_shorter front main = omega (arith, length-append front main)

pub only : (bytes : List ℕ) (r : Record) → Spells bytes r → reading_of bytes ≡ Ok r
unfolding reading_of
only bytes r s =
    let size = to_le_bytes w32 (length bytes) in
    let xid = to_le_bytes w32 r.xid.0 in
    let payload = flat_map block_payload r.blocks in
    let text = s.headers ++ origin_item r.origin ++ top_xid_item r.top_xid in
    let behind = text ++ (s.main_head ++ (payload ++ r.main)) in
    let e : bytes ≡ size ++ (xid ++ (s.prev ++ ((r.info ∷ r.rmid ∷ s.spare) ++ (s.crc ++ behind)))) = s.spelled ∙ regrouped size xid s.prev (r.info ∷ r.rmid ∷ s.spare) s.crc s.headers (origin_item r.origin) (top_xid_item r.top_xid) s.main_head payload r.main in
    let short : length r.main < 2 ^ 32 = omega (arith, s.size, ap length s.spelled, main_shorter (size ++ xid ++ s.prev ++ (r.info ∷ r.rmid ∷ s.spare) ++ s.crc ++ s.headers ++ origin_item r.origin ++ top_xid_item r.top_xid ++ s.main_head ++ payload) r.main) in
    let main = form_main s.main_head (length r.main) short s.main_spelled in
    let p : HasParts bytes size xid s.prev r.info r.rmid s.spare s.crc behind = subst (λ (l : List ℕ). HasParts l size xid s.prev r.info r.rmid s.spare s.crc behind) (sym e) (put_together size xid s.prev r.info r.rmid s.spare s.crc behind (wide32.len (length bytes)) (wide32.len r.xid.0) s.prev_length s.spare_length s.crc_length) in
    let long : ltb (length bytes) 24 ≡ false = le-ltb _ _ (omega (arith, p.length_is)) in
    let count : number_at w32 bytes 0 ≡ length bytes = ap (from_le_bytes w32) p.size_is ∙ wide32.again (length bytes) s.size in
    let counted : eqb (number_at w32 bytes 0) (length bytes) ≡ true = eq-eqb _ _ count in
    let manager : is_free_manager (get_or bytes 17 0) ≡ false = ap is_free_manager p.rmid_is ∙ not-true _ s.manager in
    rw (long, counted, manager) (items_again bytes r text s.main_head (items_spelled bytes r s) main (ap (from_le_bytes w32) p.xid_is ∙ wide32.again r.xid.0 s.fits.xid) p.rmid_is p.info_is p.rest_is)

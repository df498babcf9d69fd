-- The first cause for which bytes are no record is what the reading tells, and it tells no other.
use Rattle.std.proofs.Common.{◌≡◌, ℕ, zero, suc, ◌+◌, ◌^◌, ◌<◌, ◌≤◌, ◌⊎◌, Bool, true, false, ◌&&◌, ◌||◌, eqb, ltb, not, List, [], ◌∷◌, ◌++◌, length, get_or, drop, All, Option, Some, None, Result, Ok, Err, ◌↔◌, refl, sym, ap, subst, ◌∙◌, append_assoc, arith, inl, inr}
use Rattle.std.specs.List.{sum_by}
use Rattle.std.specs.Prelude.{IfErr}
use Rattle.std.specs.Int.{w16, w32, to_le_bytes}
use Rattle.std.proofs.lemmas.Bool.{and_from, and_right, cases_Bool, eqb-true, eqb-false, eq-eqb, ne_eqb, lt-ltb, le-ltb, ltb-true, ltb-false, not-true, not_from_false, not-false, or_from, or_parts, not_from_true, le-leb, both_ways, true_from_ne_false}
use Rattle.std.proofs.lemmas.List.{length-append, append-nil, drop-drop, drop_at}
use Rattle.std.proofs.lemmas.List.Sums.{sum_by_push}
use Rattle.wal_types.specs.declared.record.Record.{Record}
use Rattle.wal_record.specs.declared.fault.RecErr.{RecErr}
use Rattle.wal_record.specs.declared.fault.RecErr.TheVariants.{Memory, Malformed, Compressed}
use Rattle.wal_record.specs.declared.fault.RecKind.TheVariants as kinds
use Rattle.wal_record.specs.declared.head.BlockHead.{BlockHead}
use Rattle.wal_spelling.specs.Record.{is_free_manager}
use Rattle.wal_spelling.specs.Numbers.{number_at}
use Rattle.wal_spelling.specs.Checks.{first_fault}
use Rattle.wal_record.specs.Reading.{◌>>=◌, ItemRead, Checks, GivesReading, HeadersRead, HeaderCursor, begins_block, begins_with, has_header, items_of, main_item, payload_len, reading_of, record_of}
use Rattle.wal_record.specs.Spells.{Spells}
use Rattle.wal_record.specs.Items.{Items, SpellsHeads, SpellsItems, StandsBehind, head_text, item_text}
use Rattle.wal_record.specs.Fails.{BreaksItem, EndsHeaders, FailsAt, TellsFirstFault, HasLength, IsMainHead, LeavesFill, NextBlock, NextOrigin, NextTopXid, ReachesItem, item_rows, last_of}
use Rattle.wal_record.proofs.ItemTables.{StandsIn, item_checks, item_same}
use Rattle.wal_spelling.proofs.Bytes.{IsBytes, IsBytes-drop, IsBytes-from_All, wide16, wide32}
use Rattle.wal_record.proofs.HeadsTaken.{BeforeFits}
use Rattle.wal_record.proofs.HeadsAgain.{standing_at, block_again, head_some, number_again}
use Rattle.wal_record.proofs.Items.{item_some_here}
use Rattle.wal_record.proofs.Readings.{found, only}
use Rattle.wal_record.proofs.Resuming.{Resumes, after_origin, after_top, finish, headers_start, no_block, reaches_resumes, reads_headers, to_finish, to_origin, to_top}
use Rattle.wal_record.proofs.ItemSteps.{IsBehind, resumes_block, step}

-- ---- more items are spelled

heads_push : (before : Option BlockHead) (hs : List BlockHead) (text : List ℕ) (same : Bool) (h : BlockHead) → SpellsHeads before hs text → StandsBehind (last_of before hs) same h → SpellsHeads before (hs ++ h ∷ []) (text ++ head_text same h)
heads_push before [] text same h spelled stands = (same, ([], (ap (λ (l : List ℕ). l ++ head_text same h) spelled ∙ sym (append-nil (head_text same h)), (stands, refl))))
heads_push before (x ∷ xs) text same h spelled stands = (spelled.0, (spelled.1.0 ++ head_text same h, (ap (λ (l : List ℕ). l ++ head_text same h) spelled.1.1.0 ∙ append_assoc (head_text spelled.0 x) spelled.1.0 (head_text same h), (spelled.1.1.1.0, heads_push (Some x) xs spelled.1.0 same h spelled.1.1.1.1 stands))))

last_fits : (before : Option BlockHead) (hs : List BlockHead) (text : List ℕ) → BeforeFits before → SpellsHeads before hs text → BeforeFits (last_of before hs)
last_fits before [] text fits spelled = fits
last_fits before (h ∷ hs) text fits spelled = let s = spelled.1.1.1.0 in last_fits (Some h) hs spelled.1.0 (record { tablespace = s.tablespace; database = s.database; relation = s.relation }) spelled.1.1.1.1

block_text : (heads item : List ℕ) (text : List ℕ) (o t : Option ℕ) → o ≡ None → t ≡ None → text ≡ heads ++ item_text 253 w16 o ++ item_text 252 w32 t → text ++ item ≡ (heads ++ item) ++ [] ++ []
block_text heads item text o t absent none e = ap (λ (l : List ℕ). l ++ item) (e ∙ ap (λ (k : Option ℕ). heads ++ item_text 253 w16 k ++ item_text 252 w32 t) absent ∙ ap (λ (k : Option ℕ). heads ++ [] ++ item_text 252 w32 k) none) ∙ simp append-nil

origin_text : (heads item : List ℕ) (text : List ℕ) (o t : Option ℕ) → o ≡ None → t ≡ None → text ≡ heads ++ item_text 253 w16 o ++ item_text 252 w32 t → text ++ item ≡ heads ++ item ++ []
origin_text heads item text o t absent none e = ap (λ (l : List ℕ). l ++ item) (e ∙ ap (λ (k : Option ℕ). heads ++ item_text 253 w16 k ++ item_text 252 w32 t) absent ∙ ap (λ (k : Option ℕ). heads ++ [] ++ item_text 252 w32 k) none) ∙ simp append-nil

top_text : (front item : List ℕ) (text : List ℕ) (t : Option ℕ) → t ≡ None → text ≡ front ++ item_text 252 w32 t → text ++ item ≡ front ++ item
top_text front item text t none e = ap (λ (l : List ℕ). l ++ item) (e ∙ ap (λ (k : Option ℕ). front ++ item_text 252 w32 k) none ∙ append-nil front)

spells_block : (items : Items) (text item : List ℕ) (promised : ℕ) → SpellsItems items text → (n : NextBlock items item promised) → SpellsItems (record { blocks = items.blocks ++ n.head ∷ []; origin = None; top_xid = None }) (text ++ item)
spells_block items text item promised s n = record {
  heads = s.heads ++ head_text n.same n.head;
  heads_spelled = heads_push None items.blocks s.heads n.same n.head s.heads_spelled n.stands;
  origin = tt;
  top_xid = tt;
  spelled = ap (λ (l : List ℕ). text ++ l) n.spelled ∙ block_text s.heads (head_text n.same n.head) text items.origin items.top_xid n.no_origin n.no_top_xid s.spelled;
}

spells_origin : (items : Items) (text item : List ℕ) (promised : ℕ) → SpellsItems items text → (n : NextOrigin items item promised) → SpellsItems (record { blocks = items.blocks; origin = Some n.number; top_xid = None }) (text ++ item)
spells_origin items text item promised s n = record {
  heads = s.heads;
  heads_spelled = s.heads_spelled;
  origin = n.fits;
  top_xid = tt;
  spelled = ap (λ (l : List ℕ). text ++ l) n.spelled ∙ origin_text s.heads (253 ∷ to_le_bytes w16 n.number) text items.origin items.top_xid n.no_origin n.no_top_xid s.spelled;
}

spells_top : (items : Items) (text item : List ℕ) (promised : ℕ) → SpellsItems items text → (n : NextTopXid items item promised) → SpellsItems (record { blocks = items.blocks; origin = items.origin; top_xid = Some n.number }) (text ++ item)
spells_top items text item promised s n = record {
  heads = s.heads;
  heads_spelled = s.heads_spelled;
  origin = s.origin;
  top_xid = n.fits;
  spelled = ap (λ (l : List ℕ). text ++ l) n.spelled ∙ top_text (s.heads ++ item_text 253 w16 items.origin) (252 ∷ to_le_bytes w32 n.number) text items.top_xid n.no_top_xid s.spelled;
}

-- the place behind one item more
reaches_next : (bytes : List ℕ) (items more : Items) (s next : HeaderCursor) (text : List ℕ) (promised : ℕ) (r : ReachesItem bytes items s) → IsBehind s text promised next → SpellsItems more (r.text ++ text) → sum_by payload_len more.blocks ≡ sum_by payload_len items.blocks + promised → has_header next ≡ true → ReachesItem bytes more next
reaches_next bytes items more s next text promised r b spelled sum left = record {
  text = r.text ++ text;
  spelled = spelled;
  rest_is = r.rest_is ∙ ap (λ (l : List ℕ). r.text ++ l) b.rest_is ∙ sym (append_assoc r.text text next.rest);
  at_is = omega (arith, r.at_is, b.at_is, length-append r.text text);
  owed_is = omega (arith, r.owed_is, b.owed_is, sum);
  more = ltb-true _ _ left;
}

-- ---- the checks of an item, at its offset and at the cursor

reached_stands : (bytes : List ℕ) (items : Items) (s : HeaderCursor) → ReachesItem bytes items s → StandsIn bytes s
reached_stands bytes items s r =
    sym (ap (λ (n : ℕ). drop n bytes) r.at_is
    ∙ sym (drop-drop (length r.text) 24 bytes)
    ∙ ap (drop (length r.text)) r.rest_is
    ∙ drop_at r.text s.rest (length r.text) refl)

rows_reached : (bytes : List ℕ) (items : Items) (s : HeaderCursor) → ReachesItem bytes items s → first_fault (item_rows items bytes s.at) ≡ first_fault (item_checks items s)
rows_reached bytes items s r = ap (λ (rows : Checks). first_fault rows) (item_same items bytes s (reached_stands bytes items s r) (omega (arith, r.more)))

-- ---- what the reading tells is the first cause

finish_fails : (blocks : List BlockHead) (origin top : Option ℕ) (end : HeaderCursor) (e : RecErr) → finish blocks origin top end ≡ Err e → (length end.rest ≡ end.owed → ⊥) × (e ≡ Malformed end.at kinds.Fill)
finish_fails blocks origin top end e gives =
    elim (cases_Bool (eqb (length end.rest) end.owed)) [
      | inl all ↦ absurd (ok_no_error _ e (rw all at gives))
      | inr some ↦ (eqb-false _ _ some, error_is _ e (rw some at gives))
    ]
  where
    ok_no_error : (h : HeadersRead) (e : RecErr) → (let x : Result HeadersRead RecErr = Ok h in x ≡ Err e) → ⊥
    ok_no_error h e k = cc

    error_is : (d e : RecErr) → (let x : Result HeadersRead RecErr = Err d in x ≡ Err e) → e ≡ d
    error_is d e k = cc

leaves_fill : (bytes : List ℕ) (items : Items) (s end : HeaderCursor) (text : List ℕ) (promised : ℕ) (e : RecErr) (blocks : List BlockHead) (origin top : Option ℕ) → ReachesItem bytes items s → IsBehind s text promised end → EndsHeaders items text promised (length end.rest) (s.owed + promised) → finish blocks origin top end ≡ Err e → LeavesFill bytes e
leaves_fill bytes items s end text promised e blocks origin top r b ends gives =
    let f = finish_fails blocks origin top end e gives in
    record { items = items; place = s; reaches = r; text = text; promised = promised; rest = end.rest; rest_is = b.rest_is; ends = ends; wrong = λ same. f.0 (same ∙ sym b.owed_is); told = f.1 ∙ ap (λ (k : ℕ). Malformed k kinds.Fill) b.at_is }

abbrev Cause : List ℕ → RecErr → Type 0
Cause bytes e = BreaksItem bytes e ⊎ LeavesFill bytes e

-- the reading goes on behind an item, or the headers end there
goes_or_ends : (bytes : List ℕ) (items more : Items) (s next : HeaderCursor) (text : List ℕ) (promised : ℕ) (e : RecErr) (r : ReachesItem bytes items s) → IsBehind s text promised next → SpellsItems more (r.text ++ text) → sum_by payload_len more.blocks ≡ sum_by payload_len items.blocks + promised
    → (NextBlock items text promised ⊎ (NextOrigin items text promised ⊎ NextTopXid items text promised)) → Resumes more.blocks more.origin more.top_xid next (Err e) → (ReachesItem bytes more next → Cause bytes e) → Cause bytes e
goes_or_ends bytes items more s next text promised e r b spelled sum item resumes on =
    elim (cases_Bool (has_header next)) [
      | inl left ↦ on (reaches_next bytes items more s next text promised r b spelled sum left)
      | inr over ↦ inr (leaves_fill bytes items s next text promised e more.blocks more.origin more.top_xid r b (inr (omega (arith, ltb-false next.owed (length next.rest) over, b.owed_is), item)) (to_finish more.blocks more.origin more.top_xid next (Err e) over resumes))
    ]

fails_from : (k : ℕ) (bytes : List ℕ) (items : Items) (s : HeaderCursor) (e : RecErr) → ReachesItem bytes items s → IsBytes s.rest → length s.rest ≤ k → Resumes items.blocks items.origin items.top_xid s (Err e) → Cause bytes e
fails_from zero bytes items s e r fits short resumes = absurd (omega (arith, r.more))
fails_from (suc k) bytes items s e r fits short resumes =
    let more : has_header s ≡ true = lt-ltb _ _ r.more in
    elim (step items s (Err e) more fits (last_fits None items.blocks r.spelled.heads tt r.spelled.heads_spelled) resumes) [
      | inl b ↦ inl (record { items = items; place = s; reaches = r; breaks = rows_reached bytes items s r ∙ b.fails ∙ ap (λ (d : RecErr). Some d) (same_error b.error e b.gives) })
      | inr (inl d) ↦ inr (leaves_fill bytes items s d.end d.text d.promised e items.blocks items.origin items.top_xid r d.behind (inl d.main) d.gives)
      | inr (inr (inl g)) ↦
          let more_items : Items = record { blocks = items.blocks ++ g.item.head ∷ []; origin = None; top_xid = None } in
          let sum = sum_by_push payload_len items.blocks g.item.head ∙ ap (λ (n : ℕ). sum_by payload_len items.blocks + n) (sym g.item.promises) in
          goes_or_ends bytes items more_items s g.next g.text g.promised e r g.behind (spells_block items r.text g.text g.promised r.spelled g.item) sum (inl g.item) g.resumes
          (λ (on : ReachesItem bytes more_items g.next). fails_from k bytes more_items g.next e on g.behind.fits (omega (arith, short, head_some g.item.same g.item.head, ap length g.item.spelled, ap length g.behind.rest_is, length-append g.text g.next.rest)) g.resumes)
      | inr (inr (inr (inl g))) ↦
          let more_items : Items = record { blocks = items.blocks; origin = Some g.item.number; top_xid = None } in
          goes_or_ends bytes items more_items s g.next g.text g.promised e r g.behind (spells_origin items r.text g.text g.promised r.spelled g.item) (omega (arith, g.item.promises)) (inr (inl g.item)) g.resumes
          (λ (on : ReachesItem bytes more_items g.next). fails_from k bytes more_items g.next e on g.behind.fits (omega (arith, short, ap length g.item.spelled, ap length g.behind.rest_is, length-append g.text g.next.rest)) g.resumes)
      | inr (inr (inr (inr g))) ↦
          let more_items : Items = record { blocks = items.blocks; origin = items.origin; top_xid = Some g.item.number } in
          goes_or_ends bytes items more_items s g.next g.text g.promised e r g.behind (spells_top items r.text g.text g.promised r.spelled g.item) (omega (arith, g.item.promises)) (inr (inr g.item)) g.resumes
          (λ (on : ReachesItem bytes more_items g.next). fails_from k bytes more_items g.next e on g.behind.fits (omega (arith, short, ap length g.item.spelled, ap length g.behind.rest_is, length-append g.text g.next.rest)) g.resumes)
    ]
  where
    same_error : (d e : RecErr) → (let x : Result HeadersRead RecErr = Err e in x ≡ Err d) → d ≡ e
    same_error d e k = cc

-- ---- the first cause is what the reading tells

rest_fits : (bytes : List ℕ) (items : Items) (s : HeaderCursor) → IsBytes bytes → ReachesItem bytes items s → IsBytes s.rest
rest_fits bytes items s fits r = subst IsBytes (ap (drop (length r.text)) r.rest_is ∙ drop_at r.text s.rest (length r.text) refl) (IsBytes-drop (length r.text) (drop 24 bytes) (IsBytes-drop 24 bytes fits))

pub breaks_told : (bytes : List ℕ) (e : RecErr) → IsBytes bytes → BreaksItem bytes e → reads_headers bytes ≡ Err e
breaks_told bytes e fits b =
    let items = b.items in
    let s = b.place in
    let r = b.reaches in
    let breaks = sym (rows_reached bytes items s r) ∙ b.breaks in
    elim (step items s (reads_headers bytes) (lt-ltb _ _ r.more) (rest_fits bytes items s fits r) (last_fits None items.blocks r.spelled.heads tt r.spelled.heads_spelled) (reaches_resumes bytes items s r)) [
      | inl d ↦ d.gives ∙ ap (λ (k : RecErr). Err k) (some_is d.error e (sym d.fails ∙ breaks))
      | inr (inl d) ↦ absurd (none_some e (sym d.passes ∙ breaks))
      | inr (inr (inl d)) ↦ absurd (none_some e (sym d.passes ∙ breaks))
      | inr (inr (inr (inl d))) ↦ absurd (none_some e (sym d.passes ∙ breaks))
      | inr (inr (inr (inr d))) ↦ absurd (none_some e (sym d.passes ∙ breaks))
    ]
  where
    some_is : (d e : RecErr) → (let x : Option RecErr = Some d in x ≡ Some e) → d ≡ e
    some_is d e k = cc

    none_some : (e : RecErr) → (let x : Option RecErr = None in x ≡ Some e) → ⊥
    none_some e k = cc

finish_wrong : (blocks : List BlockHead) (origin top : Option ℕ) (end : HeaderCursor) → (length end.rest ≡ end.owed → ⊥) → finish blocks origin top end ≡ Err (Malformed end.at kinds.Fill)
finish_wrong blocks origin top end wrong = let some : eqb (length end.rest) end.owed ≡ false = ne_eqb _ _ wrong in rw some refl

main_here : (at owed len : ℕ) (text rest : List ℕ) → has_header (standing_at at owed (text ++ rest)) ≡ true → IsMainHead text len → main_item (standing_at at owed (text ++ rest)) ≡ Ok (standing_at (at + length text) (owed + len) rest)
unfolding main_item
main_here at owed len text rest more (inl h) =
    let shown : has_header (standing_at at owed (255 ∷ len ∷ rest)) ≡ true = ap (λ (l : List ℕ). has_header (standing_at at owed (l ++ rest))) (sym h.1) ∙ more in
    let long : ltb (length (255 ∷ len ∷ rest)) 2 ≡ false = le-ltb _ _ (omega arith) in
    rw (h.1, shown, long) refl
main_here at owed len text rest more (inr h) =
    let body = to_le_bytes w32 len ++ rest in
    let shown : has_header (standing_at at owed (254 ∷ body)) ≡ true = ap (λ (l : List ℕ). has_header (standing_at at owed (l ++ rest))) (sym h.1) ∙ more in
    let long : ltb (length (254 ∷ body)) 5 ≡ false = le-ltb _ _ (omega (arith, length-append (to_le_bytes w32 len) rest)) in
    let number : number_at w32 (254 ∷ body) 1 ≡ len = number_again w32 (2 ^ 32) wide32 (254 ∷ body) rest 1 len h.0 refl in
    rw (h.1, shown, long, number) refl

-- main data begins with none of the other items
main_begins : (q : List ℕ → Bool) (at owed len : ℕ) (text rest : List ℕ) → ((xs : List ℕ) → q (255 ∷ xs) ≡ false) → ((xs : List ℕ) → q (254 ∷ xs) ≡ false) → IsMainHead text len → (has_header (standing_at at owed (text ++ rest)) && q (text ++ rest)) ≡ false
main_begins q at owed len text rest short long (inl h) = rw h.1 (and_right _ _ (short (len ∷ rest)))
main_begins q at owed len text rest short long (inr h) = rw h.1 (and_right _ _ (long (to_le_bytes w32 len ++ rest)))

over_is : (owed left : ℕ) → left ≤ owed → ltb owed left ≡ false
over_is owed left le = le-ltb owed left le

main_told : (blocks : List BlockHead) (origin top : Option ℕ) (at owed promised : ℕ) (text rest : List ℕ) (r : Result HeadersRead RecErr) → has_header (standing_at at owed (text ++ rest)) ≡ true → (length rest ≡ owed + promised → ⊥) → IsMainHead text promised → Resumes blocks origin top (standing_at at owed (text ++ rest)) r → r ≡ Err (Malformed (at + length text) kinds.Fill)
main_told blocks origin top at owed promised text rest r more wrong main resumes =
    let s = standing_at at owed (text ++ rest) in
    let gives = to_top blocks origin top s r (main_begins begins_block at owed promised text rest (λ xs. refl) (λ xs. refl) main) (main_begins (begins_with 253) at owed promised text rest (λ xs. refl) (λ xs. refl) main) (main_begins (begins_with 252) at owed promised text rest (λ xs. refl) (λ xs. refl) main) resumes in
    sym gives ∙ ap (λ (x : Result HeaderCursor RecErr). x >>= finish blocks origin top) (main_here at owed promised text rest more main) ∙ finish_wrong blocks origin top (standing_at (at + length text) (owed + promised) rest) wrong

-- behind an item no header stands any more
ended_told : (blocks : List BlockHead) (origin top : Option ℕ) (at owed : ℕ) (rest : List ℕ) (r : Result HeadersRead RecErr) → length rest ≤ owed → (length rest ≡ owed → ⊥) → Resumes blocks origin top (standing_at at owed rest) r → r ≡ Err (Malformed at kinds.Fill)
ended_told blocks origin top at owed rest r few wrong resumes = sym (to_finish blocks origin top (standing_at at owed rest) r (over_is owed (length rest) few) resumes) ∙ finish_wrong blocks origin top (standing_at at owed rest) wrong

block_told : (blocks : List BlockHead) (same : Bool) (h : BlockHead) (at owed : ℕ) (rest : List ℕ) (r : Result HeadersRead RecErr) → has_header (standing_at at owed (head_text same h ++ rest)) ≡ true → StandsBehind (last_of None blocks) same h → length rest ≤ owed + payload_len h → (length rest ≡ owed + payload_len h → ⊥)
    → Resumes blocks None None (standing_at at owed (head_text same h ++ rest)) r → r ≡ Err (Malformed (at + length (head_text same h)) kinds.Fill)
block_told blocks same h at owed rest r more stands few wrong resumes =
    let begins : begins_block (head_text same h ++ rest) ≡ true = le-leb h.id 32 stands.id in
    let on = resumes_block blocks (standing_at at owed (head_text same h ++ rest)) (record { value = h; next = standing_at (at + length (head_text same h)) (owed + payload_len h) rest }) r (and_from _ _ more begins) (block_again at owed (last_of None blocks) same h rest stands) resumes in
    ended_told (blocks ++ h ∷ []) None None (at + length (head_text same h)) (owed + payload_len h) rest r few wrong on

origin_told : (blocks : List BlockHead) (n at owed : ℕ) (rest : List ℕ) (r : Result HeadersRead RecErr) → has_header (standing_at at owed (253 ∷ (to_le_bytes w16 n ++ rest))) ≡ true → n < 2 ^ 16 → length rest ≤ owed → (length rest ≡ owed → ⊥) → Resumes blocks None None (standing_at at owed (253 ∷ (to_le_bytes w16 n ++ rest))) r → r ≡ Err (Malformed (at + 3) kinds.Fill)
origin_told blocks n at owed rest r more fits few wrong resumes =
    let s = standing_at at owed (253 ∷ (to_le_bytes w16 n ++ rest)) in
    let gives = no_block blocks s r (and_right (has_header s) _ refl) resumes in
    let on = ap (λ (x : Result (ItemRead (Option ℕ)) RecErr). x >>= λ (o : ItemRead (Option ℕ)). after_origin blocks o.value o.next) (sym (item_some_here 253 w16 (2 ^ 16) wide16 at owed n rest fits more)) ∙ gives in
    ended_told blocks (Some n) None (at + 3) owed rest r few wrong on

top_told : (blocks : List BlockHead) (origin : Option ℕ) (n at owed : ℕ) (rest : List ℕ) (r : Result HeadersRead RecErr) → has_header (standing_at at owed (252 ∷ (to_le_bytes w32 n ++ rest))) ≡ true → n < 2 ^ 32 → length rest ≤ owed → (length rest ≡ owed → ⊥) → Resumes blocks origin None (standing_at at owed (252 ∷ (to_le_bytes w32 n ++ rest))) r → r ≡ Err (Malformed (at + 5) kinds.Fill)
top_told blocks origin n at owed rest r more fits few wrong resumes =
    let s = standing_at at owed (252 ∷ (to_le_bytes w32 n ++ rest)) in
    let gives = to_origin blocks origin s r (and_right (has_header s) _ refl) (and_right (has_header s) _ refl) resumes in
    let on = ap (λ (x : Result (ItemRead (Option ℕ)) RecErr). x >>= λ (t : ItemRead (Option ℕ)). after_top blocks origin t.value t.next) (sym (item_some_here 252 w32 (2 ^ 32) wide32 at owed n rest fits more)) ∙ gives in
    ended_told blocks origin (Some n) (at + 5) owed rest r few wrong on

-- the place of an item, with its text
place_is : (s : HeaderCursor) (text rest : List ℕ) → s.rest ≡ text ++ rest → s ≡ standing_at s.at s.owed (text ++ rest)
place_is s text rest e = ap (λ (l : List ℕ). standing_at s.at s.owed l) e

block_end : (items : Items) (at owed promised : ℕ) (text rest : List ℕ) (r : Result HeadersRead RecErr) → has_header (standing_at at owed (text ++ rest)) ≡ true → (length rest ≡ owed + promised → ⊥) → length rest ≤ owed + promised → NextBlock items text promised → Resumes items.blocks items.origin items.top_xid (standing_at at owed (text ++ rest)) r → r ≡ Err (Malformed (at + length text) kinds.Fill)
block_end items at owed promised text rest r more wrong few n resumes =
    let same = head_text n.same n.head in
    let shown : has_header (standing_at at owed (same ++ rest)) ≡ true = ap (λ (l : List ℕ). has_header (standing_at at owed (l ++ rest))) (sym n.spelled) ∙ more in
    let p : promised ≡ payload_len n.head = n.promises in
    let bare = subst (λ (o : Option ℕ). Resumes items.blocks o None (standing_at at owed (text ++ rest)) r) n.no_origin (subst (λ (t : Option ℕ). Resumes items.blocks items.origin t (standing_at at owed (text ++ rest)) r) n.no_top_xid resumes) in
    let spelled = subst (λ (l : List ℕ). Resumes items.blocks None None (standing_at at owed (l ++ rest)) r) n.spelled bare in
    block_told items.blocks n.same n.head at owed rest r shown n.stands (omega (arith, p)) (λ (e : length rest ≡ owed + payload_len n.head). wrong (e ∙ ap (λ (k : ℕ). owed + k) (sym p))) spelled ∙ ap (λ (l : List ℕ). Err (Malformed (at + length l) kinds.Fill)) (sym n.spelled)

origin_end : (items : Items) (at owed promised : ℕ) (text rest : List ℕ) (r : Result HeadersRead RecErr) → has_header (standing_at at owed (text ++ rest)) ≡ true → (length rest ≡ owed + promised → ⊥) → length rest ≤ owed + promised → NextOrigin items text promised → Resumes items.blocks items.origin items.top_xid (standing_at at owed (text ++ rest)) r → r ≡ Err (Malformed (at + length text) kinds.Fill)
origin_end items at owed promised text rest r more wrong few n resumes =
    let same = 253 ∷ to_le_bytes w16 n.number in
    let shown : has_header (standing_at at owed (same ++ rest)) ≡ true = ap (λ (l : List ℕ). has_header (standing_at at owed (l ++ rest))) (sym n.spelled) ∙ more in
    let p : promised ≡ 0 = n.promises in
    let bare = subst (λ (o : Option ℕ). Resumes items.blocks o None (standing_at at owed (text ++ rest)) r) n.no_origin (subst (λ (t : Option ℕ). Resumes items.blocks items.origin t (standing_at at owed (text ++ rest)) r) n.no_top_xid resumes) in
    let spelled = subst (λ (l : List ℕ). Resumes items.blocks None None (standing_at at owed (l ++ rest)) r) n.spelled bare in
    origin_told items.blocks n.number at owed rest r shown n.fits (omega (arith, p)) (λ (e : length rest ≡ owed). wrong (omega (arith, e, p))) spelled ∙ ap (λ (l : List ℕ). Err (Malformed (at + length l) kinds.Fill)) (sym n.spelled)

top_end : (items : Items) (at owed promised : ℕ) (text rest : List ℕ) (r : Result HeadersRead RecErr) → has_header (standing_at at owed (text ++ rest)) ≡ true → (length rest ≡ owed + promised → ⊥) → length rest ≤ owed + promised → NextTopXid items text promised → Resumes items.blocks items.origin items.top_xid (standing_at at owed (text ++ rest)) r → r ≡ Err (Malformed (at + length text) kinds.Fill)
top_end items at owed promised text rest r more wrong few n resumes =
    let same = 252 ∷ to_le_bytes w32 n.number in
    let shown : has_header (standing_at at owed (same ++ rest)) ≡ true = ap (λ (l : List ℕ). has_header (standing_at at owed (l ++ rest))) (sym n.spelled) ∙ more in
    let p : promised ≡ 0 = n.promises in
    let bare = subst (λ (t : Option ℕ). Resumes items.blocks items.origin t (standing_at at owed (text ++ rest)) r) n.no_top_xid resumes in
    let spelled = subst (λ (l : List ℕ). Resumes items.blocks items.origin None (standing_at at owed (l ++ rest)) r) n.spelled bare in
    top_told items.blocks items.origin n.number at owed rest r shown n.fits (omega (arith, p)) (λ (e : length rest ≡ owed). wrong (omega (arith, e, p))) spelled ∙ ap (λ (l : List ℕ). Err (Malformed (at + length l) kinds.Fill)) (sym n.spelled)

fill_told : (bytes : List ℕ) (e : RecErr) → LeavesFill bytes e → reads_headers bytes ≡ Err e
fill_told bytes e f =
    let items = f.items in
    let s = f.place in
    let r = reads_headers bytes in
    let place = place_is s f.text f.rest f.rest_is in
    let more : has_header (standing_at s.at s.owed (f.text ++ f.rest)) ≡ true = ap has_header (sym place) ∙ lt-ltb _ _ f.reaches.more in
    let resumes = subst (λ (p : HeaderCursor). Resumes items.blocks items.origin items.top_xid p r) place (reaches_resumes bytes items s f.reaches) in
    fill_so items s.at s.owed f.promised f.text f.rest r more f.wrong f.ends resumes ∙ ap (λ (d : RecErr). Err d) (sym f.told)
  where
    fill_so : (items : Items) (at owed promised : ℕ) (text rest : List ℕ) (r : Result HeadersRead RecErr) → has_header (standing_at at owed (text ++ rest)) ≡ true → (length rest ≡ owed + promised → ⊥) → EndsHeaders items text promised (length rest) (owed + promised) → Resumes items.blocks items.origin items.top_xid (standing_at at owed (text ++ rest)) r → r ≡ Err (Malformed (at + length text) kinds.Fill)
    fill_so items at owed promised text rest r more wrong ends resumes =
        elim ends [
          | inl main ↦ main_told items.blocks items.origin items.top_xid at owed promised text rest r more wrong main resumes
          | inr (few, inl n) ↦ block_end items at owed promised text rest r more wrong few n resumes
          | inr (few, inr (inl n)) ↦ origin_end items at owed promised text rest r more wrong few n resumes
          | inr (few, inr (inr n)) ↦ top_end items at owed promised text rest r more wrong few n resumes
        ]

-- ---- the whole record

-- the tests before the items
length_test : List ℕ → Bool
length_test bytes = ltb (length bytes) 24 || not (eqb (number_at w32 bytes 0) (length bytes))

has_length : (bytes : List ℕ) → length_test bytes ≡ false → HasLength bytes
unfolding length_test
has_length bytes e =
    let p = or_parts (ltb (length bytes) 24) (not (eqb (number_at w32 bytes 0) (length bytes))) e in
    record { long = ltb-false _ _ p.0; counted = eqb-true _ _ (not-false _ p.1) }

length_passes : (bytes : List ℕ) → HasLength bytes → length_test bytes ≡ false
unfolding length_test
length_passes bytes h = or_from _ _ (le-ltb _ _ h.long) (not_from_true _ (eq-eqb _ _ h.counted))

wrong_length : (bytes : List ℕ) → length_test bytes ≡ true → HasLength bytes → ⊥
wrong_length bytes e h = both_ways _ (length_passes bytes h) e

length_fails : (bytes : List ℕ) → (HasLength bytes → ⊥) → length_test bytes ≡ true
length_fails bytes no_length = true_from_ne_false _ (λ e. no_length (has_length bytes e))

record_ok : (bytes : List ℕ) (r : Result HeadersRead RecErr) (e : RecErr) → (r >>= λ h. Ok (record_of bytes h)) ≡ Err e → r ≡ Err e
record_ok bytes (Ok h) e k = absurd (ok_no_error (record_of bytes h) e k)
  where
    ok_no_error : (x : Record) (e : RecErr) → (let y : Result Record RecErr = Ok x in y ≡ Err e) → ⊥
    ok_no_error x e k = cc
record_ok bytes (Err d) e k = ap (λ (x : RecErr). Err x) (error_is d e k)
  where
    error_is : (d e : RecErr) → (let y : Result Record RecErr = Err d in y ≡ Err e) → d ≡ e
    error_is d e k = cc

items_told : (bytes : List ℕ) (e : RecErr) → reads_headers bytes ≡ Err e → items_of bytes ≡ Err e
unfolding items_of
items_told bytes e k = ap (λ (r : Result HeadersRead RecErr). r >>= λ (h : HeadersRead). Ok (record_of bytes h)) k

items_fail : (bytes : List ℕ) (e : RecErr) → items_of bytes ≡ Err e → reads_headers bytes ≡ Err e
unfolding items_of
items_fail bytes e k = record_ok bytes (reads_headers bytes) e k

-- behind the header: the reading begins there, where bytes are left
items_cause : (bytes : List ℕ) (e : RecErr) → IsBytes bytes → reads_headers bytes ≡ Err e → Cause bytes e
items_cause bytes e fits k =
    let rest = drop 24 bytes in
    let s = standing_at 24 0 rest in
    let from : Resumes [] None None s (Err e) = (length rest, (omega arith, sym (headers_start s) ∙ k)) in
    elim (cases_Bool (has_header s)) [
      | inl more ↦ fails_from (length rest) bytes (record { blocks = []; origin = None; top_xid = None }) s e (record { text = []; spelled = record { heads = []; heads_spelled = refl; origin = tt; top_xid = tt; spelled = refl }; rest_is = refl; at_is = refl; owed_is = refl; more = ltb-true _ _ more }) (IsBytes-drop 24 bytes fits) (omega arith) from
      | inr over ↦ absurd ((finish_fails [] None None s e (to_finish [] None None s (Err e) over from)).0 (omega (arith, ltb-false 0 (length rest) over)))
    ]

pub cause_of : (bytes : List ℕ) (e : RecErr) → IsBytes bytes → reading_of bytes ≡ Err e → FailsAt bytes e
unfolding reading_of length_test
cause_of bytes e fits k =
    elim (cases_Bool (length_test bytes)) [
      | inl wrong ↦ inl (wrong_length bytes wrong, error_is _ e (rw wrong at k))
      | inr right ↦ elim (cases_Bool (is_free_manager (get_or bytes 17 0))) [
        | inl free ↦ inr (inl (has_length bytes right, free, error_is _ e (rw (right, free) at k)))
        | inr lawful ↦ inr (inr (record { length_is = has_length bytes right; manager = not_from_false _ lawful }, items_cause bytes e fits (items_fail bytes e (rw (right, lawful) at k))))
      ]
    ]
  where
    error_is : (d e : RecErr) → (let y : Result Record RecErr = Err d in y ≡ Err e) → e ≡ d
    error_is d e k = cc

pub cause_told : (bytes : List ℕ) (e : RecErr) → IsBytes bytes → FailsAt bytes e → reading_of bytes ≡ Err e
unfolding reading_of length_test
cause_told bytes e fits (inl h) = let wrong = length_fails bytes h.0 in rw (wrong, h.1) refl
cause_told bytes e fits (inr (inl h)) = let right = length_passes bytes h.0 in rw (right, h.1, h.2) refl
cause_told bytes e fits (inr (inr (h, inl b))) = let right = length_passes bytes h.length_is in let lawful = not-true _ h.manager in rw (right, lawful) (items_told bytes e (breaks_told bytes e fits b))
cause_told bytes e fits (inr (inr (h, inr f))) = let right = length_passes bytes h.length_is in let lawful = not-true _ h.manager in rw (right, lawful) (items_told bytes e (fill_told bytes e f))

-- ---- what a call answers, and each list of bytes

pub fails_by : (answer : Result Record RecErr) (bytes : List ℕ) → IsBytes bytes → GivesReading answer (reading_of bytes) → IfErr answer (TellsFirstFault bytes)
fails_by (Ok r) bytes fits gives = tt
fails_by (Err Memory) bytes fits gives = tt
fails_by (Err (Malformed at kind)) bytes fits gives = cause_of bytes (Malformed at kind) fits gives
fails_by (Err (Compressed id)) bytes fits gives = cause_of bytes (Compressed id) fits gives

pub spells_or_fails : (bytes : List ℕ) → All (λ b. b < 256) bytes → ((r : Record) × Spells bytes r) ⊎ ((e : RecErr) × FailsAt bytes e)
spells_or_fails bytes fits = either (reading_of bytes) refl
  where
    either : (x : Result Record RecErr) → reading_of bytes ≡ x → ((r : Record) × Spells bytes r) ⊎ ((e : RecErr) × FailsAt bytes e)
    either (Ok r) k = inl (r, found bytes r (IsBytes-from_All bytes fits) k)
    either (Err e) k = inr (e, cause_of bytes e (IsBytes-from_All bytes fits) k)

pub one_record : (bytes : List ℕ) (r other : Record) → Spells bytes r → Spells bytes other → r ≡ other
one_record bytes r other a b = same r other (sym (only bytes r a) ∙ only bytes other b)
  where
    same : (r other : Record) → (let y : Result Record RecErr = Ok r in y ≡ Ok other) → r ≡ other
    same r other k = cc

pub one_cause : (bytes : List ℕ) (e other : RecErr) → All (λ b. b < 256) bytes → FailsAt bytes e → FailsAt bytes other → e ≡ other
one_cause bytes e other fits a b = same e other (sym (cause_told bytes e (IsBytes-from_All bytes fits) a) ∙ cause_told bytes other (IsBytes-from_All bytes fits) b)
  where
    same : (e other : RecErr) → (let y : Result Record RecErr = Err e in y ≡ Err other) → e ≡ other
    same e other k = cc

pub not_both : (bytes : List ℕ) (r : Record) (e : RecErr) → All (λ b. b < 256) bytes → Spells bytes r → FailsAt bytes e → ⊥
not_both bytes r e fits a b = apart r e (sym (only bytes r a) ∙ cause_told bytes e (IsBytes-from_All bytes fits) b)
  where
    apart : (r : Record) (e : RecErr) → (let y : Result Record RecErr = Ok r in y ≡ Err e) → ⊥
    apart r e k = cc

-- ---- the reading is the spelling

pub reads_spelled : (bytes : List ℕ) (r : Record) → All (λ b. b < 256) bytes → (reading_of bytes ≡ Ok r) ↔ Spells bytes r
reads_spelled bytes r fits = (found bytes r (IsBytes-from_All bytes fits), only bytes r)

pub refuses_failing : (bytes : List ℕ) (e : RecErr) → All (λ b. b < 256) bytes → (reading_of bytes ≡ Err e) ↔ FailsAt bytes e
refuses_failing bytes e fits = let small = IsBytes-from_All bytes fits in (cause_of bytes e small, cause_told bytes e small)

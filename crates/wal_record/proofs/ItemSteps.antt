-- One item behind whole items: it breaks a check, or the reading goes on behind it.
use Rattle.std.proofs.Common.{◌≡◌, ℕ, ◌+◌, ◌^◌, ◌<◌, ◌⊎◌, Bool, true, false, ◌&&◌, ◌||◌, eqb, ltb, leb, List, [], ◌∷◌, ◌++◌, length, get_or, Option, Some, None, Result, Ok, Err, refl, sym, ap, subst, ◌∙◌, arith, inl, inr}
use Rattle.std.specs.Int.{Width, w16, w32, byte_len, to_le_bytes}
use Rattle.std.proofs.lemmas.Bool.{and_from, and_right, cases_Bool, eqb-true, leb-true, ltb-false, ltb-true, ne_eqb, or_left, or_right}
use Rattle.std.proofs.lemmas.List.{drop_more}
use Rattle.wal_record.specs.declared.fault.RecErr.{RecErr}
use Rattle.wal_record.specs.declared.fault.RecErr.TheVariants.{Malformed}
use Rattle.wal_record.specs.declared.fault.RecKind.TheVariants as kinds
use Rattle.wal_record.specs.declared.head.BlockHead.{BlockHead}
use Rattle.wal_spelling.specs.Numbers.{number_at}
use Rattle.wal_record.specs.Reading.{◌>>=◌, ItemRead, HeadersRead, HeaderCursor, begins_block, begins_with, block_item, block_items, has_header, main_item, optional_item, payload_len, owing_more, skip}
use Rattle.wal_record.specs.Items.{Items, head_text}
use Rattle.wal_spelling.specs.Checks.{first_fault}
use Rattle.wal_record.specs.Fails.{IsMainHead, NextBlock, NextOrigin, NextTopXid, last_of}
use Rattle.wal_record.proofs.ItemTables.{block_checks, item_checks}
use Rattle.wal_spelling.proofs.Bytes.{IsBytes, IsBytes-drop, IsWide, wide16, wide32}
use Rattle.wal_record.proofs.BlockHeadSteps.{fails_so, goes_on}
use Rattle.wal_record.proofs.HeadsTaken.{BeforeFits, block_takes, number_back, number_below}
use Rattle.wal_record.proofs.Items.{begins_true}
use Rattle.wal_record.proofs.Tables.{block_table, read_passes, told_failing}
use Rattle.wal_record.proofs.Resuming.{Resumes, after_blocks, after_origin, after_top, finish, no_block, no_top, to_origin, to_top}

-- ---- by what an item begins with

pub record Begins (block origin top short long : Bool) (rest : List ℕ) : Type 0 where
  pub block_is : begins_block rest ≡ block
  pub origin_is : begins_with 253 rest ≡ origin
  pub top_is : begins_with 252 rest ≡ top
  pub short_is : begins_with 255 rest ≡ short
  pub long_is : begins_with 254 rest ≡ long

abbrev AnyBegins : List ℕ → Type 0
AnyBegins rest = Begins true false false false false rest ⊎ (Begins false true false false false rest ⊎ (Begins false false true false false rest ⊎ (Begins false false false true false rest ⊎ (Begins false false false false true rest ⊎ Begins false false false false false rest))))

begins_at : (n b : ℕ) (bs : List ℕ) → eqb b n ≡ true → AnyBegins (n ∷ bs) → AnyBegins (b ∷ bs)
begins_at n b bs e any = subst (λ (k : ℕ). AnyBegins (k ∷ bs)) (sym (eqb-true b n e)) any

any_begins : (rest : List ℕ) → 0 < length rest → AnyBegins rest
any_begins [] some = absurd (omega arith)
any_begins (b ∷ bs) some =
    elim (cases_Bool (leb b 32)) [
      | inl le ↦
          let few = leb-true b 32 le in
          inl (record { block_is = le; origin_is = ne_eqb _ _ (λ e. absurd (omega arith)); top_is = ne_eqb _ _ (λ e. absurd (omega arith)); short_is = ne_eqb _ _ (λ e. absurd (omega arith)); long_is = ne_eqb _ _ (λ e. absurd (omega arith)) })
      | inr gt ↦ elim (cases_Bool (eqb b 253)) [
        | inl e ↦ begins_at 253 b bs e (inr (inl (record { block_is = refl; origin_is = refl; top_is = refl; short_is = refl; long_is = refl })))
        | inr e253 ↦ elim (cases_Bool (eqb b 252)) [
          | inl e ↦ begins_at 252 b bs e (inr (inr (inl (record { block_is = refl; origin_is = refl; top_is = refl; short_is = refl; long_is = refl }))))
          | inr e252 ↦ elim (cases_Bool (eqb b 255)) [
            | inl e ↦ begins_at 255 b bs e (inr (inr (inr (inl (record { block_is = refl; origin_is = refl; top_is = refl; short_is = refl; long_is = refl })))))
            | inr e255 ↦ elim (cases_Bool (eqb b 254)) [
              | inl e ↦ begins_at 254 b bs e (inr (inr (inr (inr (inl (record { block_is = refl; origin_is = refl; top_is = refl; short_is = refl; long_is = refl }))))))
              | inr e254 ↦ inr (inr (inr (inr (inr (record { block_is = gt; origin_is = e253; top_is = e252; short_is = e255; long_is = e254 })))))
            ]
          ]
        ]
      ]
    ]

-- ---- what one step does

-- a place behind a text
pub record IsBehind (s : HeaderCursor) (text : List ℕ) (promised : ℕ) (behind : HeaderCursor) : Type 0 where
  pub rest_is : s.rest ≡ text ++ behind.rest
  pub at_is : behind.at ≡ s.at + length text
  pub owed_is : behind.owed ≡ s.owed + promised
  pub fits : IsBytes behind.rest

abbrev pub items_so : List BlockHead → Option ℕ → Option ℕ → Items
items_so blocks origin top = record { blocks = blocks; origin = origin; top_xid = top }

pub record Broken (items : Items) (s : HeaderCursor) (r : Result HeadersRead RecErr) : Type 0 where
  pub error : RecErr
  pub fails : first_fault (item_checks items s) ≡ Some error
  pub gives : r ≡ Err error

pub record Ended (items : Items) (s : HeaderCursor) (r : Result HeadersRead RecErr) : Type 0 where
  pub passes : first_fault (item_checks items s) ≡ None
  pub text : List ℕ
  pub promised : ℕ
  pub end : HeaderCursor
  pub main : IsMainHead text promised
  pub behind : IsBehind s text promised end
  pub gives : finish items.blocks items.origin items.top_xid end ≡ r

pub record GoesBlock (items : Items) (s : HeaderCursor) (r : Result HeadersRead RecErr) : Type 0 where
  pub passes : first_fault (item_checks items s) ≡ None
  pub text : List ℕ
  pub promised : ℕ
  pub next : HeaderCursor
  pub item : NextBlock items text promised
  pub behind : IsBehind s text promised next
  pub resumes : Resumes (items.blocks ++ item.head ∷ []) None None next r

pub record GoesOrigin (items : Items) (s : HeaderCursor) (r : Result HeadersRead RecErr) : Type 0 where
  pub passes : first_fault (item_checks items s) ≡ None
  pub text : List ℕ
  pub promised : ℕ
  pub next : HeaderCursor
  pub item : NextOrigin items text promised
  pub behind : IsBehind s text promised next
  pub resumes : Resumes items.blocks (Some item.number) None next r

pub record GoesTop (items : Items) (s : HeaderCursor) (r : Result HeadersRead RecErr) : Type 0 where
  pub passes : first_fault (item_checks items s) ≡ None
  pub text : List ℕ
  pub promised : ℕ
  pub next : HeaderCursor
  pub item : NextTopXid items text promised
  pub behind : IsBehind s text promised next
  pub resumes : Resumes items.blocks items.origin (Some item.number) next r

abbrev pub Step : Items → HeaderCursor → Result HeadersRead RecErr → Type 0
Step items s r = Broken items s r ⊎ (Ended items s r ⊎ (GoesBlock items s r ⊎ (GoesOrigin items s r ⊎ GoesTop items s r)))

-- ---- an item out of its order, and one that begins with none of the bytes

main_order : (s : HeaderCursor) → has_header s ≡ true → begins_with 255 s.rest ≡ false → begins_with 254 s.rest ≡ false → (begins_with 253 s.rest || begins_with 252 s.rest || begins_block s.rest) ≡ true → main_item s ≡ Err (Malformed s.at kinds.Order)
unfolding main_item
main_order s more short long e = rw (more, short, long, e) refl

main_unknown : (s : HeaderCursor) → has_header s ≡ true → Begins false false false false false s.rest → main_item s ≡ Err (Malformed s.at kinds.Id)
unfolding main_item
main_unknown s more b = rw (more, b.short_is, b.long_is, b.origin_is, b.top_is, b.block_is) refl

main_fails : (blocks : List BlockHead) (origin top : Option ℕ) (s : HeaderCursor) (r : Result HeadersRead RecErr) (e : RecErr) → first_fault (item_checks (items_so blocks origin top) s) ≡ Some e → main_item s ≡ Err e → after_top blocks origin top s ≡ r → Step (items_so blocks origin top) s r
main_fails blocks origin top s r e fails read gives = inl (record { error = e; fails = fails; gives = sym gives ∙ ap (λ (x : Result HeaderCursor RecErr). x >>= finish blocks origin top) read })

-- ---- main data

main_ends : (blocks : List BlockHead) (origin top : Option ℕ) (s end : HeaderCursor) (r : Result HeadersRead RecErr) → first_fault (item_checks (items_so blocks origin top) s) ≡ None → main_item s ≡ Ok end → (text : List ℕ) (promised : ℕ) → IsMainHead text promised → IsBehind s text promised end → after_top blocks origin top s ≡ r → Step (items_so blocks origin top) s r
main_ends blocks origin top s end r passes read text promised main behind gives = inr (inl (record { passes = passes; text = text; promised = promised; end = end; main = main; behind = behind; gives = ap (λ (x : Result HeaderCursor RecErr). x >>= finish blocks origin top) (sym read) ∙ gives }))

short_cut : (s : HeaderCursor) → has_header s ≡ true → begins_with 255 s.rest ≡ true → ltb (length s.rest) 2 ≡ true → main_item s ≡ Err (Malformed (s.at + 1) kinds.Short)
unfolding main_item
short_cut s more begins cut = rw (more, begins, cut) refl

short_whole : (s : HeaderCursor) → has_header s ≡ true → begins_with 255 s.rest ≡ true → ltb (length s.rest) 2 ≡ false → main_item s ≡ Ok (owing_more (get_or s.rest 1 0) (skip 2 s))
unfolding main_item
short_whole s more begins long = rw (more, begins, long) refl

long_cut : (s : HeaderCursor) → has_header s ≡ true → begins_with 255 s.rest ≡ false → begins_with 254 s.rest ≡ true → ltb (length s.rest) 5 ≡ true → main_item s ≡ Err (Malformed (s.at + 1) kinds.Short)
unfolding main_item
long_cut s more other begins cut = rw (more, other, begins, cut) refl

long_whole : (s : HeaderCursor) → has_header s ≡ true → begins_with 255 s.rest ≡ false → begins_with 254 s.rest ≡ true → ltb (length s.rest) 5 ≡ false → main_item s ≡ Ok (owing_more (number_at w32 s.rest 1) (skip 5 s))
unfolding main_item
long_whole s more other begins long = rw (more, other, begins, long) refl

step_short : (blocks : List BlockHead) (origin top : Option ℕ) (s : HeaderCursor) (r : Result HeadersRead RecErr) → has_header s ≡ true → IsBytes s.rest → Begins false false false true false s.rest → after_top blocks origin top s ≡ r → Step (items_so blocks origin top) s r
step_short blocks origin top s r more fits b gives =
    elim (cases_Bool (ltb (length s.rest) 2)) [
      | inl cut ↦ main_fails blocks origin top s r (Malformed (s.at + 1) kinds.Short) (rw (b.block_is, b.origin_is, b.top_is, b.short_is, cut) refl) (short_cut s more b.short_is cut) gives
      | inr long ↦ main_ends blocks origin top s (owing_more (get_or s.rest 1 0) (skip 2 s)) r (rw (b.block_is, b.origin_is, b.top_is, b.short_is, long) refl) (short_whole s more b.short_is long) (255 ∷ get_or s.rest 1 0 ∷ []) (get_or s.rest 1 0) (inl (fits 1, refl)) (record { rest_is = begins_true 255 s.rest b.short_is ∙ ap (λ (l : List ℕ). 255 ∷ l) (drop_more s.rest 1 0 (omega (arith, ltb-false _ _ long))); at_is = refl; owed_is = refl; fits = IsBytes-drop 2 s.rest fits }) gives
    ]

step_long : (blocks : List BlockHead) (origin top : Option ℕ) (s : HeaderCursor) (r : Result HeadersRead RecErr) → has_header s ≡ true → IsBytes s.rest → Begins false false false false true s.rest → after_top blocks origin top s ≡ r → Step (items_so blocks origin top) s r
step_long blocks origin top s r more fits b gives =
    elim (cases_Bool (ltb (length s.rest) 5)) [
      | inl cut ↦ main_fails blocks origin top s r (Malformed (s.at + 1) kinds.Short) (rw (b.block_is, b.origin_is, b.top_is, b.short_is, b.long_is, cut) refl) (long_cut s more b.short_is b.long_is cut) gives
      | inr long ↦ main_ends blocks origin top s (owing_more (number_at w32 s.rest 1) (skip 5 s)) r (rw (b.block_is, b.origin_is, b.top_is, b.short_is, b.long_is, long) refl) (long_whole s more b.short_is b.long_is long) (254 ∷ to_le_bytes w32 (number_at w32 s.rest 1)) (number_at w32 s.rest 1) (inr (number_below w32 (2 ^ 32) wide32 s.rest 1 fits, refl)) (record { rest_is = begins_true 254 s.rest b.long_is ∙ ap (λ (l : List ℕ). 254 ∷ l) (number_back w32 (2 ^ 32) wide32 s.rest 1 fits (omega (arith, ltb-false _ _ long))); at_is = refl; owed_is = refl; fits = IsBytes-drop 5 s.rest fits }) gives
    ]

-- ---- an origin, a top-level transaction

item_cut : (tag : ℕ) (w : Width) (s : HeaderCursor) → has_header s ≡ true → begins_with tag s.rest ≡ true → ltb (length s.rest) (1 + byte_len w) ≡ true → optional_item tag w s ≡ Err (Malformed (s.at + 1) kinds.Short)
unfolding optional_item
item_cut tag w s more begins cut = rw (and_from _ _ more begins, cut) refl

item_whole : (tag : ℕ) (w : Width) (s : HeaderCursor) → has_header s ≡ true → begins_with tag s.rest ≡ true → ltb (length s.rest) (1 + byte_len w) ≡ false → optional_item tag w s ≡ Ok (record { value = Some (number_at w s.rest 1); next = skip (1 + byte_len w) s })
unfolding optional_item
item_whole tag w s more begins long = rw (and_from _ _ more begins, long) refl

item_behind : (tag : ℕ) (w : Width) (limit : ℕ) → IsWide w limit → (s : HeaderCursor) → IsBytes s.rest → begins_with tag s.rest ≡ true → ltb (length s.rest) (1 + byte_len w) ≡ false → IsBehind s (tag ∷ to_le_bytes w (number_at w s.rest 1)) 0 (skip (1 + byte_len w) s)
item_behind tag w limit wide s fits begins long = record {
  rest_is = begins_true tag s.rest begins ∙ ap (λ (l : List ℕ). tag ∷ l) (number_back w limit wide s.rest 1 fits (ltb-false _ _ long));
  at_is = omega (arith, wide.len (number_at w s.rest 1));
  owed_is = omega arith;
  fits = IsBytes-drop (1 + byte_len w) s.rest fits;
}

step_origin : (blocks : List BlockHead) (origin top : Option ℕ) (s : HeaderCursor) (r : Result HeadersRead RecErr) → has_header s ≡ true → IsBytes s.rest → Begins false true false false false s.rest → Resumes blocks origin top s r → Step (items_so blocks origin top) s r
step_origin blocks None None s r more fits b resumes =
    let gives = no_block blocks s r (and_right (has_header s) _ b.block_is) resumes in
    let bind : Result (ItemRead (Option ℕ)) RecErr → Result HeadersRead RecErr = λ x. x >>= λ (o : ItemRead (Option ℕ)). after_origin blocks o.value o.next in
    elim (cases_Bool (ltb (length s.rest) 3)) [
      | inl cut ↦ inl (record { error = Malformed (s.at + 1) kinds.Short; fails = rw (b.block_is, b.origin_is, cut) refl; gives = sym gives ∙ ap bind (item_cut 253 w16 s more b.origin_is cut) })
      | inr long ↦ inr (inr (inr (inl (record {
        passes = rw (b.block_is, b.origin_is, long) refl;
        text = 253 ∷ to_le_bytes w16 (number_at w16 s.rest 1);
        promised = 0;
        next = skip 3 s;
        item = record { no_origin = refl; no_top_xid = refl; number = number_at w16 s.rest 1; fits = number_below w16 (2 ^ 16) wide16 s.rest 1 fits; spelled = refl; promises = refl };
        behind = item_behind 253 w16 (2 ^ 16) wide16 s fits b.origin_is long;
        resumes = ap bind (sym (item_whole 253 w16 s more b.origin_is long)) ∙ gives;
      }))))
    ]
step_origin blocks (Some o) None s r more fits b resumes = main_fails blocks (Some o) None s r (Malformed s.at kinds.Order) (rw (b.block_is, b.origin_is) refl) (main_order s more b.short_is b.long_is (or_left _ _ (or_left _ _ b.origin_is))) (no_top blocks (Some o) s r (and_right (has_header s) _ b.top_is) resumes)
step_origin blocks None (Some t) s r more fits b resumes = main_fails blocks None (Some t) s r (Malformed s.at kinds.Order) (rw (b.block_is, b.origin_is) refl) (main_order s more b.short_is b.long_is (or_left _ _ (or_left _ _ b.origin_is))) resumes
step_origin blocks (Some o) (Some t) s r more fits b resumes = main_fails blocks (Some o) (Some t) s r (Malformed s.at kinds.Order) (rw (b.block_is, b.origin_is) refl) (main_order s more b.short_is b.long_is (or_left _ _ (or_left _ _ b.origin_is))) resumes

step_top : (blocks : List BlockHead) (origin top : Option ℕ) (s : HeaderCursor) (r : Result HeadersRead RecErr) → has_header s ≡ true → IsBytes s.rest → Begins false false true false false s.rest → Resumes blocks origin top s r → Step (items_so blocks origin top) s r
step_top blocks origin None s r more fits b resumes =
    let gives = to_origin blocks origin s r (and_right (has_header s) _ b.block_is) (and_right (has_header s) _ b.origin_is) resumes in
    let bind : Result (ItemRead (Option ℕ)) RecErr → Result HeadersRead RecErr = λ x. x >>= λ (t : ItemRead (Option ℕ)). after_top blocks origin t.value t.next in
    elim (cases_Bool (ltb (length s.rest) 5)) [
      | inl cut ↦ inl (record { error = Malformed (s.at + 1) kinds.Short; fails = rw (b.block_is, b.origin_is, b.top_is, cut) refl; gives = sym gives ∙ ap bind (item_cut 252 w32 s more b.top_is cut) })
      | inr long ↦ inr (inr (inr (inr (record {
        passes = rw (b.block_is, b.origin_is, b.top_is, long) refl;
        text = 252 ∷ to_le_bytes w32 (number_at w32 s.rest 1);
        promised = 0;
        next = skip 5 s;
        item = record { no_top_xid = refl; number = number_at w32 s.rest 1; fits = number_below w32 (2 ^ 32) wide32 s.rest 1 fits; spelled = refl; promises = refl };
        behind = item_behind 252 w32 (2 ^ 32) wide32 s fits b.top_is long;
        resumes = ap bind (sym (item_whole 252 w32 s more b.top_is long)) ∙ gives;
      }))))
    ]
step_top blocks origin (Some t) s r more fits b resumes = main_fails blocks origin (Some t) s r (Malformed s.at kinds.Order) (rw (b.block_is, b.origin_is, b.top_is) refl) (main_order s more b.short_is b.long_is (or_left _ _ (or_right _ _ b.top_is))) resumes

-- ---- a block

pub last_of-push : (before : Option BlockHead) (heads : List BlockHead) (h : BlockHead) → last_of before (heads ++ h ∷ []) ≡ Some h
last_of-push before [] h = refl
last_of-push before (x ∷ xs) h = last_of-push (Some x) xs h

pub resumes_block : (blocks : List BlockHead) (s : HeaderCursor) (x : ItemRead BlockHead) (r : Result HeadersRead RecErr) → (has_header s && begins_block s.rest) ≡ true → block_item (last_of None blocks) s ≡ Ok x → Resumes blocks None None s r → Resumes (blocks ++ x.value ∷ []) None None x.next r
resumes_block blocks s x r more read resumes =
    let on = goes_on resumes.0 (last_of None blocks) blocks s x (block_items resumes.0 (last_of None blocks) blocks s) resumes.1.0 refl more read in
    let bind : Result (ItemRead (List BlockHead)) RecErr → Result HeadersRead RecErr = λ y. y >>= λ (b : ItemRead (List BlockHead)). after_blocks b.value b.next in
    (on.0, (on.1.0, ap (λ (before : Option BlockHead). bind (block_items on.0 before (blocks ++ x.value ∷ []) x.next)) (last_of-push None blocks x.value) ∙ ap bind on.1.1 ∙ resumes.1.1))

block_breaks : (blocks : List BlockHead) (s : HeaderCursor) (e : RecErr) (r : Result HeadersRead RecErr) → (has_header s && begins_block s.rest) ≡ true → block_item (last_of None blocks) s ≡ Err e → Resumes blocks None None s r → r ≡ Err e
block_breaks blocks s e r more read resumes =
    let bind : Result (ItemRead (List BlockHead)) RecErr → Result HeadersRead RecErr = λ y. y >>= λ (b : ItemRead (List BlockHead)). after_blocks b.value b.next in
    sym resumes.1.1 ∙ ap bind (fails_so resumes.0 (last_of None blocks) blocks s e (block_items resumes.0 (last_of None blocks) blocks s) resumes.1.0 refl more read)

either : {A : Type 0} (x : Result A RecErr) → ((y : A) × (x ≡ Ok y)) ⊎ ((e : RecErr) × (x ≡ Err e))
either (Ok y) = inl (y, refl)
either (Err e) = inr (e, refl)

step_block : (blocks : List BlockHead) (origin top : Option ℕ) (s : HeaderCursor) (r : Result HeadersRead RecErr) → has_header s ≡ true → IsBytes s.rest → BeforeFits (last_of None blocks) → Begins true false false false false s.rest → Resumes blocks origin top s r → Step (items_so blocks origin top) s r
step_block blocks None None s r more fits before b resumes =
    let both = and_from _ _ more b.block_is in
    let table = block_table (last_of None blocks) s in
    elim (either (block_item (last_of None blocks) s)) [
      | inr bad ↦ inl (record { error = bad.0; fails = rw b.block_is (told_failing (block_checks (last_of None blocks) s) table.value bad.0 (sym table.same ∙ bad.1)); gives = block_breaks blocks s bad.0 r both bad.1 resumes })
      | inl read ↦
          let taken = block_takes (last_of None blocks) s read.0 fits b.block_is before read.1 in
          inr (inr (inl (record {
            passes = rw b.block_is (read_passes (block_checks (last_of None blocks) s) table.value read.0 (sym table.same ∙ read.1));
            text = head_text taken.same read.0.value;
            promised = payload_len read.0.value;
            next = read.0.next;
            item = record { no_origin = refl; no_top_xid = refl; same = taken.same; head = read.0.value; stands = taken.stands; spelled = refl; promises = refl };
            behind = record { rest_is = taken.rest_is; at_is = taken.at_is; owed_is = taken.owed_is; fits = taken.fits };
            resumes = resumes_block blocks s read.0 r both read.1 resumes;
          })))
    ]
step_block blocks (Some o) None s r more fits before b resumes = main_fails blocks (Some o) None s r (Malformed s.at kinds.Order) (rw b.block_is refl) (main_order s more b.short_is b.long_is (or_right (begins_with 253 s.rest || begins_with 252 s.rest) _ b.block_is)) (no_top blocks (Some o) s r (and_right (has_header s) _ b.top_is) resumes)
step_block blocks None (Some t) s r more fits before b resumes = main_fails blocks None (Some t) s r (Malformed s.at kinds.Order) (rw b.block_is refl) (main_order s more b.short_is b.long_is (or_right (begins_with 253 s.rest || begins_with 252 s.rest) _ b.block_is)) resumes
step_block blocks (Some o) (Some t) s r more fits before b resumes = main_fails blocks (Some o) (Some t) s r (Malformed s.at kinds.Order) (rw b.block_is refl) (main_order s more b.short_is b.long_is (or_right (begins_with 253 s.rest || begins_with 252 s.rest) _ b.block_is)) resumes

-- ---- any item

pub step : (items : Items) (s : HeaderCursor) (r : Result HeadersRead RecErr) → has_header s ≡ true → IsBytes s.rest → BeforeFits (last_of None items.blocks) → Resumes items.blocks items.origin items.top_xid s r → Step items s r
step items s r more fits before resumes =
    elim (any_begins s.rest (omega (arith, ltb-true s.owed (length s.rest) more))) [
      | inl b ↦ step_block items.blocks items.origin items.top_xid s r more fits before b resumes
      | inr (inl b) ↦ step_origin items.blocks items.origin items.top_xid s r more fits b resumes
      | inr (inr (inl b)) ↦ step_top items.blocks items.origin items.top_xid s r more fits b resumes
      | inr (inr (inr (inl b))) ↦ step_short items.blocks items.origin items.top_xid s r more fits b (to_top items.blocks items.origin items.top_xid s r (and_right (has_header s) _ b.block_is) (and_right (has_header s) _ b.origin_is) (and_right (has_header s) _ b.top_is) resumes)
      | inr (inr (inr (inr (inl b)))) ↦ step_long items.blocks items.origin items.top_xid s r more fits b (to_top items.blocks items.origin items.top_xid s r (and_right (has_header s) _ b.block_is) (and_right (has_header s) _ b.origin_is) (and_right (has_header s) _ b.top_is) resumes)
      | inr (inr (inr (inr (inr b)))) ↦ main_fails items.blocks items.origin items.top_xid s r (Malformed s.at kinds.Id) (rw (b.block_is, b.origin_is, b.top_is, b.short_is, b.long_is) refl) (main_unknown s more b) (to_top items.blocks items.origin items.top_xid s r (and_right (has_header s) _ b.block_is) (and_right (has_header s) _ b.origin_is) (and_right (has_header s) _ b.top_is) resumes)
    ]

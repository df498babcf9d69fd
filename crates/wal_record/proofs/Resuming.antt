-- Where the reading of the headers goes on behind whole items.
use Rattle.std.proofs.Common.{◌≡◌, ℕ, ◌+◌, ◌^◌, ◌<◌, ◌≤◌, false, ◌&&◌, cond, eqb, ltb, List, [], ◌∷◌, ◌++◌, length, drop, Option, Some, None, Result, Ok, Err, refl, sym, ap, subst, ◌∙◌, append_assoc, arith}
use Rattle.std.specs.List.{sum_by}
use Rattle.std.specs.Prelude.{IfSome}
use Rattle.std.specs.Int.{w16, w32, to_le_bytes}
use Rattle.std.proofs.lemmas.Bool.{and_left, and_right}
use Rattle.std.proofs.lemmas.List.{length-append, append-nil}
use Rattle.wal_record.specs.declared.fault.RecErr.{RecErr}
use Rattle.wal_record.specs.declared.fault.RecErr.TheVariants.{Malformed}
use Rattle.wal_record.specs.declared.fault.RecKind.TheVariants as kinds
use Rattle.wal_record.specs.declared.head.BlockHead.{BlockHead}
use Rattle.wal_record.specs.Reading.{◌>>=◌, ItemRead, HeadersRead, HeaderCursor, begins_block, begins_with, block_items, has_header, headers_of, main_item, optional_item, payload_len}
use Rattle.wal_record.specs.Items.{Items, SpellsHeads, item_text}
use Rattle.wal_record.specs.Fails.{ReachesItem, last_of}
use Rattle.wal_spelling.proofs.Bytes.{wide16, wide32}
use Rattle.wal_record.proofs.BlockHeadSteps.{block_items-ends}
use Rattle.wal_record.proofs.HeadsAgain.{standing_at}
use Rattle.wal_record.proofs.HeadLists.{heads_again}
use Rattle.wal_record.proofs.HeaderLists.{heads_read, item_stops, optional_again}
use Rattle.wal_record.proofs.Items.{item_none_again, item_some_again}

-- ---- the stages of the reading

abbrev pub finish : List BlockHead → Option ℕ → Option ℕ → HeaderCursor → Result HeadersRead RecErr
finish blocks origin top end = cond (eqb (length end.rest) end.owed) (Ok (record { blocks = blocks; origin = origin; top_xid = top; payload = end.rest })) (Err (Malformed end.at kinds.Fill))

abbrev pub after_top : List BlockHead → Option ℕ → Option ℕ → HeaderCursor → Result HeadersRead RecErr
after_top blocks origin top s = main_item s >>= finish blocks origin top

abbrev pub after_origin : List BlockHead → Option ℕ → HeaderCursor → Result HeadersRead RecErr
after_origin blocks origin s = optional_item 252 w32 s >>= λ t. after_top blocks origin t.value t.next

abbrev pub after_blocks : List BlockHead → HeaderCursor → Result HeadersRead RecErr
after_blocks blocks s = optional_item 253 w16 s >>= λ o. after_origin blocks o.value o.next

abbrev pub from_blocks : ℕ → Option BlockHead → List BlockHead → HeaderCursor → Result HeadersRead RecErr
from_blocks n before blocks s = block_items n before blocks s >>= λ b. after_blocks b.value b.next

-- behind these items the reading goes on here, and gives r
abbrev pub Resumes : List BlockHead → Option ℕ → Option ℕ → HeaderCursor → Result HeadersRead RecErr → Type 0
Resumes blocks origin (Some t) s r = after_top blocks origin (Some t) s ≡ r
Resumes blocks (Some o) None s r = after_origin blocks (Some o) s ≡ r
Resumes blocks None None s r = (n : ℕ) × ((length s.rest ≤ n) × (from_blocks n (last_of None blocks) blocks s ≡ r))

-- ---- an item that does not stand here is passed over

pub no_block : (blocks : List BlockHead) (s : HeaderCursor) (r : Result HeadersRead RecErr) → (has_header s && begins_block s.rest) ≡ false → Resumes blocks None None s r → after_blocks blocks s ≡ r
no_block blocks s r over resumes = ap (λ (x : Result (ItemRead (List BlockHead)) RecErr). x >>= λ (b : ItemRead (List BlockHead)). after_blocks b.value b.next) (sym (block_items-ends resumes.0 (last_of None blocks) blocks s over)) ∙ resumes.1.1

pub no_origin : (blocks : List BlockHead) (s : HeaderCursor) (r : Result HeadersRead RecErr) → (has_header s && begins_with 253 s.rest) ≡ false → after_blocks blocks s ≡ r → after_origin blocks None s ≡ r
no_origin blocks s r over e = ap (λ (x : Result (ItemRead (Option ℕ)) RecErr). x >>= λ (o : ItemRead (Option ℕ)). after_origin blocks o.value o.next) (sym (item_none_again 253 w16 s over)) ∙ e

pub no_top : (blocks : List BlockHead) (origin : Option ℕ) (s : HeaderCursor) (r : Result HeadersRead RecErr) → (has_header s && begins_with 252 s.rest) ≡ false → after_origin blocks origin s ≡ r → after_top blocks origin None s ≡ r
no_top blocks origin s r over e = ap (λ (x : Result (ItemRead (Option ℕ)) RecErr). x >>= λ (t : ItemRead (Option ℕ)). after_top blocks origin t.value t.next) (sym (item_none_again 252 w32 s over)) ∙ e

-- neither of them stands here
pub to_origin : (blocks : List BlockHead) (origin : Option ℕ) (s : HeaderCursor) (r : Result HeadersRead RecErr) → (has_header s && begins_block s.rest) ≡ false → (has_header s && begins_with 253 s.rest) ≡ false → Resumes blocks origin None s r → after_origin blocks origin s ≡ r
to_origin blocks None s r a b resumes = no_origin blocks s r b (no_block blocks s r a resumes)
to_origin blocks (Some o) s r a b resumes = resumes

pub to_top : (blocks : List BlockHead) (origin top : Option ℕ) (s : HeaderCursor) (r : Result HeadersRead RecErr) → (has_header s && begins_block s.rest) ≡ false → (has_header s && begins_with 253 s.rest) ≡ false → (has_header s && begins_with 252 s.rest) ≡ false → Resumes blocks origin top s r → after_top blocks origin top s ≡ r
to_top blocks None None s r a b c resumes = no_top blocks None s r c (to_origin blocks None s r a b resumes)
to_top blocks (Some o) None s r a b c resumes = no_top blocks (Some o) s r c resumes
to_top blocks None (Some t) s r a b c resumes = resumes
to_top blocks (Some o) (Some t) s r a b c resumes = resumes

no_main : (s : HeaderCursor) → has_header s ≡ false → main_item s ≡ Ok s
unfolding main_item
no_main s over = rw over refl

-- where no header stands any more
pub to_finish : (blocks : List BlockHead) (origin top : Option ℕ) (s : HeaderCursor) (r : Result HeadersRead RecErr) → has_header s ≡ false → Resumes blocks origin top s r → finish blocks origin top s ≡ r
to_finish blocks origin top s r over resumes =
    ap (λ (x : Result HeaderCursor RecErr). x >>= finish blocks origin top) (sym (no_main s over)) ∙ to_top blocks origin top s r (and_left _ _ over) (and_left _ _ over) (and_left _ _ over) resumes

-- ---- the reading comes to each place behind whole items

pub headers_start : (s : HeaderCursor) → headers_of s ≡ from_blocks (length s.rest) None [] s
unfolding headers_of
headers_start s = refl

reach_blocks : (blocks : List BlockHead) (heads rest : List ℕ) → SpellsHeads None blocks heads → sum_by payload_len blocks < length rest → Resumes blocks None None (standing_at (24 + length heads) (sum_by payload_len blocks) rest) (headers_of (standing_at 24 0 (heads ++ rest)))
reach_blocks blocks heads rest spelled more =
    let past = heads_again (length (heads ++ rest)) None [] blocks 24 0 heads rest spelled (omega arith) (omega arith) in
    let same = ap (λ (x : Result (ItemRead (List BlockHead)) RecErr). x >>= λ (b : ItemRead (List BlockHead)). after_blocks b.value b.next) (past.same ∙ ap (λ (k : ℕ). block_items past.fuel (last_of None blocks) blocks (standing_at (24 + length heads) k rest)) (omega arith)) in
    (past.fuel, (past.enough, sym same ∙ sym (headers_start (standing_at 24 0 (heads ++ rest)))))

reach_origin : (blocks : List BlockHead) (o : ℕ) (heads rest : List ℕ) → SpellsHeads None blocks heads → o < 2 ^ 16 → sum_by payload_len blocks < length rest → after_origin blocks (Some o) (standing_at (24 + length heads + 3) (sum_by payload_len blocks) rest) ≡ headers_of (standing_at 24 0 (heads ++ (253 ∷ (to_le_bytes w16 o ++ rest))))
unfolding headers_of
reach_origin blocks o heads rest spelled fits more =
    let owed = sum_by payload_len blocks in
    let behind = 253 ∷ (to_le_bytes w16 o ++ rest) in
    let read = heads_read 24 heads behind blocks spelled (omega (arith, length-append (to_le_bytes w16 o) rest)) (λ k. and_right (ltb owed (length behind)) (begins_block behind) refl) in
    let origin = item_some_again 253 w16 (2 ^ 16) wide16 (24 + length heads) owed o rest fits (omega arith) in
    rw (read, origin) refl

reach_top : (blocks : List BlockHead) (origin : Option ℕ) (t : ℕ) (heads rest : List ℕ) → SpellsHeads None blocks heads → IfSome origin (λ n. n < 2 ^ 16) → t < 2 ^ 32 → sum_by payload_len blocks < length rest
    → after_top blocks origin (Some t) (standing_at (24 + length heads + length (item_text 253 w16 origin) + 5) (sum_by payload_len blocks) rest) ≡ headers_of (standing_at 24 0 (heads ++ (item_text 253 w16 origin ++ (252 ∷ (to_le_bytes w32 t ++ rest)))))
unfolding headers_of
reach_top blocks origin t heads rest spelled fits top_fits more =
    let owed = sum_by payload_len blocks in
    let behind_origin = 252 ∷ (to_le_bytes w32 t ++ rest) in
    let behind = item_text 253 w16 origin ++ behind_origin in
    let few : owed ≤ length behind_origin = omega (arith, length-append (to_le_bytes w32 t) rest) in
    let read = heads_read 24 heads behind blocks spelled (omega (arith, length-append (item_text 253 w16 origin) behind_origin)) (λ k. item_stops begins_block 253 w16 k owed origin behind_origin (λ xs. refl) (and_right (ltb owed (length behind_origin)) (begins_block behind_origin) refl)) in
    let first = optional_again 253 w16 (2 ^ 16) wide16 (24 + length heads) owed origin behind_origin fits few (and_right (ltb owed (length behind_origin)) (begins_with 253 behind_origin) refl) in
    let top = item_some_again 252 w32 (2 ^ 32) wide32 (24 + length heads + length (item_text 253 w16 origin)) owed t rest top_fits (omega arith) in
    rw (read, first, top) refl

reach : (blocks : List BlockHead) (origin top : Option ℕ) (heads rest : List ℕ) → SpellsHeads None blocks heads → IfSome origin (λ n. n < 2 ^ 16) → IfSome top (λ n. n < 2 ^ 32) → sum_by payload_len blocks < length rest
    → (let text = heads ++ item_text 253 w16 origin ++ item_text 252 w32 top in Resumes blocks origin top (standing_at (24 + length text) (sum_by payload_len blocks) rest) (headers_of (standing_at 24 0 (text ++ rest))))
reach blocks None None heads rest spelled fits top_fits more =
    let same : heads ≡ heads ++ [] ++ [] = sym (append-nil (heads ++ []) ∙ append-nil heads) in
    subst (λ (l : List ℕ). Resumes blocks None None (standing_at (24 + length l) (sum_by payload_len blocks) rest) (headers_of (standing_at 24 0 (l ++ rest)))) same (reach_blocks blocks heads rest spelled more)
reach blocks (Some o) None heads rest spelled fits top_fits more =
    let item = 253 ∷ to_le_bytes w16 o in
    let text = heads ++ item ++ [] in
    let len : 24 + length text ≡ 24 + length heads + 3 = omega (arith, length-append (heads ++ item) [], length-append heads item) in
    let bytes : heads ++ (item ++ rest) ≡ text ++ rest = sym (append_assoc heads item rest) ∙ ap (λ (l : List ℕ). l ++ rest) (sym (append-nil (heads ++ item))) in
    ap (λ (k : ℕ). after_origin blocks (Some o) (standing_at k (sum_by payload_len blocks) rest)) len ∙ reach_origin blocks o heads rest spelled fits more ∙ ap (λ (l : List ℕ). headers_of (standing_at 24 0 l)) bytes
reach blocks origin (Some t) heads rest spelled fits top_fits more =
    let item = 252 ∷ to_le_bytes w32 t in
    let first = item_text 253 w16 origin in
    let text = heads ++ first ++ item in
    let len : 24 + length text ≡ 24 + length heads + length first + 5 = omega (arith, length-append (heads ++ first) item, length-append heads first) in
    let bytes : heads ++ (first ++ (item ++ rest)) ≡ text ++ rest = sym (append_assoc (heads ++ first) item rest ∙ append_assoc heads first (item ++ rest)) in
    ap (λ (k : ℕ). after_top blocks origin (Some t) (standing_at k (sum_by payload_len blocks) rest)) len ∙ reach_top blocks origin t heads rest spelled fits top_fits more ∙ ap (λ (l : List ℕ). headers_of (standing_at 24 0 l)) bytes

-- the reading of these bytes' headers
abbrev pub reads_headers : List ℕ → Result HeadersRead RecErr
reads_headers bytes = headers_of (standing_at 24 0 (drop 24 bytes))

pub reaches_resumes : (bytes : List ℕ) (items : Items) (s : HeaderCursor) → ReachesItem bytes items s → Resumes items.blocks items.origin items.top_xid s (reads_headers bytes)
reaches_resumes bytes items s r =
    let spelled = r.spelled in
    let text = spelled.heads ++ item_text 253 w16 items.origin ++ item_text 252 w32 items.top_xid in
    let owed = sum_by payload_len items.blocks in
    let resumes = reach items.blocks items.origin items.top_xid spelled.heads s.rest spelled.heads_spelled spelled.origin spelled.top_xid (omega (arith, r.more, r.owed_is)) in
    let at : 24 + length text ≡ s.at = ap (λ (l : List ℕ). 24 + length l) (sym spelled.spelled) ∙ sym r.at_is in
    let place : standing_at (24 + length text) owed s.rest ≡ s = ap (λ (k : ℕ). standing_at k owed s.rest) at ∙ ap (λ (k : ℕ). standing_at s.at k s.rest) (sym r.owed_is) in
    let bytes_are : text ++ s.rest ≡ drop 24 bytes = ap (λ (l : List ℕ). l ++ s.rest) (sym spelled.spelled) ∙ sym r.rest_is in
    subst (λ (p : HeaderCursor). Resumes items.blocks items.origin items.top_xid p (reads_headers bytes)) place (subst (λ (l : List ℕ). Resumes items.blocks items.origin items.top_xid (standing_at (24 + length text) owed s.rest) (headers_of (standing_at 24 0 l))) bytes_are resumes)

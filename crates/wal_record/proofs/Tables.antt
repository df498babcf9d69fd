-- A block's header is read by the table of its checks.
use Rattle.std.proofs.Common.{◌≡◌, ℕ, Bool, true, false, cond, ltb, [], ◌∷◌, ◌++◌, get_or, Option, Some, None, Result, Ok, Err, refl, sym, ap, ◌∙◌, ◌+◌, append_assoc}
use Rattle.wal_types.specs.declared.record.Rel.{Rel}
use Rattle.wal_record.specs.declared.fault.RecErr.{RecErr}
use Rattle.wal_record.specs.declared.fault.RecErr.TheVariants.{Malformed}
use Rattle.wal_record.specs.declared.fault.RecKind.TheVariants as kinds
use Rattle.wal_record.specs.declared.head.BlockHead.{BlockHead}
use Rattle.wal_record.specs.declared.head.ForkFlags.{ForkFlags}
use Rattle.wal_record.specs.declared.head.ImageHead.{ImageHead}
use Rattle.std.specs.Int.{w16, w32}
use Rattle.wal_spelling.specs.Numbers.{number_at}
use Rattle.wal_record.specs.Reading.{◌>>=◌, ItemRead, Checks, HeaderCursor, block_item, checked, fork_checks, fork_flags, fork_item, image_checks, image_head_of, image_item, cut_row, least_id, number_item, payload_len, relation_item, skip}
use Rattle.wal_spelling.specs.Checks.{first_fault}
use Rattle.wal_record.proofs.ItemTables.{block_checks, relation_checks}

-- ---- a table, and its first failing check

told_row : {A : Type 0} (b : Bool) (d e : RecErr) (rest : Option RecErr) (more : Result A RecErr) → (rest ≡ Some e → more ≡ Err e) → cond b (Some d) rest ≡ Some e → cond b (Err d) more ≡ Err e
told_row true d e rest more on h = let same : d ≡ e = cc in ap (λ (k : RecErr). Err k) same
told_row false d e rest more on h = on h

pub failing_told : {A : Type 0} (rows : Checks) (x : A) (e : RecErr) → first_fault rows ≡ Some e → checked rows x ≡ Err e
failing_told [] x e h = absurd cc
failing_told (row ∷ rows) x e h = told_row row.0 row.1 e (first_fault rows) (checked rows x) (λ k. failing_told rows x e k) h

failing_row : {A : Type 0} (b : Bool) (d e : RecErr) (rest : Option RecErr) (more : Result A RecErr) → (more ≡ Err e → rest ≡ Some e) → cond b (Err d) more ≡ Err e → cond b (Some d) rest ≡ Some e
failing_row true d e rest more on h = let same : d ≡ e = cc in ap (λ (k : RecErr). Some k) same
failing_row false d e rest more on h = on h

pub told_failing : {A : Type 0} (rows : Checks) (x : A) (e : RecErr) → checked rows x ≡ Err e → first_fault rows ≡ Some e
told_failing [] x e h = absurd cc
told_failing (row ∷ rows) x e h = failing_row row.0 row.1 e (first_fault rows) (checked rows x) (λ k. told_failing rows x e k) h

passing_row : {A : Type 0} (b : Bool) (d : RecErr) (y : A) (rest : Option RecErr) (more : Result A RecErr) → (more ≡ Ok y → rest ≡ None) → cond b (Err d) more ≡ Ok y → cond b (Some d) rest ≡ None
passing_row true d y rest more on h = absurd cc
passing_row false d y rest more on h = on h

pub read_passes : {A : Type 0} (rows : Checks) (x y : A) → checked rows x ≡ Ok y → first_fault rows ≡ None
read_passes [] x y h = refl
read_passes (row ∷ rows) x y h = passing_row row.0 row.1 y (first_fault rows) (checked rows x) (λ k. read_passes rows x y k) h

then_row : {A B : Type 0} (b : Bool) (d : RecErr) (r : Result A RecErr) (more : Result B RecErr) (f : A → Result B RecErr) → (r >>= f) ≡ more → (cond b (Err d) r >>= f) ≡ cond b (Err d) more
then_row true d r more f e = refl
then_row false d r more f e = e

-- one table after the other
then_checked : {A B : Type 0} (rows more : Checks) (x : A) (y : B) (f : A → Result B RecErr) → f x ≡ checked more y → (checked rows x >>= f) ≡ checked (rows ++ more) y
then_checked [] more x y f e = e
then_checked (row ∷ rows) more x y f e = then_row row.0 row.1 (checked rows x) (checked (rows ++ more) y) f (then_checked rows more x y f e)

-- ---- a block's header

-- a group's table and what it reads
pub record IsTable {A : Type 0} (reading : Result (ItemRead A) RecErr) (rows : Checks) (next : HeaderCursor) : Type 0 where
  pub value : A
  pub same : reading ≡ checked rows (record { value = value; next = next })

fork_table : (s : HeaderCursor) → fork_item s ≡ checked (fork_checks s) (record { value = (fork_flags (get_or s.rest 0 0), number_at w16 s.rest 1); next = skip 3 s })
unfolding fork_item
fork_table s = refl

image_table : (has : Bool) (id : ℕ) (s : HeaderCursor) → IsTable (image_item has id s) (cond has (image_checks id s) []) (cond has (skip 5 s) s)
unfolding image_item
image_table true id s = record { value = Some (image_head_of (number_at w16 s.rest 0) (number_at w16 s.rest 2) (get_or s.rest 4 0)); same = refl }
image_table false id s = record { value = None; same = refl }

relation_table : (same : Bool) (before : Option BlockHead) (s : HeaderCursor) → IsTable (relation_item same before s) (relation_checks same before s) (cond same s (skip 12 s))
unfolding relation_item
relation_table true None s = record { value = record { spc = 0; db = 0; rel = 0 }; same = refl }
relation_table true (Some b) s = record { value = b.rel; same = refl }
relation_table false before s = record { value = record { spc = number_at w32 s.rest 0; db = number_at w32 s.rest 4; rel = number_at w32 s.rest 8 }; same = refl }

number_table : (s : HeaderCursor) → number_item s ≡ checked (cut_row 4 s ∷ []) (record { value = number_at w32 s.rest 0; next = skip 4 s })
unfolding number_item
number_table s = refl

pub record BlockTable (before : Option BlockHead) (s : HeaderCursor) : Type 0 where
  pub value : ItemRead BlockHead
  pub same : block_item before s ≡ checked (block_checks before s) value

-- the last two groups
numbered : (before : Option BlockHead) (same : Bool) (s : HeaderCursor) (make : Rel → ℕ → HeaderCursor → ItemRead BlockHead)
    → (v : ItemRead BlockHead) × ((relation_item same before s >>= λ rel. number_item rel.next >>= λ blk. Ok (make rel.value blk.value blk.next)) ≡ checked (relation_checks same before s ++ cut_row 4 (cond same s (skip 12 s)) ∷ []) v)
numbered before same s make =
    let relation = relation_table same before s in
    let place = cond same s (skip 12 s) in
    let blk = number_at w32 place.rest 0 in
    let value = make relation.value blk (skip 4 place) in
    let last : (number_item place >>= λ (blk : ItemRead ℕ). Ok (make relation.value blk.value blk.next)) ≡ checked (cut_row 4 place ∷ []) value = ap (λ (r : Result (ItemRead ℕ) RecErr). r >>= λ (blk : ItemRead ℕ). Ok (make relation.value blk.value blk.next)) (number_table place) ∙ then_checked (cut_row 4 place ∷ []) [] _ value (λ (blk : ItemRead ℕ). Ok (make relation.value blk.value blk.next)) refl in
    (value, ap (λ (r : Result (ItemRead Rel) RecErr). r >>= λ (rel : ItemRead Rel). number_item rel.next >>= λ (blk : ItemRead ℕ). Ok (make rel.value blk.value blk.next)) relation.same ∙ then_checked (relation_checks same before s) (cut_row 4 place ∷ []) _ value (λ (rel : ItemRead Rel). number_item rel.next >>= λ (blk : ItemRead ℕ). Ok (make rel.value blk.value blk.next)) last)

pub block_table : (before : Option BlockHead) (s : HeaderCursor) → BlockTable before s
unfolding block_item
block_table before s =
    let id = get_or s.rest 0 0 in
    let flags = fork_flags (get_or (skip 1 s).rest 0 0) in
    let content = number_at w16 (skip 1 s).rest 1 in
    let image_place = skip 3 (skip 1 s) in
    let image = image_table flags.has_image id image_place in
    let relation_place = cond flags.has_image (skip 5 image_place) image_place in
    let number_place = cond flags.same relation_place (skip 12 relation_place) in
    let head : ForkFlags → ℕ → Option ImageHead → Rel → ℕ → BlockHead = λ f len image rel blk. record { id = id; rel = rel; fork = f.fork; blk = blk; will_init = f.will_init; image = image; content_len = len } in
    let make : ForkFlags → ℕ → Option ImageHead → Rel → ℕ → HeaderCursor → ItemRead BlockHead = λ f len image rel blk next. record { value = head f len image rel blk; next = record { at = next.at; rest = next.rest; owed = s.owed + payload_len (head f len image rel blk) } } in
    let behind_image : ItemRead (ForkFlags × ℕ) → ItemRead (Option ImageHead) → Result (ItemRead BlockHead) RecErr = λ fork image. relation_item fork.value.0.same before image.next >>= λ (rel : ItemRead Rel). number_item rel.next >>= λ (blk : ItemRead ℕ). Ok (make fork.value.0 fork.value.1 image.value rel.value blk.value blk.next) in
    let behind_fork : ItemRead (ForkFlags × ℕ) → Result (ItemRead BlockHead) RecErr = λ fork. image_item fork.value.0.has_image id fork.next >>= behind_image fork in
    let fork : ItemRead (ForkFlags × ℕ) = record { value = (flags, content); next = image_place } in
    let last = numbered before flags.same relation_place (make flags content image.value) in
    let last_rows = relation_checks flags.same before relation_place ++ cut_row 4 number_place ∷ [] in
    let image_rows = cond flags.has_image (image_checks id image_place) [] in
    let from_image : behind_fork fork ≡ checked (image_rows ++ last_rows) last.0 = ap (λ (r : Result (ItemRead (Option ImageHead)) RecErr). r >>= behind_image fork) image.same ∙ then_checked image_rows last_rows _ last.0 (behind_image fork) last.1 in
    let from_fork : (fork_item (skip 1 s) >>= behind_fork) ≡ checked (fork_checks (skip 1 s) ++ (image_rows ++ last_rows)) last.0 = ap (λ (r : Result (ItemRead (ForkFlags × ℕ)) RecErr). r >>= behind_fork) (fork_table (skip 1 s)) ∙ then_checked (fork_checks (skip 1 s)) (image_rows ++ last_rows) fork last.0 behind_fork from_image in
    let rows_are : (fork_checks (skip 1 s) ++ (image_rows ++ last_rows)) ≡ fork_checks (skip 1 s) ++ image_rows ++ relation_checks flags.same before relation_place ++ cut_row 4 number_place ∷ [] = grouped (fork_checks (skip 1 s)) image_rows (relation_checks flags.same before relation_place) (cut_row 4 number_place ∷ []) in
    record {
      value = last.0;
      same = ap (cond (ltb id (least_id before)) (Err (Malformed s.at kinds.Order))) (from_fork ∙ ap (λ (rows : Checks). checked rows last.0) rows_are);
    }
  where
    grouped : (a b c d : Checks) → a ++ (b ++ (c ++ d)) ≡ a ++ b ++ c ++ d
    grouped a b c d = sym (append_assoc (a ++ b) c d ∙ append_assoc a b (c ++ d))

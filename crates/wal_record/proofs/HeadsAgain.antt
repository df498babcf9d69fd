-- What spells a block's header is read as it.
use Rattle.std.proofs.Common.{◌≡◌, ℕ, ◌+◌, ◌-◌, ◌/◌, ◌%◌, ◌^◌, ◌<◌, ◌≤◌, Bool, true, false, cond, eqb, ltb, leb, ◌||◌, List, [], ◌∷◌, ◌++◌, length, take, drop, Option, Some, None, Result, Ok, Err, refl, sym, ap, ◌∙◌, append_assoc, arith, inl, inr}
use Rattle.std.specs.Bool.{MatchBool, OnTrue}
use Rattle.std.specs.Prelude.{IfSome}
use Rattle.std.specs.Int.{Width, w16, w32, byte_len, from_le_bytes, to_le_bytes}
use Rattle.std.proofs.lemmas.Bool.{cases_Bool, eq-eqb, ne_eqb, ltb-true, ltb-false, lt-leb, le-ltb, or_from, MatchBool-at_true, MatchBool-at_false}
use Rattle.std.proofs.lemmas.List.{take_at, length-append}
use Rattle.wal_types.specs.declared.record.Rel.{Rel}
use Rattle.wal_record.specs.declared.fault.RecErr.{RecErr}
use Rattle.wal_record.specs.declared.head.BlockHead.{BlockHead}
use Rattle.wal_record.specs.declared.head.ForkFlags.{ForkFlags}
use Rattle.wal_record.specs.declared.head.ImageHead.{ImageHead}
use Rattle.wal_spelling.specs.Spelling.{flag, relation_bytes}
use Rattle.wal_spelling.specs.Numbers.{number_at}
use Rattle.wal_record.specs.Reading.{ItemRead, HeaderCursor, fork_flags, fork_item, image_head_of, image_item, is_wrong_hole, relation_item, number_item, block_item, least_id, payload_len}
use Rattle.wal_record.specs.Items.{image_flag, image_head_text, head_text, IsPageImage, HasRelation, StandsBehind}
use Rattle.wal_spelling.proofs.Bytes.{IsWide, wide16, wide32}
use Rattle.wal_record.proofs.Flags.{fork_byte, fork_byte-again, info-again}

-- a number that stands at the front of what is behind `at` bytes
pub number_again : (w : Width) (limit : ℕ) → IsWide w limit → (bytes rest : List ℕ) (at n : ℕ) → n < limit → drop at bytes ≡ to_le_bytes w n ++ rest → number_at w bytes at ≡ n
number_again w limit wide bytes rest at n lt e = ap (λ (l : List ℕ). from_le_bytes w (take (byte_len w) l)) e ∙ ap (from_le_bytes w) (take_at (to_le_bytes w n) rest (byte_len w) (wide.len n)) ∙ wide.again n lt

-- a reader behind a text
abbrev pub behind : ℕ → ℕ → List ℕ → List ℕ → HeaderCursor
behind at owed text rest = record { at = at + length text; rest = rest; owed = owed }

abbrev pub standing_at : ℕ → ℕ → List ℕ → HeaderCursor
standing_at at owed rest = record { at = at; rest = rest; owed = owed }

-- ---- tests that passed

passed : {A : Type 0} (a : Bool) (d : RecErr) (x : Result A RecErr) → a ≡ false → cond a (Err d) x ≡ x
passed a d x p = rw p refl

passed3 : {A : Type 0} (a b c : Bool) (d e f : RecErr) (x : Result A RecErr) → a ≡ false → b ≡ false → c ≡ false → cond a (Err d) (cond b (Err e) (cond c (Err f) x)) ≡ x
passed3 a b c d e f x p q r = rw (p, q, r) refl

passed4 : {A : Type 0} (a b c k : Bool) (d e f g : RecErr) (x : Result A RecErr) → a ≡ false → b ≡ false → c ≡ false → k ≡ false → cond a (Err d) (cond b (Err e) (cond c (Err f) (cond k (Err g) x))) ≡ x
passed4 a b c k d e f g x p q r s = rw (p, q, r, s) refl

-- ---- the fork byte and the data's length

abbrev fork_read : ℕ → ℕ → List ℕ → ForkFlags → ℕ → Result (ItemRead (ForkFlags × ℕ)) RecErr
fork_read at owed rest f len = Ok (record { value = (f, len); next = record { at = at + 3; rest = rest; owed = owed } })

agrees : (has : Bool) (len : ℕ) → has ≡ ltb 0 len → cond has (eqb len 0) (ltb 0 len) ≡ false
agrees true len e = ne_eqb len 0 (λ z. absurd (omega (arith, ltb-true 0 len (sym e))))
agrees false len e = sym e

pub fork_again : (at owed len : ℕ) (f : ForkFlags) (rest : List ℕ) → f.fork ≤ 3 → f.has_data ≡ ltb 0 len → len < 2 ^ 16
    → fork_item (standing_at at owed (fork_byte f ∷ (to_le_bytes w16 len ++ rest))) ≡ Ok (record { value = (f, len); next = record { at = at + 3; rest = rest; owed = owed } })
unfolding fork_item
fork_again at owed len f rest fork has lt =
    let bytes = fork_byte f ∷ (to_le_bytes w16 len ++ rest) in
    let flags : fork_flags (fork_byte f) ≡ f = fork_byte-again f (omega arith) in
    let long : ltb (length bytes) 3 ≡ false = le-ltb _ _ (omega (arith, length-append (to_le_bytes w16 len) rest)) in
    let number : number_at w16 bytes 1 ≡ len = number_again w16 (2 ^ 16) wide16 bytes rest 1 len lt refl in
    let a : ltb 3 (fork_flags (fork_byte f)).fork ≡ false = ap (λ (g : ForkFlags). ltb 3 g.fork) flags ∙ le-ltb _ _ fork in
    let b : cond (fork_flags (fork_byte f)).has_data (eqb (number_at w16 bytes 1) 0) (ltb 0 (number_at w16 bytes 1)) ≡ false = ap (λ (g : ForkFlags). cond g.has_data (eqb (number_at w16 bytes 1) 0) (ltb 0 (number_at w16 bytes 1))) flags ∙ ap (λ (n : ℕ). cond f.has_data (eqb n 0) (ltb 0 n)) number ∙ agrees f.has_data len has in
    passed3 _ _ _ _ _ _ (fork_read at owed rest (fork_flags (fork_byte f)) (number_at w16 bytes 1)) long a b ∙ ap (λ (g : ForkFlags). fork_read at owed rest g (number_at w16 bytes 1)) flags ∙ ap (fork_read at owed rest f) number

-- ---- an image's header

hole_again : (len hole offset : ℕ) → len + hole ≡ 8192 → MatchBool (ltb 0 hole) ((0 < offset) × (offset + hole ≤ 8192)) (offset ≡ 0) → is_wrong_hole len offset (ltb 0 hole) ≡ false
hole_again len hole offset page right =
    elim (cases_Bool (ltb 0 hole)) [
      | inl t ↦
          let some = ltb-true _ _ t in
          let p = MatchBool-at_true _ _ t right in
          let a : eqb offset 0 ≡ false = ne_eqb _ _ (λ e. absurd (omega (arith, p.0))) in
          let b : eqb len 8192 ≡ false = ne_eqb _ _ (λ e. absurd (omega arith)) in
          let c : ltb 8192 (offset + (8192 - len)) ≡ false = le-ltb _ _ (omega (arith, p.1)) in
          rw (t, a, b, c) refl
      | inr t ↦
          let none = ltb-false _ _ t in
          let p : offset ≡ 0 = MatchBool-at_false _ _ t right in
          let a : eqb offset 0 ≡ true = eq-eqb _ _ p in
          let b : eqb len 8192 ≡ true = eq-eqb _ _ (omega arith) in
          rw (t, a, b) refl
    ]

abbrev image_read : ℕ → ℕ → List ℕ → ImageHead → Result (ItemRead (Option ImageHead)) RecErr
image_read at owed rest i = Ok (record { value = Some i; next = record { at = at + 5; rest = rest; owed = owed } })

same_image : (i : ImageHead) (len offset info : ℕ) → len ≡ i.len → offset ≡ i.hole_offset → eqb (info / 2 % 2) 1 ≡ i.apply → 8192 - len ≡ i.hole_len → image_head_of len offset info ≡ i
same_image i len offset info a b c d = rw (d, a, b, c) refl

-- the hole begins within the page
pub offset_below : (i : ImageHead) → IsPageImage i → i.hole_offset < 2 ^ 16
offset_below i right =
    elim (cases_Bool (ltb 0 i.hole_len)) [
      | inl t ↦ omega (arith, MatchBool-at_true _ _ t right.hole)
      | inr t ↦ omega (arith, MatchBool-at_false _ _ t right.hole)
    ]

image_some_again : (at owed id : ℕ) (i : ImageHead) (rest : List ℕ) → IsPageImage i → image_item true id (standing_at at owed (image_head_text (Some i) ++ rest)) ≡ Ok (record { value = Some i; next = record { at = at + 5; rest = rest; owed = owed } })
unfolding image_item
image_some_again at owed id i rest right =
    let info = flag (ltb 0 i.hole_len) 1 + flag i.apply 2 in
    let bytes = image_head_text (Some i) ++ rest in
    let p = info-again (ltb 0 i.hole_len) i.apply in
    let few : i.len ≤ 8192 = omega (arith, right.page) in
    let offset_fits = offset_below i right in
    let long : ltb (length bytes) 5 ≡ false = le-ltb _ _ (omega (arith, length-append (image_head_text (Some i)) rest)) in
    let len : number_at w16 bytes 0 ≡ i.len = number_again w16 (2 ^ 16) wide16 bytes (to_le_bytes w16 i.hole_offset ++ (info ∷ rest)) 0 i.len (omega arith) refl in
    let offset : number_at w16 bytes 2 ≡ i.hole_offset = number_again w16 (2 ^ 16) wide16 bytes (info ∷ rest) 2 i.hole_offset offset_fits refl in
    let low : (ltb 8192 (number_at w16 bytes 0) || leb 32 info) ≡ false = ap (λ (n : ℕ). ltb 8192 n || leb 32 info) len ∙ or_from _ _ (le-ltb _ _ few) (lt-leb _ _ (omega (arith, p.below))) in
    let plain : ltb 0 (info / 4 % 8) ≡ false = le-ltb _ _ (omega (arith, p.below)) in
    let hole : is_wrong_hole (number_at w16 bytes 0) (number_at w16 bytes 2) (eqb (info % 2) 1) ≡ false = ap (λ (n : ℕ). is_wrong_hole n (number_at w16 bytes 2) (eqb (info % 2) 1)) len ∙ ap (λ (n : ℕ). is_wrong_hole i.len n (eqb (info % 2) 1)) offset ∙ ap (is_wrong_hole i.len i.hole_offset) p.hole_is ∙ hole_again i.len i.hole_len i.hole_offset right.page right.hole in
    let same : image_head_of (number_at w16 bytes 0) (number_at w16 bytes 2) info ≡ i = same_image i (number_at w16 bytes 0) (number_at w16 bytes 2) info len offset p.apply_is (omega (arith, len, right.page)) in
    passed4 _ _ _ _ _ _ _ _ (image_read at owed rest (image_head_of (number_at w16 bytes 0) (number_at w16 bytes 2) info)) long low plain hole ∙ ap (image_read at owed rest) same

image_len_text : Option ImageHead → ℕ
image_len_text None = 0
image_len_text (Some i) = 5

image_none_again : (at owed id : ℕ) (rest : List ℕ) → image_item false id (standing_at at owed rest) ≡ Ok (record { value = None; next = standing_at at owed rest })
unfolding image_item
image_none_again at owed id rest = refl

abbrev has_image_head : Option ImageHead → Bool
has_image_head None = false
has_image_head (Some i) = true

pub image_again : (at owed id : ℕ) (image : Option ImageHead) (rest : List ℕ) → IfSome image IsPageImage → image_item (has_image_head image) id (standing_at at owed (image_head_text image ++ rest)) ≡ Ok (record { value = image; next = behind at owed (image_head_text image) rest })
image_again at owed id None rest right = image_none_again at owed id rest ∙ ap (λ (n : ℕ). Ok (record { value = None; next = record { at = n; rest = rest; owed = owed } })) (omega arith)
image_again at owed id (Some i) rest right = image_some_again at owed id i rest right

-- ---- the relation

relation_kept_again : (at owed : ℕ) (before : Option BlockHead) (rel : Rel) (rest : List ℕ) → HasRelation before rel → relation_item true before (standing_at at owed rest) ≡ Ok (record { value = rel; next = standing_at at owed rest })
unfolding relation_item
relation_kept_again at owed None rel rest has = absurd has
relation_kept_again at owed (Some b) rel rest has = ap (λ (r : Rel). Ok (record { value = r; next = standing_at at owed rest })) has

abbrev relation_read : ℕ → ℕ → List ℕ → Rel → Result (ItemRead Rel) RecErr
relation_read at owed rest rel = Ok (record { value = rel; next = record { at = at + 12; rest = rest; owed = owed } })

relation_spelled_again : (at owed : ℕ) (before : Option BlockHead) (rel : Rel) (rest : List ℕ) → rel.spc < 2 ^ 32 → rel.db < 2 ^ 32 → rel.rel < 2 ^ 32 → relation_item false before (standing_at at owed (relation_bytes rel ++ rest)) ≡ relation_read at owed rest rel
unfolding relation_item
relation_spelled_again at owed before rel rest a b c =
    let bytes = relation_bytes rel ++ rest in
    let long : ltb (length bytes) 12 ≡ false = le-ltb _ _ (omega (arith, length-append (relation_bytes rel) rest)) in
    let spc : number_at w32 bytes 0 ≡ rel.spc = number_again w32 (2 ^ 32) wide32 bytes (to_le_bytes w32 rel.db ++ (to_le_bytes w32 rel.rel ++ rest)) 0 rel.spc a refl in
    let db : number_at w32 bytes 4 ≡ rel.db = number_again w32 (2 ^ 32) wide32 bytes (to_le_bytes w32 rel.rel ++ rest) 4 rel.db b refl in
    let number : number_at w32 bytes 8 ≡ rel.rel = number_again w32 (2 ^ 32) wide32 bytes rest 8 rel.rel c refl in
    passed _ _ (relation_read at owed rest (record { spc = number_at w32 bytes 0; db = number_at w32 bytes 4; rel = number_at w32 bytes 8 })) long ∙ ap (λ (n : ℕ). relation_read at owed rest (record { spc = n; db = number_at w32 bytes 4; rel = number_at w32 bytes 8 })) spc
    ∙ ap (λ (n : ℕ). relation_read at owed rest (record { spc = rel.spc; db = n; rel = number_at w32 bytes 8 })) db ∙ ap (λ (n : ℕ). relation_read at owed rest (record { spc = rel.spc; db = rel.db; rel = n })) number

pub relation_again : (at owed : ℕ) (same : Bool) (before : Option BlockHead) (rel : Rel) (rest : List ℕ) → rel.spc < 2 ^ 32 → rel.db < 2 ^ 32 → rel.rel < 2 ^ 32 → OnTrue same (HasRelation before rel)
    → relation_item same before (standing_at at owed (cond same [] (relation_bytes rel) ++ rest)) ≡ Ok (record { value = rel; next = behind at owed (cond same [] (relation_bytes rel)) rest })
relation_again at owed true before rel rest a b c has = relation_kept_again at owed before rel rest has ∙ ap (λ (n : ℕ). Ok (record { value = rel; next = record { at = n; rest = rest; owed = owed } })) (omega arith)
relation_again at owed false before rel rest a b c has = relation_spelled_again at owed before rel rest a b c

-- ---- the block's number

abbrev number_read : ℕ → ℕ → List ℕ → ℕ → Result (ItemRead ℕ) RecErr
number_read at owed rest n = Ok (record { value = n; next = record { at = at + 4; rest = rest; owed = owed } })

pub block_number_again : (at owed n : ℕ) (rest : List ℕ) → n < 2 ^ 32 → number_item (standing_at at owed (to_le_bytes w32 n ++ rest)) ≡ number_read at owed rest n
unfolding number_item
block_number_again at owed n rest lt =
    let bytes = to_le_bytes w32 n ++ rest in
    let long : ltb (length bytes) 4 ≡ false = le-ltb _ _ (omega (arith, length-append (to_le_bytes w32 n) rest)) in
    passed _ _ (number_read at owed rest (number_at w32 bytes 0)) long ∙ ap (number_read at owed rest) (number_again w32 (2 ^ 32) wide32 bytes rest 0 n lt refl)

-- ---- a block's header

abbrev block_read : ℕ → ℕ → List ℕ → BlockHead → Result (ItemRead BlockHead) RecErr
block_read at owed rest h = Ok (record { value = h; next = record { at = at; rest = rest; owed = owed + payload_len h } })

flags_of : Bool → BlockHead → ForkFlags
flags_of same h = record { fork = h.fork; has_image = has_image_head h.image; has_data = ltb 0 h.content_len; will_init = h.will_init; same = same }

image_flag-is : (image : Option ImageHead) → flag (has_image_head image) 16 ≡ image_flag image
image_flag-is None = refl
image_flag-is (Some i) = refl

-- the parts of a block's header, grouped to the right
head_parts : (same : Bool) (h : BlockHead) (rest : List ℕ) → head_text same h ++ rest ≡ h.id ∷ (fork_byte (flags_of same h) ∷ (to_le_bytes w16 h.content_len ++ (image_head_text h.image ++ (cond same [] (relation_bytes h.rel) ++ (to_le_bytes w32 h.blk ++ rest)))))
unfolding flags_of
head_parts same h rest =
    let tail : ℕ → List ℕ = λ n. h.id ∷ (n ∷ (to_le_bytes w16 h.content_len ++ (image_head_text h.image ++ (cond same [] (relation_bytes h.rel) ++ (to_le_bytes w32 h.blk ++ rest))))) in
    let byte : ℕ → ℕ = λ n. h.fork + n + flag (ltb 0 h.content_len) 32 + flag h.will_init 64 + flag same 128 in
    regrouped (h.id ∷ byte (image_flag h.image) ∷ []) (to_le_bytes w16 h.content_len) (image_head_text h.image) (cond same [] (relation_bytes h.rel)) (to_le_bytes w32 h.blk) rest
    ∙ ap (λ (n : ℕ). tail (byte n)) (sym (image_flag-is h.image))
  where
    regrouped : (a b c d e f : List ℕ) → a ++ b ++ c ++ d ++ e ++ f ≡ a ++ (b ++ (c ++ (d ++ (e ++ f))))
    regrouped a b c d e f = simp append_assoc

head_length : (same : Bool) (h : BlockHead) → length (head_text same h) ≡ 4 + length (image_head_text h.image) + length (cond same [] (relation_bytes h.rel)) + 4
head_length same h =
    let front = h.id ∷ (h.fork + image_flag h.image + flag (ltb 0 h.content_len) 32 + flag h.will_init 64 + flag same 128) ∷ to_le_bytes w16 h.content_len in
    omega (arith, length-append (front ++ image_head_text h.image ++ cond same [] (relation_bytes h.rel)) (to_le_bytes w32 h.blk), length-append (front ++ image_head_text h.image) (cond same [] (relation_bytes h.rel)), length-append front (image_head_text h.image))

pub head_some : (same : Bool) (h : BlockHead) → 0 < length (head_text same h)
head_some same h = omega (arith, head_length same h)

block_parts_again : (at owed : ℕ) (before : Option BlockHead) (same : Bool) (h : BlockHead) (rest : List ℕ) → StandsBehind before same h
    → block_item before (standing_at at owed (h.id ∷ (fork_byte (flags_of same h) ∷ (to_le_bytes w16 h.content_len ++ (image_head_text h.image ++ (cond same [] (relation_bytes h.rel) ++ (to_le_bytes w32 h.blk ++ rest)))))))
    ≡ block_read (at + 1 + 3 + length (image_head_text h.image) + length (cond same [] (relation_bytes h.rel)) + 4) owed rest h
unfolding block_item flags_of
block_parts_again at owed before same h rest stands =
    let t4 = to_le_bytes w32 h.blk ++ rest in
    let t3 = cond same [] (relation_bytes h.rel) ++ t4 in
    let t2 = image_head_text h.image ++ t3 in
    let at3 = at + 1 + 3 + length (image_head_text h.image) in
    let above : ltb h.id (least_id before) ≡ false = le-ltb _ _ stands.above in
    let fork = fork_again (at + 1) owed h.content_len (flags_of same h) t2 stands.fork refl stands.content in
    let image = image_again (at + 1 + 3) owed h.id h.image t3 stands.image in
    let relation = relation_again at3 owed same before h.rel t4 stands.tablespace stands.database stands.relation stands.relation_before in
    let number = block_number_again (at3 + length (cond same [] (relation_bytes h.rel))) owed h.blk rest stands.number in
    rw (above, fork, image, relation, number) refl

pub block_again : (at owed : ℕ) (before : Option BlockHead) (same : Bool) (h : BlockHead) (rest : List ℕ) → StandsBehind before same h → block_item before (standing_at at owed (head_text same h ++ rest)) ≡ block_read (at + length (head_text same h)) owed rest h
block_again at owed before same h rest stands =
    ap (λ (l : List ℕ). block_item before (standing_at at owed l)) (head_parts same h rest) ∙ block_parts_again at owed before same h rest stands ∙ ap (λ (n : ℕ). block_read n owed rest h) (omega (arith, head_length same h))

-- Loops over blocks: what was done, and what is left.
use Rattle.std.proofs.Common.{◌≡◌, ℕ, ◌+◌, ◌<◌, ◌≤◌, List, ◌∷◌, ◌++◌, length, get_or, take, drop, Option, Some, Result, Ok, Err, OnOk, All, sym, ap, ◌∙◌, append_assoc, arith}
use Rattle.std.specs.List.{flat_map}
use Rattle.std.proofs.lemmas.List.{drop_more, take_all, length-append}
use Rattle.std.proofs.lemmas.List.Elements.{All-more}
use Rattle.wal_types.specs.declared.record.Block.{Block}
use Rattle.wal_types.specs.declared.record.Rel.{Rel}
use Rattle.wal_spelling.specs.Spelling.{block_header, block_headers, block_payload, is_same_relation}

pub left_at : (bs : List Block) (i : ℕ) (b : Block) → i < length bs → b ≡ get_or bs i b → drop i bs ≡ b ∷ drop (i + 1) bs
left_at bs i b lt read = drop_more bs i b lt ∙ ap (λ (x : Block). x ∷ drop (i + 1) bs) (sym read)

pub holds_further : (P : Block → Type 0) (bs : List Block) (i : ℕ) (b : Block) → i < length bs → b ≡ get_or bs i b → All P (take i bs) → P b → All P (take (i + 1) bs)
holds_further P bs i b lt read before here = All-more P bs i b lt before (rw (sym read) here)

pub headers_further : (before : Option Rel) (bs : List Block) (i : ℕ) (b : Block) → i < length bs → b ≡ get_or bs i b → block_headers before (drop i bs) ≡ block_header b (is_same_relation before b.rel) ++ block_headers (Some b.rel) (drop (i + 1) bs)
headers_further before bs i b lt read = ap (block_headers before) (left_at bs i b lt read)

pub payloads_further : (bs : List Block) (i : ℕ) (b : Block) → i < length bs → b ≡ get_or bs i b → flat_map block_payload (drop i bs) ≡ block_payload b ++ flat_map block_payload (drop (i + 1) bs)
payloads_further bs i b lt read = ap (flat_map block_payload) (left_at bs i b lt read)

pub lengths_further : (before : Option Rel) (bs : List Block) (i : ℕ) (b : Block) → i < length bs → b ≡ get_or bs i b → length (block_headers before (drop i bs)) + length (flat_map block_payload (drop i bs)) ≡ length (block_header b (is_same_relation before b.rel)) + length (block_payload b) + (length (block_headers (Some b.rel) (drop (i + 1) bs)) + length (flat_map block_payload (drop (i + 1) bs)))
lengths_further before bs i b lt read =
    let headers = ap length (headers_further before bs i b lt read) in
    let payloads = ap length (payloads_further bs i b lt read) in
    omega (arith, headers, payloads, length-append (block_header b (is_same_relation before b.rel)) (block_headers (Some b.rel) (drop (i + 1) bs)), length-append (block_payload b) (flat_map block_payload (drop (i + 1) bs)))

-- what was put, with what is still to come
pub put_further : (old new piece rest whole left : List ℕ) → left ≡ piece ++ rest → new ≡ old ++ piece → old ++ left ≡ whole → new ++ rest ≡ whole
put_further old new piece rest whole left a b c = rw b (append_assoc old piece rest) ∙ ap (λ (l : List ℕ). old ++ l) (sym a) ∙ c

pub holds_all : (P : Block → Type 0) (bs : List Block) (i : ℕ) → length bs ≤ i → All P (take i bs) → All P bs
holds_all P bs i le each = rw (take_all i bs le) at each

-- what holds anyway
pub on_ok : {T E P : Type 0} (r : Result T E) → P → OnOk r P
on_ok (Ok x) p = p
on_ok (Err e) p = tt

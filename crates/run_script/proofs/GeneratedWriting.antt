-- Each record that is made can be written.
use Rattle.std.proofs.Common.{◌≡◌, ℕ, ◌+◌, ◌*◌, ◌%◌, ◌<◌, ◌≤◌, ◌^◌, cond, List, [], ◌∷◌, length, None, All, refl, arith, eqb, ltb}
use Rattle.std.specs.Prelude.{IsTrue}
use Rattle.std.specs.Int.{w32, w64, to_le_bytes}
use Rattle.std.specs.List.{flat_map}
use Rattle.std.proofs.lemmas.Bool.{cond_both}
use Rattle.std.proofs.lemmas.List.{length-append, length-replicate}
use Rattle.std.proofs.lemmas.List.Elements.{All-nil, All-cons, All-replicate, All-from_recursion}
use Rattle.wal_types.specs.declared.record.Record.{Record}
use Rattle.wal_spelling.specs.declared.fault.BodyErr.{BodyErr}
use Rattle.wal_spelling.specs.declared.fault.BodyErr.TheVariants.{Memory, TooLong, BadBlock, Switch, BadRmgr}
use Rattle.wal_spelling.specs.Refusal.{RefusesToAssemble}
use Rattle.wal_spelling.proofs.Acceptance.{not_refused}
use Rattle.wal_spelling.specs.Record.{BlockFits, are_right_blocks}
use Rattle.wal_spelling.specs.Spelling.{IsWritable, block_headers, block_payload, main_header, origin_item, size_of, top_xid_item}
use Rattle.run_script.specs.Asked.{Commit, Insert}
use Rattle.run_script.specs.Meaning.{commit_record}
use Rattle.run_script.specs.Writable.{AsksWritable}
use Rattle.run_script.specs.Generated.{generated_asked, generated_block, generated_blocks, generated_data, generated_record}

abbrev IsByte : ℕ → Type 0
IsByte b = b < 256

-- ---- commits

All-time : (time : ℕ) → All IsByte (to_le_bytes w64 time)
All-time time = All-from_recursion IsByte (to_le_bytes w64 time) (omega arith, (omega arith, (omega arith, (omega arith, (omega arith, (omega arith, (omega arith, (omega arith, tt))))))))

length-commit_record : (xid time : ℕ) → size_of (commit_record xid time) ≡ 34
length-commit_record xid time = refl

pub IsWritable-commit_record : (xid time : ℕ) → xid < 2 ^ 32 → IsWritable (commit_record xid time)
IsWritable-commit_record xid time below = record {
  well_formed = record { manager = refl; no_switch = refl; blocks = refl };
  fits = record { xid = below; manager = omega arith; info = omega arith; origin = tt; top_xid = tt; blocks = All-nil BlockFits; main = All-time time };
  size = omega (arith, length-commit_record xid time);
}

-- ---- inserts

-- the header of main data
abbrev main_head : List ℕ → List ℕ
main_head main = cond (eqb (length main) 0) [] (main_header (ltb (length main) 256) (length main))

length-main_head-le : (main : List ℕ) → length (main_head main) ≤ 5
length-main_head-le main =
    let short = 255 ∷ length main ∷ [] in
    let long = 254 ∷ to_le_bytes w32 (length main) in
    let is_few : List ℕ → Type 0 = λ bytes. length bytes ≤ 5 in
    cond_both (eqb (length main) 0) [] (cond (ltb (length main) 256) short long) is_few (λ _. omega arith)
    (λ _. cond_both (ltb (length main) 256) short long is_few (λ _. omega arith) (λ _. omega arith))

length-generated_data-lt : (backend index : ℕ) → length (generated_data backend index) < 1500
length-generated_data-lt backend index = omega (arith, length-replicate {A = ℕ} ((7 * index * index + 17 * index + 131 * backend) % 1500) ((index + backend) % 256))

size_of-parts : (r : Record) → size_of r ≡ 24 + (length (block_headers None r.blocks) + length (origin_item r.origin) + length (top_xid_item r.top_xid) + length (main_head r.main) + length (flat_map block_payload r.blocks) + length r.main)
size_of-parts r = simp length-append

block_headers-le : (backend index : ℕ) → length (block_headers None (generated_blocks backend index)) ≤ 25
block_headers-le backend index = cond_both (eqb (index % 10) 4) (generated_block backend index ∷ []) [] (λ blocks. length (block_headers None blocks) ≤ 25) (λ _. omega arith) (λ _. omega arith)

block_payloads-le : (backend index : ℕ) → length (flat_map block_payload (generated_blocks backend index)) ≤ 192
block_payloads-le backend index = cond_both (eqb (index % 10) 4) (generated_block backend index ∷ []) [] (λ blocks. length (flat_map block_payload blocks) ≤ 192) (λ _. omega arith) (λ _. omega arith)

size_of-generated_record-le : (backend index : ℕ) → size_of (generated_record backend index) ≤ 1048576
size_of-generated_record-le backend index =
    let r = generated_record backend index in
    omega (arith, size_of-parts r, length-main_head-le r.main, length-generated_data-lt backend index, block_headers-le backend index, block_payloads-le backend index)

BlockFits-generated_block : (backend index : ℕ) → backend < 4 → index < 100000 → BlockFits (generated_block backend index)
BlockFits-generated_block backend index few within = record {
  numbers = record { id = omega arith; tablespace = omega arith; database = omega arith; relation = omega arith; fork = omega arith; number = omega arith };
  content = All-nil IsByte;
  image = record { hole_offset = omega arith; hole_len = omega arith; bytes = All-replicate IsByte 192 (index % 256) (omega arith) };
}

blocks_fit : (backend index : ℕ) → backend < 4 → index < 100000 → All BlockFits (generated_blocks backend index)
blocks_fit backend index few within =
    let block = generated_block backend index in
    cond_both (eqb (index % 10) 4) (block ∷ []) [] (All BlockFits) (λ _. All-cons BlockFits block [] (BlockFits-generated_block backend index few within) (All-nil BlockFits)) (λ _. All-nil BlockFits)

blocks_are_right : (backend index : ℕ) → IsTrue (are_right_blocks 0 (generated_blocks backend index))
blocks_are_right backend index = cond_both (eqb (index % 10) 4) (generated_block backend index ∷ []) [] (λ blocks. IsTrue (are_right_blocks 0 blocks)) (λ _. refl) (λ _. refl)

pub IsWritable-generated_record : (backend index : ℕ) → backend < 4 → index < 100000 → IsWritable (generated_record backend index)
IsWritable-generated_record backend index few within = record {
  well_formed = record { manager = refl; no_switch = refl; blocks = blocks_are_right backend index };
  fits = record {
    xid = omega arith;
    manager = omega arith;
    info = omega arith;
    origin = tt;
    top_xid = tt;
    blocks = blocks_fit backend index few within;
    main = All-replicate IsByte ((7 * index * index + 17 * index + 131 * backend) % 1500) ((index + backend) % 256) (omega arith);
  };
  size = size_of-generated_record-le backend index;
}

pub AsksWritable-generated_asked : (backend index : ℕ) → backend < 4 → index < 100000 → AsksWritable (generated_asked backend index)
AsksWritable-generated_asked backend index few within =
    cond_both (eqb (index % 10) 9) (Commit (commit_record (100 + backend) index)) (Insert (generated_record backend index)) AsksWritable
    (λ _. IsWritable-commit_record (100 + backend) index (omega arith))
    (λ _. IsWritable-generated_record backend index few within)

-- ---- what is written is not refused

-- only memory may run out
pub only_memory : (error : BodyErr) (value : Record) → IsWritable value → RefusesToAssemble error value → error ≡ Memory
only_memory Memory value writable refuses = refl
only_memory (TooLong size) value writable refuses = let none = not_refused value writable in cc
only_memory (BadBlock index) value writable refuses = let none = not_refused value writable in cc
only_memory Switch value writable refuses = let none = not_refused value writable in cc
only_memory (BadRmgr rmid) value writable refuses = let none = not_refused value writable in cc

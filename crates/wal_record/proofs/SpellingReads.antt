-- The writer's spelling of a record is one that a reader accepts.
use Rattle.std.proofs.Common.{◌≡◌, ℕ, ◌^◌, ◌<◌, ◌⊎◌, Result, Ok, true, false, eqb, ltb, List, [], ◌∷◌, ◌++◌, length, Option, Some, None, refl, sym, ap, ◌∙◌, append_assoc, arith, inl, inr}
use Rattle.std.specs.Prelude.{IsTrue, if◌then◌else◌}
use Rattle.std.specs.Int.{w32, w64, to_le_bytes}
use Rattle.std.specs.List.{flat_map}
use Rattle.std.proofs.lemmas.Bool.{cases_Bool, eqb-true, ltb-true, OnTrue_from}
use Rattle.wal_types.specs.declared.record.Block.{Block}
use Rattle.wal_types.specs.declared.record.Record.{Record}
use Rattle.wal_types.specs.declared.record.Rel.{Rel}
use Rattle.wal_record.specs.declared.fault.RecErr.{RecErr}
use Rattle.wal_spelling.specs.Spelling.{Assembled, IsLogRecord, IsReadable, spelled, assembled, block_headers, block_payload, crc_of, is_same_relation, main_header, origin_item, size_of, spelling, top_xid_item}
use Rattle.wal_spelling.proofs.SwitchLaws.{logged_readable}
use Rattle.wal_record.specs.Reading.{reading_of}
use Rattle.wal_record.proofs.Readings.{only}
use Rattle.wal_record.specs.Spells.{Spells, SpellsBlockHeaders}

-- ---- the headers of items

block_headers_spelled : (before : Option Rel) (bs : List Block) → SpellsBlockHeaders before bs (block_headers before bs)
block_headers_spelled before [] = refl
block_headers_spelled before (b ∷ bs) =
    let same = is_same_relation before b.rel in
    (same, (OnTrue_from same (IsTrue same) (λ e. e), (block_headers (Some b.rel) bs, (refl, block_headers_spelled (Some b.rel) bs))))

-- the writer's header of main data
abbrev main_head : List ℕ → List ℕ
main_head main = if eqb (length main) 0 then [] else main_header (ltb (length main) 256) (length main)

main_spelled : (main : List ℕ) → ((main_head main ≡ []) × (length main ≡ 0)) ⊎ (((length main < 256) × (main_head main ≡ main_header true (length main))) ⊎ (main_head main ≡ main_header false (length main)))
main_spelled main =
    elim (cases_Bool (eqb (length main) 0)) [
      | inl none ↦ inl (rw none refl, eqb-true _ _ none)
      | inr some ↦ elim (cases_Bool (ltb (length main) 256)) [
        | inl few ↦ inr (inl (ltb-true _ _ few, rw (some, few) refl))
        | inr many ↦ inr (inr (rw (some, many) refl))
      ]
    ]

-- ---- the record

length-spelling : (r : Record) (prev : ℕ) → length (spelling r prev) ≡ size_of r
length-spelling r prev = omega arith

spelled_so : (r : Record) (prev : ℕ) → spelling r prev ≡ to_le_bytes w32 (length (spelling r prev)) ++ to_le_bytes w32 r.xid.0 ++ to_le_bytes w64 prev ++ (r.info ∷ r.rmid ∷ 0 ∷ 0 ∷ []) ++ to_le_bytes w32 (crc_of (assembled r) prev) ++ block_headers None r.blocks ++ origin_item r.origin ++ top_xid_item r.top_xid ++ main_head r.main ++ flat_map block_payload r.blocks ++ r.main
spelled_so r prev =
    let size = to_le_bytes w32 (size_of r) in
    let xid = to_le_bytes w32 r.xid.0 in
    let fixed = r.info ∷ r.rmid ∷ 0 ∷ 0 ∷ [] in
    let crc = to_le_bytes w32 (crc_of (assembled r) prev) in
    grouped size xid (to_le_bytes w64 prev) fixed crc (block_headers None r.blocks) (origin_item r.origin) (top_xid_item r.top_xid) (main_head r.main) (flat_map block_payload r.blocks) r.main
    ∙ ap (λ (n : ℕ). to_le_bytes w32 n ++ xid ++ to_le_bytes w64 prev ++ fixed ++ crc ++ block_headers None r.blocks ++ origin_item r.origin ++ top_xid_item r.top_xid ++ main_head r.main ++ flat_map block_payload r.blocks ++ r.main) (sym (length-spelling r prev))
  where
    grouped : (a b c d e f g h i j k : List ℕ) → a ++ b ++ c ++ d ++ e ++ (f ++ g ++ h ++ i ++ j ++ k) ≡ a ++ b ++ c ++ d ++ e ++ f ++ g ++ h ++ i ++ j ++ k
    grouped a b c d e f g h i j k = simp append_assoc

pub spelling_spells : (r : Record) (prev : ℕ) → IsReadable r → Spells (spelling r prev) r
spelling_spells r prev readable = record {
  fits = readable.fits;
  size = omega (arith, length-spelling r prev, readable.size);
  manager = readable.manager;
  blocks = readable.blocks;
  prev = to_le_bytes w64 prev;
  prev_length = refl;
  spare = 0 ∷ 0 ∷ [];
  spare_length = refl;
  crc = to_le_bytes w32 (crc_of (assembled r) prev);
  crc_length = refl;
  headers = block_headers None r.blocks;
  headers_spelled = block_headers_spelled None r.blocks;
  main_head = main_head r.main;
  main_spelled = main_spelled r.main;
  spelled = spelled_so r prev;
}

-- ---- the round trip

pub readable_reads : (r : Record) (prev : ℕ) → IsReadable r → reading_of (spelling r prev) ≡ Ok r
readable_reads r prev readable = only (spelling r prev) r (spelling_spells r prev readable)

pub logged_reads : (r : Record) (prev : ℕ) → IsLogRecord r → reading_of (spelling r prev) ≡ Ok r
logged_reads r prev logged = readable_reads r prev (logged_readable r logged)

pub spelling_reads : (r : Record) (prev : ℕ) → IsLogRecord r → prev < 2 ^ 64 → reading_of (spelling r prev) ≡ Ok r
spelling_reads r prev logged lt = logged_reads r prev logged

-- ---- a body's record

pub one_record : (r other : Record) → IsLogRecord r → IsLogRecord other → assembled r ≡ assembled other → r ≡ other
one_record r other logged other_logged same =
    let start : ℕ = 0 in
    same_value r other
    (sym (spelling_reads r start logged (omega arith))
    ∙ ap (λ (a : Assembled). reading_of (spelled a start)) same
    ∙ spelling_reads other start other_logged (omega arith))
  where
    same_value : (r other : Record) → (let x : Result Record RecErr = Ok r in x ≡ Ok other) → r ≡ other
    same_value r other k = cc

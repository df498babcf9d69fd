use Rattle.std.proofs.Common.{◌≡◌, ℕ, ◌-◌, ◌≤◌, List, [], ◌++◌, length, take, drop, refl, sym, ap, ◌∙◌, arith}
use Rattle.std.specs.Int.{w32, w64, from_le_bytes, to_le_bytes}
use Rattle.std.proofs.Math.Seq.{take-add}
use Rattle.std.proofs.lemmas.List.{append_assoc, length-drop, length-take-le, take_rest}
use Rattle.wal_crc32c.specs.Crc32c.{crc32c}
use Rattle.wal_spelling.proofs.Bytes.{IsBytes, IsBytes-drop, IsBytes-take, wide32, wide64}
use Rattle.wal_reader.proofs.record_checks.crc_of.Goals as goal

-- a header's first 20 bytes, the start of the record before and what stands round it as numbers
front_again : (bytes : List ℕ) → 24 ≤ length bytes → IsBytes bytes
    → to_le_bytes w64 (from_le_bytes w64 (take 8 bytes)) ++ to_le_bytes w64 (from_le_bytes w64 (take 8 (drop 8 bytes))) ++ to_le_bytes w32 (from_le_bytes w32 (take 4 (drop 16 bytes))) ≡ take 20 bytes
front_again bytes long fits =
    ap (λ before. before ++ to_le_bytes w64 (from_le_bytes w64 (take 8 (drop 8 bytes))) ++ to_le_bytes w32 (from_le_bytes w32 (take 4 (drop 16 bytes))))
    (wide64.back (take 8 bytes) (length-take-le 8 bytes (omega arith)) (IsBytes-take 8 bytes fits))
    ∙ ap (λ prev. take 8 bytes ++ prev ++ to_le_bytes w32 (from_le_bytes w32 (take 4 (drop 16 bytes))))
    (wide64.back (take 8 (drop 8 bytes)) (length-take-le 8 (drop 8 bytes) (omega (arith, length-drop 8 bytes))) (IsBytes-take 8 (drop 8 bytes) (IsBytes-drop 8 bytes fits)))
    ∙ ap (λ behind. take 8 bytes ++ take 8 (drop 8 bytes) ++ behind)
    (wide32.back (take 4 (drop 16 bytes)) (length-take-le 4 (drop 16 bytes) (omega (arith, length-drop 16 bytes))) (IsBytes-take 4 (drop 16 bytes) (IsBytes-drop 16 bytes fits)))
    ∙ ap (λ front. front ++ take 4 (drop 16 bytes)) (sym (take-add 8 8 bytes))
    ∙ sym (take-add 16 4 bytes)

pub returns : goal.returns
returns c =
    let bytes = c.args.bytes.now in
    let back = take (length bytes - 24) (drop 24 bytes) in
    let before = to_le_bytes w64 c.u64_at.result in
    let prev = to_le_bytes w64 c.u64_at-2.result in
    let behind = to_le_bytes w32 c.u32_at.result in
    let left_open = c.update_round_gap.ensures back (c.update.ensures [] c.new-crc.ensures) in
    let numbers : before ++ prev ++ behind ≡ take 20 bytes =
    ap (λ (n : ℕ). to_le_bytes w64 n ++ prev ++ behind) c.u64_at.ensures
    ∙ ap (λ (n : ℕ). to_le_bytes w64 (from_le_bytes w64 (take 8 bytes)) ++ to_le_bytes w64 n ++ behind) c.u64_at-2.ensures
    ∙ ap (λ (n : ℕ). to_le_bytes w64 (from_le_bytes w64 (take 8 bytes)) ++ to_le_bytes w64 (from_le_bytes w64 (take 8 (drop 8 bytes))) ++ to_le_bytes w32 n) c.u32_at.ensures
    ∙ front_again bytes c.requires (λ i. (c.type_inv.bytes i).fits) in
    c.value.ensures (back ++ before ++ prev ++ behind) (c.with_gap_filled.ensures (back ++ before) behind refl left_open)
    ∙ ap crc32c (ap (λ l. l ++ behind) (append_assoc back before prev)
    ∙ append_assoc back (before ++ prev) behind
    ∙ ap (λ l. back ++ l) numbers
    ∙ ap (λ l. l ++ take 20 bytes) (take_rest bytes 24))

use Rattle.std.proofs.Common.{ℕ, List, [], ◌++◌, subst, ap, ◌∙◌}
use Rattle.std.specs.Int.{w32, w64, to_le_bytes}
use Rattle.wal_crc32c.specs.Crc32c.{HasFed}
use Rattle.wal_spelling.specs.Spelling.{assembled_of, assembled_size}
use Rattle.wal_spelling.proofs.Words.{behind_bytes}
use Rattle.wal_spelling.proofs.body.crc_under_way.Goals as goal

pub returns : goal.returns
returns c =
    let bytes = c.args.bytes.now in
    let a = assembled_of c.args.xid.0 c.args.rmid c.args.info bytes in
    let first = c.update.ensures [] c.new-crc.ensures in
    let whole = c.update_round_gap.ensures bytes first in
    let front = c.size_and_xid.ensures.bytes in
    let path = ap (λ (w : List ℕ). bytes ++ w ++ to_le_bytes w64 0 ++ to_le_bytes w32 c.info_and_manager.result) front
    ∙ ap (λ (w : List ℕ). bytes ++ (to_le_bytes w32 (assembled_size a) ++ to_le_bytes w32 a.xid) ++ to_le_bytes w64 0 ++ w) c.info_and_manager.ensures.bytes
    ∙ behind_bytes a 0 bytes in
    subst (HasFed c.update_round_gap.new.self) path whole

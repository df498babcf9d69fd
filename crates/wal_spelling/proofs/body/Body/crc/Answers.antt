use Rattle.std.proofs.Common.{[], ◌∷◌, ◌++◌, refl, sym, subst, ap, ◌∙◌}
use Rattle.std.specs.Cow.{cow_slice_items}
use Rattle.std.specs.Int.{w32, to_le_bytes}
use Rattle.wal_crc32c.specs.Crc32c.{HasFed}
use Rattle.wal_spelling.specs.Spelling.{Assembled, assembled_of, assembled_size, crc_of, header_front}
use Rattle.wal_spelling.proofs.Words.{behind_bytes}
use Rattle.wal_spelling.proofs.body.Body.crc.Goals as goal

pub returns : goal.returns
returns c =
    let p = c.self.inside in
    let prev = c.args.prev.0 in
    let bytes = cow_slice_items p.after_header in
    let a = assembled_of p.xid.0 p.rmid p.info bytes in
    let front = bytes ++ (to_le_bytes w32 (assembled_size a) ++ to_le_bytes w32 a.xid) in
    let last = a.info ∷ a.rmid ∷ 0 ∷ 0 ∷ [] in
    let left_open = subst (HasFed p.crc) (sym (behind_bytes a 0 bytes)) c.self.invariant.0 in
    let closed = c.with_gap_filled.ensures front last refl left_open in
    c.value.ensures (bytes ++ header_front a prev) (subst (HasFed c.with_gap_filled.result) (behind_bytes a prev bytes) closed)
    ∙ ap (λ (s : Assembled). crc_of s prev) c.self.view_is

use Rattle.std.proofs.Common.{◌≡◌, ◌∙◌, None, sym}
use Rattle.wal_spelling.specs.Refusal.{first_bad_block}
use Rattle.wal_spelling.proofs.RightBlocks.{none_bad}
use Rattle.wal_spelling.proofs.refusing.refusal.Goals as goal

pub after_header_len-requires : goal.after_header_len-requires
after_header_len-requires c =
    let none : first_bad_block 0 c.args.r.now.blocks ≡ None = rw c.as_slice.ensures at (sym c.first_bad_block.ensures ∙ c.in_default.is) in
    none_bad 0 c.args.r.now.blocks none

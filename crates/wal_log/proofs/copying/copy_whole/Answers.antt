use Rattle.std.proofs.Common.{sym, ap, ◌∙◌}
use Rattle.wal_page.specs.Placed.{placed_end}
use Rattle.wal_log.specs.HeldLocks.{locks_of}
use Rattle.wal_log.proofs.copying.copy_whole.Goals as goal

pub copy_there-requires-clause-copies : goal.copy_there-requires-clause-copies
copy_there-requires-clause-copies g c = (locks_of c.args.held, c.requires.copies)

pub copy_rest-requires-clause-copies : goal.copy_rest-requires-clause-copies
copy_rest-requires-clause-copies g c =
    c.copy_there.ensures.copies (locks_of c.args.held) c.requires.copies

pub copy_rest-requires-clause-end : goal.copy_rest-requires-clause-end
copy_rest-requires-clause-end g c =
    c.requires.end ∙ sym (ap placed_end c.copy_there.ensures.copies_on.place)

pub copy_rest-requires-clause-up : goal.copy_rest-requires-clause-up
copy_rest-requires-clause-up g c = c.copy_there.ensures.up c.requires.up

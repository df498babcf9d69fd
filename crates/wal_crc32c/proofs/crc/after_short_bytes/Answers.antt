use Rattle.std.proofs.Common.{◌≡◌, ◌++◌, fold, sym, ap, ◌∙◌}
use Rattle.std.proofs.lemmas.List.{take-append-drop}
use Rattle.std.proofs.lemmas.List.Sums.{fold-append}
use Rattle.wal_crc32c.specs.Crc32c.{after_byte}
use Rattle.wal_crc32c.proofs.crc.after_short_bytes.Goals as goal

pub loop-piece-preserved : goal.loop-piece-preserved
loop-piece-preserved c =
    let split = c.in-Some.ensures.cases in
    let whole : c.in-Some.piece.now ++ c.in-Some.others.now ≡ c.loop-piece.rest.now = rw (split.0, split.1) (take-append-drop 32 c.loop-piece.rest.now) in
    ap (λ s. fold after_byte s c.in-Some.others.now) c.after_piece-remainder.ensures
    ∙ sym (fold-append after_byte c.loop-piece.remainder c.in-Some.piece.now c.in-Some.others.now)
    ∙ ap (fold after_byte c.loop-piece.remainder) whole
    ∙ c.loop-piece.invariant

use Rattle.std.proofs.Common.{◌≡◌, ◌++◌, fold, ap, ◌∙◌}
use Rattle.std.proofs.lemmas.List.{take-append-drop}
use Rattle.wal_crc32c.specs.Crc32c.{after_byte}
use Rattle.wal_crc32c.proofs.crc.after_long_bytes.Goals as goal

pub returns-in-Some : goal.returns-in-Some
returns-in-Some c =
    let split = c.in-Some.ensures.cases in
    let whole : c.in-Some.first.now ++ c.in-Some.behind.now ≡ c.args.bytes.now = rw (split.0, split.1) (take-append-drop 96 c.args.bytes.now) in
    c.after_short_bytes.ensures
    ∙ c.after_blocks-remainder.ensures
    ∙ ap (fold after_byte c.args.remainder) whole

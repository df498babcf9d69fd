use Rattle.std.proofs.Common.{◌-◌, fold, length, take, drop, subst, ap, ◌∙◌}
use Rattle.std.proofs.lemmas.List.{take_rest}
use Rattle.wal_crc32c.specs.Crc32c.{after_byte}
use Rattle.wal_crc32c.specs.SparseMultiple.{CarriesOn}
use Rattle.wal_crc32c.proofs.SparseMultiple.{in_parts}
use Rattle.wal_crc32c.proofs.sparse_multiple.after_longer_bytes.Goals as goal

pub returns-in-Some : goal.returns-in-Some
returns-in-Some c =
    let bytes = c.args.bytes.now in
    let taken = c.take_all_away-taken.result in
    let behind = take (length bytes - 16) (drop 16 bytes) in
    let others = take (length behind - taken) (drop taken behind) in
    let split = c.in-Some.ensures.cases in
    let first = fold after_byte c.args.before (take 16 bytes) in
    let second = fold after_byte first (take taken behind) in
    let begun = subst (λ v. CarriesOn (take 209 c.begin.new.room) (fold after_byte c.args.before v)) c.vector_at.ensures c.begin.ensures in
    let left = c.left_of.ensures second (c.take_all_away-taken.ensures.taken first begun) in
    c.after_long_bytes-in-Some.ensures
    ∙ ap (λ r. fold after_byte r c.in-Some.rest.now) (c.after_long_bytes.ensures ∙ left ∙ ap (fold after_byte second) split.0)
    ∙ ap (fold after_byte (fold after_byte second (take 224 others))) split.1
    ∙ in_parts c.args.before taken bytes behind others (take_rest bytes 16) (take_rest behind taken)

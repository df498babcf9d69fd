use Rattle.std.proofs.Common.{sym, subst}
use Rattle.wal_spelling.specs.Spelling.{AssembledFits}
use Rattle.wal_spelling.proofs.SpellingLaws.{ready}
use Rattle.wal_spelling.proofs.body.Body.of_parts.Goals as goal

pub invariant_of-result : goal.invariant_of-result
invariant_of-result c =
    let known = c.requires in
    let fed = rw c.as_slice.ensures.value at c.crc_under_way-crc.ensures in
    (fed, subst AssembledFits (sym known.same) (ready known.value known.logged), known)

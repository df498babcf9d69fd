use Rattle.std.proofs.Common.{◌∙◌, ◌/◌, ap, refl, ℕ, ◌^◌, ◌-◌, ◌*◌, ◌%◌, length}
use Rattle.wal_spelling.proofs.WordRuns.{tail_of_eight}
use Rattle.wal_spelling.proofs.putting.last_word.Goals as goal

pub returns-in-Some : goal.returns-in-Some
returns-in-Some c =
    let bytes = c.args.bytes.now in
    let cases = c.in-Some.ensures.cases in
    ap (λ (n : ℕ). n / 2 ^ (64 - length bytes % 8 * 8)) c.from_le_bytes.ensures
    ∙ tail_of_eight bytes c.in-Some.eight.now c.args.tail.now (64 - length bytes % 8 * 8) cases.0 (λ i. (c.type_inv.bytes i).fits) cases.1.same c.requires.tail c.requires.some refl

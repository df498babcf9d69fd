use Rattle.std.proofs.Common.{◌≡◌, ◌+◌, ◌*◌, ℕ, get_or, set, get_or-set_same, ap, ◌∙◌, arith}
use Rattle.wal_page.specs.Placed.{entry_word}
use Rattle.wal_page.proofs.placed.Placed.put_others.Goals as goal

pub returns-in-Some-clause-words : goal.returns-in-Some-clause-words
returns-in-Some-clause-words c = λ k lt.
    let p = c.args.self.now in
    let words = c.args.words.now in
    let word = c.in-Some.word in
    let at : k ≡ 0 = omega arith in
    let place : p.next ≡ p.next + 8 * k = omega arith in
    ap (λ (j : ℕ). get_or (set words 0 word) j 0) at
    ∙ get_or-set_same words 0 word 0 (omega arith)
    ∙ c.in-Some.ensures.word
    ∙ ap (entry_word p.size p.sysid p.body p.start p.prev) place

use Rattle.std.proofs.Common.{List, ℕ, subst, sym}
use Rattle.machine_state.specs.FirstWords.{IsLastPage}
use Rattle.wal_log.proofs.Reopens.{ends_there, last_page_there, placed_there}
use Rattle.wal_log.proofs.reopening.words_behind.Goals as goal

pub returns-clause-words : goal.returns-clause-words
returns-clause-words c = λ opening behind.
    let setup = c.args.setup in
    let log = c.args.log.now in
    let found = c.requires.log in
    let valid = c.requires.setup in
    c.resume.ensures.first opening behind.setup_is behind.moment_is
    (placed_there setup valid log found 0 opening behind)
    (ends_there setup valid log found 0 opening behind)
    (subst (λ (page : List ℕ). IsLastPage opening page) (sym c.deref.ensures)
    (last_page_there setup valid log found 0 opening behind))

-- The words so far, and where the next one lies.
use Rattle.std.proofs.Common.{◌≡◌, ◌+◌, ◌-◌, ◌*◌, ◌≤◌, length}
use Rattle.wal_page.specs.Placed.{HasWordsFrom}
use Rattle.wal_page.proofs.placed.Placed.put_words.Given as goal

abbrev pub invariant-loop-put : goal.invariant-loop-put
invariant-loop-put l =
    let first = l.initial.self in
    record {
      within : l.put ≤ length l.words;
      placed : l.self ≡ record first { next = first.next + 8 * l.put };
      words : HasWordsFrom first l.put l.words;
    }

abbrev pub decreases-loop-put : goal.decreases-loop-put
decreases-loop-put l = length l.initial.words - l.put

-- The words go on where the last ones ended.
use Rattle.std.proofs.Common.{◌≡◌, ◌+◌, ◌-◌, ◌*◌, ◌≤◌, ℕ, ◌++◌, length, take, drop, subst, ap, sym, ◌∙◌, arith}
use Rattle.std.proofs.lemmas.List.{length-append, length-drop, length-take}
use Rattle.wal_page.specs.Placed.{PlacedState, placed_end}
use Rattle.wal_page.proofs.RunSteps.{words_further, placed_further}
use Rattle.wal_page.proofs.placed.Placed.put_words.Goals as goal

pub put_some-put-requires-clause-some : goal.put_some-put-requires-clause-some
put_some-put-requires-clause-some c = omega (arith, length-drop c.loop-put.put c.loop-put.words)

pub put_some-put-requires-clause-owned : goal.put_some-put-requires-clause-owned
put_some-put-requires-clause-owned c =
    let put = c.loop-put.put in
    let words = c.loop-put.words in
    let left = length (take (length words - put) (drop put words)) in
    subst (λ (s : PlacedState). s.next + 8 * left ≤ placed_end s) (sym c.loop-put.invariant.placed)
    (omega (arith, length-take (length words - put) (drop put words), length-drop put words, c.requires))

pub loop-put-preserved : goal.loop-put-preserved
loop-put-preserved c =
    let first = c.args.self.now in
    let at = c.loop-put.invariant.placed in
    let put = c.loop-put.put in
    let count = c.put_some-put.result in
    let places = length-drop put c.loop-put.words in
    let front = length-take (length c.loop-put.words - put) (drop put c.loop-put.words) in
    record {
      within = omega (arith, length-append (take put c.loop-put.words) (c.put_some-put.new.words ++ drop (length c.loop-put.words - put) (drop put c.loop-put.words)), length-append c.put_some-put.new.words (drop (length c.loop-put.words - put) (drop put c.loop-put.words)), length-take put c.loop-put.words, c.put_some-put.ensures.count.1);
      placed = placed_further first c.loop-put.self put count at c.put_some-put.new.self c.put_some-put.ensures.placed;
      words = words_further first c.loop-put.self put count at c.loop-put.words c.put_some-put.new.words (drop (length c.loop-put.words - put) (drop put c.loop-put.words)) (omega (arith, c.put_some-put.ensures.count.1)) c.loop-put.invariant.within c.loop-put.invariant.words c.put_some-put.ensures.words;
    }

pub returns-clause-placed : goal.returns-clause-placed
returns-clause-placed c =
    let first = c.args.self.now in
    let end : first.next + 8 * c.loop-put.put ≡ first.next + 8 * length c.args.words.now = omega arith in
    c.loop-put.invariant.placed ∙ ap (λ (n : ℕ). record first { next = n }) end

pub returns-clause-words : goal.returns-clause-words
returns-clause-words c = λ k lt. c.loop-put.invariant.words k (omega arith)

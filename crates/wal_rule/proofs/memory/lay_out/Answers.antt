use Rattle.std.proofs.Common.{◌≡◌, ℕ, ◌+◌, length, length-set, set, slice_index, arith, sym, ◌∙◌, subst}
use Rattle.wal_rule.specs.WordPlaces.{places_between, words_of}
use Rattle.wal_rule.proofs.WordPlaceLaws.{laid_all, laid_next}
use Rattle.wal_rule.proofs.memory.lay_out.Goals as goal

pub loop-number-preserved : goal.loop-number-preserved
loop-number-preserved c =
    let memory = c.loop-number.memory in
    let words = c.args.words.now in
    let number = c.loop-number.number in
    let value : ℕ = slice_index words number in
    let was = c.loop-number.invariant in
    let long : length memory ≡ length words + places_between = was.length_is ∙ c.requires.long in
    record {
      length_is = length-set memory c.place_of.result value ∙ was.length_is;
      laid = λ n low. subst (λ (place : ℕ).
          slice_index (words_of (set memory place value)) n ≡ slice_index words n)
          (sym c.place_of.ensures)
          (laid_next words memory c.requires.some long number
          (omega (arith, c.loop-number-test.true)) was.laid n low);
    }

pub returns-clause-words : goal.returns-clause-words
returns-clause-words c =
    let was = c.loop-number.invariant in
    let long : length c.loop-number.memory ≡ length c.args.words.now + places_between =
    was.length_is ∙ c.requires.long in
    laid_all c.args.words.now c.loop-number.memory c.requires.some long
    (λ n within. was.laid n (omega (arith, within, c.loop-number-test.false)))

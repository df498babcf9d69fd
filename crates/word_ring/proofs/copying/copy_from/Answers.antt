use Rattle.std.proofs.Common.{ℕ, subst, arith}
use Rattle.word_ring.specs.Copied.{IsPlaceOf}
use Rattle.wal_rule.specs.SeatedPasses.{setup_of}
use Rattle.word_ring.proofs.CopyLaws.{next-whole, next_behind, words-left}
use Rattle.word_ring.proofs.copying.copy_from.Goals as goal

pub overflow_sub-left : goal.overflow_sub-left
overflow_sub-left g c =
    let left = words-left c.args.seated.now c.args.placed.now c.requires.rest in
    omega (arith, left.0, c.requires.next, c.requires.end)

pub copy_words-requires-clause-may : goal.copy_words-requires-clause-may
copy_words-requires-clause-may g c =
    let left = words-left c.args.seated.now c.args.placed.now c.requires.rest in
    let few = c.min-here.ensures in
    let least = c.min-count.ensures in
    record {
      rest = c.requires.rest;
      left = omega (arith, left.1, c.requires.next, c.requires.end, few, least);
      on_page = omega (arith, c.requires.next, few, least);
      met = omega (arith, c.requires.next, c.requires.met);
      place_is = subst (λ (n : ℕ). IsPlaceOf (setup_of c.args.seated.now) n c.args.place)
          c.requires.next c.requires.place;
    }

pub returns-clause-count : goal.returns-clause-count
returns-clause-count g c =
    let left = words-left c.args.seated.now c.args.placed.now c.requires.rest in
    let few = c.min-here.ensures in
    let least = c.min-count.ensures in
    let most = c.from.ensures in
    omega (arith, left.0, c.requires.next, c.requires.end, few, least, most)

pub returns-clause-some : goal.returns-clause-some
returns-clause-some g c = λ asked more.
    let whole = next-whole c.args.seated.now c.args.placed.now c.requires.rest in
    let left = words-left c.args.seated.now c.args.placed.now c.requires.rest in
    let few = c.min-here.ensures in
    let least = c.min-count.ensures in
    let most = c.from.ensures in
    omega (arith, whole, left.1, c.requires.next, c.requires.end, few, least, most, asked, more)

pub returns-clause-within : goal.returns-clause-within
returns-clause-within g c =
    let left = words-left c.args.seated.now c.args.placed.now c.requires.rest in
    let next = next_behind c.min-count.result c.args.seated.now c.copy_words.new.seated
    c.args.placed.now c.copy_words.new.placed c.copy_words.ensures.copied in
    let few = c.min-here.ensures in
    let least = c.min-count.ensures in
    omega (arith, next, left.1, c.requires.next, c.requires.end, few, least)

-- The words before it are the same.
use Rattle.std.proofs.Common.{◌≡◌, ℕ, inl, inr, sym, subst, ◌∙◌, arith}
use Rattle.std.proofs.lemmas.Bool.{cases_lt}
use Rattle.segment_disk.specs.DiskImage.{word_of}
use Rattle.wal_stream.proofs.FrameLaws.{other_lists, same_lists}
use Rattle.wal_stream.proofs.standby.accepting.first_difference.Goals as goal

pub loop-word-init : goal.loop-word-init
loop-word-init c = λ k less. absurd (omega (arith, less))

pub loop-word-preserved : goal.loop-word-preserved
loop-word-preserved c = λ k less.
    let same = sym c.word_at.ensures ∙ same_lists c.word_at.result.now c.word_at-in-loop-word.result.now c.ne.result c.ne.ensures c.if-ne.false ∙ c.word_at-in-loop-word.ensures in
    elim (cases_lt k c.loop-word.word) [
      | inl before ↦ c.loop-word.invariant k before
      | inr here ↦ (let at : k ≡ c.loop-word.word = omega (arith, less, here) in subst (λ (n : ℕ). word_of c.args.one.now n ≡ word_of c.args.other.now n) (sym at) same)
    ]

pub returns-then-ne-clause-differs : goal.returns-then-ne-clause-differs
returns-then-ne-clause-differs c = record {
  word = c.loop-word.word;
  at_is = omega arith;
  below = omega arith;
  before = λ k less. c.loop-word.invariant k (omega (arith, less));
  here = λ same. other_lists c.word_at.result.now c.word_at-in-loop-word.result.now c.ne.result c.ne.ensures c.if-ne.true (c.word_at.ensures ∙ same ∙ sym c.word_at-in-loop-word.ensures);
}

pub returns-clause-agree : goal.returns-clause-agree
returns-clause-agree c = λ k less. c.loop-word.invariant k (omega (arith, less))

use Rattle.std.proofs.Common.{◌≢◌, ℕ, ◌+◌, ◌%◌, ◌<◌, List, length, slice_index, slice_set, ◌∙◌, ap, subst, arith, below_more, get_or-set_other, get_or-set_same}
use Rattle.machine_state.specs.Steps.{take_lock}
use Rattle.machine_state.specs.Views.{View}
use Rattle.wal_rule.specs.SeatedPasses.{view_of}
use Rattle.wal_rule.specs.Stepping.{Meets}
use Rattle.insert_locks.specs.Taking.{HaveMetHeld}
use Rattle.insert_locks.proofs.taking.try_take.Goals as goal

-- a word more was met
meets_more : (v : View) (tries word : ℕ) (words : List ℕ) → tries < length words
    → HaveMetHeld v tries words → word ≢ 0
    → Meets v (take_lock (((v.reserving).number % 8 + tries) % 8)) word
    → HaveMetHeld v (tries + 1) (slice_set words tries word)
meets_more v tries word words within before held met = below_more
    (λ (i : ℕ). (slice_index (slice_set words tries word) i ≢ 0)
    × Meets v (take_lock (((v.reserving).number % 8 + i) % 8))
    (slice_index (slice_set words tries word) i))
    tries (λ i less. (let other : i ≢ tries = omega arith in rw get_or-set_other (before i less)))
    (rw get_or-set_same (held, met))

pub loop-tried-preserved : goal.loop-tried-preserved
loop-tried-preserved g c =
    let old = c.args.seated.now in
    let tries = c.loop-tried.tried in
    let few = c.loop-tried-test.true in
    let wide = c.loop-tried.invariant.0 in
    let same = c.loop-tried.invariant.2 in
    let word = c.try_take_lock-word.result in
    let tried = c.try_take_lock-word.ensures in
    let held = tried.held c.if-word-eq0.false in (
      simp (Rattle.std.proofs.Math.ListN.length-set) wide,
      meets_more (view_of old) tries word c.loop-tried.seen (omega (arith, few, wide))
          c.loop-tried.invariant.1 c.if-word-eq0.false
          (subst (λ (n : ℕ). Meets (view_of old) (take_lock ((n % 8 + tries) % 8)) word)
          old.numbered
          (subst (λ (v : View). Meets v (take_lock ((old.number % 8 + tries) % 8)) word)
          (ap (λ me. me.0) same.me_is) tried.met)),
      record {
        same_table = held.same_table ∙ same.same_table;
        me_is = held.me_is ∙ same.me_is;
      },
    )

pub returns-clause-held : goal.returns-clause-held
returns-clause-held g c = (
  λ tried less. (let ended = c.loop-tried-test.false in
      c.loop-tried.invariant.1 tried (omega (arith, less, ended))),
  c.loop-tried.invariant.2,
)

pub returns-then-word-eq0-clause-first : goal.returns-then-word-eq0-clause-first
returns-then-word-eq0-clause-first g c = record {
  tried = c.loop-tried.tried;
  words = c.loop-tried.seen;
  lock_is = ap (λ (n : ℕ). (n % 8 + c.loop-tried.tried) % 8) (c.args.seated.now).numbered;
  few = c.loop-tried-test.true;
  held = c.loop-tried.invariant.1;
}

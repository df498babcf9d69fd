use Rattle.std.proofs.Common.{◌≡◌, ◌<◌, ℕ, length, subst, arith}
use Rattle.wal_rule.specs.SeatedPasses.{HasView, view_of}
use Rattle.word_ring.specs.Copied.{copied_view}
use Rattle.word_ring.specs.CopyRuns.{MayCopy}
use Rattle.word_ring.proofs.CopyLaws.{has_copied, run_may}
use Rattle.word_ring.proofs.copying.copy_run.Goals as goal

pub store_run-requires-clause-run : goal.store_run-requires-clause-run
store_run-requires-clause-run g c =
    let same = c.put_words.auto.words in
    let as_many : length c.args.words.now ≡ length c.put_words.new.words =
    omega (arith, same) in
    run_may c.args.place c.put_words.new.words c.args.seated.now c.args.placed.now
    (subst (λ (k : ℕ). MayCopy k c.args.place c.args.seated.now c.args.placed.now) as_many
    c.requires.may)
    (λ n below. (let within : n < length c.args.words.now = omega (arith, same, below) in
    c.put_words.ensures.words n within))

pub returns : goal.returns
returns g c =
    let same = c.put_words.auto.words in
    let as_many : length c.put_words.new.words ≡ length c.args.words.now =
    omega (arith, same) in
    record {
      copied = has_copied (length c.args.words.now) c.args.seated.now c.store_run.new.seated
          c.args.placed.now _ c.requires.may.rest
          (subst (λ (k : ℕ). HasView (copied_view k (view_of c.args.seated.now))
          c.args.seated.now c.store_run.new.seated) as_many c.store_run.ensures)
          c.put_words.ensures.placed;
    }

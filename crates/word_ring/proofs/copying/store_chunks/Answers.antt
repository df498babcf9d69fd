use Rattle.std.proofs.Common.{◌≡◌, ℕ, ◌+◌, ◌-◌, length, ◌∙◌, subst, arith}
use Rattle.wal_rule.specs.SeatedPasses.{HasView, view_of}
use Rattle.word_ring.specs.Copied.{copied_view}
use Rattle.word_ring.specs.CopyRuns.{chunk_word}
use Rattle.word_ring.proofs.CopyLaws.{behind_run, words_on}
use Rattle.word_ring.proofs.Steps.{same_table}
use Rattle.word_ring.proofs.copying.store_chunks.Goals as goal

pub store_few-requires-clause-run : goal.store_few-requires-clause-run
store_few-requires-clause-run g c =
    let within = c.loop-done.invariant.0 in
    let more = c.loop-done-test.true in
    words_on c.args.place c.loop-done.done 4 (length c.args.chunks.now)
    (chunk_word c.args.chunks.now)
    c.args.seated.now c.loop-done.seated c.requires.run c.loop-done.invariant.1
    (omega (arith, within, more))

pub store_few-requires-clause-table : goal.store_few-requires-clause-table
store_few-requires-clause-table g c =
    c.requires.table
    ∙ same_table c.args.seated.now c.loop-done.seated c.loop-done.invariant.1.same_table

pub loop-done-preserved : goal.loop-done-preserved
loop-done-preserved g c =
    let within = c.loop-done.invariant.0 in
    let more = c.loop-done-test.true in (
      omega (arith, within, more),
      behind_run c.loop-done.done 4 c.args.seated.now c.loop-done.seated
          c.store_few.new.seated c.loop-done.invariant.1 c.store_few.ensures,
    )

pub store_few-requires-2-clause-run : goal.store_few-requires-2-clause-run
store_few-requires-2-clause-run g c =
    let within = c.loop-done.invariant.0 in
    words_on c.args.place c.loop-done.done _ (length c.args.chunks.now)
    (chunk_word c.args.chunks.now)
    c.args.seated.now c.loop-done.seated c.requires.run c.loop-done.invariant.1
    (omega (arith, within))

pub store_few-requires-2-clause-table : goal.store_few-requires-2-clause-table
store_few-requires-2-clause-table g c =
    c.requires.table
    ∙ same_table c.args.seated.now c.loop-done.seated c.loop-done.invariant.1.same_table

pub returns : goal.returns
returns g c =
    let within = c.loop-done.invariant.0 in
    let all : c.loop-done.done + (length c.args.chunks.now - c.loop-done.done)
    ≡ length c.args.chunks.now = omega (arith, within) in
    subst (λ (k : ℕ). HasView (copied_view k (view_of c.args.seated.now)) c.args.seated.now
    c.store_few-2.new.seated) all
    (behind_run c.loop-done.done (length c.args.chunks.now - c.loop-done.done)
    c.args.seated.now c.loop-done.seated c.store_few-2.new.seated c.loop-done.invariant.1
    c.store_few-2.ensures)

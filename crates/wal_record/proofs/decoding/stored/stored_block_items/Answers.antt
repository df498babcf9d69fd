use Rattle.std.proofs.Common.{◌∙◌, ap, ℕ, ◌+◌, arith, sym}
use Rattle.std.proofs.lemmas.List.Sums.{sum_by_push}
use Rattle.std.proofs.lemmas.Result.{err_from_is_err_and}
use Rattle.wal_record.specs.Reading.{payload_len}
use Rattle.wal_record.specs.Unread.{cursor_of}
use Rattle.wal_record.proofs.BlockHeadSteps.{bytes_left}
use Rattle.wal_record.proofs.StoredSteps.{stored_shrinks, stored_fails_here, stored_goes_on}
use Rattle.wal_record.proofs.decoding.stored.stored_block_items.Goals as goal

pub returns-in_err-head-clause-exact : goal.returns-in_err-head-clause-exact
returns-in_err-head-clause-exact c =
    let more = sym c.is_at_block.ensures ∙ c.loop-before-test.true in
    let p = err_from_is_err_and c.from_residual.result c.from_residual.ensures.1 in
    rw (p.1, p.2) (stored_fails_here c.loop-before.invariant.same.0 c.loop-before.before c.loop-before.heads.items (cursor_of c.loop-before.unread) c.in_err-head.field-0.0 _ c.loop-before.invariant.same.1.0 c.loop-before.invariant.same.1.1 more c.in_err-head.ensures.exact)

pub loop-before-smaller : goal.loop-before-smaller
loop-before-smaller c =
    let more = sym c.is_at_block.ensures ∙ c.loop-before-test.true in
    stored_shrinks c.loop-before.before (cursor_of c.loop-before.unread) _ (omega (arith, bytes_left (cursor_of c.loop-before.unread) more)) c.in_ok-head.ensures.exact

pub loop-before-preserved : goal.loop-before-preserved
loop-before-preserved c =
    let more = sym c.is_at_block.ensures ∙ c.loop-before-test.true in
    let s = cursor_of c.loop-before.unread in
    let on = stored_goes_on c.loop-before.invariant.same.0 c.loop-before.before c.loop-before.heads.items s _ _ c.loop-before.invariant.same.1.0 c.loop-before.invariant.same.1.1 more c.in_ok-head.ensures.exact in
    let pushed = c.in_ok-push.ensures.items in
    record {
      same = rw pushed on;
      promised = rw pushed (c.in_ok-head.ensures.owed.0 ∙ ap (λ (n : ℕ). n + payload_len c.in_ok-head.head) c.loop-before.invariant.promised ∙ sym (sum_by_push payload_len c.loop-before.heads.items c.in_ok-head.head));
      few = omega (arith, c.in_ok-head.ensures.ids);
      owed_fits = omega (arith, c.in_ok-head.ensures.ids, c.in_ok-head.ensures.owed, c.loop-before.invariant.owed_fits);
    }

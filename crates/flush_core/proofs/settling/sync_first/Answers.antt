-- One sync behind another.
use Rattle.std.proofs.Common.{◌+◌, ◌-◌, ◌≡◌, ◌++◌, ◌∷◌, [], ℕ, ap, ◌∙◌, arith}
use Rattle.std.specs.List.{range_with_len}
use Rattle.segment_disk.proofs.Presence.{on_err}
use Rattle.flush_core.proofs.SettleCalls.{range_around, range_more, syncs_more, syncs_stop}
use Rattle.flush_core.proofs.settling.sync_first.Goals as goal

pub returns-in_err-sync-clause-err : goal.returns-in_err-sync-clause-err
returns-in_err-sync-clause-err g c =
    let n = c.loop-before.before in
    let next : n + 1 ≡ 1 + n = omega arith in
    let around : range_with_len 1 c.args.count ≡ range_with_len 1 n ++ (n + 1) ∷ range_with_len (1 + n + 1) (c.args.count - n - 1) =
    range_around 1 c.args.count n (omega arith) ∙ ap (λ (x : ℕ). range_with_len 1 n ++ x ∷ range_with_len (1 + n + 1) (c.args.count - n - 1)) (omega arith) in
    on_err c.from_residual.result _
    (syncs_stop c.args.geometry _ _ _ _ _ _ (range_with_len 1 n) (n + 1) c.loop-before.invariant.made (range_with_len 1 c.args.count) _ around c.in_err-sync.ensures.answers)

pub loop-before-preserved : goal.loop-before-preserved
loop-before-preserved g c =
    let n = c.loop-before.before in
    let more : range_with_len 1 (n + 1) ≡ range_with_len 1 n ++ (n + 1) ∷ [] = range_more 1 n ∙ ap (λ (x : ℕ). range_with_len 1 n ++ x ∷ []) (omega arith) in record {
      made = syncs_more c.args.geometry _ _ _ _ _ _ (range_with_len 1 n) (n + 1) c.loop-before.invariant.made (range_with_len 1 (n + 1)) more c.in_ok-sync.ensures.answers;
      counted = omega (arith, c.loop-before.invariant.counted, c.in_ok-sync.ensures.answers.moment);
      faults = c.in_ok-sync.ensures.cause ∙ c.loop-before.invariant.faults;
    }

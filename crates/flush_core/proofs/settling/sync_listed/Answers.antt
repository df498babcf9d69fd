-- One sync behind another.
use Rattle.std.proofs.Common.{◌+◌, ◌≡◌, ◌++◌, ◌∷◌, ℕ, List, take, drop, get_or, ap, sym, ◌∙◌, arith}
use Rattle.std.proofs.lemmas.List.{drop_more, take-append-drop, take_more}
use Rattle.segment_disk.proofs.Presence.{on_err}
use Rattle.flush_core.proofs.SettleCalls.{syncs_more, syncs_stop}
use Rattle.flush_core.proofs.settling.sync_listed.Goals as goal

pub returns-in_err-sync-clause-err : goal.returns-in_err-sync-clause-err
returns-in_err-sync-clause-err g c =
    let i = c.loop-segment.segment-index in
    let xs = c.args.segments.now in
    let around : xs ≡ take i xs ++ get_or xs i 0 ∷ drop (i + 1) xs = sym (take-append-drop i xs) ∙ ap (λ (l : List ℕ). take i xs ++ l) (drop_more xs i 0 (omega arith)) in
    on_err c.from_residual.result _
    (syncs_stop c.args.geometry _ _ _ _ _ _ (take i xs) (get_or xs i 0) c.loop-segment.invariant.made xs (drop (i + 1) xs) around c.in_err-sync.ensures.answers)

pub loop-segment-preserved : goal.loop-segment-preserved
loop-segment-preserved g c =
    let i = c.loop-segment.segment-index in
    let xs = c.args.segments.now in
    record {
      made = syncs_more c.args.geometry _ _ _ _ _ _ (take i xs) (get_or xs i 0) c.loop-segment.invariant.made (take (i + 1) xs) (take_more xs i 0 (omega arith)) c.in_ok-sync.ensures.answers;
      counted = omega (arith, c.loop-segment.invariant.counted, c.in_ok-sync.ensures.answers.moment);
      faults = c.in_ok-sync.ensures.cause ∙ c.loop-segment.invariant.faults;
    }

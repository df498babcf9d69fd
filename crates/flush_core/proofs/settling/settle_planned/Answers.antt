-- The three groups of calls, one behind another.
use Rattle.std.proofs.Common.{arith}
use Rattle.segment_disk.proofs.Presence.{on_err}
use Rattle.flush_core.proofs.SettleEnds.{on_err_then, on_ok_then}
use Rattle.flush_core.proofs.SettleGroups.{listed_behind, makes_all, pages_made, pages_stopped, pages_to_clear, stops_at_clears, stops_at_last, stops_at_syncs}
use Rattle.flush_core.proofs.settling.settle_planned.Goals as goal

pub returns-in_err-sync_first-clause-err : goal.returns-in_err-sync_first-clause-err
returns-in_err-sync_first-clause-err g c = λ end planned. on_err c.from_residual.result _ (stops_at_syncs c.args.geometry end c.args.count _ _ _ _ c.in_err-sync_first.ensures.err)

pub returns-in_err-clear_pages-clause-err : goal.returns-in_err-clear_pages-clause-err
returns-in_err-clear_pages-clause-err g c = λ end planned.
    let size = c.args.geometry in
    let count = c.args.count in
    let first = c.in_ok-sync_first.ensures.ok in
    let pages = c.args.pages.now in
    let to_clear = pages_to_clear size end count _ _ _ _ first pages planned.cleared in
    on_err c.from_residual-in_err-clear_pages.result _
    (stops_at_clears size end count _ _ _ _ first _ _ (pages_stopped size end count _ _ _ _ first pages planned.cleared _ _ (c.in_err-clear_pages.ensures.err to_clear)))

pub returns-clause-ok : goal.returns-clause-ok
returns-clause-ok g c = λ end planned.
    let size = c.args.geometry in
    let count = c.args.count in
    let first = c.in_ok-sync_first.ensures.ok in
    let pages = c.args.pages.now in
    let to_clear = pages_to_clear size end count _ _ _ _ first pages planned.cleared in
    let second = pages_made size end count _ _ _ _ first pages planned.cleared _ _ (c.in_ok-clear_pages.ensures.ok to_clear) in
    let listed = listed_behind size end count _ _ _ _ first c.args.segments.now planned.synced in
    on_ok_then c.sync_listed.result _ _ (λ made. makes_all size end count _ _ _ _ first _ _ second c.args.segments.now listed _ _ made) c.sync_listed.ensures.ok

pub returns-clause-err : goal.returns-clause-err
returns-clause-err g c = λ end planned.
    let size = c.args.geometry in
    let count = c.args.count in
    let first = c.in_ok-sync_first.ensures.ok in
    let pages = c.args.pages.now in
    let to_clear = pages_to_clear size end count _ _ _ _ first pages planned.cleared in
    let second = pages_made size end count _ _ _ _ first pages planned.cleared _ _ (c.in_ok-clear_pages.ensures.ok to_clear) in
    let listed = listed_behind size end count _ _ _ _ first c.args.segments.now planned.synced in
    on_err_then c.sync_listed.result _ _ (λ stops. stops_at_last size end count _ _ _ _ first _ _ second c.args.segments.now listed _ _ stops) c.sync_listed.ensures.err

pub returns-clause-counted : goal.returns-clause-counted
returns-clause-counted g c = on_ok_then c.sync_listed.result _ _ (λ here. omega (arith, here, c.in_ok-clear_pages.ensures.counted, c.in_ok-sync_first.ensures.counted)) c.sync_listed.ensures.counted

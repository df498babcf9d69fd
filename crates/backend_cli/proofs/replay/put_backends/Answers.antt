use Rattle.std.proofs.Common.{◌≡◌, refl, length, subst, sym, ℕ, ◌<◌, drop, [], arith, ap}
use Rattle.std.proofs.lemmas.List.{length-map, drop_all}
use Rattle.std.proofs.lemmas.Result.{err_from_is_err_and}
use Rattle.waldump_text.proofs.SinkLaws.{HasPut-none, HasPut-more, HasPut-all, Puts-failed}
use Rattle.backend_cli.proofs.BackendLines.{lines_next}
use Rattle.backend_cli.specs.Replaying.{backend_lines}
use Rattle.backend_cli.proofs.replay.put_backends.Goals as goal

pub loop-number-init : goal.loop-number-init
loop-number-init g c = λ m k. HasPut-none _ _ _

pub bounds-line_counts-number : goal.bounds-line_counts-number
bounds-line_counts-number g c =
    let m = c.requires.counted.0 in
    let k = c.requires.counted.1 in
    let all = c.backends-number-end.ensures.machine m k.plays in
    omega (arith, c.loop-number-test.true, all, ap length k.counts, length-map m.backends (λ b. length b.asks))

pub returns-in_err-put_backend : goal.returns-in_err-put_backend
returns-in_err-put_backend g c = λ m k.
    let low : c.loop-number.number < length m.backends = omega (arith, c.loop-number-test.true, c.backends-number-end.ensures.machine m k.plays) in
    let p = err_from_is_err_and c.from_residual.result c.from_residual.ensures.1 in
    let split = lines_next c.args.core.now c.args.line_counts.now m k c.loop-number.number c.answered.result _ low (λ b there. c.answered.ensures m b k.plays there) refl in
    rw (p.1, p.2) (Puts-failed _ _ _ (c.loop-number.invariant m k) split c.in_err-put_backend.ensures)

pub loop-number-preserved : goal.loop-number-preserved
loop-number-preserved g c = λ m k.
    let low : c.loop-number.number < length m.backends = omega (arith, c.loop-number-test.true, c.backends-number-end.ensures.machine m k.plays) in
    let took = c.in_ok-put_backend.ensures in
    let split = lines_next c.args.core.now c.args.line_counts.now m k c.loop-number.number c.answered.result _ low (λ b there. c.answered.ensures m b k.plays there) refl in
    HasPut-more _ _ (c.loop-number.invariant m k) split took.0 took.1

pub returns : goal.returns
returns g c = λ m k.
    let put = c.loop-number.invariant m k in
    let all : c.loop-number.number ≡ length m.backends = omega (arith, c.loop-number-test.false, c.loop-number.auto.number-end, c.backends-number-end.ensures.machine m k.plays) in
    let none = subst (λ (n : ℕ). backend_lines n (drop n m.backends) ≡ []) (sym all) (ap (backend_lines (length m.backends)) (drop_all (length m.backends) m.backends (omega arith))) in
    (HasPut-all put none, put.faults)

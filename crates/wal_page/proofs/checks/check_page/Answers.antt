use Rattle.std.proofs.Common.{◌≡◌, true, sym, ◌∙◌, arith}
use Rattle.std.proofs.lemmas.Bool.{eq-eqb, le-ltb}
use Rattle.std.proofs.lemmas.Result.{err_from_is_err_and}
use Rattle.wal_page.specs.Page.{is_first_page, is_long}
use Rattle.wal_page.proofs.PageRows.{long_header_faulted}
use Rattle.wal_page.proofs.checks.check_page.Goals as goal
use Rattle.wal_page.proofs.checks.check_page.Goals.{else-not-is_first-via-then-not-is_first+else-is_long, else-not-is_first-via-else-not-is_first}

pub returns-in_err-check_long_header-clause-which :
    goal.returns-in_err-check_long_header-clause-which
returns-in_err-check_long_header-clause-which c =
    let exit = err_from_is_err_and c.from_residual.result c.from_residual.ensures.1 in
    let long : is_long c.args.bytes.now ≡ true = grind (arith, c.is_long-is_long.ensures, c.if-is_long-2.true, c.u16_at.ensures) in
    let first : is_first_page c.args.geometry c.args.page ≡ true =
    elim c.else-not-is_first.branch [ else-not-is_first-via-then-not-is_first+else-is_long w ↦ grind (arith, w.if-is_long, c.if-is_long-2.true) | else-not-is_first-via-else-not-is_first w ↦ grind (arith, w.if-not-is_first) ] in
    rw (exit.1, exit.2) (long_header_faulted c.args.geometry c.args.page c.args.bytes.now c.args.last_timeline _
    (eq-eqb _ _ (sym c.u16_at-magic.ensures ∙ c.if-magic.false))
    (rw (← c.u16_at.ensures) (le-ltb 15 _ c.if-header-gt-ALL_FLAGS.false))
    first long c.in_err-check_long_header.ensures)

use Rattle.std.proofs.Common.{◌≡◌, ℕ, List, Option, None, sym, subst, arith, ◌∙◌}
use Rattle.std.proofs.lemmas.Grind.{common_steps}
use Rattle.std.proofs.lemmas.Result.{err_from_is_err_and}
use Rattle.run_script.specs.Hexadecimal.{bytes_of}
use Rattle.run_script.proofs.Pairs.{behind, behind-none, behind-push, none_left, one_left}
use Rattle.run_script.proofs.hexadecimal.put_bytes.Goals as goal

pub loop-rest-preserved : goal.loop-rest-preserved
loop-rest-preserved c = grind (arith, common_steps, behind-push)

pub returns-in_err-ok_or : goal.returns-in_err-ok_or
returns-in_err-ok_or c =
    let front = c.args.bytes.now.items in
    let bytes = c.loop-rest.bytes.items in
    let all = bytes_of c.args.digits.now in
    let none : bytes_of c.loop-rest.rest.now ≡ None = grind (arith, common_steps) in
    let fails = behind-none front bytes all (subst (λ (left : Option (List ℕ)). behind bytes left ≡ behind front all) none c.loop-rest.invariant) in
    let exit = err_from_is_err_and c.from_residual-in_err-ok_or.result c.from_residual-in_err-ok_or.ensures.1 in
    rw (exit.1, exit.2) (grind (arith, common_steps, fails))

pub returns-then-is_empty : goal.returns-then-is_empty
returns-then-is_empty c = none_left c.args.bytes.now.items c.loop-rest.bytes.items c.loop-rest.rest.now c.args.digits.now (sym c.is_empty.ensures ∙ c.if-is_empty.true) c.loop-rest.invariant

pub returns-else-is_empty : goal.returns-else-is_empty
returns-else-is_empty c = one_left c.args.bytes.now.items c.loop-rest.bytes.items c.loop-rest.rest.now c.args.digits.now (sym c.is_empty.ensures ∙ c.if-is_empty.false) c.in_default.len_below c.loop-rest.invariant

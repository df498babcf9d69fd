use Rattle.std.proofs.Common.{refl}
use Rattle.std.proofs.lemmas.Result.{err_from_is_err_and}
use Rattle.waldump_text.specs.Names.{hexadecimal}
use Rattle.waldump_text.proofs.SinkLaws.{HasPut-none, Puts-failed}
use Rattle.waldump_text.proofs.lines.put_digits.Goals as goal

pub returns-in_err-make_room : goal.returns-in_err-make_room
returns-in_err-make_room g c =
    let p = err_from_is_err_and c.from_residual.result c.from_residual.ensures.1 in
    rw (p.1, p.2) (Puts-failed _ (hexadecimal c.args.bytes.now) _ (HasPut-none _ _ _) refl c.in_err-make_room.ensures.put)

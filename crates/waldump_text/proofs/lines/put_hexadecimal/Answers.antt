use Rattle.std.proofs.Common.{◌≡◌, ℕ, List, ◌++◌, ap, sym, ◌∙◌, append_assoc}
use Rattle.std.proofs.lemmas.Result.{err_from_is_err_and}
use Rattle.waldump_text.specs.Names.{hexadecimal}
use Rattle.waldump_text.proofs.HexadecimalLaws.{hexadecimal-append}
use Rattle.waldump_text.proofs.SinkLaws.{HasPut-further, Puts-failed}
use Rattle.waldump_text.proofs.lines.put_hexadecimal.Goals as goal

-- what is held back, a part and the rest behind it
cut : (held bytes part rest : List ℕ) → bytes ≡ part ++ rest → held ++ hexadecimal bytes ≡ (held ++ hexadecimal part) ++ hexadecimal rest
cut held bytes part rest split = ap (λ b. held ++ hexadecimal b) split ∙ ap (λ text. held ++ text) (hexadecimal-append part rest) ∙ sym (append_assoc held (hexadecimal part) (hexadecimal rest))

pub loop-part-preserved : goal.loop-part-preserved
loop-part-preserved g c =
    let steps = c.in-Some.ensures.steps in
    (steps.0 ∙ c.loop-part.invariant.0, HasPut-further {text = c.args.buffer.now ++ hexadecimal c.args.bytes.now} _ _ c.loop-part.invariant.1 (cut c.loop-part.buffer _ _ _ steps.1.0) c.in_ok-put_digits.ensures)

pub returns-in_err-put_digits : goal.returns-in_err-put_digits
returns-in_err-put_digits g c =
    let steps = c.in-Some.ensures.steps in
    let p = err_from_is_err_and c.from_residual.result c.from_residual.ensures.1 in
    rw (p.1, p.2) (Puts-failed {text = c.args.buffer.now ++ hexadecimal c.args.bytes.now} _ _ _ c.loop-part.invariant.1 (cut c.loop-part.buffer _ _ _ steps.1.0) c.in_err-put_digits.ensures)

use Rattle.std.proofs.Common.{sym, ◌∙◌, take, drop}
use Rattle.std.proofs.lemmas.List.{take-append-drop, take_rest}
use Rattle.waldump_text.proofs.SinkLaws.{HasPut-more, HasPut-front}
use Rattle.waldump_text.proofs.putting.put.Goals as goal

pub loop-rest-preserved : goal.loop-rest-preserved
loop-rest-preserved g c =
    let rest = c.loop-rest.rest.now in
    rw take_rest (HasPut-more (take c.in-Ok.count rest) (drop c.in-Ok.count rest) c.loop-rest.invariant (sym (take-append-drop c.in-Ok.count rest)) c.in-Ok.ensures.taken c.in-Ok.ensures.cause)

pub returns-in-Err : goal.returns-in-Err
returns-in-Err g c =
    let front = HasPut-front c.loop-rest.invariant in
    ((front.0, c.in-Err.ensures.failed ∙ front.1), rw c.loop-rest.invariant.faults at c.in-Err.ensures.cause, c.faults.ensures)

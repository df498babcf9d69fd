use Rattle.std.proofs.Common.{◌≡◌, ℕ, List, ◌++◌, map, ap, sym, ◌∙◌}
use Rattle.std.proofs.lemmas.Result.{err_from_is_err_and}
use Rattle.waldump_text.specs.Put.{joined}
use Rattle.waldump_text.proofs.SinkLaws.{HasPut-more, Puts-failed}
use Rattle.cluster_listing.proofs.tail.put_lines.Goals as goal
use Rattle.cluster_listing.proofs.tail.put_lines.Goals.{In-Some}

-- what is put is the first of what is left
split : (g : _) (c : In-Some g) → joined (map (λ l. l.items) c.loop-line.lines.items) ≡ c.in-Some.line.items ++ joined (map (λ l. l.items) c.pop_front.new.self.items)
split g c = ap (λ lines. joined (map (λ l. l.items) lines)) c.in-Some.ensures.items

pub loop-line-preserved : goal.loop-line-preserved
loop-line-preserved g c =
    let rest = joined (map (λ l. l.items) c.pop_front.new.self.items) in
    let parts = split g ((goal.at.loop-line-preserved g c).In-Some) ∙ ap (λ (piece : List ℕ). piece ++ rest) (sym c.deref.ensures.value) in
    HasPut-more c.deref.result.now rest c.loop-line.invariant parts c.in_ok-put.ensures.0 c.in_ok-put.ensures.1

pub returns-in_err-put : goal.returns-in_err-put
returns-in_err-put g c =
    let p = err_from_is_err_and c.from_residual.result c.from_residual.ensures.1 in
    let rest = joined (map (λ l. l.items) c.pop_front.new.self.items) in
    let parts = split g ((goal.at.returns-in_err-put g c).In-Some) ∙ ap (λ (piece : List ℕ). piece ++ rest) (sym c.deref.ensures.value) in
    rw (p.1, p.2) (Puts-failed c.deref.result.now rest _ c.loop-line.invariant parts c.in_err-put.ensures)

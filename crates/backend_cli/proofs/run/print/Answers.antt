-- The told lines are put, where they are asked for, and then the summary.
use Rattle.std.proofs.Common.{Bool, refl, sym, ap, subst, ◌∙◌}
use Rattle.std.proofs.lemmas.Result.{err_from_is_err_and}
use Rattle.waldump_text.specs.Put.{HasPut}
use Rattle.waldump_text.proofs.SinkLaws.{HasPut-none, HasPut-more, Puts-failed, Puts-last}
use Rattle.backend_cli.specs.Printing.{told_lines_upward, summary_line, printed_text}
use Rattle.backend_cli.proofs.run.print.Goals.{then-list+in_ok-put_told_lists, else-list}
use Rattle.backend_cli.proofs.run.print.Goals as goal

pub returns-in_err-put_told_lists : goal.returns-in_err-put_told_lists
returns-in_err-put_told_lists g c =
    let backends = c.args.backends.now in
    let summary = c.args.summary.now in
    let old = c.args.out.now in
    let p = err_from_is_err_and c.from_residual.result c.from_residual.ensures.1 in
    rw (p.1, p.2)
    (Puts-failed (told_lines_upward 0 backends) (summary_line summary) _ (HasPut-none (g.O.Sink.taken old) (g.O.Sink.faults old) (printed_text c.args.list backends summary))
    (ap (λ (list : Bool). printed_text list backends summary) c.if-list.true) c.in_err-put_told_lists.ensures)

pub returns : goal.returns
returns g c =
    let taken = g.O.Sink.taken in
    let faults = g.O.Sink.faults in
    let backends = c.args.backends.now in
    let summary = c.args.summary.now in
    let old = c.args.out.now in
    let text = printed_text c.args.list backends summary in
    let by_list = λ (list : Bool). printed_text list backends summary in
    let none = HasPut-none (taken old) (faults old) text in
    elim c.if-list.branch [
      | then-list+in_ok-put_told_lists w ↦
          (let took = w.in_ok-put_told_lists.ensures in
          let has_put : HasPut (taken old) (taken c.if-list.out) (faults old) (faults c.if-list.out) text (summary_line summary) =
          HasPut-more (told_lines_upward 0 backends) (summary_line summary) none (ap by_list w.if-list.true) (ap taken w.out-is ∙ took.0) (ap faults w.out-is ∙ took.1) in
          Puts-last (taken c.put.new.out) (faults c.put.new.out) (summary_line summary) c.put.result has_put refl c.put.ensures)
      | else-list w ↦
          (let has_put : HasPut (taken old) (taken c.if-list.out) (faults old) (faults c.if-list.out) text text = subst (λ out. HasPut (taken old) (taken out) (faults old) (faults out) text text) (sym w.out-is) none in
          Puts-last (taken c.put.new.out) (faults c.put.new.out) (summary_line summary) c.put.result has_put (ap by_list w.if-list.false) c.put.ensures)
    ]

use Rattle.std.proofs.Common.{◌≡◌, ℕ, List, [], ◌∷◌, ◌++◌, ap, ◌∙◌}
use Rattle.cluster_listing.specs.Form.{record_text}
use Rattle.cluster_listing.specs.Tail.{last_so_many}
use Rattle.cluster_listing.specs.declared.form.Form.{Form}
use Rattle.cluster_listing.proofs.TailLaws.{kept_more}
use Rattle.cluster_listing.proofs.tail.TailTakesRecords.take.Goals as goal

pub returns-clause-took : goal.returns-clause-took
returns-clause-took c = λ first before was.
    (let kept = c.args.self.now.lines.items in
    let line = c.push_record.new.line in
    let is = c.keep_last.ensures ∙ ap (last_so_many c.args.self.now.most) c.in_ok-push_back.ensures.items ∙ ap (λ (most : ℕ). last_so_many most (kept ++ line ∷ [])) was.most in
    let text : line.items ≡ record_text first.form c.args.r.now = c.in_ok-push_record.ensures ∙ ap (λ (t : List ℕ). t ++ record_text c.args.self.now.form c.args.r.now) c.new-line.ensures.items ∙ ap (λ (form : Form). record_text form c.args.r.now) was.form in
    record {
      form = was.form;
      most = was.most;
      lines = kept_more (λ l. l.items) first.form first.most first.lines.items kept c.keep_last.new.lines.items line before c.args.r.now is text was.lines;
    })

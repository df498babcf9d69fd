use Rattle.std.proofs.Common.{◌≡◌, ℕ, List, ◌++◌, take, ap, refl, subst, sym, ◌∙◌}
use Rattle.std.proofs.lemmas.Result.{err_from_is_err_and}
use Rattle.segment_disk.specs.Stream.{with_behind}
use Rattle.waldump_text.proofs.SinkLaws.{with_behind-nil}
use Rattle.cluster_listing.specs.Form.{record_text}
use Rattle.cluster_listing.specs.declared.form.Form.{Form}
use Rattle.cluster_listing.proofs.PrintingLaws.{put_front}
use Rattle.cluster_listing.proofs.printing.PrinterTakesRecords.take.Goals as goal

pub returns-in_err-push_record-clause-cut : goal.returns-in_err-push_record-clause-cut
returns-in_err-push_record-clause-cut g c =
    let p = err_from_is_err_and c.from_residual.result c.from_residual.ensures.1 in
    let mid = g.O.Sink.taken c.args.self.now.out in
    rw (p.1, p.2) (λ more first past took. (put_front first.form _ mid mid _ _ _ _ past c.args.r.now more took.1 (0, sym (with_behind-nil mid)) refl))

pub returns-in_err-put-clause-cut : goal.returns-in_err-put-clause-cut
returns-in_err-put-clause-cut g c =
    let p = err_from_is_err_and c.from_residual-in_err-put.result c.from_residual-in_err-put.ensures.1 in
    let failed = c.in_err-put.ensures in
    let mid = g.O.Sink.taken c.args.self.now.out in
    let new = g.O.Sink.taken c.put.new.out in
    let form = c.args.self.now.form in
    let text : c.deref.result.now ≡ record_text form c.args.r.now = c.deref.ensures.value ∙ c.in_ok-push_record.ensures ∙ ap (λ (t : List ℕ). t ++ record_text form c.args.r.now) c.clear.ensures.items in
    let front = subst (λ (t : List ℕ). (n : ℕ) × (new ≡ with_behind mid (take n t))) text failed.0 in
    rw (p.1, p.2) (λ more first past took.
    (put_front first.form _ mid new _ _ _ _ past c.args.r.now more took.1
    (subst (λ (form : Form). (n : ℕ) × (new ≡ with_behind mid (take n (record_text form c.args.r.now)))) took.0 front) (failed.1, failed.2)))

use Rattle.std.proofs.Common.{◌≡◌, ℕ, List, ◌++◌, codes, refl, ap, subst, ◌∙◌, append_assoc}
use Rattle.std.proofs.lemmas.Bool.{ne_eqb}
use Rattle.waldump_text.specs.Names.{manager_name}
use Rattle.waldump_text.specs.Put.{Puts, joined, padded_right}
use Rattle.waldump_text.specs.Statistics.{manager_line, sums_pieces}
use Rattle.waldump_text.proofs.statistics.put_manager.Goals as goal

pub returns : goal.returns
returns g c =
    let own = joined (sums_pieces c.args.sums) in
    let named : c.push_left_aligned.new.self ≡ codes "stats: rmgr " ++ padded_right 11 (manager_name c.args.rmid) =
    rw (c.push_left_aligned.ensures.text, c.push.ensures.text, c.new-buffer.ensures, c.as_bytes.ensures, c.manager_name.ensures.text) refl in
    let line : c.push_sums.new.buffer ≡ manager_line c.args.rmid c.args.sums =
    rw (ne_eqb c.args.sums.records 0 c.if-sums-eq0.false) (c.push_sums.ensures ∙ ap (λ (text : List ℕ). text ++ own) named ∙ append_assoc (codes "stats: rmgr ") (padded_right 11 (manager_name c.args.rmid)) own) in
    subst (λ (text : List ℕ). Puts (g.O.Sink.taken c.args.out.now) (g.O.Sink.taken c.flush.new.out) (g.O.Sink.faults c.args.out.now) (g.O.Sink.faults c.flush.new.out) text c.flush.result) line c.flush.ensures.put

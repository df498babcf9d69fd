use Rattle.std.proofs.Common.{◌≡◌, false, subst, sym, ◌∙◌}
use Rattle.wal_types.specs.declared.record.Record.{Record}
use Rattle.wal_record.specs.Headers.{headers_said}
use Rattle.waldump_filter.specs.Keeping.{meets_rules}
use Rattle.waldump_text.proofs.SiftingLaws.{met_by_heads, same_record}
use Rattle.waldump_text.proofs.sifting.SiftedKeepsRecord.keep.Goals as goal

pub invariant_of-self-2-clause-refuses : goal.invariant_of-self-2-clause-refuses
invariant_of-self-2-clause-refuses g c = λ is.
    (let filter = c.args.self.now.filter in
    let refused = met_by_heads filter c.args.bytes.now (headers_said c.args.heads.now c.args.headers) ∙ sym c.meets.ensures ∙ c.if-meets.false in
    subst (λ (r : Record). meets_rules filter r ≡ false) (same_record _ _ c.in_ok-keep.ensures) refused)

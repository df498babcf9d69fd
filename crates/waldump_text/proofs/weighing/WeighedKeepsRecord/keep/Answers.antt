use Rattle.std.proofs.Common.{ap, sym, ◌∙◌, arith}
use Rattle.wal_types.specs.declared.record.Record.{Record}
use Rattle.wal_record.specs.Headers.{headers_said}
use Rattle.wal_record.specs.Reading.{record_of}
use Rattle.waldump_filter.specs.Keeping.{meets_rules}
use Rattle.waldump_text.specs.Sums.{images_len}
use Rattle.waldump_text.proofs.SiftingLaws.{images_told, images_within, met_by_heads, same_record}
use Rattle.waldump_text.proofs.weighing.WeighedKeepsRecord.keep.Goals as goal

pub images_of-self-requires : goal.images_of-self-requires
images_of-self-requires g c = omega (arith, images_within c.args.heads.now, c.requires.promised, c.ranges.headers)

pub invariant_of-self-clause-met : goal.invariant_of-self-clause-met
invariant_of-self-clause-met g c =
    let filter = c.args.self.now.filter in
    let same = same_record (record_of c.args.bytes.now (headers_said c.args.heads.now c.args.headers)) c.keep.new.self.spelled c.in_ok-keep.ensures in
    c.meets-self.ensures ∙ sym (met_by_heads filter c.args.bytes.now (headers_said c.args.heads.now c.args.headers)) ∙ ap (meets_rules filter) same

pub invariant_of-self-clause-manager : goal.invariant_of-self-clause-manager
invariant_of-self-clause-manager g c =
    ap (λ (r : Record). r.rmid) (same_record (record_of c.args.bytes.now (headers_said c.args.heads.now c.args.headers)) c.keep.new.self.spelled c.in_ok-keep.ensures)

pub invariant_of-self-clause-imaged : goal.invariant_of-self-clause-imaged
invariant_of-self-clause-imaged g c =
    let same = same_record (record_of c.args.bytes.now (headers_said c.args.heads.now c.args.headers)) c.keep.new.self.spelled c.in_ok-keep.ensures in
    c.images_of-self.ensures ∙ sym (images_told c.args.heads.now c.args.headers.payload.now c.requires.promised) ∙ ap (λ (r : Record). images_len r.blocks) same

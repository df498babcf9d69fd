use Rattle.std.proofs.Common.{◌≡◌, ℕ, ◌+◌, ◌-◌, ◌*◌, length, ap, ◌∙◌, arith}
use Rattle.segment_disk.specs.DiskImage.{word_of}
use borrow.Rule.Slice.PartMut.{put_mid}
use Rattle.word_ring.proofs.PageBytes.{word_of-put_below}
use Rattle.word_ring.proofs.loading.put_word.Goals as goal

pub returns-clause-below : goal.returns-clause-below
returns-clause-below c m less =
    let n : ℕ = c.args.n in
    let eight : 8 * n + 8 - 8 * n ≡ 8 = omega arith in
    let long : length c.copy_from_slice.new.self ≡ 8 =
    ap length (c.copy_from_slice.ensures.after ∙ c.to_le_bytes.ensures) in
    ap (λ (count : ℕ). word_of (put_mid (8 * n) count c.args.bytes.now c.copy_from_slice.new.self) m)
    eight
    ∙ word_of-put_below n c.args.bytes.now c.copy_from_slice.new.self long (omega arith) m less

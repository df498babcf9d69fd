use Rattle.std.proofs.Common.{◌≡◌, ◌+◌, take, subst, refl, sym, ap, ◌∙◌, arith}
use Rattle.std.proofs.lemmas.List.{take_all, length-take-le}
use Rattle.std.proofs.lemmas.Simd.{length-put_chunk}
use Rattle.std.specs.Int.Bits.{bit_xor}
use lib.Lanes.{chunk}
use Rattle.wal_crc32c.specs.Folding.{remainder}
use Rattle.wal_crc32c.specs.SparseMultiple.{terms, over}
use Rattle.wal_crc32c.proofs.SparseMultiple.{all_left, none_left, sixteen_left}
use Rattle.wal_crc32c.proofs.sparse_multiple.left_of.Goals as goal

pub loop-at-init : goal.loop-at-init
loop-at-init c =
    (omega arith, refl, refl, sym (ap (bit_xor 0) (none_left c.clear.new.room)))

pub loop-at-preserved : goal.loop-at-preserved
loop-at-preserved c =
    let so_far = c.loop-at.invariant in
    let at = c.loop-at.at in
    let room = c.clear.new.room in
    let put = c.put_upon.ensures ∙ ap (λ l. bit_xor (remainder l) (over terms (λ k. remainder (chunk (at + k) 16 room)))) c.vector_at.ensures in
    rw c.store.ensures.stored
    (c.loop-at-test.true, omega (arith, so_far.1), length-put_chunk at c.loop-at.left c.put_upon.result ∙ so_far.2, sixteen_left at c.loop-at.left c.args.last.now room c.put_upon.result (omega (arith, c.told-last)) (omega arith) (omega (arith, c.clear.array_long)) c.store.ensures.lanes.0 put so_far.3)

pub returns : goal.returns
returns c = λ r stands.
    let so_far = c.loop-at.invariant in
    let left = c.loop-at.left in
    let last = c.args.last.now in
    let room = c.clear.new.room in
    let ended : c.loop-at.at ≡ 224 = omega (arith, so_far.0, so_far.1) in
    let all : remainder (take 224 left) ≡ bit_xor (remainder (take 224 last)) (over terms (λ k. remainder (chunk k 224 room))) =
    subst (λ n. remainder (take n left) ≡ bit_xor (remainder (take n last)) (over terms (λ k. remainder (chunk k n room)))) ended so_far.3 in
    let whole : remainder left ≡ bit_xor (remainder last) (over terms (λ k. remainder (chunk k 224 room))) =
    ap remainder (sym (take_all 224 left (omega (arith, so_far.2))))
    ∙ all
    ∙ ap (λ l. bit_xor (remainder l) (over terms (λ k. remainder (chunk k 224 room)))) (take_all 224 last (omega (arith, c.told-last))) in
    all_left r (take 209 c.args.room.now) room last left (length-take-le 209 c.args.room.now (omega (arith, c.told-room))) c.told-last c.clear.ensures whole stands

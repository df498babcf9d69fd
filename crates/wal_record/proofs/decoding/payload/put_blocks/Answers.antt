use Rattle.wal_record.proofs.Payload.{one_more}
use Rattle.wal_record.specs.Reading.{blocks_read, main_of}
use Rattle.wal_record.proofs.decoding.payload.put_blocks.Goals as goal

pub loop-head-preserved : goal.loop-head-preserved
loop-head-preserved c =
    let kept = c.loop-head.invariant in
    let whole = blocks_read c.args.heads.now c.args.payload.now in
    let last = main_of c.args.heads.now c.args.payload.now in
    let more = one_more whole last c.args.heads.now c.loop-head.head-index _ _ c.push.new.self c.loop-head.rest.now _ c.split_at.result.1.now c.payload_len.result _ c.loop-head-test.true (record { long = kept.long; so_far = kept.so_far; main = kept.main })
    c.payload_len.ensures.length c.split_at.ensures.front c.split_at.ensures.back c.in_ok-block_of.ensures c.in_ok-push.ensures in
    record { long = more.long; so_far = more.so_far; main = more.main }

use Rattle.std.proofs.Common.{◌+◌, ◌<◌, List, Err, length, drop, take, subst, sym, ◌∙◌, arith}
use Rattle.std.proofs.lemmas.Result.{err_from_is_err_and}
use Rattle.wal_redo.specs.Calls.{CallsAll, CallsPuts}
use Rattle.wal_redo.specs.Redo.{PutsAll, PutsSome}
use Rattle.wal_redo.specs.Images.{put_of, puts_of}
use Rattle.wal_redo.proofs.ListedImages.{puts_of-at, puts_of-more}
use Rattle.wal_redo.proofs.CallLaws.{CallsAll-more, CallsPuts-more}
use Rattle.wal_redo.proofs.PutLaws.{PutsAll-more, PutsSome-more}
use Rattle.wal_redo.specs.BlockMap.{PagePut}
use Rattle.wal_redo.specs.declared.block_id.BlockId.{BlockId}
use Rattle.wal_redo.proofs.page_images.put_images.Goals as goal

pub returns-in_err-count-clause-puts : goal.returns-in_err-count-clause-puts
returns-in_err-count-clause-puts g c =
    let p = err_from_is_err_and c.from_residual.result c.from_residual.ensures.1 in
    let i = c.loop-reference.reference-index in
    let refs = c.args.references.now in
    let within : i < length refs = omega arith in
    let cut = subst (λ (block : BlockId). PutsSome (g.B.Blocks.pages c.loop-reference.blocks) (g.B.Blocks.pages c.put_image.new.blocks) (put_of block c.reference-item.result.image)) c.of.ensures c.in_err-count.ensures.puts in
    let whole = puts_of-at refs i c.reference-item.result within c.reference-item.is in
    rw p.1 (subst (PutsSome (g.B.Blocks.pages c.args.blocks.now) (g.B.Blocks.pages c.put_image.new.blocks)) (sym whole) (PutsSome-more c.loop-reference.invariant.puts cut (puts_of (drop (i + 1) refs))))

pub returns-in_err-count-clause-called : goal.returns-in_err-count-clause-called
returns-in_err-count-clause-called g c =
    let p = err_from_is_err_and c.from_residual.result c.from_residual.ensures.1 in
    let i = c.loop-reference.reference-index in
    let refs = c.args.references.now in
    let within : i < length refs = omega arith in
    let e = c.in_err-count.field-0.0 in
    let cut = subst (λ (block : BlockId). CallsPuts (g.B.Blocks.calls c.loop-reference.blocks) (g.B.Blocks.calls c.put_image.new.blocks) (put_of block c.reference-item.result.image) (Err e)) c.of.ensures c.in_err-count.ensures.called in
    let whole = puts_of-at refs i c.reference-item.result within c.reference-item.is in
    rw (p.1, p.2) (subst (λ (puts : List PagePut). CallsPuts (g.B.Blocks.calls c.args.blocks.now) (g.B.Blocks.calls c.put_image.new.blocks) puts (Err e)) (sym whole) (CallsPuts-more _ _ _ (puts_of (take i refs)) _ e c.loop-reference.invariant.called cut (puts_of (drop (i + 1) refs))))

pub loop-reference-preserved : goal.loop-reference-preserved
loop-reference-preserved g c =
    let i = c.loop-reference.reference-index in
    let refs = c.args.references.now in
    let before = c.loop-reference.invariant in
    let within : i < length refs = omega arith in
    let made = subst (λ (block : BlockId). PutsAll (g.B.Blocks.pages c.loop-reference.blocks) (g.B.Blocks.pages c.put_image.new.blocks) (put_of block c.reference-item.result.image) c.in_ok-count.field-0) c.of.ensures c.in_ok-count.ensures.puts in
    let called = subst (λ (block : BlockId). CallsAll (g.B.Blocks.calls c.loop-reference.blocks) (g.B.Blocks.calls c.put_image.new.blocks) (put_of block c.reference-item.result.image)) c.of.ensures c.in_ok-count.ensures.called in
    let more = puts_of-more refs i c.reference-item.result within c.reference-item.is in
    record {
      puts = subst (λ (puts : List PagePut). PutsAll (g.B.Blocks.pages c.args.blocks.now) (g.B.Blocks.pages c.put_image.new.blocks) puts (c.loop-reference.count + c.in_ok-count.field-0)) (sym more) (PutsAll-more before.puts made);
      called = subst (λ (puts : List PagePut). CallsAll (g.B.Blocks.calls c.args.blocks.now) (g.B.Blocks.calls c.put_image.new.blocks) puts) (sym more) (CallsAll-more _ _ _ (puts_of (take i refs)) _ before.called called);
      few = omega (arith, before.few, c.in_ok-count.ensures.few);
      faults = c.in_ok-count.ensures.cause ∙ before.faults;
      never = λ sure. (c.in_ok-count.ensures.never (before.never sure)).1;
    }

use Rattle.pgwal_c.proofs.appending.append_whole.Goals as goal

-- src/appending.rt:21:5
pub loop-preserved : goal.loop-preserved
loop-preserved c =
    let going = rw c.in-Going.is at c.loop.invariant in
    c.go_on-answer.ensures c.args.body.now c.args.session going

use Rattle.wal_rule.specs.SeatedPasses.{view_of}
use Rattle.wal_log.proofs.AddingNothing.{went_down}
use Rattle.wal_log.proofs.Keeping.{sets_down}
use Rattle.wal_log.proofs.writing.write_known.Goals as goal

pub returns-in-Err-clause-ends : goal.returns-in-Err-clause-ends
returns-in-Err-clause-ends g c =
    let down = sets_down (view_of c.write_pages.new.seated) (view_of c.go_down.new.seated)
    c.in-Err.fault.faults c.go_down.ensures.down in
    (down.0, record { idle = down.1; empty = c.go_down.ensures.empty })

pub returns-in-Err-clause-adds_nothing : goal.returns-in-Err-clause-adds_nothing
returns-in-Err-clause-adds_nothing g c =
    went_down c.args.seated.now c.write_pages.new.seated c.go_down.new.seated
    c.in-Err.fault.faults c.write_pages.ensures.adds_nothing c.in-Err.ensures.ends.up
    c.go_down.ensures.same_table c.go_down.ensures.down

use Rattle.insert_locks.specs.Holding.{lock_run}
use Rattle.wal_log.proofs.SwitchLaws.{may_tell_seen, seen_told}
use Rattle.wal_log.proofs.switching.tell_seen.Goals as goal

pub advance_below-requires-clause-may : goal.advance_below-requires-clause-may
advance_below-requires-clause-may g c =
    let sees = c.see_reserved-end.ensures in
    may_tell_seen c.args.seated.now c.see_reserved-end.new.seated c.args.count
    c.see_reserved-end.result sees.view c.requires.has sees.end sees.whole

pub returns-then-count-gt0-clause-told : goal.returns-then-count-gt0-clause-told
returns-then-count-gt0-clause-told g c = λ some.
    seen_told c.args.seated.now c.see_reserved-end.new.seated c.advance_below.new.seated
    (lock_run 0 c.args.count) c.see_reserved-end.result c.see_reserved-end.ensures.view
    c.see_reserved-end.ensures.end c.advance_below.ensures.told

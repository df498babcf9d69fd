use Rattle.client_tests.proofs.embedded.told_once_the_host_has_made_it.Goals as goal

pub close-requires-clause-sole : goal.close-requires-clause-sole
close-requires-clause-sole g c =
    let kept = c.first_sessions_are_sole.ensures.kept in
    let opened = c.first_sessions_are_sole.ensures.opened _ c.in-Ok.session
    c.in-Ok.ensures.opened.opens in
    kept _ _ c.flush-3.ensures.goes_on (kept _ _ c.flush-2.ensures.goes_on
    (kept _ _ c.flush.ensures.goes_on (kept _ _ c.in-Reserved.ensures.1 opened)))

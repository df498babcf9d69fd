use Rattle.std.specs.Prelude.{Err}
use Rattle.std.proofs.Common.{ℕ, ap, arith}
use Rattle.machine_state.specs.Views.{View}
use Rattle.wal_rule.specs.SeatedPasses.{view_of}
use Rattle.wal_log.specs.Standing.{ComesToRest}
use Rattle.wal_log.proofs.BehindLaws.{down_rests, finds_nothing, has_target, not_known, same_log, sight_rests, sight_up}
use Rattle.wal_log.proofs.Keeping.{none_loaded}
use Rattle.wal_log.proofs.Seated.{view_is}
use Rattle.wal_log.proofs.behind.take_aim.Given.{Over}
use Rattle.wal_log.proofs.behind.take_aim.Goals as goal
use Rattle.wal_log.proofs.behind.take_aim.Goals.{After-see_target-flushed}

pub returns-then-faults-ne0-clause-known : goal.returns-then-faults-ne0-clause-known
returns-then-faults-ne0-clause-known g c = λ faults knows.
    ap (λ (n : ℕ). Err n) (c.load_down-faults.ensures.known faults knows)

pub returns-then-faults-ne0-clause-rests : goal.returns-then-faults-ne0-clause-rests
returns-then-faults-ne0-clause-rests g c =
    down_rests c.args.seated.now c.load_down-faults.new.self c.load_down-faults.new.self
    c.load_down-faults.result 0 0 c.load_down-faults.ensures.steps
    c.load_down-faults.ensures.known c.requires.rests

-- ---- the disk was up

module _ (g : Over) (c : After-see_target-flushed g) where
  seen_so : ComesToRest c.args.seated.now c.see_target-flushed.new.seated
  seen_so = sight_rests c.args.seated.now c.load_down-faults.new.self
      c.see_target-flushed.new.seated c.load_down-faults.result c.see_target-flushed.result.0
      c.see_target-flushed.result.1 c.load_down-faults.ensures.steps
      c.load_down-faults.ensures.known c.requires.rests c.see_target-flushed.ensures.sees
      c.see_target-flushed.ensures.stays

pub returns-then-target-flushed-clause-aims : goal.returns-then-target-flushed-clause-aims
returns-then-target-flushed-clause-aims g c =
    let old : View = view_of c.args.seated.now in
    let down : View = view_of c.load_down-faults.new.self in
    let by_down = view_is c.load_down-faults.ensures.steps in
    let met = c.load_down-faults.ensures.met in
    let sees = c.see_target-flushed.ensures.sees in
    finds_nothing old down (view_of c.see_target-flushed.new.seated) c.load_down-faults.result
    c.see_target-flushed.result.0 c.see_target-flushed.result.1 by_down met
    c.if-faults-ne0.false sees (omega (arith, c.if-target-flushed.true))
    (sight_up c.see_target-flushed.result.0 c.see_target-flushed.result.1 down
    (view_of c.see_target-flushed.new.seated) sees
    (none_loaded old c.load_down-faults.result down by_down c.load_down-faults.ensures.known
    c.if-faults-ne0.false))

pub returns-then-target-flushed-clause-known : goal.returns-then-target-flushed-clause-known
returns-then-target-flushed-clause-known g c = λ faults knows. absurd
    (not_known (view_of c.args.seated.now) c.load_down-faults.result faults knows
    (c.load_down-faults.ensures.known faults knows) c.if-faults-ne0.false)

pub returns-then-target-flushed-clause-log : goal.returns-then-target-flushed-clause-log
returns-then-target-flushed-clause-log g c =
    same_log (view_of c.args.seated.now) (view_of c.load_down-faults.new.self)
    (view_of c.see_target-flushed.new.seated) c.load_down-faults.result
    c.see_target-flushed.result.0 c.see_target-flushed.result.1
    (view_is c.load_down-faults.ensures.steps) c.load_down-faults.ensures.met
    c.if-faults-ne0.false c.see_target-flushed.ensures.sees

pub returns-then-target-flushed-clause-rests : goal.returns-then-target-flushed-clause-rests
returns-then-target-flushed-clause-rests g c =
    seen_so g (goal.at.returns-then-target-flushed-clause-rests g c).After-see_target-flushed

pub returns-clause-aims : goal.returns-clause-aims
returns-clause-aims g c =
    has_target (view_of c.args.seated.now) (view_of c.load_down-faults.new.self)
    (view_of c.see_target-flushed.new.seated) c.load_down-faults.result
    c.see_target-flushed.result.0 c.see_target-flushed.result.1
    (view_is c.load_down-faults.ensures.steps) c.load_down-faults.ensures.met
    c.if-faults-ne0.false c.see_target-flushed.ensures.sees
    (omega (arith, c.if-target-flushed.false))

pub returns-clause-known : goal.returns-clause-known
returns-clause-known g c = λ faults knows. absurd
    (not_known (view_of c.args.seated.now) c.load_down-faults.result faults knows
    (c.load_down-faults.ensures.known faults knows) c.if-faults-ne0.false)

pub returns-clause-log : goal.returns-clause-log
returns-clause-log g c =
    same_log (view_of c.args.seated.now) (view_of c.load_down-faults.new.self)
    (view_of c.see_target-flushed.new.seated) c.load_down-faults.result
    c.see_target-flushed.result.0 c.see_target-flushed.result.1
    (view_is c.load_down-faults.ensures.steps) c.load_down-faults.ensures.met
    c.if-faults-ne0.false c.see_target-flushed.ensures.sees

pub returns-clause-rests : goal.returns-clause-rests
returns-clause-rests g c =
    seen_so g (goal.at.returns-clause-rests g c).After-see_target-flushed

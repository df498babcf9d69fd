use Rattle.std.proofs.Common.{◌≡◌, ap, ◌∙◌, subst, arith}
use Rattle.machine_state.specs.Steps.{load_moment}
use Rattle.machine_state.specs.Views.{View}
use Rattle.wal_rule.specs.Stepping.{Meets}
use Rattle.wal_rule.specs.SeatedPasses.{view_of}
use Rattle.wal_log.specs.PassLogs.{log_of_pass}
use Rattle.wal_log.proofs.FlushLaws.{has_reached, met_latest, met_since, met_told, told_view, told_work}
use Rattle.wal_log.proofs.Keeping.{rested_on}
use Rattle.wal_log.proofs.Seated.{hand_is, view_is}
use Rattle.wal_log.proofs.promised.hard_on.Given.{Over}
use Rattle.wal_log.proofs.promised.hard_on.Goals as goal
use Rattle.wal_log.proofs.promised.hard_on.Goals.{After-load_moment-moment}

module _ (g : Over) (c : After-load_moment-moment g) where
  abbrev old : View
  old = view_of c.args.seated.now

  abbrev new : View
  new = view_of c.load_moment-moment.new.self

  met : new ≡ told_view c.load_flushed-flushed.result c.load_moment-moment.result
      c.load_flushed-flushed.result old.writing.hold old
  met = met_told c.load_flushed-flushed.result c.load_moment-moment.result old
      (view_of c.load_flushed-flushed.new.self) new (view_is c.load_flushed-flushed.ensures.steps)
      (view_is c.load_moment-moment.ensures.steps)

pub returns-clause-told : goal.returns-clause-told
returns-clause-told g c =
    let at = (goal.at.returns-clause-told g c).After-load_moment-moment in
    let flushed = c.load_flushed-flushed.result in
    let moment = c.load_moment-moment.result in
    let mid = view_of c.load_flushed-flushed.new.self in
    let first = view_is c.load_flushed-flushed.ensures.steps in
    let next = view_is c.load_moment-moment.ensures.steps in
    let is = met g at in record {
      flushed_met = c.load_flushed-flushed.ensures.met;
      moment_met = subst (λ (v : View). Meets v load_moment moment) first
          c.load_moment-moment.ensures.met;
      log_is = ap (λ (v : View). log_of_pass v) is;
      since = met_since flushed moment (old g at) mid (new g at) first next
          c.load_moment-moment.ensures.met;
      held = has_reached (new g at) flushed moment (log_of_pass (old g at))
          (ap (λ (v : View). log_of_pass v) is);
      latest = met_latest flushed moment (old g at) mid (new g at) first next
          c.load_flushed-flushed.ensures.furthest c.load_moment-moment.ensures.latest;
      seen = (let seen = ap (λ (v : View). v.reserving.seen) is in omega (arith, seen));
    }

pub returns-clause-rests : goal.returns-clause-rests
returns-clause-rests g c =
    let at = (goal.at.returns-clause-rests g c).After-load_moment-moment in
    let flushed = c.load_flushed-flushed.result in
    let work = told_work flushed c.load_moment-moment.result flushed (old g at).writing.hold
    (old g at) (new g at) (met g at) in record {
      same_table = c.load_moment-moment.ensures.steps.same_table
          ∙ c.load_flushed-flushed.ensures.steps.same_table;
      keeps = work.pass;
      rests = record {
        rests = rested_on (old g at) (new g at) work
            (ap (λ (v : View). v.writing.hold) (met g at) ∙ c.requires.rests.rests.hold)
            c.requires.rests.rests;
        empty = hand_is c.load_moment-moment.ensures.steps
            ∙ hand_is c.load_flushed-flushed.ensures.steps ∙ c.requires.rests.empty;
      };
    }

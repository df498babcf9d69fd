use Rattle.std.proofs.Common.{◌≡◌, ℕ, ◌<◌, sym, ap, ◌∙◌, subst}
use Rattle.std.proofs.lemmas.Map.Keys.{ge_from_not_lt}
use mathlib.Core.Option.{none}
use Rattle.machine_state.specs.Steps.{load_moment, view_behind}
use Rattle.machine_state.specs.Views.{View}
use Rattle.wal_rule.specs.SeatedPasses.{view_of}
use Rattle.wal_rule.specs.Stepping.{Meets}
use Rattle.wal_log.specs.Downs.{KnowsNoFault}
use Rattle.wal_log.specs.PassLogs.{log_of_pass}
use Rattle.wal_log.proofs.FlushLaws.{flushed_work, lt_from_is_lt, met_latest, met_since, met_told, met_word, told_is, told_view, told_work}
use Rattle.wal_log.proofs.Seated.{further_seated, seat_stays, view_is}
use Rattle.wal_log.proofs.flushing.told_already.Given.{Over}
use Rattle.wal_log.proofs.flushing.told_already.Goals as goal
use Rattle.wal_log.proofs.flushing.told_already.Goals.{After-load_moment-moment}

module _ (g : Over) (c : After-load_moment-moment g) where
  abbrev old : View
  old = view_of c.args.seated.now

  abbrev new : View
  new = view_of c.load_moment-moment.new.self

  met : new ≡ told_view c.load_flushed.result c.load_moment-moment.result c.load_flushed.result
      old.writing.hold old
  met = met_told c.load_flushed.result c.load_moment-moment.result old
      (view_of c.load_flushed.new.self) new (view_is c.load_flushed.ensures.steps)
      (view_is c.load_moment-moment.ensures.steps)

pub returns-clause-told : goal.returns-clause-told
returns-clause-told g c =
    let at = (goal.at.returns-clause-told g c).After-load_moment-moment in
    let flushed = c.load_flushed.result in
    let moment = c.load_moment-moment.result in
    let mid = view_of c.load_flushed.new.self in
    let first = view_is c.load_flushed.ensures.steps in
    let next = view_is c.load_moment-moment.ensures.steps in (
      told_is flushed moment flushed (old g at).writing.hold (old g at) (new g at) (met g at)
          c.args.upto.0
          (ge_from_not_lt flushed c.args.upto.0 (sym c.lt.ensures ∙ c.if-lt.false))
          (met_since flushed moment (old g at) mid (new g at) first next
          c.load_moment-moment.ensures.met)
          (met_word flushed moment (old g at) mid (new g at) first next
          c.load_moment-moment.ensures.met)
          c.requires.up
          (met_latest flushed moment (old g at) mid (new g at) first next
          c.load_flushed.ensures.furthest c.load_moment-moment.ensures.latest),
      sym (ap (λ (v : View). v.writing.flushed) (met g at)),
    )

pub returns-clause-stays : goal.returns-clause-stays
returns-clause-stays g c =
    let at = (goal.at.returns-clause-stays g c).After-load_moment-moment in record {
      stays = further_seated c.args.seated.now c.load_flushed.new.self
          c.load_moment-moment.new.self (seat_stays c.load_flushed.ensures.steps)
          (seat_stays c.load_moment-moment.ensures.steps);
      work = told_work c.load_flushed.result c.load_moment-moment.result c.load_flushed.result
          (old g at).writing.hold (old g at) (new g at) (met g at);
      hold = ap (λ (v : View). v.writing.hold) (met g at);
    }

-- the flushed address alone was loaded
pub returns-then-lt-clause-told : goal.returns-then-lt-clause-told
returns-then-lt-clause-told g c =
    let is = view_is c.load_flushed.ensures.steps in (
      ap log_of_pass is,
      subst (λ (n : ℕ). n < c.args.upto.0) (sym (ap (λ (v : View). v.writing.flushed) is))
          (lt_from_is_lt c.load_flushed.result c.args.upto.0 (sym c.lt.ensures ∙ c.if-lt.true)),
      subst KnowsNoFault (sym is)
          (record { met = c.requires.up.met; set = c.requires.up.set }),
    )

pub returns-then-lt-clause-stays : goal.returns-then-lt-clause-stays
returns-then-lt-clause-stays g c =
    let old = view_of c.args.seated.now in
    let is = view_is c.load_flushed.ensures.steps in record {
      stays = seat_stays c.load_flushed.ensures.steps;
      work = flushed_work c.load_flushed.result old (view_of c.load_flushed.new.self) is;
      hold = ap (λ (v : View). v.writing.hold) is;
    }

-- ---- what was loaded

pub returns-clause-loads : goal.returns-clause-loads
returns-clause-loads g c =
    let moment = c.load_moment-moment.result in
    let first = view_is c.load_flushed.ensures.steps in record {
      flushed_met = c.load_flushed.ensures.met;
      moment_met = subst (λ (v : View). Meets v load_moment moment) first
          c.load_moment-moment.ensures.met;
      new_is = view_is c.load_moment-moment.ensures.steps
          ∙ ap (λ (v : View). view_behind v load_moment moment none) first;
    }

pub returns-then-lt-clause-loads : goal.returns-then-lt-clause-loads
returns-then-lt-clause-loads g c = record {
  flushed = c.load_flushed.result;
  met = c.load_flushed.ensures.met;
  below = lt_from_is_lt c.load_flushed.result c.args.upto.0 (sym c.lt.ensures ∙ c.if-lt.true);
}

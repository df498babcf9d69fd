use Rattle.std.proofs.Common.{◌≡◌, pos, w16, to_z, of_z, refl, arith, ◌∙◌}
use Rattle.jiff_core.proofs.SignedLemmas.{back_small}
use Rattle.waldump_text.specs.Calendar.{days_after, first_day}
use Rattle.waldump_text.proofs.DayCounts.{IsDayOf, days_after-date}
use Rattle.waldump_text.proofs.calendar.day_of.Goals as goal
use Rattle.waldump_text.proofs.calendar.day_of.Goals.{After-from_days_since_min-date}

-- the date that the library answers is the day
is_day : (c : After-from_days_since_min-date) → IsDayOf c.from_days_since_min-date.result (days_after c.args.days first_day)
is_day c = days_after-date c.from_days_since_min-date.result c.args.days c.requires c.from_days_since_min-date.ensures

year_again : (c : After-from_days_since_min-date) → to_z w16 (of_z w16 c.from_days_since_min-date.result.year) ≡ pos (days_after c.args.days first_day).year
year_again c =
    let is = is_day c in
    back_small w16 c.from_days_since_min-date.result.year (rw is.year (omega (arith, is.low))) ∙ is.year

pub overflow_cast-result : goal.overflow_cast-result
overflow_cast-result c =
    let here = (goal.at.overflow_cast-result c).After-from_days_since_min-date in
    rw (year_again here) (tt, omega (arith, (is_day here).low))

pub returns-clause-day : goal.returns-clause-day
returns-clause-day c =
    let here = (goal.at.returns-clause-day c).After-from_days_since_min-date in
    let is = is_day here in
    rw (year_again here, is.month, is.day) refl

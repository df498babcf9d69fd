use Rattle.std.proofs.Common.{refl}
use Rattle.waldump_text.proofs.DayCounts.{days_before-after, days_to_9999, first_days_before}
use Rattle.waldump_text.specs.Calendar.{days_from_2000, days_to_2000}
use Rattle.waldump_text.proofs.time_laws.days_are_counted_from_2000.Goals as goal

pub returns-clause-first : goal.returns-clause-first
returns-clause-first c = first_days_before days_to_2000 refl

pub returns-clause-end : goal.returns-clause-end
returns-clause-end c = days_to_9999 days_from_2000 refl

pub returns-clause-undone : goal.returns-clause-undone
returns-clause-undone c = days_before-after

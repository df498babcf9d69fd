-- What settles a log, planned by reads alone before the first of its calls is made.
use Rattle.std.specs.Prelude.{◌≡◌, ℕ, ◌+◌, length, Option, Some, None}
use Rattle.byte_position.specs.Geometry.{IsSegmentSize}
use Rattle.segment_disk.specs.Tape.{Tape, state_now}
use Rattle.flush_core.specs.Calls.{with_calls}
use Rattle.flush_core.specs.PlannedPages.{ArePlanned}
use Rattle.flush_core.specs.Settled.{settle_calls}
use Rattle.flush_core.specs.declared.planning.SettlePlan.{SettlePlan}

-- a plan of what settles a log on a disk with this tape, that was found to end at this address,
-- with the segments from 1 to `count`
pub record IsPlanOf (size end count : ℕ) (tape : Option Tape) (plan : SettlePlan) : Type 0 where
  pub valid : IsSegmentSize size
  pub geometry_is : plan.geometry ≡ size
  pub count_is : plan.count ≡ count
  pub planned : ArePlanned size end count tape plan.pages.items plan.segments.items

-- how many calls it makes
abbrev pub call_count : SettlePlan → ℕ
call_count plan = plan.count + length plan.pages.items + length plan.segments.items

-- the tape behind the calls that settle a log
abbrev pub settled_tape : ℕ → ℕ → ℕ → Option Tape → Option Tape
settled_tape size end count None = None
settled_tape size end count (Some t) =
    with_calls (Some t) (settle_calls size end count (state_now t))

-- What a reader of schedules returns, beside what they mean: want of memory is no part of the
-- meaning.
use Rattle.std.specs.Prelude.{◌≡◌, ℕ, List, Result, Ok, Err}
use Rattle.run_script.specs.declared.item.Item.{Item}
use Rattle.run_script.specs.declared.schedule.ScheduleError.{ScheduleError}
use Rattle.run_script.specs.declared.schedule.ScheduleError.TheVariants as errors

-- a schedule that is refused so means that
abbrev pub RefusesSchedule : ScheduleError → Result (List Item) ℕ → Type 0
RefusesSchedule errors.Memory meaning = Unit {0}
RefusesSchedule (errors.Refused line) meaning = meaning ≡ Err line

-- the items that were read, seen by `view`, are what is meant, and a refusal is what is meant;
-- nothing is said where memory ran out
abbrev pub GivesItems : {X : Type 0} → (X → List Item) → Result X ScheduleError
    → Result (List Item) ℕ → Type 0
GivesItems view (Ok x) meaning = meaning ≡ Ok (view x)
GivesItems view (Err error) meaning = RefusesSchedule error meaning

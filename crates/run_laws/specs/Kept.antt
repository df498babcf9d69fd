-- What a kept answer says that its line was told.
use Rattle.std.specs.Prelude.{Some, None}
use Rattle.run_laws.specs.declared.kept.KeptAnswer.{KeptAnswer}
use Rattle.run_laws.specs.declared.kept.KeptAnswer.TheVariants as kept
use Rattle.run_laws.specs.declared.told.Told.{Told}
use Rattle.run_laws.specs.declared.told.Told.TheVariants.{Wrote, Hard, Flushed, Async, Idle, Switched, Stayed, Refused}

abbrev pub told_by_kept : KeptAnswer → Told
told_by_kept (kept.Wrote start end) = Wrote start end
told_by_kept (kept.Hard start end moment) = Hard start end moment
told_by_kept (kept.Flushed upto moment) = Flushed upto moment
told_by_kept (kept.Async start end) = Async start end
told_by_kept (kept.Idle upto) = Idle upto
told_by_kept (kept.Switched start end) = Switched start end
told_by_kept (kept.Stayed end) = Stayed end
told_by_kept (kept.Refused cause) = Refused cause None
told_by_kept (kept.RefusedAt cause start) = Refused cause (Some start)

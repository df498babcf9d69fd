-- What a line is told.
use Rattle.std.specs.Prelude.{Result, Ok, Err}
use Rattle.wal_types.specs.declared.answers.Receipt.{Receipt}
use Rattle.wal_types.specs.declared.answers.Hard as hard
use Rattle.wal_types.specs.declared.answers.Sealed.{Sealed}
use Rattle.wal_types.specs.declared.answers.Refused as refused
use Rattle.run_laws.specs.declared.told.Told.{Told}
use Rattle.run_laws.specs.declared.told.Told.TheVariants.{Wrote, Hard, Flushed, Async, Refused}

-- what a line is told, by what the log answered
abbrev pub told_of_insert : Result Receipt refused.Refused → Told
told_of_insert (Ok receipt) = Wrote receipt.start receipt.end
told_of_insert (Err refusal) = Refused refusal.cause refusal.reserved

abbrev pub told_of_commit_async : Result Receipt refused.Refused → Told
told_of_commit_async (Ok receipt) = Async receipt.start receipt.end
told_of_commit_async (Err refusal) = Refused refusal.cause refusal.reserved

abbrev pub told_of_commit : Result Sealed refused.Refused → Told
told_of_commit (Ok sealed) = Hard sealed.start sealed.end sealed.moment
told_of_commit (Err refusal) = Refused refusal.cause refusal.reserved

abbrev pub told_of_flush : Result hard.Hard refused.Refused → Told
told_of_flush (Ok done) = Flushed done.upto done.moment
told_of_flush (Err refusal) = Refused refusal.cause refusal.reserved

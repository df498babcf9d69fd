-- What a commit answers and leaves of its pass: an insert, then a flush to its record's end.
use Rattle.std.specs.Prelude.{◌≡◌, ℕ, ◌≤◌, Result, Ok, Err, Some, None}
use Rattle.wal_spelling.specs.Spelling.{Assembled}
use Rattle.wal_page.specs.Order.{Entry, finish_of, start_of}
use Rattle.wal_types.specs.declared.answers.Cause.TheVariants as causes
use Rattle.wal_types.specs.declared.answers.Refused.{Refused}
use Rattle.wal_types.specs.declared.answers.Sealed.{Sealed}
use Rattle.machine_state.specs.declared.setup.Setup.{Setup}
use Rattle.machine_state.specs.Views.{View}
use Rattle.wal_log.specs.declared.inserting.InsertErr.{InsertErr}
use Rattle.wal_log.specs.declared.inserting.InsertErr.TheVariants.{Full, Disk, Down}
use Rattle.byte_position.specs.Position.{position_of}
use Rattle.wal_log.specs.Downs.{KnowsNoFault}
use Rattle.wal_log.specs.Hands.{IsLatestPromise}
use Rattle.wal_log.specs.Flushing.{IsToldHard}
use Rattle.wal_log.specs.Inserting.{InsertsOnly, IsOwnEntry, RefusesInsert}
use Rattle.wal_log.specs.Moments.{HasMoment, HaveReached}
use Rattle.wal_log.specs.PassLogs.{log_of_pass, log_with_entry, log_with_promise}
use Rattle.wal_log.specs.Whole.{CopiesWhole}

-- the record was reserved, each of its words was copied, the places told are its entry's, and
-- behind it the pass was told that all below an address which is no less than its end is durable
-- from the moment on, which is the moment word's
pub record IsSealed (setup : Setup) (body : Assembled) (old new : View) (sealed : Sealed)
    : Type 0 where
  pub entry : Entry
  pub upto : ℕ
  pub own : IsOwnEntry setup body old entry
  pub copied : CopiesWhole old new entry
  pub log_is : log_of_pass new
      ≡ log_with_promise upto sealed.moment (log_with_entry entry (log_of_pass old))
  pub reached : finish_of setup.seg_size entry ≤ upto
  pub since : (old.opening).moment ≤ sealed.moment
  pub of_word : HasMoment old new sealed.moment
  pub held : HaveReached upto sealed.moment new
  pub latest : IsLatestPromise upto sealed.moment old
  pub seen : position_of setup.seg_size upto ≤ (new.reserving).seen
  pub start_is : sealed.start.0 ≡ start_of setup.seg_size entry
  pub end_is : sealed.end.0 ≡ finish_of setup.seg_size entry
  pub up : KnowsNoFault new

-- the record was inserted, copying it was the last that the pass did before it flushed, and what it
-- was told is the flush's
pub record InsertsAndFlushes (setup : Setup) (body : Assembled) (old new : View) (sealed : Sealed)
    : Type 0 where
  pub inserted : View
  pub inserts : InsertsOnly setup body old inserted
      (record { start = sealed.start; end = sealed.end })
  pub upto : ℕ
  pub flushes : IsToldHard sealed.end.0 upto sealed.moment inserted new

-- what is told where an insert or a segment switch was refused
abbrev pub refused_of_insert : InsertErr → Refused
refused_of_insert (Full free) = record { cause = causes.Full free; reserved = None }
refused_of_insert (Disk faults start) =
    record { cause = causes.Disk faults; reserved = Some start }
refused_of_insert (Down faults start) = record { cause = causes.Down faults; reserved = start }

-- why a commit is refused: as an insert of its record is, also where the flush behind it failed
abbrev pub RefusesCommit : Setup → Assembled → View → View → Refused → Type 0
RefusesCommit setup body old new refused = (e : InsertErr) × (refused ≡ refused_of_insert e)
    × RefusesInsert setup body old new e

-- what is answered where the pass knows of a failed disk
abbrev pub commit_known_down : ℕ → Result Sealed Refused
commit_known_down faults = Err (record { cause = causes.Down faults; reserved = None })

-- commit: the log's setup, the record, the pass's view before it, the answer, and the view after it
abbrev pub AnswersCommit : Setup → Assembled → View → Result Sealed Refused → View → Type 0
AnswersCommit setup body old (Ok sealed) new = IsSealed setup body old new sealed
AnswersCommit setup body old (Err refused) new = RefusesCommit setup body old new refused

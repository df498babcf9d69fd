-- Commits that are answered before they are durable, and what a flush behind them answers.
use Rattle.std.specs.Prelude.{◌≡◌, ◌≢◌, ◌⊎◌, ℕ, ◌*◌, ◌/◌, ◌<◌, ◌≤◌, All, Result, Ok, Err}
use mathlib.Core.Option.{none}
use Rattle.wal_types.specs.declared.lsn.Lsn.{Lsn}
use Rattle.wal_types.specs.declared.answers.Hard.{Hard}
use Rattle.wal_types.specs.declared.answers.Receipt.{Receipt}
use Rattle.wal_spelling.specs.Spelling.{Assembled}
use Rattle.machine_state.specs.declared.setup.Setup.{Setup}
use Rattle.machine_state.specs.Moves.{with_async}
use Rattle.machine_state.specs.Steps.{load_async, load_down, load_flushed, raise_async, view_behind}
use Rattle.machine_state.specs.Words.{end_form}
use Rattle.machine_state.specs.Views.{FlushPromise, View}
use Rattle.wal_rule.specs.declared.seated.SeatedPass.{SeatedPass}
use Rattle.wal_rule.specs.SeatedPasses.{HasView, view_of}
use Rattle.wal_rule.specs.Stepping.{Meets}
use Rattle.insert_locks.specs.Watching.{SeesPosition}
use Rattle.wal_log.specs.declared.behind.Aim.{Aim}
use Rattle.wal_log.specs.declared.behind.Aim.TheVariants as aims
use Rattle.wal_log.specs.declared.behind.Caught.{Caught}
use Rattle.wal_log.specs.declared.behind.Caught.TheVariants.{Flushed, Idle}
use Rattle.wal_log.specs.declared.flushing.FlushErr.{FlushErr}
use Rattle.wal_log.specs.declared.flushing.FlushErr.TheVariants.{Unreserved, Disk, Down}
use Rattle.wal_log.specs.declared.flushing.TryFlushErr.{TryFlushErr}
use Rattle.wal_log.specs.declared.flushing.TryFlushErr.TheVariants as tries
use Rattle.wal_log.specs.Downs.{KnowsNoFault, MeetsDown}
use Rattle.wal_log.specs.Flushing.{FailsItsFlush, HasReached, TellsFlushTry, view_met_up}
use Rattle.wal_log.specs.Inserting.{InsertsOnly}
use Rattle.wal_log.specs.PassLogs.{log_of_pass}

-- ---- answered ahead

-- somebody raised the async address in between: it was loaded, and where it was to be raised this
-- other one was met, below the one asked for
pub record IsRaisedBetween (upto met : ℕ) (old : View) : Type 0 where
  pub first : ℕ
  pub loaded : Meets old load_async first
  pub exchanged : Meets (view_behind old load_async first none) (raise_async first upto) met
  pub other : met ≢ first
  pub below : met < upto

-- what one try to raise it answers: the address asked for, the pass's view before it, the answer,
-- and the view after it
abbrev pub AnswersRaise : ℕ → View → Result (Unit {0}) Lsn → View → Type 0
AnswersRaise upto old (Ok done) new = upto ≤ new.async_met
AnswersRaise upto old (Err met) new = IsRaisedBetween upto met.0 old

-- of a pass only the async address that it has met has changed, which is no less than before
pub record RaisesAsync {D : Type 0} (old new : SeatedPass D) : Type 0 where
  pub view : HasView (with_async (view_of new).async_met (view_of old)) old new
  pub rises : (view_of old).async_met ≤ (view_of new).async_met

-- a record was inserted, copying it was the last that the pass did before it raised the async
-- address, and behind that it did nothing
pub record InsertsAndRaises (setup : Setup) (body : Assembled) (old new : View) (receipt : Receipt)
    : Type 0 where
  pub inserted : View
  pub inserts : InsertsOnly setup body old inserted receipt
  pub raised : new ≡ with_async new.async_met inserted

-- ---- flushed behind

-- where the page begins that holds an address; one at which a page begins is its own
abbrev pub page_start : ℕ → ℕ
page_start address = address / 8192 * 8192

-- where the page begins that holds the end of so much that is reserved
abbrev pub page_of_end : View → ℕ → ℕ
page_of_end v seen = page_start (end_form (v.opening).setup seen)

-- the flushed address, the async address and the position were loaded, one behind another, and
-- nothing else of the view has changed. The pass was promised nothing above the flushed address,
-- which is reserved. The target is where the page begins that holds the end met as reserved, where
-- that is above the flushed address, else the async address; it is reserved
pub record SeesTarget (flushed target : ℕ) (old new : View) : Type 0 where
  pub met : Meets old load_flushed flushed
  pub async : Meets (view_behind old load_flushed flushed none) load_async new.async_met
  pub position : SeesPosition (view_behind (view_behind old load_flushed flushed none)
      load_async new.async_met none) (new.reserving).seen
  pub rises : (old.reserving).seen ≤ (new.reserving).seen
  pub furthest : All (λ (p : FlushPromise). p.upto ≤ flushed) old.writing.promises
  pub flushed_low : flushed ≤ end_form (old.opening).setup (new.reserving).seen
  pub begun : ((old.opening).setup).seg_size
      ≤ end_form (old.opening).setup (new.reserving).seen
  pub new_is : new ≡ with_async new.async_met (record old {
    reserving = record old.reserving { seen = (new.reserving).seen };
    writing = record old.writing { flushed = flushed };
  })
  pub target_is : ((flushed < page_of_end old (new.reserving).seen)
      × (target ≡ page_of_end old (new.reserving).seen))
      ⊎ ((page_of_end old (new.reserving).seen ≤ flushed) × (target ≡ new.async_met))
  pub reserved : target ≤ end_form (old.opening).setup (new.reserving).seen

-- nothing was to be flushed: a down value of 0 was met, and then neither where the end's page
-- begins nor the async address that was met is above the flushed address that was met
pub record FindsNothing (upto : ℕ) (old new : View) : Type 0 where
  pub looked : Meets old load_down 0
  pub sees : SeesTarget upto new.async_met (view_met_up old) new
  pub page : page_of_end old (new.reserving).seen ≤ upto
  pub async : new.async_met ≤ upto
  pub log_is : log_of_pass new ≡ log_of_pass old
  pub up : KnowsNoFault new

-- a down value of 0 was met, and then this target was found, above the flushed address that was met
pub record FindsTarget (target : ℕ) (old : View) : Type 0 where
  pub looked : Meets old load_down 0
  pub flushed : ℕ
  pub sight : View
  pub sees : SeesTarget flushed target (view_met_up old) sight
  pub above : flushed < target

-- behind that the pass has seen the target reserved, its log is as it was, and it set no down value
pub record HasTarget (target : ℕ) (old new : View) : Type 0 where
  pub found : FindsTarget target old
  pub reserved : target ≤ end_form (old.opening).setup (new.reserving).seen
  pub log_is : log_of_pass new ≡ log_of_pass old
  pub set_none : new.writing.down_set ≡ old.writing.down_set

-- what there is to flush
abbrev pub HasAim : Aim → View → View → Type 0
HasAim (aims.Idle upto) old new = FindsNothing upto.0 old new
HasAim (aims.Upto target) old new = HasTarget target.0 old new

-- a flush is told, of the target that was found
pub record FlushesBehind (hard : Hard) (old new : View) : Type 0 where
  pub target : ℕ
  pub found : FindsTarget target old
  pub told : HasReached target hard old new

-- why nothing was flushed; a flush that failed was of the target that was found
abbrev pub RefusesBehind : View → View → FlushErr → Type 0
RefusesBehind old new (Disk faults) =
    (target : ℕ) × FindsTarget target old × FailsItsFlush target faults old new
RefusesBehind old new (Down faults) = MeetsDown faults old new
RefusesBehind old new (Unreserved end) = ⊥

-- why one try flushed nothing: as a try of a flush of the target that was found tells it
abbrev pub TellsBehindTry : View → View → TryFlushErr → Type 0
TellsBehindTry old new (tries.Down faults) = MeetsDown faults old new
TellsBehindTry old new (tries.Unreserved end) = ⊥
TellsBehindTry old new e =
    (target : ℕ) × FindsTarget target old × TellsFlushTry target old new e

-- what is answered where the pass knows of a failed disk
abbrev pub behind_known_down : ℕ → Result Caught FlushErr
behind_known_down faults = Err (Down faults)

abbrev pub behind_try_known_down : ℕ → Result Caught TryFlushErr
behind_try_known_down faults = Err (tries.Down faults)

-- what was done: the pass's view before it, and the view after it
abbrev pub TellsCaught : Caught → View → View → Type 0
TellsCaught (Flushed hard) old new = FlushesBehind hard old new
TellsCaught (Idle upto) old new = FindsNothing upto.0 old new

-- write_behind: the pass's view before it, the answer, and the view after it
abbrev pub AnswersBehind : View → Result Caught FlushErr → View → Type 0
AnswersBehind old (Ok caught) new = TellsCaught caught old new
AnswersBehind old (Err e) new = (log_of_pass new ≡ log_of_pass old) × RefusesBehind old new e

-- try_write_behind: so too
abbrev pub AnswersBehindTry : View → Result Caught TryFlushErr → View → Type 0
AnswersBehindTry old (Ok caught) new = TellsCaught caught old new
AnswersBehindTry old (Err e) new = TellsBehindTry old new e × (log_of_pass new ≡ log_of_pass old)
